use Rattle.desk_files.proofs.Vocabulary.{◌∙◌, [], refl, ap, subst, arith, map, take, take_all, IsOk, IsClean, IsOnCleanDisk}
use Rattle.desk_files.proofs.LifeLemmas.{live_more, lives_leave, none_more, not_opened}
use Rattle.desk_files.proofs.lives.live.Goals as goal

pub loop-asked-init : goal.loop-asked-init
loop-asked-init g c = record {
  room = omega (arith, c.in-Ok.ensures.capacity);
  count = c.in-Ok.ensures.len;
  clean = λ clean. clean;
  lived = λ clean charter before is has alone. (before, rw c.in-Ok.ensures.items refl, has, (λ fits. fits), alone);
}

pub loop-asked-preserved : goal.loop-asked-preserved
loop-asked-preserved g c =
    let so_far = c.loop-asked.invariant in
    let pushed : IsOk c.push.result = c.push.ensures.succeeds (omega (arith, so_far.room, so_far.count, c.loop-asked-test.true)) in
    record {
      room = omega (arith, so_far.room, c.push.ensures.capacity);
      count = (rw pushed at c.push.ensures.len) ∙ rw so_far.count refl;
      clean = λ clean. so_far.clean (c.in-Ok-run.ensures.clean (c.in-Ok-restart.ensures.clean clean));
      lived = λ clean.
          let ran = c.in-Ok-restart.ensures.clean clean in
          live_more g.S.Store c.pending_fits.ensures c.args.desk c.loop-asked.desk c.run.new.self c.in-Ok-restart.again c.args.lives.now c.loop-asked.asked-index c.asked-item.result
          c.loop-asked.replies.items c.push.new.self.items c.in-Ok-run.list c.loop-asked-test.true c.asked-item.is (rw pushed at c.push.ensures.items)
          (so_far.lived (c.in-Ok-run.ensures.clean ran)) (c.in-Ok-run.ensures.left ran) c.all_asked_fit.ensures (c.in-Ok-restart.ensures.resumed clean);
    }

pub returns-clause-lived : goal.returns-clause-lived
returns-clause-lived g c clean =
    rw (take_all c.loop-asked.asked-index c.args.lives.now (omega (arith, c.loop-asked-test.false))) at (c.loop-asked.invariant.lived clean)

pub returns-in-Err-clause-not_schema : goal.returns-in-Err-clause-not_schema
returns-in-Err-clause-not_schema g c clean is it =
    let ran = c.in-Err.ensures.err.clean clean in
    c.in-Err.ensures.err.not_schema clean is
    (lives_leave g.S.Store c.pending_fits.ensures c.args.desk c.loop-asked.desk c.run.new.self
    (map (λ asked. asked.now) (take c.loop-asked.asked-index c.args.lives.now)) (map (λ list. list.items) c.loop-asked.replies.items)
    c.asked-item.result.now c.in-Ok-run.list.items (c.loop-asked.invariant.lived (c.in-Ok-run.ensures.clean ran)) (c.in-Ok-run.ensures.left ran)
    c.all_asked_fit.ensures it)

pub returns-in-Err-clause-left : goal.returns-in-Err-clause-left
returns-in-Err-clause-left g c clean =
    let ran = c.in-Err.ensures.err.clean clean in
    not_opened g.S.Store c.args.desk c.loop-asked.desk c.run.new.self c.args.lives.now c.loop-asked.asked-index c.asked-item.result c.loop-asked.replies.items
    c.in-Ok-run.list c.in-Err.refused.1 c.loop-asked-test.true c.asked-item.is (c.loop-asked.invariant.lived (c.in-Ok-run.ensures.clean ran))
    (c.in-Ok-run.ensures.left ran) (c.in-Err.ensures.err.left clean)

pub returns-in_default-clause-left : goal.returns-in_default-clause-left
returns-in_default-clause-left g c clean =
    none_more g.S.Store c.args.desk c.args.desk c.args.lives.now 0 [] c.close.result c.into_store.result c.close.ensures.same c.into_store.ensures.quiet
    (λ charter before is has alone. (before, refl, has, (λ fits. fits), alone))

pub returns-in_default-run-clause-left : goal.returns-in_default-run-clause-left
returns-in_default-run-clause-left g c clean =
    let back = c.into_store-in_default-run in
    let shut = c.close-in_default-run in
    let ran : IsOnCleanDisk g.S.Store c.run.new.self =
    subst (λ h. IsClean (g.S.Store.view h.store)) shut.ensures.same (omega (arith, back.ensures.quiet.clean, clean)) in
    let same = c.in_default-run.ensures.err in
    none_more g.S.Store c.args.desk c.loop-asked.desk c.args.lives.now c.loop-asked.asked-index c.loop-asked.replies.items shut.result back.result
    (shut.ensures.same ∙ ap (λ desk. desk.store.connection) same) back.ensures.quiet
    (c.loop-asked.invariant.lived (subst (IsOnCleanDisk g.S.Store) same ran))
