use Rattle.desk.proofs.Vocabulary.{◌∙◌, refl, arith, take, take_all, IsOk, charter_of, day_of, taken_more}
use Rattle.desk.proofs.CrashLemmas.{left_more}
use Rattle.desk.proofs.HolderLemmas.{runs_by_entries}
use Rattle.desk.proofs.DayLemmas.{day_more}
use Rattle.desk.proofs.DropLemmas.{drop_next}
use Rattle.desk.proofs.RunLemmas.{kept_more, others_more}
use Rattle.desk.proofs.desk.Desk.run.Goals as goal

pub loop-one-init : goal.loop-one-init
loop-one-init g c = record {
  chartered = refl;
  limit = refl;
  clean = λ clean. clean;
  room = omega (arith, c.in_ok-replies.ensures.capacity);
  count = c.in_ok-replies.ensures.len;
  kept = λ none clean rows holds. holds;
  left = λ clean history legal held.
      rw c.in_ok-replies.ensures.items (record {
        answered = record { after = history; legal = legal; values = λ fit. fit; runs = refl; rows_after = held };
        left = λ pending left. left;
      });
  others = λ clean history legal held rows holds. (rows, holds, λ h other. refl, λ other. refl);
  dropped = λ clean history legal held.
      rw c.in_ok-replies.ensures.items (record { after = history; legal = legal; values = λ fit. fit; runs = refl; rows_after = held }, (refl, refl));
  kept_day = rw c.in_ok-replies.ensures.items refl;
}

pub loop-one-preserved : goal.loop-one-preserved
loop-one-preserved g c =
    let so_far = c.loop-one.invariant in
    let pushed : IsOk c.push.result = c.push.ensures.succeeds (omega (arith, so_far.room, so_far.count, c.loop-one-test.true)) in
    record {
      chartered = c.handle-reply.ensures.charter ∙ so_far.chartered;
      limit = c.handle-reply.ensures.limit ∙ so_far.limit;
      clean = λ clean. so_far.clean (c.handle-reply.ensures.clean clean);
      room = omega (arith, so_far.room, c.push.ensures.capacity);
      count = (rw pushed at c.push.ensures.len) ∙ rw so_far.count refl;
      kept = kept_more g.S.Store c.loop-one.replies.items c.push.new.self.items c.handle-reply.result c.args.self.now c.loop-one.self c.handle-reply.new.self
          (rw pushed at c.push.ensures.items) c.handle-reply.ensures.clean so_far.kept c.handle-reply.ensures.kept;
      left = λ clean history legal held.
          left_more g.S.Store (charter_of c.args.self.now) (charter_of c.loop-one.self) history c.args.asked.now c.loop-one.one-index c.one-item.result
          c.loop-one.replies.items c.push.new.self.items c.handle-reply.result c.args.self.now c.loop-one.self c.handle-reply.new.self
          so_far.chartered c.loop-one-test.true c.one-item.is (rw pushed at c.push.ensures.items) (so_far.left (c.handle-reply.ensures.clean clean) history legal held)
          (c.handle-reply.ensures.left clean);
      others = λ clean history legal held.
          let before = c.handle-reply.ensures.clean clean in
          let is = (so_far.left before history legal held).answered in
          others_more g.S.Store c.args.asked.now c.loop-one.one-index c.one-item.result c.args.self.now c.loop-one.self c.handle-reply.new.self
          c.loop-one-test.true c.one-item.is (so_far.others before history legal held)
          (c.handle-reply.ensures.others clean is.after (rw so_far.chartered is.legal) is.rows_after);
      dropped = λ clean history legal held.
          drop_next g.S.Store (charter_of c.args.self.now) (charter_of c.loop-one.self) history c.args.asked.now c.loop-one.one-index c.one-item.result
          c.loop-one.replies.items c.push.new.self.items c.handle-reply.result c.args.self.now c.loop-one.self c.handle-reply.new.self
          so_far.chartered c.loop-one-test.true c.one-item.is (rw pushed at c.push.ensures.items) (so_far.dropped (c.handle-reply.ensures.clean clean) history legal held)
          c.handle-reply.ensures.kept_day (c.handle-reply.ensures.dropped clean);
      kept_day = rw (taken_more c.args.asked.now c.loop-one.one-index c.one-item.result c.loop-one-test.true c.one-item.is, (rw pushed at c.push.ensures.items))
          (day_more (take c.loop-one.one-index c.args.asked.now) c.loop-one.replies.items c.one-item.result c.handle-reply.result
          (day_of c.args.self.now.kept) (day_of c.loop-one.self.kept) (day_of c.handle-reply.new.self.kept) so_far.kept_day c.handle-reply.ensures.kept_day);
    }

pub returns-clause-left : goal.returns-clause-left
returns-clause-left g c clean history legal held =
    rw (take_all c.loop-one.one-index c.args.asked.now (omega (arith, c.loop-one-test.false))) at (c.loop-one.invariant.left clean history legal held)

pub returns-clause-answered : goal.returns-clause-answered
returns-clause-answered g c clean history legal held = (returns-clause-left g c clean history legal held).answered

pub returns-clause-isolated : goal.returns-clause-isolated
returns-clause-isolated g c clean history legal held =
    let is = returns-clause-answered g c clean history legal held in
    runs_by_entries c.growth_is_legal.ensures c.answers_by_entries.ensures (charter_of c.args.self.now) history c.args.asked.now c.loop-one.replies.items is.after legal is.runs

pub returns-clause-others : goal.returns-clause-others
returns-clause-others g c clean history legal held =
    rw (take_all c.loop-one.one-index c.args.asked.now (omega (arith, c.loop-one-test.false))) at (c.loop-one.invariant.others clean history legal held)

pub returns-clause-dropped : goal.returns-clause-dropped
returns-clause-dropped g c clean history legal held =
    rw (take_all c.loop-one.one-index c.args.asked.now (omega (arith, c.loop-one-test.false))) at (c.loop-one.invariant.dropped clean history legal held)

pub returns-clause-kept_day : goal.returns-clause-kept_day
returns-clause-kept_day g c =
    rw (take_all c.loop-one.one-index c.args.asked.now (omega (arith, c.loop-one-test.false))) at c.loop-one.invariant.kept_day
