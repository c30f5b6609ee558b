use Rattle.store.proofs.Vocabulary.{◌+◌, drop, arith, ap, ◌∙◌, drop_all, refused_by, auths_held, earlier, later, unfit_later, asks_for, has_number, some_asks_for}
use Rattle.store.proofs.InTurn.{asked_more}
use Rattle.store.proofs.PartFound.{all_found, asks_from, has_sorted, one_found_more}
use Rattle.store.proofs.part.load_numbers.Goals as goal

pub returns-in_err-push_looked_for-clause-schema : goal.returns-in_err-push_looked_for-clause-schema
returns-in_err-push_looked_for-clause-schema g c clean is =
    unfit_later g.S.Store c.loop-change.invariant.asked (earlier g.S.Store c.push_looked_for.ensures.asked clean)
    (c.push_looked_for.ensures.schema clean (refused_by _ _ _ c.in_err-push_looked_for.was c.from_residual.ensures.1 is))

pub loop-change-preserved : goal.loop-change-preserved
loop-change-preserved g c =
    let changes = c.args.changes.now in
    let so_far = c.loop-change.invariant in
    let change = c.change-item.result in
    let i = c.loop-change.change-index in
    record {
      asked = asked_more g.S.Store so_far.asked c.in_ok-push_looked_for.ensures.asked;
      found = λ clean charter all holds n.
          let before = earlier g.S.Store c.push_looked_for.ensures.asked clean in
          let ys = auths_held (all.of_holder c.args.holder.now) in
          one_found_more (has_number c.loop-change.numbers.items n) (asks_for change ys n) (has_number c.push_looked_for.new.numbers.items n) (some_asks_for (drop i changes) ys n) (some_asks_for (drop (i + 1) changes) ys n) (some_asks_for changes ys n)
          (so_far.found before charter all holds n)
          (c.in_ok-push_looked_for.ensures.found clean charter all (later g.S.Store so_far.asked before charter all holds) n)
          (asks_from changes i change ys n c.loop-change-test.true c.change-item.is);
    }

pub returns-clause-found : goal.returns-clause-found
returns-clause-found g c clean charter all holds n =
    let changes = c.args.changes.now in
    let ys = auths_held (all.of_holder c.args.holder.now) in
    let i = c.loop-change.change-index in
    has_sorted c.loop-change.numbers.items c.sort_and_dedup.new.items.items c.sort_and_dedup.ensures.members n
    ∙ all_found (has_number c.loop-change.numbers.items n) (some_asks_for (drop i changes) ys n) (some_asks_for changes ys n)
    (ap (λ l. some_asks_for l ys n) (drop_all i changes (omega (arith, c.loop-change-test.false)))) (c.loop-change.invariant.found clean charter all holds n)
