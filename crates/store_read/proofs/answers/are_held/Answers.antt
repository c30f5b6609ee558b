use Rattle.store_read.proofs.Vocabulary.{arith, refl, sym, subst, ◌∙◌, false≢true, drop_all, items_if_any, AreHeld, asked_then}
use Rattle.store_read.proofs.HeldEntries.{held_from, none_to_hold}
use Rattle.store_read.proofs.InTurn.{earlier, later}
use Rattle.store_read.proofs.answers.are_held.Goals as goal

pub returns-then-not-branch-clause-found : goal.returns-then-not-branch-clause-found
returns-then-not-branch-clause-found g c clean charter all holds =
    let a = c.args in
    let so_far = c.loop-entry.invariant in
    let before = earlier g.S.Store c.is_held.ensures.asked clean in
    let one = c.in_ok-is_held.ensures.found clean charter all (later g.S.Store so_far.asked before charter all holds) in
    let here = held_from (items_if_any (λ r. r.holdings) (all.of_holder a.holder.now)) a.entries.now c.loop-entry.entry-index c.entry-item.result c.loop-entry-test.true c.entry-item.is in
    (λ yes. absurd (false≢true yes), λ apart every. absurd (false≢true (sym c.if-not-branch.true ∙ one.1 apart (here.0 ((so_far.found before charter all holds).0 every)).0)))

pub loop-entry-preserved : goal.loop-entry-preserved
loop-entry-preserved g c =
    let a = c.args in
    let so_far = c.loop-entry.invariant in
    let asked = asked_then g.S.Store tt _ a.conn.now c.loop-entry.conn c.is_held.new.conn so_far.asked c.in_ok-is_held.ensures.asked in
    record {
      asked = record { idle = asked.idle; same = asked.same; kept = asked.kept; survives = asked.survives };
      found = λ clean charter all holds.
          let before = earlier g.S.Store c.is_held.ensures.asked clean in
          let one = c.in_ok-is_held.ensures.found clean charter all (later g.S.Store so_far.asked before charter all holds) in
          let here = held_from (items_if_any (λ r. r.holdings) (all.of_holder a.holder.now)) a.entries.now c.loop-entry.entry-index c.entry-item.result c.loop-entry-test.true c.entry-item.is in
          let found = so_far.found before charter all holds in
          (λ every. (here.0 (found.0 every)).1, λ rest. found.1 (here.1 (one.0 c.if-not-branch.false, rest)));
    }

pub returns-clause-found : goal.returns-clause-found
returns-clause-found g c clean charter all holds =
    let a = c.args in
    let spans = items_if_any (λ r. r.holdings) (all.of_holder a.holder.now) in
    let over = drop_all c.loop-entry.entry-index a.entries.now (omega (arith, c.loop-entry-test.false)) in
    (λ _. (c.loop-entry.invariant.found clean charter all holds).1 (subst (AreHeld spans) (sym over) (none_to_hold spans)), λ _ _. refl)
