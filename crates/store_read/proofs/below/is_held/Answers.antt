use Rattle.store_read.proofs.Vocabulary.{◌≤◌, ◌↔◌, IsTrue, sym, subst, ◌∙◌, false≢true, IsRunBelow}
use Rattle.store_read.proofs.RunsApart.{held_by_last, held_within, none_held}
use Rattle.store_read.proofs.below.is_held.Goals as goal
use Rattle.store_read.proofs.below.is_held.Goals.{then-is_of, else-is_of}

pub returns-after-is_of-clause-found : goal.returns-after-is_of-clause-found
returns-after-is_of-clause-found g c clean charter rows holds =
    let p = c.args.prefix.now in
    let h = c.args.holder.now in
    let it = rw c.in-Some.is at (c.in_ok-run.ensures.found clean charter rows holds) in
    let told = c.is_of.ensures it.0 it.1 it.3 in
    elim c.if-is_of.branch [
      | then-is_of w ↦
          let mine = subst (λ k. IsRunBelow rows p.family p.first k it.1) (told.0 w.if-is_of.true) it.2.is in
          let ends = subst (λ a. IsTrue w.reaches.result ↔ (a ≤ it.1.hi)) w.last.ensures (w.reaches.ensures it.0 it.1 it.3) in
          (λ yes. held_within rows p h it.1 mine (ends.0 (sym w.result-is ∙ yes)), λ apart all. w.result-is ∙ ends.1 (held_by_last rows apart p h it.0 it.1 it.2 all).1)
      | else-is_of w ↦
          (λ yes. absurd (false≢true (sym w.if-is_of.false ∙ sym w.result-is ∙ yes)), λ apart all. w.result-is ∙ told.1 (held_by_last rows apart p h it.0 it.1 it.2 all).0)
    ]

pub returns-in-None-clause-found : goal.returns-in-None-clause-found
returns-in-None-clause-found g c clean charter rows holds =
    let none = rw c.in-None.is at (c.in_ok-run.ensures.found clean charter rows holds) in
    (λ yes. absurd (false≢true yes), λ apart all. absurd (none_held rows apart c.args.prefix.now c.args.holder.now none all))
