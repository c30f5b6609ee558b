use Rattle.std.proofs.Common.{rules}
use Rattle.std.proofs.lemmas.Cmp.{on_total}
use Rattle.std.proofs.lemmas.Fn.{always_returns_same}
use Rattle.sorted_items.proofs.EachOnce.{once-from_answer}
use Rattle.sorted_items.proofs.sort_each_once.Goals as goal

pub returns-clause-once : goal.returns-clause-once
returns-clause-once g c = λ of gives.
    once-from_answer (on_total of g.met.K.Ord.total) _ _ c.rise_by_key.result c.sort_unstable_by_key.ensures.permutation
    (c.sort_unstable_by_key.ensures.sorted of (always_returns_same _ _ _ (λ a r q call. (gives a.0 r (search rules), search rules))))
    (rw (← c.deref.ensures.value) (c.rise_by_key.ensures of gives))

pub returns-clause-rising : goal.returns-clause-rising
returns-clause-rising g c = λ of gives. rw (← c.deref.ensures.value) (c.rise_by_key.ensures of gives)
