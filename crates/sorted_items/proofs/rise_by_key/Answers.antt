use Rattle.std.proofs.Common.{rules}
use Rattle.std.specs.Ordering.{is_lt}
use Rattle.std.proofs.lemmas.Cmp.{on_total}
use Rattle.std.proofs.lemmas.Fn.{always_returns_same}
use Rattle.sorted_items.proofs.EachOnce.{rise-from_answer}
use Rattle.sorted_items.proofs.rise_by_key.Goals as goal

pub returns : goal.returns
returns g c = λ of gives.
    rise-from_answer (on_total of g.met.K.Ord.total) c.args.items.now c.is_sorted_by.result
    (c.is_sorted_by.ensures.cases (λ x y. is_lt (g.K.Ord.cmp (of x) (of y))) (always_returns_same _ _ _ (λ a r q call. search (rules, gives))))
