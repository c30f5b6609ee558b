use Rattle.store_open.proofs.Vocabulary.{sym, rules, always_returns_same, last_value, is_integer_below, Row}
use Rattle.store_open.proofs.rise.are_below_the_next.Goals as goal

pub returns : goal.returns
returns c is k d low = sym ((rw is at (c.is_sorted_by.ensures.cases (λ (a b : Row). is_integer_below (last_value a) (last_value b)) (always_returns_same _ _ _ (λ a r f' k. search rules)))) k d low)
