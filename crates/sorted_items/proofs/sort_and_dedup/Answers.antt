use Rattle.std.proofs.Common.{sym, ap, ◌∙◌}
use Rattle.std.proofs.lemmas.List.Filters.{dedup_is}
use Rattle.std.proofs.lemmas.List.Kept.{IsStrictlySortedBy-dedup}
use Rattle.std.proofs.lemmas.List.Sorted.{list_any-IsPermutation}
use Rattle.std.specs.List.{list_any}
use Rattle.std.specs.Ordering.{eq_by_cmp}
use Rattle.sorted_items.proofs.Dedup.{any-dedup}
use Rattle.sorted_items.proofs.sort_and_dedup.Goals as goal

pub returns-clause-rising : goal.returns-clause-rising
returns-clause-rising g c =
    rw (dedup_is _ _ _ c.dedup.ensures.filtered)
    (IsStrictlySortedBy-dedup g.met.T.Ord.total g.met.T.Ord.matches_eq _ c.sort_unstable.ensures.sorted)

pub returns-clause-members : goal.returns-clause-members
returns-clause-members g c = λ x.
    ap (list_any (eq_by_cmp g.T.Ord.cmp x)) (dedup_is _ _ _ c.dedup.ensures.filtered)
    ∙ any-dedup g.met.T.Ord.total g.met.T.Ord.matches_eq _ x
    ∙ sym (list_any-IsPermutation (eq_by_cmp g.T.Ord.cmp x) _ _ c.sort_unstable.ensures.permutation)
