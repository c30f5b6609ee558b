-- What `dedup` keeps where `==` holds of what an order does not distinguish.
use Rattle.std.proofs.Common.{◌≡◌, Bool, true, List, sym, ap, subst, ◌∙◌, Ordering}
use Rattle.std.specs.Cmp.{IsTotalOrder, IsEquivalence, both_ways, eq_by_cmp_equiv}
use Rattle.std.specs.List.{dedup, list_any}
use Rattle.std.specs.Ordering.{eq_by_cmp}
use Rattle.std.proofs.lemmas.List.Folds.{Any-from_list_any, list_any_at}
use Rattle.std.proofs.lemmas.List.Kept.{Any-dedup, Contains-from_dedup}

pub any-dedup : {X : Type 0} {R : X → X → Ordering} (o : IsTotalOrder R) {E : X → X → Bool} (ties : (x y : X) → E x y ≡ eq_by_cmp R x y) → (xs : List X) (x : X) → list_any (eq_by_cmp R x) (dedup E xs) ≡ list_any (eq_by_cmp R x) xs
any-dedup {X} {R} o {E} ties xs x = both_ways _ _ back forth
  where
    same : IsEquivalence (eq_by_cmp R)
    same = eq_by_cmp_equiv o

    back : list_any (eq_by_cmp R x) (dedup E xs) ≡ true → list_any (eq_by_cmp R x) xs ≡ true
    back some =
        let kept = Any-from_list_any (eq_by_cmp R x) (dedup E xs) some in
        let from = Contains-from_dedup E xs kept.1 (kept.0, kept.2, kept.3) in
        list_any_at (eq_by_cmp R x) xs from.0 kept.1 from.1 (ap (eq_by_cmp R x) from.2 ∙ kept.4)

    forth : list_any (eq_by_cmp R x) xs ≡ true → list_any (eq_by_cmp R x) (dedup E xs) ≡ true
    forth some =
        let one = Any-from_list_any (eq_by_cmp R x) xs some in
        let kept = Any-dedup (subst IsEquivalence (λ i y z. sym (ties y z) i) same) xs one.1 (one.0, one.2, one.3) in
        list_any_at (eq_by_cmp R x) (dedup E xs) kept.0 kept.1 kept.2 (ap (eq_by_cmp R x) kept.3 ∙ same.congr x one.1 kept.1 one.4 ∙ sym (ties one.1 kept.1) ∙ kept.4)
