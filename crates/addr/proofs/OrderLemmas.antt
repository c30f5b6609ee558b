-- The order of families, prefixes and VRPs is total, what ties in it is one, and the derived comparisons are it.
use Rattle.addr.proofs.Vocabulary.{◌≡◌, true, not, ◌&&◌, ◌==◌, refl, ap, sym, subst, ◌∙◌, Ordering, and_parts, and_from, eqb-true, eq-eqb, not-false, upto, Less, Equal, Greater, ordering_then, is_lt, is_le, is_gt, IsTotalOrder, nat_cmp_total, on_total, then_total, IsAntisymmetric, nat_cmp-IsAntisymmetric, prefix_eq, same_prefix, family_cmp, prefix_cmp, vrp_cmp, same_vrp, IsOrder, TestsEquality, Family, V4, V6, Prefix, prefix_total}
use Rattle.addr.specs.declared.vrp.Vrp.{Vrp}
use Rattle.addr.specs.contracts.family.FamilyOrd.TheImpl as FamilyOrd
use Rattle.addr.specs.contracts.vrp.VrpOrd.TheImpl as VrpOrd
use Rattle.addr.specs.contracts.vrp.VrpPartialEq.TheImpl as VrpPartialEq
use Rattle.addr.proofs.Equality.{equal_prefix, prefix_itself}

-- ---- at or before

gt-le : (o : Ordering) → is_gt o ≡ not (is_le o)
gt-le Less = refl
gt-le Equal = refl
gt-le Greater = refl

-- what is at or before something is at or before all that this is at or before
pub le-trans : {K : Type 0} {R : K → K → Ordering} (o : IsTotalOrder R) (x y z : K) → is_le (R x y) ≡ true → is_le (R y z) ≡ true → is_le (R x z) ≡ true
le-trans {K} {R} o x y z one two = not-false (is_le (R x z)) (sym (gt-le (R x z)) ∙ upto o x y z (gt-le (R x y) ∙ ap not one) (gt-le (R y z) ∙ ap not two))

-- ---- the order is total

vrp_total : IsTotalOrder vrp_cmp
vrp_total = then_total (on_total (λ v. v.prefix) prefix_total) (then_total (on_total (λ v. v.max) nat_cmp_total) (on_total (λ v. v.asn.0) nat_cmp_total))

pub less_is : (o : Ordering) → is_lt o ≡ true → o ≡ Less
less_is Less before = refl
less_is Equal before = cc
less_is Greater before = cc

-- ---- what ties is one

pub both_equal : (a b : Ordering) → ordering_then a b ≡ Equal → (a ≡ Equal) × (b ≡ Equal)
both_equal Less b e = cc
both_equal Equal b e = (refl, e)
both_equal Greater b e = cc

pub exact_family : IsAntisymmetric family_cmp
exact_family V4 V4 e = refl
exact_family V4 V6 e = cc
exact_family V6 V4 e = cc
exact_family V6 V6 e = refl

exact_prefix : IsAntisymmetric prefix_cmp
exact_prefix p q e =
    let family = both_equal _ _ e in
    let first = both_equal _ _ family.1 in
    same_prefix p q (exact_family _ _ family.0) (nat_cmp-IsAntisymmetric _ _ first.0) (nat_cmp-IsAntisymmetric _ _ first.1)

exact_vrp : IsAntisymmetric vrp_cmp
exact_vrp v w e =
    let prefix = both_equal _ _ e in
    let max = both_equal _ _ prefix.1 in
    same_vrp v w (exact_prefix _ _ prefix.0) (nat_cmp-IsAntisymmetric _ _ max.0) (ap (λ n. record { 0 = n }) (nat_cmp-IsAntisymmetric _ _ max.1))

pub prefix_order : IsOrder prefix_cmp
prefix_order = record { total = prefix_total; exact = exact_prefix }

pub vrp_order : IsOrder vrp_cmp
vrp_order = record { total = vrp_total; exact = exact_vrp }

-- ---- the derived `cmp` is the order

pub derived_family : (f g : Family) → FamilyOrd.ghosts.cmp f g ≡ family_cmp f g
derived_family V4 V4 = refl
derived_family V4 V6 = refl
derived_family V6 V4 = refl
derived_family V6 V6 = refl

abbrev pub derived_vrp_cmp : Vrp → Vrp → Ordering
derived_vrp_cmp = VrpOrd.ghosts.cmp

pub derived_vrp_order : derived_vrp_cmp ≡ vrp_cmp
derived_vrp_order = refl

-- ---- the derived `==` tests equality

pub prefix_equality : TestsEquality prefix_eq
prefix_equality p q = (equal_prefix p q, λ same. subst (λ (r : Prefix). prefix_eq p r ≡ true) same (prefix_itself p))

vrp_itself : (v : Vrp) → VrpPartialEq.ghosts.eq v v ≡ true
vrp_itself v =
    and_from _ _ (prefix_itself v.prefix)
    (and_from _ _ (eq-eqb v.max v.max refl) (eq-eqb v.asn.0 v.asn.0 refl))

pub vrp_equality : TestsEquality VrpPartialEq.ghosts.eq
vrp_equality v w = (same, λ is. subst (λ (u : Vrp). VrpPartialEq.ghosts.eq v u ≡ true) is (vrp_itself v))
  where
    same : VrpPartialEq.ghosts.eq v w ≡ true → v ≡ w
    same passes =
        let parts = and_parts (prefix_eq v.prefix w.prefix) ((v.max == w.max) && (v.asn.0 == w.asn.0)) passes in
        let numbers = and_parts (v.max == w.max) (v.asn.0 == w.asn.0) parts.1 in
        same_vrp v w (equal_prefix v.prefix w.prefix parts.0)
        (eqb-true v.max w.max numbers.0) (ap (λ n. record { 0 = n }) (eqb-true v.asn.0 w.asn.0 numbers.1))
