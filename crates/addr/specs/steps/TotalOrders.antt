-- The orders of families and of prefixes are total, and what ties in them is equal.
use Rattle.std.specs.Prelude.{◌≡◌, Some, refl}
use mathlib.Core.Path.{subst, sym}
use Rattle.std.specs.declared.cmp.Ordering.TheVariants.{Less, Equal}
use Rattle.std.specs.Ordering.{ordering_reverse, is_eq, eq_by_cmp}
use Rattle.std.specs.Cmp.{IsEquivalence, IsPartialOrder, IsTotalOrder, both_tied, eq_by_cmp_equiv, nat_cmp_total, on_total, partial_order_from_agreeing_total, then_total, unsigned_ties}
use Rattle.addr.specs.Address.{prefix_eq}
use Rattle.addr.specs.Family.{family_eq}
use Rattle.addr.specs.Order.{family_cmp, prefix_cmp}
use Rattle.addr.specs.declared.family.Family.{Family}
use Rattle.addr.specs.declared.family.Family.TheVariants.{V4, V6}
use Rattle.addr.specs.declared.prefix.Prefix.{Prefix}

pub family_total : IsTotalOrder family_cmp
family_total = record {
  antisymm = antisymm;
  trans = trans;
  congr = congr;
} where
  antisymm : (f g : Family) → family_cmp f g ≡ ordering_reverse (family_cmp g f)
  antisymm V4 V4 = refl
  antisymm V4 V6 = refl
  antisymm V6 V4 = refl
  antisymm V6 V6 = refl

  trans : (f g h : Family) → family_cmp f g ≡ Less → family_cmp g h ≡ Less → family_cmp f h ≡ Less
  trans V4 V4 h p q = q
  trans V4 V6 V4 p q = cc
  trans V4 V6 V6 p q = p
  trans V6 V4 h p q = cc
  trans V6 V6 h p q = q

  congr : (f g h : Family) → family_cmp f g ≡ Equal → family_cmp f h ≡ family_cmp g h
  congr V4 V4 h p = refl
  congr V4 V6 h p = cc
  congr V6 V4 h p = cc
  congr V6 V6 h p = refl

pub prefix_total : IsTotalOrder prefix_cmp
prefix_total = then_total (on_total (λ p. p.family) family_total) (then_total (on_total (λ p. p.first) nat_cmp_total) (on_total (λ p. p.length) nat_cmp_total))

family_ties : (f g : Family) → family_eq f g ≡ is_eq (family_cmp f g)
family_ties V4 V4 = refl
family_ties V4 V6 = refl
family_ties V6 V4 = refl
family_ties V6 V6 = refl

pub prefix_ties : (p q : Prefix) → prefix_eq p q ≡ eq_by_cmp prefix_cmp p q
prefix_ties p q =
    both_tied _ _ _ _ (family_ties p.family q.family) (both_tied _ _ _ _ (unsigned_ties p.first q.first) (unsigned_ties p.length q.length))

pub prefix_equivalence : IsEquivalence prefix_eq
prefix_equivalence = subst IsEquivalence (λ i p q. sym (prefix_ties p q) i) (eq_by_cmp_equiv prefix_total)

pub prefix_partial_order : IsPartialOrder prefix_eq (λ p q. Some (prefix_cmp p q))
prefix_partial_order = partial_order_from_agreeing_total prefix_cmp prefix_total (λ p q. refl) prefix_ties
