-- Entries that rise by prefix, and those that have each prefix once.
use Rattle.registry.proofs.Vocabulary.{◌≡◌, Bool, true, false, List, [], ◌∷◌, Ordering, refl, sym, ap, subst, ◌∙◌, ◌↔◌, prefix_eq, prefix_cmp, Prefix, prefix_itself, equal_prefix, RoaPrefix, Rise, have_one_prefix, repeats_prefix, both_ways}
use Rattle.std.specs.List.{IsDistinct}
use Rattle.std.specs.List.Sorted.{IsStrictlySortedBy}
use Rattle.std.specs.Ordering.{eq_by_cmp, is_eq}
use Rattle.std.specs.declared.cmp.Ordering.TheVariants.{Less, Equal, Greater}
use Rattle.std.proofs.lemmas.Cmp.{on_total, tied_itself}
use Rattle.addr.proofs.OrderLemmas.{prefix_order}
use Rattle.sorted_items.proofs.EachOnce.{rise-cons}
use Rattle.registry.proofs.Repeats.{distinct_to, distinct_from}

abbrev entry_cmp : RoaPrefix → RoaPrefix → Ordering
entry_cmp d e = prefix_cmp d.prefix e.prefix

pub rise_is : (es : List RoaPrefix) → IsStrictlySortedBy entry_cmp es ↔ Rise es
unfolding IsStrictlySortedBy
rise_is [] = (λ _. tt, λ _. tt)
rise_is (d ∷ []) = (λ _. tt, λ _. (tt, tt))
rise_is (d ∷ e ∷ es) = (
  λ rising. (rising.0.0, (rise_is (e ∷ es)).0 rising.1),
  λ rising. rise-cons (on_total (λ (e : RoaPrefix). e.prefix) prefix_order.total) d e es rising.0 ((rise_is (e ∷ es)).1 rising.1),
)

-- prefixes that tie are equal
tied : (p q : Prefix) → is_eq (prefix_cmp p q) ≡ prefix_eq p q
tied p q = by (prefix_cmp p q) refl (prefix_eq p q) refl
  where
    apart : prefix_eq p q ≡ true → is_eq (prefix_cmp p q) ≡ true
    apart same = subst (λ (r : Prefix). is_eq (prefix_cmp p r) ≡ true) (equal_prefix p q same) (ap is_eq (tied_itself prefix_order.total p))

    by : (o : Ordering) → prefix_cmp p q ≡ o → (b : Bool) → prefix_eq p q ≡ b → is_eq (prefix_cmp p q) ≡ prefix_eq p q
    by o is true same = apart same ∙ sym same
    by Equal is false same = absurd (both_ways (prefix_eq p q) same (subst (λ (r : Prefix). prefix_eq p r ≡ true) (prefix_order.exact p q is) (prefix_itself p)))
    by Less is false same = ap is_eq is ∙ sym same
    by Greater is false same = ap is_eq is ∙ sym same

pub once_is : (es : List RoaPrefix) → IsDistinct (eq_by_cmp entry_cmp) es ↔ (repeats_prefix es ≡ false)
once_is es =
    subst (λ (same : RoaPrefix → RoaPrefix → Bool). IsDistinct same es ↔ (repeats_prefix es ≡ false)) (λ i d e. sym (tied d.prefix e.prefix) i)
    (distinct_from have_one_prefix es, distinct_to have_one_prefix es)
