-- Entries in order: they rise by their prefixes where none is there twice, and have that order alone.
use Rattle.requests.proofs.Vocabulary.{◌≡◌, true, false, List, [], ◌∷◌, length, Ok, Ordering, ap, subst, IsPermutation, Equal, IsTotalOrder, on_total, and_from, le-leb, sorted_head, sorted_tail, prefix_eq, prefix_cmp, Prefix, is_count, MOST_ENTRIES, entries_arranged}
use Rattle.std.specs.List.Sorted.{IsStrictlySortedBy}
use Rattle.addr.proofs.Equality.{prefix_itself}
use Rattle.addr.proofs.OrderLemmas.{prefix_order}
use Rattle.registry.specs.RoaPrefixes.{AreInNumber, Rise, have_one_prefix, repeats_prefix}
use Rattle.addr.specs.declared.roa_prefix.RoaPrefix.{RoaPrefix}
use Rattle.requests.proofs.InOrder.{before_too, is_in_order, rises_behind, IsBefore}

abbrev pub order : RoaPrefix → RoaPrefix → Ordering
order d e = prefix_cmp d.prefix e.prefix

pub order_total : IsTotalOrder order
order_total = on_total (λ e. e.prefix) prefix_order.total

pub tied-once : (d e : RoaPrefix) → order d e ≡ Equal → have_one_prefix d e ≡ true
tied-once d e tied = subst (λ (p : Prefix). prefix_eq d.prefix p ≡ true) (prefix_order.exact d.prefix e.prefix tied) (prefix_itself d.prefix)

-- ---- rising by neighbours, and each before all later ones

first_before : (d : RoaPrefix) (es : List RoaPrefix) → Rise (d ∷ es) → IsBefore order order_total d es
first_before d [] rising = tt
first_before d (e ∷ es) rising = (rising.0, before_too order order_total d e es rising.0 (first_before e es rising.1))

others_rise : (d : RoaPrefix) (es : List RoaPrefix) → Rise (d ∷ es) → Rise es
others_rise d [] rising = tt
others_rise d (e ∷ es) rising = rising.1

sorted_from_rise : (es : List RoaPrefix) → Rise es → IsStrictlySortedBy order es
unfolding IsStrictlySortedBy
sorted_from_rise [] rising = tt
sorted_from_rise (e ∷ es) rising =
    rises_behind order order_total e es (first_before e es rising) (sorted_from_rise es (others_rise e es rising))

pub rise_from_sorted : (es : List RoaPrefix) → IsStrictlySortedBy order es → Rise es
rise_from_sorted [] sorted = tt
rise_from_sorted (d ∷ []) sorted = tt
rise_from_sorted (d ∷ e ∷ es) sorted =
    let before : IsBefore order order_total d (e ∷ es) = sorted_head order d (e ∷ es) sorted in
    (before.0, rise_from_sorted (e ∷ es) (sorted_tail order d (e ∷ es) sorted))

-- ---- entries in order

pub made_arranged : (es made : List RoaPrefix) → AreInNumber es → repeats_prefix es ≡ false → IsPermutation es made → Rise made → Ok made ≡ entries_arranged es
made_arranged es made number once moved rising =
    let counted : is_count 1 MOST_ENTRIES (length es) ≡ true = and_from _ _ (le-leb _ _ number.0) (le-leb _ _ number.1) in
    rw (counted, once) (ap Ok (is_in_order order order_total have_one_prefix tied-once es made once moved (sorted_from_rise made rising)))
