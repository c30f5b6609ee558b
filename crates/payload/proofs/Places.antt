-- Lists of VRPs that rise, by the order that the code compares by.
use Rattle.payload.proofs.Vocabulary.{◌≡◌, refl, not, ◌&&◌, ◌||◌, List, sym, ap, ◌∙◌, subst, Ordering, list_any, IsStrictlySortedBy, eq_by_cmp, Vrp, vrp_cmp, derived_vrp_cmp, derived_vrp_order, AreRising, RiseBy}
use Rattle.std.proofs.lemmas.Map.Keys.{Less-from_sorted}
use Rattle.payload.specs.VrpSet as set
use Rattle.payload.proofs.Sets.{is_vrp, contains-from_list, items-from_list, same_from_list}

-- what holds of the derived order holds of the definition's, and the other way round
by-definition : (P : (Vrp → Vrp → Ordering) → Type 0) → P derived_vrp_cmp → P vrp_cmp
by-definition P h = subst P derived_vrp_order h

pub rise-defined : (vrps : List Vrp) → RiseBy derived_vrp_cmp vrps → AreRising vrps
rise-defined vrps rising = by-definition (λ R. RiseBy R vrps) rising

pub inserted-defined : (xs zs : List Vrp) (v : Vrp) → ((w : Vrp) → list_any (eq_by_cmp derived_vrp_cmp w) zs ≡ (eq_by_cmp derived_vrp_cmp w v || list_any (eq_by_cmp derived_vrp_cmp w) xs)) → (w : Vrp) → list_any (is_vrp w) zs ≡ (is_vrp w v || list_any (is_vrp w) xs)
inserted-defined xs zs v members = by-definition (λ R. (w : Vrp) → list_any (eq_by_cmp R w) zs ≡ (eq_by_cmp R w v || list_any (eq_by_cmp R w) xs)) members

pub removed-defined : (xs zs : List Vrp) (v : Vrp) → ((w : Vrp) → list_any (eq_by_cmp derived_vrp_cmp w) zs ≡ (not (eq_by_cmp derived_vrp_cmp w v) && list_any (eq_by_cmp derived_vrp_cmp w) xs)) → (w : Vrp) → list_any (is_vrp w) zs ≡ (not (is_vrp w v) && list_any (is_vrp w) xs)
removed-defined xs zs v members = by-definition (λ R. (w : Vrp) → list_any (eq_by_cmp R w) zs ≡ (not (eq_by_cmp R w v) && list_any (eq_by_cmp R w) xs)) members

-- the VRP is in the list where it is in the set
pub contains-derived : (s : set.VrpSet) (vrps : List Vrp) (v : Vrp) → set.from_list vrps ≡ s → list_any (eq_by_cmp derived_vrp_cmp v) vrps ≡ set.has_vrp s v
contains-derived s vrps v view =
    by-definition (λ R. list_any (eq_by_cmp derived_vrp_cmp v) vrps ≡ list_any (eq_by_cmp R v) vrps) refl
    ∙ sym (contains-from_list vrps v) ∙ ap (λ t. set.has_vrp t v) view

-- the list of a set's VRPs
pub listed : (s : set.VrpSet) (xs ys : List Vrp) → ys ≡ xs → set.from_list xs ≡ s → AreRising xs → ys ≡ set.items s
listed s xs ys same view rising = same ∙ sym (items-from_list xs rising) ∙ ap set.items view

pub rising-from_sorted : (vrps : List Vrp) → IsStrictlySortedBy derived_vrp_cmp vrps → AreRising vrps
rising-from_sorted vrps sorted i j d less within =
    Less-from_sorted vrp_cmp vrps i j d (subst (λ (R : Vrp → Vrp → Ordering). IsStrictlySortedBy R vrps) derived_vrp_order sorted) less within

pub same-members : (xs ys : List Vrp) → ((v : Vrp) → list_any (eq_by_cmp derived_vrp_cmp v) xs ≡ list_any (eq_by_cmp derived_vrp_cmp v) ys) → set.from_list xs ≡ set.from_list ys
same-members xs ys each = same_from_list xs ys (subst (λ (R : Vrp → Vrp → Ordering). (v : Vrp) → list_any (eq_by_cmp R v) xs ≡ list_any (eq_by_cmp R v) ys) derived_vrp_order each)
