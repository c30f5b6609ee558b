-- The VRPs of a set that others are put into or taken out of.
use Rattle.daily_vrps.proofs.Vocabulary.{◌≡◌, true, false, not, ◌↔◌, ◌⊎◌, inl, inr, IsTrue, List, sym, ap, ◌∙◌, subst, Contains, list_any, and_from, and_parts, cases_Bool, not-true, or_cases, or_left, or_right, true≢false, Vrp}
use Rattle.std.specs.Ordering.{is_eq}
use Rattle.std.proofs.lemmas.Cmp.{tied_itself}
use Rattle.addr.proofs.OrderLemmas.{vrp_order}
use Rattle.payload.specs.VrpSet as set
use Rattle.payload.proofs.Sets.{contains-from_list, contains-insert, contains-items, contains-remove, is_vrp, same_vrp-equal}
use Rattle.daily_vrps.proofs.Members.{among_any, any_among}

is_vrp-itself : (v : Vrp) → is_vrp v v ≡ true
is_vrp-itself v = ap is_eq (tied_itself vrp_order.total v)

is_vrp-of : (v w : Vrp) → v ≡ w → is_vrp v w ≡ true
is_vrp-of v w same = subst (λ (u : Vrp). is_vrp v u ≡ true) same (is_vrp-itself v)

-- two VRPs are one or two
pub one_or_two : (v w : Vrp) → (v ≡ w) ⊎ (¬ (v ≡ w))
one_or_two v w = elim (cases_Bool (is_vrp v w)) [
  | inl t ↦ inl (same_vrp-equal v w t)
  | inr f ↦ inr (λ same. true≢false (sym (is_vrp-of v w same) ∙ f))
]

-- a list has the VRPs that a test of it finds
pub is_among : (vrps : List Vrp) (v : Vrp) → Contains vrps v ↔ IsTrue (list_any (is_vrp v) vrps)
is_among vrps v = (
  λ there. any_among (is_vrp v) vrps v there (is_vrp-itself v),
  λ has.
      let found = among_any (is_vrp v) vrps has in
      subst (Contains vrps) (sym (same_vrp-equal v found.0 found.2)) found.1,
)

-- the items of a set are what it contains
pub in_set : (s : set.VrpSet) (v : Vrp) → Contains (set.items s) v ↔ (set.has_vrp s v ≡ true)
in_set s v =
    let among = is_among (set.items s) v in
    (λ there. contains-items s v ∙ among.0 there, λ is. among.1 (sym (contains-items s v) ∙ is))

pub not_in_set : (s : set.VrpSet) (v : Vrp) → set.has_vrp s v ≡ false → ¬ Contains (set.items s) v
not_in_set s v is there = true≢false (sym ((in_set s v).0 there) ∙ is)

-- the set of a list gives the VRPs of the list
pub items_of_list : (vrps : List Vrp) (v : Vrp) → Contains (set.items (set.from_list vrps)) v ↔ Contains vrps v
items_of_list vrps v =
    let within = in_set (set.from_list vrps) v in
    let among = is_among vrps v in
    (λ there. among.1 (sym (contains-from_list vrps v) ∙ within.0 there), λ there. within.1 (contains-from_list vrps v ∙ among.0 there))

-- and where these are such, so are those of the set
pub items_such : (P : Vrp → Type 0) (vrps list : List Vrp) (s : set.VrpSet) → s ≡ set.from_list list → list ≡ vrps
    → ((v : Vrp) → Contains vrps v ↔ P v) → (v : Vrp) → Contains (set.items s) v ↔ P v
items_such P vrps list s is same are v =
    let listed = items_of_list vrps v in
    let made : s ≡ set.from_list vrps = is ∙ ap set.from_list same in
    subst (λ (t : set.VrpSet). Contains (set.items t) v ↔ P v) (sym made) ((λ there. (are v).0 (listed.0 there)), (λ holds. listed.1 ((are v).1 holds)))

-- with one more, the set has that one and what it had
pub items_inserted : (s : set.VrpSet) (w v : Vrp) → Contains (set.items (set.insert s w)) v ↔ (Contains (set.items s) v ⊎ (v ≡ w))
items_inserted s w v = (
  λ there. elim (or_cases (is_vrp v w) (set.has_vrp s v) (sym (contains-insert s w v) ∙ (in_set (set.insert s w) v).0 there)) [
    | inl one ↦ inr (same_vrp-equal v w one)
    | inr had ↦ inl ((in_set s v).1 had)
  ],
  λ is. (in_set (set.insert s w) v).1 (contains-insert s w v ∙ elim is [
    | inl had ↦ or_right (is_vrp v w) (set.has_vrp s v) ((in_set s v).0 had)
    | inr same ↦ or_left (is_vrp v w) (set.has_vrp s v) (is_vrp-of v w same)
  ]),
)

-- with one less, what it had but that one
pub items_removed : (s : set.VrpSet) (w v : Vrp) → Contains (set.items (set.remove s w)) v ↔ (Contains (set.items s) v × ¬ (v ≡ w))
items_removed s w v = (
  λ there.
      let parts = and_parts (not (is_vrp v w)) (set.has_vrp s v) (sym (contains-remove s w v) ∙ (in_set (set.remove s w) v).0 there) in
      ((in_set s v).1 parts.1, λ same. true≢false (sym (is_vrp-of v w same) ∙ not-true _ parts.0)),
  λ is. (in_set (set.remove s w) v).1 (contains-remove s w v ∙ and_from _ _ (other is.1) ((in_set s v).0 is.0)),
)
  where
    other : ¬ (v ≡ w) → not (is_vrp v w) ≡ true
    other differ = elim (cases_Bool (is_vrp v w)) [ inl t ↦ absurd (differ (same_vrp-equal v w t)) | inr f ↦ ap not f ]
