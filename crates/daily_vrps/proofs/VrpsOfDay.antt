-- The VRPs of a day: those that the rows of a legal history give are those of the history.
use Rattle.daily_vrps.proofs.Vocabulary.{◌≡◌, ℕ, true, false, ◌↔◌, inl, inr, List, [], ◌∷◌, Option, Some, None, refl, sym, ◌∙◌, subst, Contains, Vrp, IsVrpInForce, History, is_registered, Rows, RowsIfAny, RowsOf, HeldSinceMade, authorization_terms, Keeps, IsLegal, Auth, Charter, has_nothing, AllRows, HasRows, IsGivenOn}
use Rattle.daily_vrps.proofs.Members.{at_head, head_or_tail, in_tail, none_in_nil}

-- what is kept was there and meets the fact, and what meets it is kept
pub kept_was : (P : Auth → Type 0) (xs ys : List Auth) (x : Auth) → Keeps P xs ys → Contains ys x → Contains xs x × P x
kept_was P xs [] x keeps there = absurd (none_in_nil x there)
kept_was P [] (y ∷ ys) x keeps there = absurd keeps
kept_was P (z ∷ zs) (y ∷ ys) x keeps there =
    elim keeps [
      | inl kept ↦ elim (head_or_tail y ys x there) [
        | inl is ↦ (subst (Contains (z ∷ zs)) (sym kept.1 ∙ is) (at_head z zs), subst P (sym kept.1 ∙ is) kept.0)
        | inr later ↦ let was = kept_was P zs ys x kept.2 later in (in_tail z zs x was.0, was.1)
      ]
      | inr lost ↦ let was = kept_was P zs (y ∷ ys) x lost.1 there in (in_tail z zs x was.0, was.1)
    ]

pub kept_is : (P : Auth → Type 0) (xs ys : List Auth) (x : Auth) → Keeps P xs ys → Contains xs x → P x → Contains ys x
kept_is P [] ys x keeps there holds = absurd (none_in_nil x there)
kept_is P (z ∷ zs) [] x keeps there holds =
    elim (head_or_tail z zs x there) [
      | inl is ↦ absurd (keeps.0 (subst P (sym is) holds))
      | inr later ↦ absurd (none_in_nil x (kept_is P zs [] x keeps.1 later holds))
    ]
kept_is P (z ∷ zs) (y ∷ ys) x keeps there holds =
    elim keeps [
      | inl kept ↦ elim (head_or_tail z zs x there) [
        | inl is ↦ subst (Contains (y ∷ ys)) (kept.1 ∙ is) (at_head y ys)
        | inr later ↦ in_tail y ys x (kept_is P zs ys x kept.2 later holds)
      ]
      | inr lost ↦ elim (head_or_tail z zs x there) [
        | inl is ↦ absurd (lost.0 (subst P (sym is) holds))
        | inr later ↦ kept_is P zs (y ∷ ys) x lost.1 later holds
      ]
    ]

-- the rows of a registered holder
pub rows_present : (rows : AllRows) (history : History) → HasRows rows history → (h : List ℕ) (r : Rows) → rows.of_holder h ≡ Some r → (is_registered history h ≡ true) × RowsOf history h r
rows_present rows history has h r there = subst (RowsIfAny history h) there (has.holders h)

-- a holder without rows is not registered
pub rows_absent : (rows : AllRows) (history : History) → HasRows rows history → (h : List ℕ) → rows.of_holder h ≡ None → is_registered history h ≡ false
rows_absent rows history has h there = subst (RowsIfAny history h) there (has.holders h)

given_in_force : (charter : Charter) (rows : AllRows) (history : History) → HasRows rows history → (day : ℕ) (v : Vrp) → IsGivenOn rows day v → IsVrpInForce history day v
given_in_force charter rows history has day v given =
    let of = rows_present rows history has given.0 given.1 given.3 in
    let was = kept_was (HeldSinceMade history given.0) (authorization_terms history given.0) given.1.auths given.2 of.1.auths given.4 in
    (given.0, given.2, (was, given.5, given.6), given.7)

in_force_given : (charter : Charter) (rows : AllRows) (history : History) → IsLegal charter history → HasRows rows history → (day : ℕ) (v : Vrp) → IsVrpInForce history day v → IsGivenOn rows day v
in_force_given charter rows history legal has day v is = go (rows.of_holder is.0) refl
  where
    go : (found : Option Rows) → rows.of_holder is.0 ≡ found → IsGivenOn rows day v
    go None none =
        let nothing = has_nothing charter history is.0 legal (rows_absent rows history has is.0 none) in
        let active = is.2.0 in
        absurd (none_in_nil is.1 (subst (λ (xs : List Auth). Contains xs is.1) nothing.terms active.0))
    go (Some r) some =
        let of = rows_present rows history has is.0 r some in
        let active = is.2.0 in
        let kept = kept_is (HeldSinceMade history is.0) (authorization_terms history is.0) r.auths is.1 of.1.auths active.0 active.1 in
        (is.0, r, is.1, some, kept, is.2.1, is.2.2, is.3)

-- the VRPs that the rows give are those of the authorizations in force
pub given_on : (charter : Charter) (rows : AllRows) (history : History) → IsLegal charter history → HasRows rows history → (day : ℕ) (v : Vrp) → IsGivenOn rows day v ↔ IsVrpInForce history day v
given_on charter rows history legal has day v = (given_in_force charter rows history has day v, in_force_given charter rows history legal has day v)
