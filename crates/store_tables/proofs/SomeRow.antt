-- A row of a table is one of some holder, and a row of a holder is one of the table. A row of an entry is one of some
-- authorization.
use Rattle.store_tables.proofs.Vocabulary.{◌≡◌, ℕ, true, List, [], ◌∷◌, flat_map, map, Option, Some, None, refl, sym, ap, subst, ◌∙◌, inl, inr, IsPermutation, IsPermutation-sym, Contains-permutation, Value, Null, Int, Real, Text, Blob, Row, column, Has, all_has, has_filtered, has_kept, has_contained, contains_had, has_either, has_left, has_right, mapped_has, has_mapped, Rows, Auth, RoaPrefix, claim_of, entry_rows_of, entry_row, claim_entry, Part, HoldsPart, entry_part, part_rows, is_text}
use Rattle.store_tables.proofs.PartLemmas.{names, name_of_itself}

pub has_permuted : {X : Type 0} (xs ys : List X) (x : X) → IsPermutation xs ys → Has xs x → Has ys x
has_permuted xs ys x same has = has_contained ys x (Contains-permutation xs ys x same (contains_had xs x has))

text_in : (v : Value) → is_text v ≡ true → (t : List ℕ) × (v ≡ Text t)
text_in Null is = absurd cc
text_in (Int n) is = absurd cc
text_in (Real x) is = absurd cc
text_in (Text t) is = (t, refl)
text_in (Blob b) is = absurd cc

module _ (part : Part) (all : List ℕ → Option Rows) (table : List Row) (holds : HoldsPart part all table) where
  -- some holder has this row
  abbrev pub IsOfSome : Row → Type 0
  IsOfSome c = (h : List ℕ) × (r : Rows) × (all h ≡ Some r) × Has (part.rows h r) c

  pub of_some : (c : Row) → Has table c → IsOfSome c
  of_some c has =
      let name = text_in (column c part.place) (all_has _ table c holds.named has) in
      let mine = has_kept (names part.place name.0) table c has (name_of_itself name.0 (column c part.place) name.1) in
      go name.0 (all name.0) refl (has_permuted _ _ c (IsPermutation-sym _ _ (holds.each name.0)) mine)
    where
      go : (h : List ℕ) (o : Option Rows) → all h ≡ o → Has (part_rows part h (all h)) c → IsOfSome c
      go h None is mine = absurd (subst (λ o. Has (part_rows part h o) c) is mine)
      go h (Some r) is mine = (h, r, is, subst (λ o. Has (part_rows part h o) c) is mine)

  pub in_table : (c : Row) (h : List ℕ) (r : Rows) → all h ≡ Some r → Has (part.rows h r) c → Has table c
  in_table c h r is has = (has_filtered (names part.place h) table c (has_permuted _ _ c (holds.each h) (subst (λ o. Has (part_rows part h o) c) (sym is) has))).0

-- ---- the rows of the entries of authorizations

-- what lists have together, one of them has
pub has_joined : {X Y : Type 0} (f : X → List Y) (xs : List X) (y : Y) → Has (flat_map f xs) y → (x : X) × Has xs x × Has (f x) y
has_joined f [] y none = absurd none
has_joined f (x ∷ xs) y has = elim (has_either (f x) (flat_map f xs) y has) [
  | inl here ↦ (x, inl refl, here)
  | inr later ↦ let it = has_joined f xs y later in (it.0, inr it.1, it.2)
]

joined_has : {X Y : Type 0} (f : X → List Y) (xs : List X) (x : X) (y : Y) → Has xs x → Has (f x) y → Has (flat_map f xs) y
joined_has f [] x y none has = absurd none
joined_has f (z ∷ xs) x y (inl first) has = has_left (f z) (flat_map f xs) y (subst (λ w. Has (f w) y) first has)
joined_has f (z ∷ xs) x y (inr later) has = has_right (f z) (flat_map f xs) y (joined_has f xs x y later has)

pub has_entry_row : (h : List ℕ) (r : Rows) (x : Auth) (e : RoaPrefix) → Has r.auths x → Has x.entries e → Has (entry_part.rows h r) (entry_row h (claim_entry (claim_of x) e))
has_entry_row h r x e there has =
    joined_has (λ x. map (entry_row h) (entry_rows_of x)) r.auths x _ there (mapped_has (entry_row h) (entry_rows_of x) _ (mapped_has (claim_entry (claim_of x)) x.entries e has))

pub entry_row_of : (h : List ℕ) (r : Rows) (c : Row) → Has (entry_part.rows h r) c
    → (x : Auth) × (e : RoaPrefix) × Has r.auths x × Has x.entries e × (c ≡ entry_row h (claim_entry (claim_of x) e))
entry_row_of h r c has =
    let of = has_joined (λ x. map (entry_row h) (entry_rows_of x)) r.auths c has in
    let row = has_mapped (entry_row h) (entry_rows_of of.0) c of.2 in
    let one = has_mapped (claim_entry (claim_of of.0)) of.0.entries row.0 row.1 in
    (of.0, one.0, of.1, one.1, row.2 ∙ ap (entry_row h) one.2)
