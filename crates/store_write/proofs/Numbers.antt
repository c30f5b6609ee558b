-- No two authorizations of a holder have one number, so at most one is replaced.
use Rattle.store_write.proofs.Vocabulary.{◌≡◌, ◌≢◌, ℕ, suc, Bool, true, false, cond, not, ◌==◌, List, [], ◌∷◌, map, filter, length, Option, Some, IsPermutation, inl, refl, sym, ap, subst, ◌∙◌, arith, eqb-true, IsPermutation-cons, IsPermutation-map, IsPermutation-middle, IsPermutation-sym, IsPermutation-trans, Database, IsDatabase, Text, Row, map-map, IsPermutation-same, Auth, Rows, replaced_by, claim_of, number_cell, claim_row, desk_tables, claim, contents, IsTree, HoldsPart, claim_part, part_rows, names, number_columns, ClaimsDiffer}
use Rattle.std.specs.Prelude.{AllPairs}
use Rattle.sqlite_rules.specs.Lists.{Has}
use Rattle.sqlite_rules.proofs.ListLemmas.{has_filtered}
use Rattle.store_tables.proofs.Once.{differs}

module _ (h : List ℕ) where
  -- the holder and the number in the row of a claim
  abbrev pub number_of : Auth → Row
  number_of x = number_columns (claim_row h (claim_of x))

  abbrev pub AreNumberedApart : List Auth → Type 0
  AreNumberedApart xs = AllPairs ◌≢◌ (map number_of xs)

  -- the authorizations that a holder has are so
  pub numbered_apart : ClaimsDiffer → (db : Database) → IsDatabase db → db.schema.tables ≡ desk_tables → IsTree (db.trees claim.tree)
      → (rows : List ℕ → Option Rows) (r : Rows) → HoldsPart claim_part rows (contents (db.trees claim.tree)) → rows h ≡ Some r → AreNumberedApart r.auths
  numbered_apart claims_differ db sound tables tree rows r holds of =
      let shows = λ (x : Auth). claim_row h (claim_of x) in
      let mine = filter (names claim_part.place h) (contents (db.trees claim.tree)) in
      let held : IsPermutation (map shows r.auths) mine = subst (λ o. IsPermutation (part_rows claim_part h o) mine) of (holds.each h) in
      let shown = subst (IsPermutation (map number_columns mine)) (map-map number_columns shows r.auths) (IsPermutation-map number_columns _ _ (IsPermutation-sym _ _ held)) in
      claims_differ db sound tables tree (names claim_part.place h) _ shown

  -- ---- one in the place of that of its number

  module _ (x : Auth) where
    abbrev pub numbered : List Auth → List Auth
    numbered xs = filter (λ y. y.number == x.number) xs

    abbrev pub others : List Auth → List Auth
    others xs = filter (λ y. not (y.number == x.number)) xs

    -- where none has the number, all stay
    pub none_replaced : (xs : List Auth) → length (numbered xs) ≡ 0 → map (replaced_by x) xs ≡ others xs
    none_replaced [] none = refl
    none_replaced (y ∷ xs) none = go (y.number == x.number) none (none_replaced xs)
      where
        go : (b : Bool) → length (cond b (y ∷ numbered xs) (numbered xs)) ≡ 0 → (length (numbered xs) ≡ 0 → map (replaced_by x) xs ≡ others xs)
            → cond b x y ∷ map (replaced_by x) xs ≡ cond (not b) (y ∷ others xs) (others xs)
        go true none more = absurd (omega (arith, none))
        go false none more = ap (λ l. y ∷ l) (more none)

    -- where one has it, none after it does
    no_more : (y : Auth) (xs : List Auth) → AreNumberedApart (y ∷ xs) → (y.number == x.number) ≡ true → length (numbered xs) ≡ 0
    no_more y xs apart is = go (numbered xs) refl
      where
        go : (found : List Auth) → numbered xs ≡ found → length found ≡ 0
        go [] same = refl
        go (z ∷ zs) same =
            let it = has_filtered (λ (y : Auth). y.number == x.number) xs z (subst (λ l. Has l z) (sym same) (inl refl)) in
            let number : y.number ≡ z.number = eqb-true _ _ is ∙ sym (eqb-true _ _ it.1) in
            absurd (differs number_of y xs apart z it.0 (λ i. Text h ∷ number_cell (number i) ∷ []))

    -- and it goes for the other
    pub one_replaced : (xs : List Auth) → AreNumberedApart xs → length (numbered xs) ≢ 0 → IsPermutation (map (replaced_by x) xs) (x ∷ others xs)
    one_replaced [] apart some = absurd (some refl)
    one_replaced (y ∷ xs) apart some =
        go (y.number == x.number) refl some (one_replaced xs (λ i j d below within. apart (suc i) (suc j) d (omega (arith, below)) (omega (arith, within))))
      where
        go : (b : Bool) → (y.number == x.number) ≡ b → length (cond b (y ∷ numbered xs) (numbered xs)) ≢ 0 → (length (numbered xs) ≢ 0 → IsPermutation (map (replaced_by x) xs) (x ∷ others xs))
            → IsPermutation (cond b x y ∷ map (replaced_by x) xs) (x ∷ cond (not b) (y ∷ others xs) (others xs))
        go true is some more = IsPermutation-same _ _ (ap (λ l. x ∷ l) (none_replaced xs (no_more y xs apart is)))
        go false is some more = IsPermutation-trans _ _ _ (IsPermutation-cons y _ _ (more some)) (IsPermutation-middle (y ∷ []) x (others xs))
