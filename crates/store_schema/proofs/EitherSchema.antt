-- Tables that have the number of one schema hold nothing as tables of the other.
use Rattle.store_schema.proofs.Vocabulary.{◌≡◌, inl, inr, ℕ, pos, [], ◌∷◌, sym, ap, arith, Contains, Contains-permutation, IsPermutation-sym, has_contained, Trees, Value, Int, Row, column, CharterSets, AllRows, schema_row, meta, contents, TablesHold, old_schema_row, HasOldNumber, OldTablesHold}
use Rattle.store_schema.specs.EitherSchema.{EitherSchemaHolds}

-- the two rows have other numbers
abbrev number_in : Value → ℕ
number_in (Int (pos number)) = number
number_in other = 0

other_number : schema_row ≡ old_schema_row → ⊥
other_number same = let e : 2 ≡ 1 = ap (λ (c : Row). number_in (column c 1)) same in omega (arith, e)

-- so they are not those of schema 1
pub not_old : (charter : CharterSets) (rows : AllRows) (trees : Trees) → Contains (contents (trees meta.tree)) schema_row → ¬ OldTablesHold charter rows trees
not_old charter rows trees numbered old =
    elim (has_contained (old_schema_row ∷ []) schema_row (Contains-permutation (contents (trees meta.tree)) (old_schema_row ∷ []) schema_row (IsPermutation-sym _ _ old.charter_kept.schema) numbered)) [
      | inl same ↦ other_number same
      | inr none ↦ absurd none
    ]

-- so what they hold, they hold as tables of this schema
pub hold_now : (charter : CharterSets) (rows : AllRows) (trees : Trees) → Contains (contents (trees meta.tree)) schema_row
    → EitherSchemaHolds charter rows trees → TablesHold charter rows trees
hold_now charter rows trees numbered (inl now) = now
hold_now charter rows trees numbered (inr old) = absurd (not_old charter rows trees numbered old)

-- and tables that have the number of schema 1 are not those of this one
pub not_now : (charter : CharterSets) (rows : AllRows) (trees : Trees) → HasOldNumber trees → ¬ TablesHold charter rows trees
not_now charter rows trees numbered now =
    elim (has_contained (schema_row ∷ []) old_schema_row (Contains-permutation (contents (trees meta.tree)) (schema_row ∷ []) old_schema_row (IsPermutation-sym _ _ now.charter_kept.schema) numbered)) [
      | inl same ↦ other_number (sym same)
      | inr none ↦ absurd none
    ]
