-- Which statements set off no action of a foreign key, beside INSERT, of which `no_works` says it.
use Rattle.store_tables.proofs.Vocabulary.{◌≡◌, ℕ, Bool, true, false, ◌&&◌, ◌==◌, List, [], ◌∷◌, ◌++◌, length, Option, Some, None, refl, ap, ap₂, ◌∙◌, arith, is_some, list_any, filter_map, cons_option, or_parts, ne_eqb, Row, Trees, Keys, Enforced, Reference, Schema, Table, ParentKey, parent_key, Deed, Given, works, work_by, work_for, pairs, deed_for, ids_of, edit_of, taken_by, no_works, claim, desk_tables}
use Rattle.std.specs.List.{flat_map}
use Rattle.sqlite_schema.specs.Names.{same_name}
use Rattle.sqlite_tied.specs.Compute.{everything}

-- a key of the table that has this tree
abbrev is_key_at : ℕ → Option ParentKey → Bool
is_key_at tree None = false
is_key_at tree (Some key) = key.0 == tree

-- the reference acts where rows of the tree are deleted, or else updated
abbrev acts_at : Keys → Bool → List Table → ℕ → Reference → Bool
acts_at keys deletes tables tree ref = is_some (deed_for keys deletes ref) && is_key_at tree (parent_key tables ref)

-- some reference of a schema does
abbrev pub any_acts_at : Keys → Bool → List Table → ℕ → Bool
any_acts_at keys deletes tables tree = list_any (λ child. list_any (acts_at keys deletes tables tree) child.references) tables

-- where no reference that acts points to the table, none acts
pub quiet_elsewhere : (schema : Schema) (keys : Keys) (tree : ℕ) (olds news : List Row) → any_acts_at keys (length news == 0) schema.tables tree ≡ false → works schema keys 0 tree olds news ≡ []
quiet_elsewhere schema keys tree olds news = each schema.tables
  where
    none : (child : Table) (ref : Reference) (deed : Option Deed) (key : Option ParentKey) → (is_some deed && is_key_at tree key) ≡ false → work_by 0 tree (pairs olds news) child ref deed key ≡ None
    none child ref None key quiet = refl
    none child ref (Some deed) None quiet = refl
    none child ref (Some deed) (Some key) quiet = rw quiet

    none_of : (child : Table) (refs : List Reference) → list_any (acts_at keys (length news == 0) schema.tables tree) refs ≡ false → filter_map (work_for schema keys 0 tree olds news child) refs ≡ []
    none_of child [] quiet = refl
    none_of child (ref ∷ refs) quiet =
        let parts = or_parts _ _ quiet in
        ap₂ cons_option (none child ref (deed_for keys (length news == 0) ref) (parent_key schema.tables ref) parts.0) (none_of child refs parts.1)

    each : (tables : List Table) → list_any (λ child. list_any (acts_at keys (length news == 0) schema.tables tree) child.references) tables ≡ false
        → flat_map (λ child. filter_map (work_for schema keys 0 tree olds news child) child.references) tables ≡ []
    each [] quiet = refl
    each (t ∷ tables) quiet = let parts = or_parts _ _ quiet in ap₂ ◌++◌ (none_of t t.references parts.0) (each tables parts.1)

-- so it is where rows are updated, also where an UPDATE finds no row
pub updates_quietly : (schema : Schema) (db : Trees) (table : Table) (rows : List Row) → any_acts_at Enforced false schema.tables table.tree ≡ false
    → let edit = edit_of db table (ids_of rows) Given 1 rows in works schema Enforced 0 table.tree (taken_by db edit) edit.news ≡ []
updates_quietly schema db table [] quiet = no_works schema Enforced 0 table.tree []
updates_quietly schema db table (r ∷ rows) quiet =
    let edit = edit_of db table (ids_of (r ∷ rows)) Given 1 (r ∷ rows) in
    let some : (length edit.news == 0) ≡ false = ne_eqb (length edit.news) 0 (omega arith) in
    quiet_elsewhere schema Enforced table.tree (taken_by db edit) edit.news (ap (λ deletes. any_acts_at Enforced deletes schema.tables table.tree) some ∙ quiet)

-- among the tables of a desk none acts where rows are deleted, but from the claims
pub quiet_but_claims : (tree : ℕ) → (claim.tree == tree) ≡ false → any_acts_at Enforced true desk_tables tree ≡ false
unfolding same_name everything
quiet_but_claims tree other = rw other refl
