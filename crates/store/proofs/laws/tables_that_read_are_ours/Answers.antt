use Rattle.store.proofs.Vocabulary.{◌≡◌, ◌≢◌, true, false, inl, inr, ap, refl, subst, sym, arith, length, ◌∙◌, both_ways, Schema, desk_tables, IsOldSchema, old_tables, HasOtherNames, has_new_table}
use Rattle.sqlite_schema.specs.Names.{same_name}
use Rattle.store_tables.specs.Schemas.{has_names}
use Rattle.store.proofs.laws.tables_that_read_are_ours.Goals as goal

-- schema 1 has not all tables of a desk
fewer : (schema : Schema) → IsOldSchema schema → schema.tables ≢ desk_tables
fewer schema (inl is) tables = let e : 10 ≡ 8 = ap length (sym tables ∙ ap (λ (s : Schema). s.tables) is) in omega (arith, e)
fewer schema (inr is) tables = let e : 10 ≡ 8 = ap length (sym tables ∙ ap (λ (s : Schema). s.tables) is) in omega (arith, e)

-- schema 1 has the names of its tables, and no new table
named : (schema : Schema) → IsOldSchema schema → (has_names schema old_tables ≡ true) × (has_new_table schema ≡ false)
unfolding same_name
named schema (inl is) = subst (λ s. (has_names s old_tables ≡ true) × (has_new_table s ≡ false)) (sym is) (refl, refl)
named schema (inr is) = subst (λ s. (has_names s old_tables ≡ true) × (has_new_table s ≡ false)) (sym is) (refl, refl)

has_its_names : (schema : Schema) → IsOldSchema schema → ¬ HasOtherNames schema old_tables
has_its_names schema old (inl missing) = both_ways _ missing (named schema old).0
has_its_names schema old (inr new) = both_ways _ (named schema old).1 new

pub returns-clause-now : goal.returns-clause-now
returns-clause-now c db tables read other = elim other [
  | inl missing ↦ absurd (let there = c.desk_tables_are_named.ensures db.schema tables in let none = missing.0 in cc)
  | inr (inl unread) ↦ unread.1 read
  | inr (inr old) ↦ fewer db.schema old.0 tables
]

pub returns-clause-old : goal.returns-clause-old
returns-clause-old c db old read other = elim other [
  | inl strange ↦ has_its_names db.schema old strange.1
  | inr (inl now) ↦ fewer db.schema old now.0
  | inr (inr unread) ↦ unread.1 read
]
