-- The tables of a desk have their own names.
use Rattle.store_tables.proofs.Vocabulary.{◌≡◌, true, refl, ◌∙◌, Schema, desk_tables, desk_beside}
use Rattle.sqlite_schema.specs.Names.{same_name}
use Rattle.store_tables.specs.Schemas.{has_names}

-- the tables of a desk have their names, whatever is beside them
desk_names : (schema : Schema) → has_names (desk_beside schema) desk_tables ≡ true
unfolding same_name
desk_names schema = refl

pub names_there : (schema : Schema) → schema.tables ≡ desk_tables → has_names schema desk_tables ≡ true
names_there schema is = (λ i. has_names (record schema { tables = is i }) desk_tables) ∙ desk_names schema
