use Rattle.store_open.proofs.Vocabulary.{ap, ◌∙◌, lists_once, catalog_tree}
use Rattle.sqlite_schema.specs.declared.schema.Schema.{Schema}
use Rattle.store_open.proofs.laws.desk_trees_have_tables.Goals as goal

pub returns : goal.returns
returns c db is desk = ap (λ (s : Schema). s.tables) (lists_once (db.trees catalog_tree) db.schema desk.schema is.lists desk.sound.lists) ∙ desk.tables
