use Rattle.store_open.proofs.Vocabulary.{subst, lists_once, catalog_tree, IsOldSchema}
use Rattle.store_open.proofs.laws.old_desk_trees_have_schema.Goals as goal

pub returns : goal.returns
returns c db is desk = subst IsOldSchema (lists_once (db.trees catalog_tree) desk.schema db.schema desk.sound.lists is.lists) desk.old
