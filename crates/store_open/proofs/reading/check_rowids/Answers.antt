use Rattle.store_open.proofs.Vocabulary.{[], entry, state}
use Rattle.store_open.proofs.AllTexts.{selects_entry_rowids}
use Rattle.store_open.proofs.Collecting.{numbers_ascend}
use Rattle.store_open.proofs.Rowids.{is_tree}
use Rattle.store_open.proofs.reading.check_rowids.Goals as goal

pub take_each-requires-clause-plain : goal.take_each-requires-clause-plain
take_each-requires-clause-plain g c = selects_entry_rowids.plain

pub take_each-requires-clause-unlisted : goal.take_each-requires-clause-unlisted
take_each-requires-clause-unlisted g c = selects_entry_rowids.unlisted

pub returns-clause-tree : goal.returns-clause-tree
returns-clause-tree g c clean =
    let db = (state g.S.Store c.args.conn.now).now in
    let it = c.in_ok-take_each.ensures.taken clean in
    is_tree [] (db.trees entry.tree) it.0 (selects_entry_rowids.found db it.0 it.1) (numbers_ascend it.0 _ it.2)
