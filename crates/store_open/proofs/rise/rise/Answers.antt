use Rattle.store_open.proofs.Vocabulary.{recursion_from_All}
use Rattle.store_open.proofs.Rowids.{rows_rise}
use Rattle.store_open.proofs.rise.rise.Goals as goal

pub returns-then-end_in_integers : goal.returns-then-end_in_integers
returns-then-end_in_integers c is = rows_rise c.args.rows.now (c.are_below_the_next.ensures is) (recursion_from_All _ _ (c.end_in_integers.ensures.0 c.if-end_in_integers.true))
