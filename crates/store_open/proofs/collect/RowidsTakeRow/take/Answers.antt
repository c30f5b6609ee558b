use Rattle.store_open.proofs.Vocabulary.{SFits, w64, rules, to_z-of_z}
use Rattle.store_open.proofs.Collecting.{end_apart_more}
use Rattle.store_open.proofs.collect.RowidsTakeRow.take.Goals as goal

pub returns-clause-took : goal.returns-clause-took
returns-clause-took c = λ start rows was.
    let fits : SFits w64 c.in-Some.rowid = search rules in
    rw (to_z-of_z w64 c.in-Some.rowid fits) (end_apart_more rows c.args.row.now c.args.self.last c.in-Some.rowid was c.in-Some.ensures.0 c.in-Some.ensures.1)
