use Rattle.store_tables.proofs.Vocabulary.{arith, first_columns}
use Rattle.store_tables.proofs.ReadLemmas.{any_mapped}
use Rattle.store_tables.proofs.rows.in_rows.Goals as goal

pub returns-in_err-value : goal.returns-in_err-value
returns-in_err-value g c =
    rw c.from_residual.ensures
    (any_mapped _ (first_columns g.T.FromRow.width) c.args.rows.now c.loop-row.row-index c.row-item.result (omega arith) c.row-item.is c.in_err-value.ensures)
