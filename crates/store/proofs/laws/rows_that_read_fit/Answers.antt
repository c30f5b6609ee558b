use Rattle.store.proofs.ReadRows.{rows_fit, rows_give}
use Rattle.store.proofs.laws.rows_that_read_fit.Goals as goal

pub returns-clause-fit : goal.returns-clause-fit
returns-clause-fit c = rows_fit

pub returns-clause-give : goal.returns-clause-give
returns-clause-give c = rows_give
