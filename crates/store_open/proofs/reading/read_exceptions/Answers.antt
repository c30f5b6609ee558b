use Rattle.store_open.proofs.Vocabulary.{exception_row, ExceptionRowFits, slurm, contents, state_in, refused_by}
use Rattle.store_open.proofs.Unread.{each_read}
use Rattle.store_open.proofs.reading.read_exceptions.Goals as goal

pub returns-in_err-_files-clause-schema : goal.returns-in_err-_files-clause-schema
returns-in_err-_files-clause-schema g c clean is read =
    let table = contents ((state_in g.S.Store c.args.tx.now).now.trees slurm.tree) in
    let values = c.in_ok-exceptions.ensures.read clean in
    c.group_files.ensures.schema (refused_by _ _ _ c.in_err-_files.was c.from_residual-in_err-_files.ensures.1 is) table (record { fit = values.fit; same = values.same }) read.common.exceptions_number

pub returns-clause-found : goal.returns-clause-found
returns-clause-found g c clean =
    let table = contents ((state_in g.S.Store c.args.tx.now).now.trees slurm.tree) in
    let values = c.in_ok-exceptions.ensures.read clean in
    let held = c.in_ok-_files.ensures.found table (record { fit = values.fit; same = values.same }) in
    record {
      rows = record { whole = c.in_ok-exceptions.ensures.tree clean; each = each_read exception_row ExceptionRowFits _ _ values };
      files = (held.named, held.held, held.fit);
    }
