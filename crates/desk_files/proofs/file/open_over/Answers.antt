use Rattle.desk_files.proofs.DeskFileLemmas.{opened_continues, opened_finds_left, opened_resumes}
use Rattle.desk_files.proofs.RefusedFileLemmas.{refused_database}
use Rattle.desk_files.proofs.file.open_over.Goals as goal

pub returns-in-Ok-clause-continued : goal.returns-in-Ok-clause-continued
returns-in-Ok-clause-continued g c clean image over =
    let was = over (c.in-Ok.ensures.clean clean) in
    opened_continues image c.args.conn c.in-Ok.desk was.0 was.1 (c.in-Ok.ensures.history clean)

pub returns-in-Ok-clause-resumed : goal.returns-in-Ok-clause-resumed
returns-in-Ok-clause-resumed g c clean image over =
    let was = over (c.in-Ok.ensures.clean clean) in
    opened_resumes image c.args.conn c.in-Ok.desk was.0 was.1 (c.in-Ok.ensures.resumed clean)

pub returns-in-Err-clause-given_clean : goal.returns-in-Err-clause-given_clean
returns-in-Err-clause-given_clean g c clean = c.in-Err.ensures.err.clean (c.stop_connection.ensures.clean clean)

pub returns-in-Err-clause-err : goal.returns-in-Err-clause-err
returns-in-Err-clause-err g c image over =
    refused_database g.D.Disk g.met.D.Disk.seen_may_stay image c.args.conn c.in-Err.conn c.in-Err.fault
    c.stop_connection.result over c.in-Err.ensures.err c.stop_connection.ensures.clean c.stop_connection.ensures.left

pub returns-in-Err-clause-not_schema : goal.returns-in-Err-clause-not_schema
returns-in-Err-clause-not_schema g c image over clean is left =
    let refused = c.in-Err.ensures in
    let given = c.stop_connection.ensures.clean clean in
    let was = over (refused.err.clean given) in
    refused.not_schema given is (opened_finds_left image c.args.conn was.0 was.1 left)
