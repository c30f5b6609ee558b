use Rattle.desk_files.proofs.DeskFileLemmas.{closed_clean, closed_keeps, unclosed_keeps}
use Rattle.desk_files.proofs.file.close_desk.Goals as goal

pub returns-in-Ok-clause-clean : goal.returns-in-Ok-clause-clean
returns-in-Ok-clause-clean g c clean =
    closed_clean c.args.desk c.close-conn.result c.in-Ok.files c.close-conn.ensures.same (c.in-Ok.ensures.copied clean)

pub returns-in-Ok-clause-kept : goal.returns-in-Ok-clause-kept
returns-in-Ok-clause-kept g c clean history holds =
    closed_keeps g.D.Disk c.args.desk c.close-conn.result c.in-Ok.files history c.close-conn.ensures.same c.close-conn.ensures.desk
    c.schema-schema.ensures.live (c.in-Ok.ensures.copied clean) holds

pub returns-in-Err-clause-err : goal.returns-in-Err-clause-err
returns-in-Err-clause-err g c =
    unclosed_keeps c.args.desk c.close-conn.result (record { error = c.in-Err.error; store = c.in-Err.store })
    c.close-conn.ensures.same c.in-Err.ensures.err.0.quiet c.in-Err.ensures.err.1
