use Rattle.desk_files.proofs.Vocabulary.{subst, [], FilesHoldDesk}
use Rattle.desk_files.proofs.RefusedFileLemmas.{unmade_closed, unmade_left}
use Rattle.desk_files.proofs.file.make_desk.Goals as goal

pub returns-in-Ok-close_desk-clause-made : goal.returns-in-Ok-close_desk-clause-made
returns-in-Ok-close_desk-clause-made g c clean =
    let made = c.in-Ok.ensures in
    subst (λ charter. FilesHoldDesk g.D.Disk charter [] c.in-Ok-close_desk.files) made.charter
    (c.in-Ok-close_desk.ensures.kept clean [] made.empty)

pub returns-in-Err-close_desk-clause-err : goal.returns-in-Err-close_desk-clause-err
returns-in-Err-close_desk-clause-err g c =
    let made = c.in-Ok.ensures in
    unmade_closed c.args.charter.now c.args.conn c.in-Ok.desk c.in-Err-close_desk.fault made.unused made.made made.clean
    made.none_pending c.in-Err-close_desk.ensures.err

pub returns-in-Err-clause-err : goal.returns-in-Err-clause-err
returns-in-Err-clause-err g c =
    unmade_left c.args.charter.now c.args.conn c.in-Err.conn c.stop_connection.result c.in-Err.ensures.err
    c.stop_connection.ensures.clean c.stop_connection.ensures.left
