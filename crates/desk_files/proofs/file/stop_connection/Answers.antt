use Rattle.desk_files.proofs.DeskFileLemmas.{stopped_clean, stopped_left}
use Rattle.desk_files.proofs.file.stop_connection.Goals as goal

pub returns-clause-clean : goal.returns-clause-clean
returns-clause-clean g c =
    let files = c.close.result in
    stopped_clean g.D.Disk c.args.conn c.into_store.result c.into_store.ensures.quiet files.log files.db c.close.ensures

pub returns-clause-left : goal.returns-clause-left
returns-clause-left g c clean =
    stopped_left g.D.Disk c.args.conn c.into_store.result c.into_store.ensures.quiet c.close.result c.close.ensures clean
    c.into_store.ensures.numbered c.into_store.ensures.sound
