use Rattle.desk_files.proofs.Vocabulary.{subst, file_state, HasCleanDisk}
use Rattle.desk_files.proofs.DeskFileLemmas.{desk_left}
use Rattle.desk_files.proofs.stopping.stop.Goals as goal

pub returns-clause-clean : goal.returns-clause-clean
returns-clause-clean g c clean =
    subst (λ h. HasCleanDisk (file_state h)) c.close.ensures.same (c.stop_connection.ensures.clean clean)

pub returns-clause-left : goal.returns-clause-left
returns-clause-left g c clean =
    let files = c.stop_connection.result in
    let leaves = desk_left g.D.Disk c.args.desk c.close.result files c.close.ensures.same (c.stop_connection.ensures.left clean) in
    record {
      seen = λ charter history pending at_most. leaves charter history pending at_most _
          (g.met.D.Disk.seen_may_stay files.log, g.met.D.Disk.seen_may_stay files.db);
      left = leaves;
    }
