use Rattle.desk_files.proofs.Vocabulary.{inl, inr, refl}
use Rattle.desk_files.proofs.RefusedFileLemmas.{if_err_both}
use Rattle.desk_files.proofs.DeskFileLemmas.{if_ok_both, reopened_same}
use Rattle.desk_files.proofs.stopping.reopen.Goals as goal

pub returns-in-Ok-clause-same : goal.returns-in-Ok-clause-same
returns-in-Ok-clause-same g c =
    if_ok_both c.open_files.result _ _ _ (λ again continues cleaned clean charter history.
    reopened_same g.D.Disk c.args.desk again c.in-Ok.files charter history (c.in-Ok.ensures.kept (cleaned clean))
    (continues clean)) c.open_files.ensures.continued c.open_files.ensures.clean

pub returns-in-Ok-clause-err : goal.returns-in-Ok-clause-err
returns-in-Ok-clause-err g c =
    if_err_both c.open_files.result _ _ _ (λ fault refuses keeps. inr (c.in-Ok.files, c.in-Ok.ensures.kept, refuses, keeps))
    c.open_files.ensures.err c.open_files.ensures.left

pub returns-in-Err-clause-err : goal.returns-in-Err-clause-err
returns-in-Err-clause-err g c = inl (
  c.in-Err.fault,
  c.fault_of_sqlite-told.result,
  c.fault_of_sqlite-told.ensures.told,
  refl,
  c.in-Err.ensures.err,
)
