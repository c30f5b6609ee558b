use Rattle.cli_tasks.proofs.Vocabulary.{◌≡◌, inl, length, subst, ◌<◌, OnErr, OnOk, IfErr-weaker}
use Rattle.desk_files.proofs.DeskFileLemmas.{if_ok_both}
use Rattle.cli_tasks.proofs.ServedFileLemmas.{keep_served, not_closed}
use Rattle.cli_tasks.proofs.serve_desk.serve_desk.Goals as goal

pub returns-in-Ok-close_desk-clause-served : goal.returns-in-Ok-close_desk-clause-served
returns-in-Ok-close_desk-clause-served g c =
    let (passed, all, few, accepted, in_turn, leaves, logged) = c.serve_on.ensures.served in (
      passed,
      subst (λ r. OnOk r (length passed ≡ c.args.count)) c.in-Ok.is all,
      accepted,
      logged,
      (λ clean. keep_served g.D.Disk c.args.day passed c.args.desk c.serve_on.new.desk _ in_turn
          (c.in-Ok-close_desk.ensures.clean clean) (c.in-Ok-close_desk.ensures.kept clean)),
      tt,
    )

pub returns-in-Err-close_desk-clause-served : goal.returns-in-Err-close_desk-clause-served
returns-in-Err-close_desk-clause-served g c =
    let (passed, all, few, accepted, in_turn, leaves, logged) = c.serve_on.ensures.served in (
      passed,
      subst (λ r. OnOk r (length passed ≡ c.args.count)) c.in-Ok.is all,
      accepted,
      logged,
      tt,
      not_closed c.args.day passed c.args.desk c.serve_on.new.desk c.in-Err-close_desk.fault (inl in_turn) leaves
          c.in-Err-close_desk.ensures.err,
    )

pub returns-in-Err-clause-served : goal.returns-in-Err-clause-served
returns-in-Err-clause-served g c =
    let (passed, all, few, accepted, in_turn, leaves, logged) = c.serve_on.ensures.served in (
      passed,
      subst (λ r. OnErr r (length passed < c.args.count)) c.in-Err.is few,
      accepted,
      logged,
      if_ok_both c.close_desk-in-Err.result _ _ _ (λ files cleaned keeps clean.
          keep_served g.D.Disk c.args.day passed c.args.desk c.serve_on.new.desk files in_turn (cleaned clean) (keeps clean))
          c.close_desk-in-Err.ensures.clean c.close_desk-in-Err.ensures.kept,
      IfErr-weaker c.close_desk-in-Err.result _ _ (λ fault kept.
          not_closed c.args.day passed c.args.desk c.serve_on.new.desk fault (inl in_turn) leaves kept)
          c.close_desk-in-Err.ensures.err,
    )

pub returns-in-Err-clause-clean_store : goal.returns-in-Err-clause-clean_store
returns-in-Err-clause-clean_store g c =
    IfErr-weaker c.close_desk-in-Err.result _ _ (λ fault kept clean. c.serve_on.ensures.later.clean (kept.clean clean))
    c.close_desk-in-Err.ensures.err
