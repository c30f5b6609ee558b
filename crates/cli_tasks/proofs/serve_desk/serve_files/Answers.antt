use Rattle.cli_tasks.proofs.Vocabulary.{◌≡◌, ◌∙◌, inr, [], OnOk, refl, subst, true, IfErr-weaker, IfOk-weaker, image_of}
use Rattle.cli_tasks.proofs.ConnectionLemmas.{accepts-then, logs-none}
use Rattle.desk_files.proofs.DeskFileLemmas.{if_ok_both}
use Rattle.cli_tasks.proofs.ServedFileLemmas.{if_closed, if_unclosed, keep_led, keeps_files, late, not_closed, not_closed_over}
use Rattle.cli_tasks.proofs.serve_desk.serve_files.Goals as goal

pub returns-in-Ok-listen : goal.returns-in-Ok-listen
returns-in-Ok-listen g c =
    let (passed, counted, accepted, logged, closed, unclosed) = c.serve_desk.ensures.served in
    let bound = subst (λ r. OnOk r ((g.C.Connections.is_listening c.listen.new.self ≡ true)
    × (g.C.Connections.listen_error c.listen.new.self ≡ g.C.Connections.listen_error c.args.connections.now)))
    c.in-Ok-listen.is c.listen.ensures.listens in
    let (cause, listens, unbound) = late c.args.files _ _ c.serve_desk.result _ _ c.serve_desk.ensures.err
    (c.serve_desk.ensures.listens.0 ∙ bound.0, c.serve_desk.ensures.listens.1 ∙ bound.1) in
    record {
      clean =
          if_closed c.serve_desk.result _ _ _ (λ files cleaned again clean. c.in-Ok.ensures.clean (cleaned clean))
          c.serve_desk.ensures.clean c.serve_desk.ensures.clean;
      clean_store =
          if_unclosed c.serve_desk.result _ _ _ (λ fault cleaned again clean. c.in-Ok.ensures.clean (cleaned clean))
          c.serve_desk.ensures.clean_store c.serve_desk.ensures.clean_store;
      served = (
        passed,
        counted,
        accepts-then (g.C.Connections.accepted c.args.connections.now) (g.C.Connections.accepted c.listen.new.self)
            (g.C.Connections.accepted c.serve_desk.new.connections) [] passed c.listen.ensures.none accepted,
        logged,
        if_closed c.serve_desk.result _ _ _ (λ files cleaned keeps clean.
            keeps_files g.D.Disk (image_of g.D.Disk c.args.files) c.args.day passed c.in-Ok.desk files
            (c.in-Ok.ensures.resumed (cleaned clean)) (keeps clean))
            c.serve_desk.ensures.clean closed,
        if_unclosed c.serve_desk.result _ _ _ (λ fault cleaned leaves clean.
            not_closed_over (image_of g.D.Disk c.args.files) c.args.day passed c.in-Ok.desk fault
            (c.in-Ok.ensures.opened (cleaned clean)) (c.in-Ok.ensures.resumed (cleaned clean)) (leaves clean))
            c.serve_desk.ensures.clean_store unclosed,
      );
      err = cause;
      listens = listens;
      unbound = unbound;
    }

pub returns-in-Err-listen-clause-clean : goal.returns-in-Err-listen-clause-clean
returns-in-Err-listen-clause-clean g c =
    IfOk-weaker c.close_desk.result _ _ (λ files cleaned clean. c.in-Ok.ensures.clean (cleaned clean)) c.close_desk.ensures.clean

pub returns-in-Err-listen-clause-clean_store : goal.returns-in-Err-listen-clause-clean_store
returns-in-Err-listen-clause-clean_store g c =
    IfErr-weaker c.close_desk.result _ _ (λ fault kept clean. c.in-Ok.ensures.clean (kept.clean clean)) c.close_desk.ensures.err

pub returns-in-Err-listen-clause-served : goal.returns-in-Err-listen-clause-served
returns-in-Err-listen-clause-served g c = (
  [],
  refl,
  c.listen.ensures.none,
  logs-none _ _,
  if_ok_both c.close_desk.result _ _ _ (λ files cleaned keeps clean.
      keeps_files g.D.Disk (image_of g.D.Disk c.args.files) c.args.day [] c.in-Ok.desk files
      (c.in-Ok.ensures.resumed (cleaned clean))
      (λ charter history is.
      keep_led g.D.Disk charter c.args.day [] history history c.in-Ok.desk files (keeps clean) is (λ fits. fits) refl))
      c.close_desk.ensures.clean c.close_desk.ensures.kept,
  IfErr-weaker c.close_desk.result _ _ (λ fault kept clean.
      not_closed_over (image_of g.D.Disk c.args.files) c.args.day [] c.in-Ok.desk fault
      (c.in-Ok.ensures.opened (kept.clean clean)) (c.in-Ok.ensures.resumed (kept.clean clean))
      (not_closed c.args.day [] c.in-Ok.desk c.in-Ok.desk fault (inr (refl, refl))
      (λ clean charter before is left. (before, refl, is, (λ fits. fits), (λ fits. fits), left)) kept clean))
      c.close_desk.ensures.err,
)
