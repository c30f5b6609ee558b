use Rattle.policy.proofs.Vocabulary.{List, refl, sym, subst, err_from_is_err_and, ImportRow, Import, IsAccepted, ImportGrows}
use Rattle.policy.proofs.Imports.{answers-denied}
use Rattle.policy.proofs.decision.import.decide_import.Goals as goal

pub returns-in_err-edit-clause-answer : goal.returns-in_err-edit-clause-answer
returns-in_err-edit-clause-answer c history rows listed legal are =
    let b = c.args.basis in
    let h = c.args.holder.name.now in
    let p = err_from_is_err_and c.from_residual.result c.from_residual.ensures.1 in
    rw (p.1, p.2) (answers-denied b.charter.now history h b.day b.caller.now rows c.args.listed.now _ listed (c.in_err-edit.ensures.answer b.charter.now history h legal are))

pub returns-clause-answer : goal.returns-clause-answer
returns-clause-answer c history rows listed legal are =
    let b = c.args.basis in
    let h = c.args.holder.name.now in
    let done = c.in_ok-edit.ensures.answer b.charter.now history h legal are in
    subst (IsAccepted b.charter.now history b.day b.caller.now (Import h rows)) (sym c.change_of.ensures) (record {
      after = done.after;
      leaves = subst (λ (xs : List ImportRow). ImportGrows b.charter.now b.day b.caller.now h history xs done.after) (sym listed) done.grows;
      carries = done.carries;
      numbered = (done.present, (done.made, rw listed done.rest));
      sparing = (done.sparing, tt);
      of_command = (refl, tt);
    })
