use Rattle.policy.proofs.Vocabulary.{◌∷◌, sym, ap, ◌∙◌, None, subst, refl, err_from_is_err_and, Auth, Holders, Amend, IsAccepted, Carries, with_terms}
use Rattle.registry.specs.declared.change.Edit.TheVariants.{Amend as AmendEdit}
use Rattle.policy.proofs.CarryTerms.{found_number}
use Rattle.policy.proofs.amendment.amend.Goals as goal

pub returns-in_err-auth-clause-answer : goal.returns-in_err-auth-clause-answer
returns-in_err-auth-clause-answer c charter history n asked same legal are =
    let denied = err_from_is_err_and c.from_residual.result c.from_residual.ensures.1 in
    rw (denied.1, denied.2) (c.in_err-auth.ensures.judged charter history c.args.holder.now n asked same legal are, refl)

pub returns-in_err-amended-clause-answer : goal.returns-in_err-amended-clause-answer
returns-in_err-amended-clause-answer c charter history n asked same legal are =
    let refused = err_from_is_err_and c.from_residual-in_err-amended.result c.from_residual-in_err-amended.ensures.1 in
    rw (refused.1, refused.2) (c.in_ok-auth.ensures.judged charter history c.args.holder.now n asked same legal are).0

pub returns-clause-answer : goal.returns-clause-answer
returns-clause-answer c charter history n asked same legal are =
    let a = c.args in
    let h = a.holder.now in
    let until = a.amendment.until in
    let command = Amend h n asked until in
    let admitted = c.in_ok-auth.ensures.judged charter history h n asked same legal are in
    let x = c.in_ok-auth.auth.now in
    let amended = c.in_ok-amended.ensures ∙ ap (λ maxes. with_terms maxes until x) (sym same) in
    subst (IsAccepted charter history a.day a.caller.now command) (sym c.change_of.ensures) (record {
      after = _;
      leaves = (admitted.0, refl);
      numbered = refl;
      carries = subst (λ (y : Auth). Carries (Holders (record { holder = h; edit = AmendEdit y }) None) history
          (record { day = a.day; caller = a.caller.now; command = command } ∷ history)) (sym amended) admitted.1;
      sparing = (tt, tt);
      of_command = (refl, tt);
    })

pub returns-clause-shape : goal.returns-clause-shape
returns-clause-shape c number asked auths found =
    let amended = c.in_ok-amended.ensures in
    let numbered = found_number number auths c.in_ok-auth.auth.now (sym found ∙ c.in_ok-auth.ensures.found) in
    rw c.change_of.ensures (refl, (ap (λ (y : Auth). y.until) amended, ap (λ (y : Auth). y.number) amended ∙ numbered))
