use Rattle.policy.proofs.Vocabulary.{sym, ◌∙◌, refl, subst, not-true, Register, IsAccepted}
use Rattle.policy.proofs.CarrySpace.{carries-register}
use Rattle.policy.proofs.delegation.register.Goals as goal

pub returns-clause-answer : goal.returns-clause-answer
returns-clause-answer c history day legal is =
    let a = c.args in
    let fresh = sym is ∙ not-true a.registered c.in_ok-require-2.ensures in
    subst (IsAccepted a.charter.now history day a.caller.now (Register a.holder.now)) (sym c.change_of.ensures) (record {
      after = _;
      leaves = ((sym c.is_operator.ensures ∙ c.in_ok-require.ensures, (fresh, tt)), refl);
      numbered = refl;
      carries = carries-register a.charter.now history day a.caller.now a.holder.now legal fresh;
      sparing = (tt, tt);
      of_command = (refl, tt);
    })
