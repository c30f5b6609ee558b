use Rattle.policy.proofs.Vocabulary.{sym, ap, Some, subst, refl, IsAccepted, IsCreated}
use Rattle.registry.specs.declared.command.Command.TheVariants.{Create}
use Rattle.policy.proofs.creation.create.Goals as goal

pub returns-clause-answer : goal.returns-clause-answer
returns-clause-answer c charter history legal are =
    let a = c.args in
    let h = a.holder.now in
    let t = a.terms.now in
    let made = subst (IsCreated charter history h a.day a.caller.now t) (sym c.in_ok-auth.ensures)
    (c.in_ok-number.ensures.judged charter history h legal are) in
    subst (IsAccepted charter history a.day a.caller.now (Create h t)) (sym c.change_of.ensures) (record {
      after = _;
      leaves = (made.verdict, refl);
      numbered = ap Some made.number;
      carries = made.carries;
      sparing = (tt, tt);
      of_command = (refl, tt);
    })
