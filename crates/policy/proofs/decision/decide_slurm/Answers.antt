use Rattle.policy.proofs.Vocabulary.{refl, sym, ◌∙◌, subst, ◌≡◌, false, not-true, List, Slurm, IsAccepted, carries-exceptions}
use Rattle.slurm.specs.SlurmSets.{some_overlap}
use Rattle.slurm.specs.declared.set.NamedSlurm.{NamedSlurm}
use Rattle.registry.specs.declared.change.Change.TheVariants.{Exceptions as Replace}
use Rattle.policy.proofs.decision.decide_slurm.Goals as goal

pub returns-clause-answer : goal.returns-clause-answer
returns-clause-answer c history legal =
    let b = c.args.basis in
    let files = c.args.files.now in
    let apart : some_overlap files ≡ false = sym c.has_overlap.ensures.by_test ∙ not-true _ c.in_ok-require-2.ensures in
    let Accepted : List NamedSlurm → Type 0 = λ copy. IsAccepted b.charter.now history b.day b.caller.now (Slurm files) (Replace copy) in
    subst Accepted (sym c.in_ok-clone.ensures.cases) (record {
      after = _;
      leaves = ((sym c.is_operator.ensures ∙ c.in_ok-require.ensures, (apart, tt)), refl);
      numbered = refl;
      carries = carries-exceptions history b.day b.caller.now files;
      sparing = tt;
      of_command = refl;
    })
