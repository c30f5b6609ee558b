use Rattle.slurm.proofs.Vocabulary.{◌↔◌, IsTrue, ap, subst, sym, ◌∙◌, some_overlap, SomeOverlap}
use Rattle.slurm.proofs.SetOverlapLemmas.{some_overlap_decides}
use Rattle.slurm.proofs.set.SlurmSet.has_overlap.Goals as goal

pub returns-in-Ok-clause-some : goal.returns-in-Ok-clause-some
returns-in-Ok-clause-some c =
    subst (λ b. IsTrue b ↔ SomeOverlap c.args.self.now) (sym (c.in-Ok.ensures ∙ ap some_overlap c.files.ensures.files))
    (some_overlap_decides c.args.self.now)

pub returns-in-Err-clause-some : goal.returns-in-Err-clause-some
returns-in-Err-clause-some c =
    subst (λ b. IsTrue b ↔ SomeOverlap c.args.self.now) (sym (c.some_overlap.ensures ∙ ap some_overlap c.files-in-Err.ensures.files))
    (some_overlap_decides c.args.self.now)
