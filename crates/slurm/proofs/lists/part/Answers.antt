use Rattle.slurm.proofs.Vocabulary.{refl, mapped-unless, slurm_fault_number}
use Rattle.slurm.proofs.lists.part.Goals as goal

pub returns : goal.returns
returns g c =
    rw (
      c.unless-2.ensures,
      mapped-unless slurm_fault_number (λ v. v.items) c.unless.result c.bgpsec_in-unused.result,
      c.unless.ensures,
      mapped-unless slurm_fault_number (λ v. v.items) c.in_ok-listed.listed c.only-known.result,
      c.in_ok-listed.ensures,
      c.only-known.ensures,
      c.bgpsec_in-unused.ensures,
    ) refl
