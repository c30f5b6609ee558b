use Rattle.slurm.proofs.Vocabulary.{refl, mapped-unless, slurm_fault_number}
use Rattle.slurm.proofs.FileLemmas.{items-both}
use Rattle.slurm.proofs.file.whole.Goals as goal

pub returns : goal.returns
returns c =
    rw (
      c.unless-2.ensures,
      mapped-unless slurm_fault_number _ c.unless.result c.required.result,
      c.unless.ensures,
      mapped-unless slurm_fault_number _ c.unless-lists.result c.only-known.result,
      c.unless-lists.ensures,
      mapped-unless slurm_fault_number _ c.both.result c.object_in.result,
      c.both.ensures,
      items-both c.args.filters c.args.assertions,
      c.object_in.ensures,
      c.only-known.ensures,
      c.required.ensures,
    ) refl
