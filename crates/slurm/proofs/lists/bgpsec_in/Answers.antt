use Rattle.slurm.proofs.Vocabulary.{sym, ◌∙◌}
use Rattle.slurm.proofs.FileLemmas.{bgpsec_from-full}
use Rattle.slurm.proofs.lists.bgpsec_in.Goals as goal

pub returns-else-is_empty : goal.returns-else-is_empty
returns-else-is_empty c =
    let full = sym c.if-is_empty.false ∙ c.is_empty.ensures in
    rw (← c.in-Some.ensures) (bgpsec_from-full c.in-Some.values.now.items (rw c.as_slice.ensures.value at full))
