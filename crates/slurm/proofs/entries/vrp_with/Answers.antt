use Rattle.slurm.proofs.Vocabulary.{Option, ap, ◌∙◌, ok_or, Vrp, MaxPrefixLength}
use Rattle.slurm.proofs.VrpLemmas.{vrp_with-parts}
use Rattle.slurm.proofs.entries.vrp_with.Goals as goal

pub returns-in-Ok : goal.returns-in-Ok
returns-in-Ok c =
    rw (← c.in-Ok.ensures.1) (c.ok_or.ensures.value
    ∙ ap (λ (found : Option Vrp). ok_or found MaxPrefixLength)
    (vrp_with-parts c.args.prefix c.in-Ok.max c.args.asn c.from_parts.result c.from_parts.ensures.some c.from_parts.ensures.parts))
