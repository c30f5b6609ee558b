use Rattle.slurm.proofs.Vocabulary.{refl}
use Rattle.slurm.proofs.entries.VrpFromJsonSlurmFault.from_json.Goals as goal

pub returns : goal.returns
returns c =
    rw (
      c.unless-2.ensures,
      c.unless.ensures,
      c.assertion_of-vrp.ensures,
      c.both-2.ensures,
      c.both.ensures,
      c.required-prefix.ensures,
      c.required-asn.ensures,
      c.optional-max.ensures,
      c.only-known.ensures,
      c.optional.ensures,
    ) refl
