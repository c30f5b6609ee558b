-- What a SLURM file says, comments aside: its prefix filters and its prefix assertions, each in the
-- file's order.
use Rattle.std.specs.Prelude.{◌+◌, nat_le, List, length, if◌then◌else◌, Result, Ok, Err}
use Rattle.addr.specs.declared.vrp.Vrp.{Vrp}
use Rattle.slurm.specs.declared.exceptions.TheConstants.{MOST_ENTRIES}
use Rattle.slurm.specs.declared.fault.SlurmFault.{SlurmFault}
use Rattle.slurm.specs.declared.fault.SlurmFault.TheVariants.{TooMany}
use Rattle.slurm.specs.declared.filter.Filter.{Filter}

pub record Exceptions : Type 0 where
  pub filters : List Filter
  pub assertions : List Vrp

-- those of these lists, where they do not have too many entries together
abbrev pub exceptions_of : List Filter → List Vrp → Result Exceptions SlurmFault
exceptions_of filters assertions =
    if nat_le (length filters + length assertions) MOST_ENTRIES
    then Ok (record { filters = filters; assertions = assertions }) else Err TooMany
