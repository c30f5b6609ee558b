-- What single entries say of the prefixes that they name.
use Rattle.std.specs.Prelude.{Bool, false}
use Rattle.addr.specs.declared.prefix.Prefix.{Prefix}
use Rattle.slurm.specs.declared.filter.Filter.{Filter}
use Rattle.slurm.specs.declared.filter.Filter.TheVariants.{Under, By, Both}

-- the filter names a prefix, which passes the test
abbrev pub filter_passes : (Prefix → Bool) → Filter → Bool
filter_passes test (Under p) = test p
filter_passes test (By asn) = false
filter_passes test (Both p asn) = test p
