-- Overlaps of SLURM files (RFC 8416 section 4.2): a prefix that one file names shares an address with
-- one that another file names. Neither an AS alone nor a maxLength counts.
use Rattle.std.specs.Prelude.{◌≡◌, ◌⊎◌, Bool, List, ◌++◌, map, Option, Some, None, Any}
use Rattle.std.specs.List.{filter_map, list_any}
use Rattle.addr.specs.Address.{overlaps, Overlaps}
use Rattle.addr.specs.declared.prefix.Prefix.{Prefix}
use Rattle.slurm.specs.Exceptions.{Exceptions}
use Rattle.slurm.specs.declared.filter.Filter.{Filter}
use Rattle.slurm.specs.declared.filter.Filter.TheVariants.{Under, By, Both}

-- the prefix that the filter names, if it names one
abbrev pub filter_prefix : Filter → Option Prefix
filter_prefix (Under p) = Some p
filter_prefix (By asn) = None
filter_prefix (Both p asn) = Some p

-- the file names the prefix: in a filter, or in an assertion
abbrev pub Names : Exceptions → Prefix → Type 0
Names file p =
    Any (λ f. filter_prefix f ≡ Some p) file.filters ⊎ Any (λ v. v.prefix ≡ p) file.assertions

-- some prefix that one file names and some prefix that the other names share an address
abbrev pub Overlap : Exceptions → Exceptions → Type 0
Overlap one other = (p q : Prefix) × Names one p × Names other q × Overlaps p q

-- the prefixes that the file names: those of its filters, and then those of its assertions
abbrev pub named_prefixes : Exceptions → List Prefix
named_prefixes file = filter_map filter_prefix file.filters ++ map (λ v. v.prefix) file.assertions

-- some prefix that the file names shares an address with p
abbrev pub shares : Exceptions → Prefix → Bool
shares file p = list_any (λ q. overlaps p q) (named_prefixes file)

-- the overlap of two files as a test, by pairs of prefixes
abbrev pub overlap : Exceptions → Exceptions → Bool
overlap one other = list_any (λ p. shares other p) (named_prefixes one)
