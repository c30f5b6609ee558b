-- When a prefix filter matches a VRP (RFC 8416 section 3.3.1): where the filter has a prefix, the
-- VRP's prefix equals it or lies in it; where it has an AS, it is the VRP's; with both, both hold.
use Rattle.std.specs.Prelude.{◌≡◌, Bool, ◌&&◌, ◌==◌}
use Rattle.addr.specs.Address.{contains, Contains}
use Rattle.addr.specs.declared.vrp.Vrp.{Vrp}
use Rattle.slurm.specs.declared.filter.Filter.{Filter}
use Rattle.slurm.specs.declared.filter.Filter.TheVariants.{Under, By, Both}

abbrev pub FilterMatches : Filter → Vrp → Type 0
FilterMatches (Under p) v = Contains p v.prefix
FilterMatches (By asn) v = asn.0 ≡ v.asn.0
FilterMatches (Both p asn) v = Contains p v.prefix × (asn.0 ≡ v.asn.0)

-- the same as a test
abbrev pub filter_matches : Filter → Vrp → Bool
filter_matches (Under p) v = contains p v.prefix
filter_matches (By asn) v = asn.0 == v.asn.0
filter_matches (Both p asn) v = contains p v.prefix && (asn.0 == v.asn.0)
