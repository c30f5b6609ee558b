-- What the entries of a SLURM file say, member by member (RFC 8416 sections 3.3.1 and 3.4.1).
use Rattle.std.specs.Prelude.{◌≡◌, ℕ, List, codes, Option, Some, None}
use Rattle.std.specs.List.{AllZip}
use Rattle.addr.specs.PrefixText.{Spells}
use Rattle.addr.specs.declared.asn.Asn.{Asn}
use Rattle.addr.specs.declared.prefix.Prefix.{Prefix}
use Rattle.addr.specs.declared.vrp.Vrp.{Vrp}
use Rattle.serde_json.specs.Data.{Data, number, string, unsigned}
use Rattle.serde_json.specs.Find.{get}
use Rattle.slurm.specs.Exceptions.{Exceptions}
use Rattle.slurm.specs.SlurmFaults.{assertions_at, filters_at}
use Rattle.slurm.specs.declared.filter.Filter.{Filter}
use Rattle.slurm.specs.declared.filter.Filter.TheVariants.{Under, By, Both}

-- the member is there, and is the text of this prefix
abbrev pub IsPrefixMember : Option Data → Prefix → Type 0
IsPrefixMember member p = (text : List ℕ) × (member ≡ Some (string text)) × Spells p text

-- the member is there, and is this AS number in plain decimal digits
abbrev pub IsAsnMember : Option Data → Asn → Type 0
IsAsnMember member asn = member ≡ Some (number (unsigned asn.0))

-- a filter of the members `prefix` and `asn`, of which one may be missing
abbrev pub IsFilterOf : Option Data → Option Data → Filter → Type 0
IsFilterOf prefix asn (Under p) = IsPrefixMember prefix p × (asn ≡ None)
IsFilterOf prefix asn (By n) = (prefix ≡ None) × IsAsnMember asn n
IsFilterOf prefix asn (Both p n) = IsPrefixMember prefix p × IsAsnMember asn n

abbrev pub SaysFilter : Data → Filter → Type 0
SaysFilter d f = IsFilterOf (get (codes "prefix") d) (get (codes "asn") d) f

-- the maxLength is that of `maxPrefixLength`, and where this is missing the prefix's own length
abbrev pub IsMaxLengthMember : Option Data → Vrp → Type 0
IsMaxLengthMember None v = v.max ≡ v.prefix.length
IsMaxLengthMember (Some max) v = max ≡ number (unsigned v.max)

abbrev pub SaysAssertion : Data → Vrp → Type 0
SaysAssertion d v =
    IsPrefixMember (get (codes "prefix") d) v.prefix × IsAsnMember (get (codes "asn") d) v.asn
    × IsMaxLengthMember (get (codes "maxPrefixLength") d) v

-- the file's entries, each and in order, say these filters and these assertions
abbrev pub SaysExceptions : Option Data → Exceptions → Type 0
SaysExceptions None file = ⊥
SaysExceptions (Some d) file =
    AllZip SaysFilter (filters_at d) file.filters
    × AllZip SaysAssertion (assertions_at d) file.assertions
