-- What the reader answers, part by part: what the tree says, or its lowest fault. A file is read
-- from all of its parts at once (`both`, `unless`, `each`), so that the fault is the lowest.
use Rattle.std.specs.Prelude.{ℕ, ◌==◌, List, [], ◌∷◌, codes, if◌then◌else◌, Option, Some, None, is_some, option_map, Result, Ok, Err}
use Rattle.std.specs.Option.{ok_or}
use Rattle.addr.specs.declared.prefix.Prefix.{Prefix}
use Rattle.addr.specs.declared.asn.Asn.{Asn}
use Rattle.addr.specs.declared.vrp.Vrp.{Vrp}
use Rattle.addr.specs.VrpParts.{vrp_with}
use Rattle.serde_json.specs.Data.{Data, Items, no_items, item}
use Rattle.serde_json.specs.Find.{get, as_object, as_str}
use Rattle.json_values.specs.Parts.{both, and_then, unless, each}
use Rattle.json_values.specs.Tree.{required, optional, only, list_of}
use Rattle.json_values.specs.Values.{as_asn, as_prefix, whole_number}
use Rattle.slurm.specs.Exceptions.{Exceptions, exceptions_of}
use Rattle.slurm.specs.Fault.{slurm_fault_number}
use Rattle.slurm.specs.SlurmFaults.{array_at, assertion_names, file_names, filter_names}
use Rattle.slurm.specs.declared.fault.SlurmFault.{SlurmFault}
use Rattle.slurm.specs.declared.fault.SlurmFault.TheVariants.{NotObject, Members, Version, Bgpsec, Prefix as PrefixFault, Asn as AsnFault, MaxPrefixLength, EmptyFilter, Comment}
use Rattle.slurm.specs.declared.members.Comment.{Comment as CommentRead}
use Rattle.slurm.specs.declared.members.MaxPrefixLength.{MaxPrefixLength as LengthRead}
use Rattle.slurm.specs.declared.members.Version.{Version as VersionRead}
use Rattle.slurm.specs.declared.filter.Filter.{Filter}
use Rattle.slurm.specs.declared.filter.Filter.TheVariants.{Under, By, Both}

-- ---- single members

abbrev pub prefix_or_fault : Data → Result Prefix SlurmFault
prefix_or_fault d = ok_or (as_prefix d) PrefixFault

abbrev pub asn_or_fault : Data → Result Asn SlurmFault
asn_or_fault d = ok_or (as_asn d) AsnFault

abbrev pub comment_in : Data → Result CommentRead SlurmFault
comment_in d = if is_some (as_str d) then Ok (record {}) else Err Comment

-- any whole number: its range depends on the prefix
abbrev pub length_in : Data → Result LengthRead SlurmFault
length_in d = ok_or (option_map (λ n. record { 0 = n }) (whole_number d)) MaxPrefixLength

abbrev pub version_from : Option ℕ → Result VersionRead SlurmFault
version_from None = Err Version
version_from (Some n) = if n == 1 then Ok (record {}) else Err Version

abbrev pub version_in : Data → Result VersionRead SlurmFault
version_in d = version_from (whole_number d)

-- ---- prefix filters

-- the filter of the members that are there, of which there must be one
abbrev pub filter_of : Option Prefix × Option Asn → Result Filter SlurmFault
filter_of (Some p, Some asn) = Ok (Both p asn)
filter_of (Some p, None) = Ok (Under p)
filter_of (None, Some asn) = Ok (By asn)
filter_of (None, None) = Err EmptyFilter

abbrev pub filter_in : Data → Result Filter SlurmFault
filter_in d =
    unless slurm_fault_number (unless slurm_fault_number (and_then filter_of
    (both slurm_fault_number (optional prefix_or_fault (get (codes "prefix") d))
    (optional asn_or_fault (get (codes "asn") d))))
    (only Members filter_names d))
    (optional comment_in (get (codes "comment") d))

-- ---- prefix assertions

-- without a maxPrefixLength it is the prefix's own length
abbrev pub max_or_length : Prefix → Option LengthRead → ℕ
max_or_length p None = p.length
max_or_length p (Some max) = max.0

abbrev pub assertion_of : Prefix × (Asn × Option LengthRead) → Result Vrp SlurmFault
assertion_of (p, (asn, max)) = ok_or (vrp_with p (max_or_length p max) asn) MaxPrefixLength

abbrev pub assertion_in : Data → Result Vrp SlurmFault
assertion_in d =
    unless slurm_fault_number (unless slurm_fault_number (and_then assertion_of
    (both slurm_fault_number (required Members prefix_or_fault (get (codes "prefix") d))
    (both slurm_fault_number (required Members asn_or_fault (get (codes "asn") d))
    (optional length_in (get (codes "maxPrefixLength") d)))))
    (only Members assertion_names d))
    (optional comment_in (get (codes "comment") d))

-- ---- the file

-- what is missing is no array
abbrev pub entries_from : {A : Type 0}
    → (Data → Result A SlurmFault) → Option Items → Result (List A) SlurmFault
entries_from reading None = Err Members
entries_from reading (Some items) = each slurm_fault_number reading (list_of items)

abbrev pub bgpsec_from : Option Items → Result (Unit {0}) SlurmFault
bgpsec_from None = Err Members
bgpsec_from (Some no_items) = Ok tt
bgpsec_from (Some (item d ds)) = Err Bgpsec

-- an object of two arrays: the entries, and what BGPsec adds, of which there must be nothing
abbrev pub part_in : {A : Type 0}
    → (Data → Result A SlurmFault) → List ℕ → List ℕ → Data → Result (List A) SlurmFault
part_in reading entries bgpsec d =
    unless slurm_fault_number (unless slurm_fault_number (entries_from reading (array_at entries d))
    (only Members (entries ∷ bgpsec ∷ []) d))
    (bgpsec_from (array_at bgpsec d))

abbrev pub filters_in : Data → Result (List Filter) SlurmFault
filters_in = part_in filter_in (codes "prefixFilters") (codes "bgpsecFilters")

abbrev pub assertions_in : Data → Result (List Vrp) SlurmFault
assertions_in = part_in assertion_in (codes "prefixAssertions") (codes "bgpsecAssertions")

abbrev pub object_in : Data → Result (Unit {0}) SlurmFault
object_in d = if is_some (as_object d) then Ok tt else Err NotObject

-- the two lists of entries, from these readings of their parts
abbrev pub lists_of : Result (List Filter) SlurmFault → Result (List Vrp) SlurmFault → Data
    → Result (List Filter × List Vrp) SlurmFault
lists_of filters assertions d =
    unless slurm_fault_number (unless slurm_fault_number (unless slurm_fault_number
    (both slurm_fault_number filters assertions)
    (object_in d))
    (only Members file_names d))
    (required Members version_in (get (codes "slurmVersion") d))

abbrev pub lists_in : Data → Result (List Filter × List Vrp) SlurmFault
lists_in d =
    lists_of (required Members filters_in (get (codes "validationOutputFilters") d))
    (required Members assertions_in (get (codes "locallyAddedAssertions") d)) d

abbrev pub slurm_in : Data → Result Exceptions SlurmFault
slurm_in d = and_then (λ lists. exceptions_of lists.0 lists.1) (lists_in d)
