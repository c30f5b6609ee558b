-- Every fault of a JSON tree as a SLURM file, wherever in the tree it is. The lowest of all is
-- reported.
use Rattle.std.specs.Prelude.{ℕ, ◌+◌, ◌||◌, ◌==◌, nat_le, Bool, true, false, List, [], ◌∷◌, ◌++◌, length, codes, Option, Some, None, is_some, option_and_then}
use Rattle.std.specs.List.{flat_map}
use Rattle.addr.specs.Address.{fits_max_length}
use Rattle.addr.specs.declared.prefix.Prefix.{Prefix}
use Rattle.serde_json.specs.Data.{Data, Items, no_items, item}
use Rattle.serde_json.specs.Find.{get, as_object, as_array, as_str}
use Rattle.json_values.specs.Faults.{fault_unless, lowest, name_faults, optional_faults, reading_faults, required_faults}
use Rattle.json_values.specs.Tree.{list_of}
use Rattle.json_values.specs.Values.{as_asn, as_prefix, whole_number}
use Rattle.slurm.specs.Fault.{slurm_fault_number}
use Rattle.slurm.specs.declared.exceptions.TheConstants.{MOST_ENTRIES}
use Rattle.slurm.specs.declared.fault.SlurmFault.{SlurmFault}
use Rattle.slurm.specs.declared.fault.SlurmFault.TheVariants.{NotJson, NotObject, Members, Version, Bgpsec, Prefix as PrefixFault, Asn as AsnFault, MaxPrefixLength, EmptyFilter, Comment, TooMany}

-- ---- members

abbrev pub prefix_faults : Data → List SlurmFault
prefix_faults = reading_faults as_prefix PrefixFault

abbrev pub asn_faults : Data → List SlurmFault
asn_faults = reading_faults as_asn AsnFault

abbrev pub comment_faults : Data → List SlurmFault
comment_faults = reading_faults as_str Comment

abbrev pub is_one : Option ℕ → Bool
is_one None = false
is_one (Some n) = n == 1

abbrev pub version_faults : Data → List SlurmFault
version_faults d = fault_unless (is_one (whole_number d)) Version

-- one that fits the prefix; of a prefix that cannot be read, any whole number
abbrev pub is_max_length : Option Prefix → Option ℕ → Bool
is_max_length p None = false
is_max_length None (Some n) = true
is_max_length (Some p) (Some n) = fits_max_length p n

abbrev pub max_length_faults : Option Prefix → Data → List SlurmFault
max_length_faults p d = fault_unless (is_max_length p (whole_number d)) MaxPrefixLength

-- ---- entries

abbrev pub filter_names : List (List ℕ)
filter_names = codes "prefix" ∷ codes "asn" ∷ codes "comment" ∷ []

abbrev pub filter_faults : Data → List SlurmFault
filter_faults d =
    optional_faults prefix_faults (get (codes "prefix") d)
    ++ optional_faults asn_faults (get (codes "asn") d)
    ++ fault_unless (is_some (get (codes "prefix") d) || is_some (get (codes "asn") d)) EmptyFilter
    ++ name_faults Members filter_names d
    ++ optional_faults comment_faults (get (codes "comment") d)

abbrev pub assertion_names : List (List ℕ)
assertion_names = codes "prefix" ∷ codes "asn" ∷ codes "maxPrefixLength" ∷ codes "comment" ∷ []

abbrev pub prefix_member : Data → Option Prefix
prefix_member d = option_and_then as_prefix (get (codes "prefix") d)

abbrev pub assertion_faults : Data → List SlurmFault
assertion_faults d =
    required_faults Members prefix_faults (get (codes "prefix") d)
    ++ required_faults Members asn_faults (get (codes "asn") d)
    ++ optional_faults (max_length_faults (prefix_member d)) (get (codes "maxPrefixLength") d)
    ++ name_faults Members assertion_names d
    ++ optional_faults comment_faults (get (codes "comment") d)

-- ---- the file

abbrev pub array_at : List ℕ → Data → Option Items
array_at name d = option_and_then as_array (get name d)

abbrev pub items_at : Option Items → List Data
items_at None = []
items_at (Some items) = list_of items

-- of what has to be an array
abbrev pub entries_faults : (Data → List SlurmFault) → Option Items → List SlurmFault
entries_faults faults None = Members ∷ []
entries_faults faults (Some items) = flat_map faults (list_of items)

abbrev pub bgpsec_faults : Option Items → List SlurmFault
bgpsec_faults None = Members ∷ []
bgpsec_faults (Some no_items) = []
bgpsec_faults (Some (item d ds)) = Bgpsec ∷ []

abbrev pub part_faults : (Data → List SlurmFault) → List ℕ → List ℕ → Data → List SlurmFault
part_faults faults entries bgpsec d =
    entries_faults faults (array_at entries d)
    ++ name_faults Members (entries ∷ bgpsec ∷ []) d
    ++ bgpsec_faults (array_at bgpsec d)

abbrev pub filters_faults : Data → List SlurmFault
filters_faults = part_faults filter_faults (codes "prefixFilters") (codes "bgpsecFilters")

abbrev pub assertions_faults : Data → List SlurmFault
assertions_faults =
    part_faults assertion_faults (codes "prefixAssertions") (codes "bgpsecAssertions")

-- the entries of that name in that part of the file
abbrev pub entries_at : List ℕ → List ℕ → Data → List Data
entries_at part entries d = items_at (option_and_then (array_at entries) (get part d))

abbrev pub filters_at : Data → List Data
filters_at = entries_at (codes "validationOutputFilters") (codes "prefixFilters")

abbrev pub assertions_at : Data → List Data
assertions_at = entries_at (codes "locallyAddedAssertions") (codes "prefixAssertions")

abbrev pub entry_count : Data → ℕ
entry_count d = length (filters_at d) + length (assertions_at d)

abbrev pub file_names : List (List ℕ)
file_names =
    codes "slurmVersion" ∷ codes "validationOutputFilters" ∷ codes "locallyAddedAssertions" ∷ []

abbrev pub file_faults : Data → List SlurmFault
file_faults d =
    required_faults Members filters_faults (get (codes "validationOutputFilters") d)
    ++ required_faults Members assertions_faults (get (codes "locallyAddedAssertions") d)
    ++ fault_unless (is_some (as_object d)) NotObject
    ++ name_faults Members file_names d
    ++ required_faults Members version_faults (get (codes "slurmVersion") d)
    ++ fault_unless (nat_le (entry_count d) MOST_ENTRIES) TooMany

-- the lowest fault, if there is one; bytes that are no JSON text have no tree
abbrev pub slurm_fault : Option Data → Option SlurmFault
slurm_fault None = Some NotJson
slurm_fault (Some d) = lowest slurm_fault_number (file_faults d)
