-- The values that lines and SLURM files write in JSON: texts as addr reads them, and whole numbers.
-- A number is unsigned in a JSON tree exactly where it is written as plain decimal digits and is
-- below 2 ^ 64.
use Rattle.std.specs.Prelude.{ℕ, ◌^◌, nat_le, nat_lt, ◌&&◌, if◌then◌else◌, List, Option, Some, None, option_and_then}
use Rattle.addr.specs.Day.{day_in}
use Rattle.addr.specs.Name.{name_in}
use Rattle.addr.specs.PrefixText.{spelled_prefix}
use Rattle.addr.specs.declared.asn.Asn.{Asn}
use Rattle.addr.specs.declared.prefix.Prefix.{Prefix}
use Rattle.serde_json.specs.Data.{Data}
use Rattle.serde_json.specs.Find.{as_number, as_str, as_u64}

abbrev pub as_name : Data → Option (List ℕ)
as_name d = option_and_then name_in (as_str d)

abbrev pub as_prefix : Data → Option Prefix
as_prefix d = option_and_then spelled_prefix (as_str d)

abbrev pub as_day : Data → Option ℕ
as_day d = option_and_then day_in (as_str d)

abbrev pub whole_number : Data → Option ℕ
whole_number d = option_and_then as_u64 (as_number d)

abbrev pub asn_of : ℕ → Option Asn
asn_of n = if nat_lt n (2 ^ 32) then Some (record { 0 = n }) else None

abbrev pub as_asn : Data → Option Asn
as_asn d = option_and_then asn_of (whole_number d)

abbrev pub number_between : ℕ → ℕ → ℕ → Option ℕ
number_between least most n = if nat_le least n && nat_le n most then Some n else None

abbrev pub as_number_in : ℕ → ℕ → Data → Option ℕ
as_number_in least most d = option_and_then (number_between least most) (whole_number d)
