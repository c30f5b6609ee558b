-- The length of a set of VRPs as CSV.
use Rattle.std.specs.Prelude.{◌<◌, ◌^◌, ℕ, List, Option, length}
use Rattle.std.specs.Option.{SomeIff}
use Rattle.csv_records.specs.Lines.{csv_text, payload_header, payload_row}
use Rattle.payload.specs.VrpSet as set

-- rising, with the header
abbrev pub csv_of : set.VrpSet → List ℕ
csv_of vrps = csv_text payload_header payload_row (set.items vrps)

-- the number of octets, where a `u64` counts it
abbrev pub IsCsvLength : set.VrpSet → Option ℕ → Type 0
IsCsvLength vrps result = SomeIff result (length (csv_of vrps) < 2 ^ 64) (length (csv_of vrps))
