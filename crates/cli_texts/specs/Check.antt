-- What `roadesk check` prints: a line for each route, in the file's order, with its validation state over
-- the set of the VRPs (RFC 6811 section 2).
use Rattle.std.specs.Prelude.{◌≡◌, ℕ, List, [], ◌∷◌, ◌++◌, map, Option, Some, None}
use Rattle.addr.specs.OriginValidation.{state_text, validation_state}
use Rattle.addr.specs.declared.route.Route.{Route}
use Rattle.addr.specs.declared.vrp.Vrp.{Vrp}
use Rattle.payload.specs.VrpSet as set
use Rattle.std.specs.Prelude.{Bool, true, option_map}
use Rattle.streams.specs.Streams.{AppendsBeginning}
use Rattle.cli_texts.specs.ProgramFaults.{fault_of_file}
use Rattle.cli_texts.specs.declared.fault.InputFile.TheVariants.{Payloads, Routes}
use Rattle.cli_texts.specs.declared.fault.ProgramFault.{ProgramFault}
use Rattle.cli_texts.specs.declared.fault.ProgramFault.TheVariants as fault
use Rattle.csv_records.specs.CsvRecords.{csv_records}
use Rattle.cli_texts.specs.CsvRows.{file_fault, or_else, origin_text, payload_fault, route_fault, route_header, route_row}
use Rattle.csv_records.specs.Lines.{payload_header, payload_row, prefix_text}

-- `prefix,origin,state` and a line feed
abbrev pub state_line : set.VrpSet → Route → List ℕ
state_line vrps r =
    prefix_text r.prefix ++ 44 ∷ origin_text r.origin ++ 44 ∷ state_text (validation_state (set.items vrps) r) ++ 10 ∷ []

abbrev pub state_lines : set.VrpSet → List Route → List ℕ
state_lines vrps [] = []
state_lines vrps (r ∷ routes) = state_line vrps r ++ state_lines vrps routes

-- the files are these VRPs and these routes, each under its header
pub record AreCheckFiles (payloads routes : List ℕ) (vrps : List Vrp) (announced : List Route) : Type 0 where
  pub payload_file : csv_records payloads ≡ payload_header ∷ map payload_row vrps
  pub route_file : csv_records routes ≡ route_header ∷ map route_row announced

-- the payload file has no fault, and these are its VRPs
pub record AreVrpsOf (payloads : List ℕ) (vrps : set.VrpSet) : Type 0 where
  pub faultless : file_fault payload_header payload_fault (csv_records payloads) ≡ None
  pub listed : List Vrp
  pub file : csv_records payloads ≡ payload_header ∷ map payload_row listed
  pub same : vrps ≡ set.from_list listed

-- the text is the lines of a check of the two files
abbrev pub JudgesFiles : List ℕ → List ℕ → List ℕ → Type 0
JudgesFiles payloads routes text = (vrps : List Vrp) × (announced : List Route)
    × AreCheckFiles payloads routes vrps announced
    × (text ≡ state_lines (set.from_list vrps) announced)

-- the first fault of the payload file, or else of the route file
abbrev pub check_fault : List ℕ → List ℕ → Option ProgramFault
check_fault payloads routes = or_else
    (option_map (fault_of_file Payloads) (file_fault payload_header payload_fault (csv_records payloads)))
    (option_map (fault_of_file Routes) (file_fault route_header route_fault (csv_records routes)))

-- how a check ends early: where an allocation failed, or where the content of a file is refused, it has written
-- nothing, and where the drain failed, a beginning of the lines
abbrev pub EndsCheck : ProgramFault → List ℕ → List ℕ → List ℕ → List ℕ → Bool → Type 0
EndsCheck fault.Memory payloads routes old new failed = new ≡ old
EndsCheck fault.Stream payloads routes old new failed = (text : List ℕ) × JudgesFiles payloads routes text
    × AppendsBeginning old new text × (failed ≡ true)
EndsCheck (fault.Header which) payloads routes old new failed = (check_fault payloads routes ≡ Some (fault.Header which)) × (new ≡ old)
EndsCheck (fault.Row which k why) payloads routes old new failed = (check_fault payloads routes ≡ Some (fault.Row which k why)) × (new ≡ old)
EndsCheck fault.Words payloads routes old new failed = ⊥
EndsCheck fault.Day payloads routes old new failed = ⊥
EndsCheck fault.File payloads routes old new failed = ⊥
EndsCheck fault.Database payloads routes old new failed = ⊥
EndsCheck fault.Socket payloads routes old new failed = ⊥
EndsCheck fault.CharterCount payloads routes old new failed = ⊥
EndsCheck fault.Schema payloads routes old new failed = ⊥
EndsCheck fault.Exists payloads routes old new failed = ⊥
