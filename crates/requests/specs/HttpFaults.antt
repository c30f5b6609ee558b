-- Every fault of an HTTP request whose head is taken: in the path, in the field of the caller or in the body. The lowest
-- of all is reported, with the number that it has in a line.
use Rattle.std.specs.Prelude.{ℕ, List, [], ◌∷◌, ◌++◌, map, Option, Some, None, is_some, option_and_then}
use Rattle.std.specs.List.{flat_map}
use Rattle.std.specs.Option.{option_to_list}
use Rattle.addr.specs.Digits.{number_in}
use Rattle.addr.specs.Name.{name_in}
use Rattle.registry.specs.declared.limits.TheConstants.{LAST_NUMBER}
use Rattle.serde_json.specs.Data.{Data, null}
use Rattle.json_values.specs.Faults.{fault_unless}
use Rattle.json_values.specs.Tree.{tree_of}
use Rattle.json_values.specs.Values.{number_between}
use Rattle.requests.specs.RequestHeads.{Head}
use Rattle.requests.specs.declared.action.Action.{Action}
use Rattle.requests.specs.declared.action.Action.TheVariants.{Import, Slurm}
use Rattle.csv_records.specs.Imports.{import_fault}
use Rattle.csv_records.specs.declared.imports.ImportFault.{ImportFault}
use Rattle.csv_records.specs.declared.imports.ImportFault.TheVariants as import_fault
use Rattle.requests.specs.RequestFaults.{body_members, choices_of, sent_file_faults, malformed_of, named_by, Named, HolderName, NumberGiven, object_faults_by_choice, members_and_choices_faults}
use Rattle.requests.specs.declared.malformed.Malformed.{Malformed}
use Rattle.requests.specs.declared.request.fault.Fault.{Fault}
use Rattle.requests.specs.declared.request.fault.Fault.TheVariants.{Json, Members, Holder, Caller, Prefix, Asn, Max, Day, Number, Count}

-- the number of a grant or an authorization, in decimal digits without leading zeros
abbrev pub path_number : List ℕ → Option ℕ
path_number text = option_and_then (number_between 1 LAST_NUMBER) (number_in text)

-- the name in the one field of the caller
abbrev pub head_caller : Head → Option (List ℕ)
head_caller head = option_and_then name_in head.caller

-- of what the path names
abbrev pub path_faults : Head → Named → List Fault
path_faults head HolderName = fault_unless (is_some (name_in head.holder)) Holder
path_faults head NumberGiven = fault_unless (is_some (path_number head.number)) Number

-- ---- bodies

abbrev pub parsed_body_faults : Action → Option Data → List Fault
parsed_body_faults action None = Json ∷ []
parsed_body_faults action (Some d) = object_faults_by_choice (body_members action) (choices_of action) d

-- of a body that is to be an object; where there is none, every member that it ought to have is missing
abbrev pub object_body_faults : Action → Option (List ℕ) → List Fault
object_body_faults action None = members_and_choices_faults (body_members action) (choices_of action) null
object_body_faults action (Some bytes) = parsed_body_faults action (tree_of bytes)

-- the JSON value of a body, null where there is none
abbrev pub json_tree : Option (List ℕ) → Option Data
json_tree None = Some null
json_tree (Some bytes) = tree_of bytes

-- the bytes of a body, no bytes where there is none
abbrev pub body_bytes : Option (List ℕ) → List ℕ
body_bytes None = []
body_bytes (Some bytes) = bytes

-- a fault of an import, as one of the request
abbrev pub fault_of_import : ImportFault → Fault
fault_of_import import_fault.Form = Members
fault_of_import import_fault.Prefix = Prefix
fault_of_import import_fault.Asn = Asn
fault_of_import import_fault.Max = Max
fault_of_import import_fault.Day = Day
fault_of_import import_fault.Count = Count

-- of a text that is to be an import; of its own faults the lowest is reported
abbrev pub sent_import_faults : List ℕ → List Fault
sent_import_faults text = map fault_of_import (option_to_list (import_fault text))

-- a SLURM file is the whole of its body, and an import is CSV
abbrev pub body_faults : Action → Option (List ℕ) → List Fault
body_faults Slurm body = sent_file_faults (json_tree body)
body_faults Import body = sent_import_faults (body_bytes body)
body_faults action body = object_body_faults action body

abbrev pub http_faults : Head → Option (List ℕ) → List Fault
http_faults head body =
    fault_unless (is_some (head_caller head)) Caller
    ++ flat_map (path_faults head) (named_by head.action)
    ++ body_faults head.action body

-- why a head and its body are no request
abbrev pub http_fault : Head → Option (List ℕ) → Option Malformed
http_fault head body = malformed_of (http_faults head body)
