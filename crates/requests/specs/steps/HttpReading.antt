-- A step of the code, not a definition: how it reads the request of an HTTP message, from all of its parts at once.
use Rattle.std.specs.Prelude.{ℕ, List, Option, Some, None, Result, Ok, Err}
use Rattle.std.specs.Option.{ok_or}
use Rattle.std.specs.Result.{result_map_both}
use Rattle.addr.specs.Name.{name_in}
use Rattle.serde_json.specs.Data.{Data, null}
use Rattle.json_values.specs.Tree.{tree_of}
use Rattle.registry.specs.declared.authorization.ImportRow.{ImportRow}
use Rattle.csv_records.specs.steps.Importing.{import_in}
use Rattle.requests.specs.RequestHeads.{Head}
use Rattle.requests.specs.declared.action.Action.{Action}
use Rattle.requests.specs.declared.action.Action.TheVariants.{Import, Slurm}
use Rattle.requests.specs.HttpFaults.{body_bytes, head_caller, fault_of_import, json_tree, path_number}
use Rattle.requests.specs.RequestFaults.{body_names}
use Rattle.requests.specs.declared.request.commands.Subject.{Subject}
use Rattle.requests.specs.declared.request.fault.Fault.{Fault}
use Rattle.requests.specs.declared.request.fault.Fault.TheVariants.{Json, Holder, Caller, Number}
use Rattle.requests.specs.steps.RequestReading.{AskedTerms, RequestTerms, asked_with, import, main_file_of, of_two, request_in, slurm_request, with_only}

abbrev pub path_subject : Head → Subject
path_subject head = record {
  holder = ok_or (name_in head.holder) Holder;
  number = ok_or (path_number head.number) Number;
}

abbrev pub caller_of : Head → Result (List ℕ) Fault
caller_of head = ok_or (head_caller head) Caller

abbrev pub object_request : Action → Subject → Data → Result RequestTerms Fault
object_request action subject d = with_only (body_names action) d (request_in action subject d)

abbrev pub tree_request : Action → Subject → Option Data → Result RequestTerms Fault
tree_request action subject None = Err Json
tree_request action subject (Some d) = object_request action subject d

abbrev pub object_body : Action → Subject → Option (List ℕ) → Result RequestTerms Fault
object_body action subject None = request_in action subject null
object_body action subject (Some bytes) = tree_request action subject (tree_of bytes)

abbrev pub import_rows : List ℕ → Result (List ImportRow) Fault
import_rows text = result_map_both (λ rows. rows) fault_of_import (import_in text)

abbrev pub import_body : Subject → Option (List ℕ) → Result RequestTerms Fault
import_body subject body = of_two import subject.holder (import_rows (body_bytes body))

abbrev pub request_by : Action → Subject → Option (List ℕ) → Result RequestTerms Fault
request_by Slurm subject body = slurm_request (main_file_of (json_tree body))
request_by Import subject body = import_body subject body
request_by action subject body = object_body action subject body

abbrev pub request_of : Head → Option (List ℕ) → Result RequestTerms Fault
request_of head body = request_by head.action (path_subject head) body

-- the request of a head and a body on the day, or its lowest fault
abbrev pub asked_of : ℕ → Head → Option (List ℕ) → Result AskedTerms Fault
asked_of day head body = asked_with (Ok day) (caller_of head) (request_of head body)
