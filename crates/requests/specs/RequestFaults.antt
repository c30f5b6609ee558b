-- The table of requests, and every fault of a line as one of them, wherever it is in the line: the lowest of all is
-- reported.
-- A line is judged by the tree that the JSON reader gives: of a repeated member it has the last value.
use Rattle.std.specs.Prelude.{ℕ, ◌+◌, ◌*◌, nat_le, nat_lt, ◌&&◌, Bool, true, false, not, List, [], ◌∷◌, ◌++◌, map, length, codes, if◌then◌else◌, Option, Some, None, option_map, option_and_then, is_some, find}
use Rattle.std.specs.List.{flat_map, list_any}
use Rattle.std.specs.Option.{option_to_list}
use Rattle.std.specs.Str.{bytes_eq}
use Rattle.addr.specs.Address.{prefix_eq}
use Rattle.registry.specs.Repeats.{has_repeat}
use Rattle.registry.specs.declared.grant.Role.{Role}
use Rattle.requests.specs.declared.request.entries.TheConstants.{MOST_ENTRIES}
use Rattle.serde_json.specs.Data.{Data, Items}
use Rattle.serde_json.specs.Find.{get, as_array, as_str}
use Rattle.json_values.specs.Faults.{fault_unless, lowest, name_faults, reading_faults, required_faults}
use Rattle.json_values.specs.Tree.{tree_of, list_of}
use Rattle.json_values.specs.Values.{as_name, as_prefix, as_day, as_asn}
use Rattle.slurm.specs.Fault.{slurm_fault_number}
use Rattle.slurm.specs.SlurmFaults.{slurm_fault}
use Rattle.slurm.specs.declared.set.TheConstants.{MOST_FILES}
use Rattle.http_messages.specs.declared.method.Method.{Method}
use Rattle.http_messages.specs.declared.method.Method.TheVariants.{Get, Put, Post, Patch, Delete}
use Rattle.http_messages.specs.declared.response.ContentType.{ContentType}
use Rattle.http_messages.specs.declared.response.ContentType.TheVariants.{Csv, Json as JsonText}
use Rattle.requests.specs.declared.path.Path.{Path}
use Rattle.requests.specs.declared.path.Path.TheVariants as path
use Rattle.requests.specs.RequestValues.{as_origin, as_max, as_number, as_role, as_scope}
use Rattle.requests.specs.declared.request.TheConstants.{LINE_LENGTH_LIMIT}
use Rattle.requests.specs.declared.malformed.Malformed.{Malformed}
use Rattle.requests.specs.declared.action.Action.{Action}
use Rattle.requests.specs.declared.action.Action.TheVariants.{Register, Delegate, Transfer, Reclaim, Grant, Revoke, Create, Amend, Withdraw, Slurm, Slurms, Show, Content, List as ListAction, Export, Import, WhatIf, Payloads, Validity}
use Rattle.requests.specs.declared.request.fault.Fault.{Fault}
use Rattle.requests.specs.declared.request.fault.Fault.TheVariants.{Json, Members, Holder, Caller, Prefix, Asn, Max, Day, Role as RoleFault, Number, File, Count, TooLong, Repeated, FileName}
use Rattle.requests.specs.declared.request.lists.TheConstants.{MOST_ITEMS, MOST_CHANGES}

-- the number that is reported
abbrev pub malformed_number : Fault → ℕ
malformed_number Json = 1
malformed_number Members = 2
malformed_number Holder = 3
malformed_number Caller = 4
malformed_number Prefix = 5
malformed_number Asn = 6
malformed_number Max = 7
malformed_number Day = 8
malformed_number RoleFault = 9
malformed_number Number = 10
malformed_number (File fault) = 11
malformed_number Count = 12
malformed_number TooLong = 13
malformed_number Repeated = 14
malformed_number FileName = 15

-- of a SLURM file that is refused, the number of its own fault
abbrev pub slurm_number : Fault → Option ℕ
slurm_number (File fault) = Some (slurm_fault_number fault)
slurm_number _ = None

-- where several faults apply, the one of the lowest number is reported, and of several files' faults the one of the
-- lowest SLURM number, which is below 16
abbrev pub fault_order : Fault → ℕ
fault_order (File fault) = 16 * 11 + slurm_fault_number fault
fault_order fault = 16 * malformed_number fault

abbrev pub as_malformed : Fault → Malformed
as_malformed fault = record { number = malformed_number fault; slurm = slurm_number fault }

-- ---- kinds of members

-- the faults of a value that is to be of a kind, by the object that it is in
abbrev pub Kind : Type 0
Kind = Data → Data → List Fault

abbrev pub holder_name : Kind
holder_name d = reading_faults as_name Holder

abbrev pub caller_name : Kind
caller_name d = reading_faults as_name Caller

abbrev pub prefix : Kind
prefix d = reading_faults as_prefix Prefix

abbrev pub asn : Kind
asn d = reading_faults as_asn Asn

abbrev pub origin : Kind
origin d = reading_faults as_origin Asn

abbrev pub max_length_text : Kind
max_length_text d = reading_faults as_max Max

abbrev pub day : Kind
day d = reading_faults as_day Day

abbrev pub role : Kind
role d = reading_faults as_role RoleFault

-- the role that an object names
abbrev pub role_at : Data → Option Role
role_at d = option_and_then as_role (get (codes "role") d)

abbrev pub scope : Kind
scope d = reading_faults (as_scope (role_at d)) RoleFault

abbrev pub number : Kind
number d = reading_faults as_number Number

-- of what is to be a SLURM file, or is no JSON; of its own faults the lowest is reported
abbrev pub sent_file_faults : Option Data → List Fault
sent_file_faults found = map File (option_to_list (slurm_fault found))

abbrev pub file : Kind
file d value = sent_file_faults (Some value)

-- `do` is judged before its request is
abbrev pub any_value : Kind
any_value d value = []

-- ---- objects and lists of objects

abbrev pub names_of : List (List ℕ × Kind) → List (List ℕ)
names_of members = map (λ m. m.0) members

-- of each of these members, which have to be there
abbrev pub member_faults : List (List ℕ × Kind) → Data → List Fault
member_faults members d = flat_map (λ m. required_faults Members (m.1 d) (get m.0 d)) members

-- of what is to be an object with each of these members and with no other
abbrev pub object_faults : List (List ℕ × Kind) → Data → List Fault
object_faults members d =
    member_faults members d
    ++ name_faults Members (names_of members) d

abbrev pub is_count : ℕ → ℕ → ℕ → Bool
is_count least most n = nat_le least n && nat_le n most

-- of what is to be an array of `least` to `most` items, each of which may have faults of its own
abbrev pub list_faults : (Data → List Fault) → ℕ → ℕ → Option Items → List Fault
list_faults item_faults least most None = Members ∷ []
list_faults item_faults least most (Some items) =
    flat_map item_faults (list_of items)
    ++ fault_unless (is_count least most (length (list_of items))) Count

-- the values of a member, in items that have one
abbrev pub values_in : {A : Type 0} → (Data → Option A) → List ℕ → List Data → List A
values_in reading name items =
    flat_map (λ d. option_to_list (option_and_then reading (get name d))) items

-- of items, two of which have the same value of a member
abbrev pub repeat_faults : {A : Type 0}
    → (A → A → Bool) → (Data → Option A) → List ℕ → Fault → Option Items → List Fault
repeat_faults same reading name fault None = []
repeat_faults same reading name fault (Some items) =
    fault_unless (not (has_repeat same (values_in reading name (list_of items)))) fault

-- ---- a choice of members

-- some member of one of these names is there
abbrev pub has_some : List (List ℕ) → Data → Bool
has_some names d = list_any (λ name. is_some (get name d)) names

-- where a member of the one list is there and none of the other, the faults of the one
abbrev pub chosen_faults : Bool → Bool → List Fault → List Fault → List Fault
chosen_faults true false one other = one
chosen_faults false true one other = other
chosen_faults has_one has_other one other = Members ∷ []

-- the members of one of two lists
abbrev pub Choice : Type 0
Choice = List (List ℕ × Kind) × List (List ℕ × Kind)

-- which of the two it is, the names tell that are there
abbrev pub choice_faults : Choice → Data → List Fault
choice_faults choice d =
    chosen_faults (has_some (names_of choice.0) d) (has_some (names_of choice.1) d)
    (member_faults choice.0 d) (member_faults choice.1 d)

abbrev pub choice_names : Choice → List (List ℕ)
choice_names choice = names_of choice.0 ++ names_of choice.1

-- of each of these members and each of these choices
abbrev pub members_and_choices_faults : List (List ℕ × Kind) → List Choice → Data → List Fault
members_and_choices_faults members choices d =
    member_faults members d ++ flat_map (λ choice. choice_faults choice d) choices

abbrev pub part_names : List (List ℕ × Kind) → List Choice → List (List ℕ)
part_names members choices = names_of members ++ flat_map choice_names choices

-- of what is to be an object with all of these and with no other member
abbrev pub object_faults_by_choice : List (List ℕ × Kind) → List Choice → Data → List Fault
object_faults_by_choice members choices d =
    members_and_choices_faults members choices d ++ name_faults Members (part_names members choices) d

-- ---- entries and their maxLengths

-- an entry is a prefix with its maxLength
abbrev pub entry_members : List (List ℕ × Kind)
entry_members = (codes "prefix", prefix) ∷ (codes "max", max_length_text) ∷ []

abbrev pub entry_list : Kind
entry_list d value =
    list_faults (object_faults entry_members) 1 MOST_ENTRIES (as_array value)
    ++ repeat_faults prefix_eq as_prefix (codes "prefix") Repeated (as_array value)

-- of a create: the members of one entry, or a list
abbrev pub entry_choice : Choice
entry_choice = (entry_members, (codes "entries", entry_list) ∷ [])

abbrev pub max_lengths : Kind
max_lengths d value = list_faults (reading_faults as_max Max) 1 MOST_ENTRIES (as_array value)

-- of an amendment: one maxLength, or a list
abbrev pub max_choice : Choice
max_choice = ((codes "max", max_length_text) ∷ [], (codes "maxes", max_lengths) ∷ [])

-- ---- SLURM files and their names

abbrev pub file_name : Kind
file_name d = reading_faults as_name FileName

-- a file and the name that it has in a set
abbrev pub file_members : List (List ℕ × Kind)
file_members = (codes "name", file_name) ∷ (codes "file", file) ∷ []

-- no file at all is a set too
abbrev pub file_list : Kind
file_list d value =
    list_faults (object_faults file_members) 0 MOST_FILES (as_array value)
    ++ repeat_faults bytes_eq as_name (codes "name") FileName (as_array value)

-- of a set: one file, or a list
abbrev pub file_choice : Choice
file_choice = ((codes "file", file) ∷ [], (codes "files", file_list) ∷ [])

-- ---- actions

-- the requests, in the order of their table
abbrev pub all_actions : List Action
all_actions =
    Register ∷ Delegate ∷ Reclaim ∷ Transfer ∷ Grant ∷ Revoke ∷ ListAction ∷ Create ∷ Show ∷ Amend ∷ Withdraw
    ∷ Content ∷ Export ∷ Import ∷ WhatIf ∷ Slurm ∷ Slurms ∷ Payloads ∷ Validity ∷ []

-- the word of a request in the member `do`, which a change has too; an export is no line, and both paths of
-- SLURM files have one word
abbrev pub word_of : Action → Option (List ℕ)
word_of Register = Some (codes "register")
word_of Delegate = Some (codes "delegate")
word_of Reclaim = Some (codes "reclaim")
word_of Transfer = Some (codes "transfer")
word_of Grant = Some (codes "grant")
word_of Revoke = Some (codes "revoke")
word_of ListAction = Some (codes "list")
word_of Create = Some (codes "create")
word_of Show = Some (codes "show")
word_of Amend = Some (codes "amend")
word_of Withdraw = Some (codes "withdraw")
word_of Content = Some (codes "content")
word_of Export = None
word_of Import = Some (codes "import")
word_of WhatIf = Some (codes "whatif")
word_of Slurm = Some (codes "slurm")
word_of Slurms = None
word_of Payloads = Some (codes "payloads")
word_of Validity = Some (codes "validity")

abbrev pub is_word : List ℕ → Option (List ℕ) → Bool
is_word text None = false
is_word text (Some word) = bytes_eq word text

-- what a member `do` says
abbrev pub action_of : List ℕ → Option Action
action_of text = find (λ action. is_word text (word_of action)) all_actions

abbrev pub action_in : Data → Option Action
action_in d = option_and_then action_of (option_and_then as_str (get (codes "do") d))

-- ---- rows, changes and routes

-- what an authorization says beside its entries
abbrev pub terms_members : List (List ℕ × Kind)
terms_members = (codes "asn", asn) ∷ (codes "from", day) ∷ (codes "until", day) ∷ []

-- of a row of an import, which has one entry
abbrev pub row_members : List (List ℕ × Kind)
row_members = terms_members ++ entry_members

abbrev pub rows : Kind
rows d value = list_faults (object_faults row_members) 1 MOST_ITEMS (as_array value)

abbrev pub creation_members : List (List ℕ × Kind)
creation_members = (codes "do", any_value) ∷ terms_members

abbrev pub withdrawal_members : List (List ℕ × Kind)
withdrawal_members = (codes "do", any_value) ∷ (codes "number", number) ∷ []

-- of a change by what it does, if it is known
abbrev pub change_faults : Option Action → Data → List Fault
change_faults (Some Create) d = object_faults_by_choice creation_members (entry_choice ∷ []) d
change_faults (Some Withdraw) d = object_faults withdrawal_members d
change_faults other d = Members ∷ []

abbrev pub changes : Kind
changes d value =
    list_faults (λ change. change_faults (action_in change) change) 0 MOST_CHANGES (as_array value)

abbrev pub route_members : List (List ℕ × Kind)
route_members = (codes "prefix", prefix) ∷ (codes "origin", origin) ∷ []

abbrev pub routes : Kind
routes d value = list_faults (object_faults route_members) 1 MOST_ITEMS (as_array value)

-- ---- requests

-- what a request names: a line by a member, an HTTP request in its path
pub data Named : Type 0 where
  HolderName : Named
  NumberGiven : Named

-- how a request is written: what it names, the members and the choices of what it says further, of which the body of an
-- HTTP request is made, its method and path, and the form in which it asks for a list
pub record RequestForm : Type 0 where
  pub names : List Named
  pub members : List (List ℕ × Kind)
  pub choices : List Choice
  pub method : Method
  pub path : Path
  pub list_form : ContentType

abbrev json_form : List Named → List (List ℕ × Kind) → Method → Path → RequestForm
json_form names members method at = record {
  names = names;
  members = members;
  choices = [];
  method = method;
  path = at;
  list_form = JsonText;
}

abbrev with_choice : Choice → RequestForm → RequestForm
with_choice choice form = record form { choices = choice ∷ [] }

abbrev plain_form : List (List ℕ × Kind) → Method → Path → RequestForm
plain_form = json_form []

abbrev holder_form : List (List ℕ × Kind) → Method → Path → RequestForm
holder_form = json_form (HolderName ∷ [])

abbrev number_form : List (List ℕ × Kind) → Method → Path → RequestForm
number_form = json_form (HolderName ∷ NumberGiven ∷ [])

-- the table of requests
abbrev pub form_of : Action → RequestForm
form_of Register = holder_form [] Put path.Holder
form_of Delegate = holder_form ((codes "prefix", prefix) ∷ []) Post path.Delegations
form_of Reclaim = holder_form ((codes "prefix", prefix) ∷ []) Post path.Reclaims
form_of Transfer =
    plain_form ((codes "prefix", prefix) ∷ (codes "giver", holder_name) ∷ (codes "taker", holder_name) ∷ [])
    Post path.Transfers
form_of Grant =
    holder_form
    ((codes "name", caller_name) ∷ (codes "role", role) ∷ (codes "scope", scope) ∷ (codes "until", day) ∷ [])
    Post path.Grants
form_of Revoke = number_form [] Delete path.Grant
form_of ListAction = holder_form [] Get path.Auths
form_of Create = with_choice entry_choice (holder_form terms_members Post path.Auths)
form_of Show = number_form [] Get path.Auth
form_of Amend = with_choice max_choice (number_form ((codes "until", day) ∷ []) Patch path.Auth)
form_of Withdraw = number_form [] Delete path.Auth
form_of Content = number_form [] Get path.Content
form_of Export =
    record (holder_form [] Get path.Export) { list_form = Csv }
form_of Import = holder_form ((codes "rows", rows) ∷ []) Post path.Imports
form_of WhatIf = holder_form ((codes "changes", changes) ∷ (codes "routes", routes) ∷ []) Post path.WhatIf
form_of Slurm = with_choice file_choice (plain_form [] Put path.Slurm)
form_of Slurms = plain_form ((codes "files", file_list) ∷ []) Put path.Slurms
form_of Payloads = plain_form [] Get path.Payloads
form_of Validity = plain_form ((codes "routes", routes) ∷ []) Post path.Validity

abbrev pub named_by : Action → List Named
named_by action = (form_of action).names

abbrev pub body_members : Action → List (List ℕ × Kind)
body_members action = (form_of action).members

abbrev pub choices_of : Action → List Choice
choices_of action = (form_of action).choices

abbrev pub body_names : Action → List (List ℕ)
body_names action = part_names (body_members action) (choices_of action)

abbrev pub named_member : Named → List ℕ × Kind
named_member HolderName = (codes "holder", holder_name)
named_member NumberGiven = (codes "number", number)

-- the members of a line, beside its choices
abbrev pub members_of : Action → List (List ℕ × Kind)
members_of action =
    (codes "day", day) ∷ (codes "caller", caller_name) ∷ (codes "do", any_value)
    ∷ map named_member (named_by action) ++ body_members action

abbrev pub line_names : Action → List (List ℕ)
line_names action = part_names (members_of action) (choices_of action)

abbrev pub action_faults : Option Action → Data → List Fault
action_faults None d = Members ∷ []
action_faults (Some action) d = object_faults_by_choice (members_of action) (choices_of action) d

abbrev pub tree_faults : Option Data → List Fault
tree_faults None = Json ∷ []
tree_faults (Some d) = action_faults (action_in d) d

-- the faults of a line; one that is too long has that fault alone
abbrev pub request_faults : List ℕ → List Fault
request_faults line =
    if nat_lt LINE_LENGTH_LIMIT (length line) then TooLong ∷ [] else tree_faults (tree_of line)

-- the answer to a line that is over the limit
abbrev pub too_long : Malformed
too_long = as_malformed TooLong

-- what is reported of these faults
abbrev pub malformed_of : List Fault → Option Malformed
malformed_of faults = option_map as_malformed (lowest fault_order faults)

-- why a line is no request
abbrev pub request_fault : List ℕ → Option Malformed
request_fault line = malformed_of (request_faults line)
