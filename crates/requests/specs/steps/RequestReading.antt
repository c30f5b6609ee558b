-- A step of the code, not a definition: how it reads a request, from all of its parts at once, so that it finds the
-- lowest fault. `RequestFaults` defines which faults a line has, `RequestText` which request it is.
use Rattle.std.specs.Prelude.{ℕ, nat_lt, Bool, true, false, List, [], ◌∷◌, length, codes, if◌then◌else◌, Option, Some, None, option_and_then, Result, Ok, Err}
use Rattle.std.specs.Option.{ok_or}
use Rattle.std.specs.Result.{result_map_both}
use Rattle.std.specs.Ordering.{is_lt}
use Rattle.std.specs.Str.{bytes_eq}
use Rattle.std.specs.declared.cmp.Ordering.{Ordering}
use Rattle.addr.specs.Order.{prefix_cmp}
use Rattle.addr.specs.declared.prefix.Prefix.{Prefix}
use Rattle.addr.specs.declared.route.Route.{Route}
use Rattle.registry.specs.Repeats.{has_repeat}
use Rattle.registry.specs.declared.authorization.AuthTerms.{AuthTerms}
use Rattle.registry.specs.declared.authorization.ImportRow.{ImportRow}
use Rattle.addr.specs.declared.roa_prefix.RoaPrefix.{RoaPrefix}
use Rattle.requests.specs.declared.request.entries.TheConstants.{MOST_ENTRIES}
use Rattle.registry.specs.RoaPrefixes.{repeats_prefix}
use Rattle.registry.specs.declared.command.Command.{Command}
use Rattle.registry.specs.declared.command.Command.TheVariants.{Register, Delegate, Transfer, Reclaim, Grant, Revoke, Create, Amend, Withdraw, Import, Slurm}
use Rattle.registry.specs.declared.command.Proposed.{Proposed}
use Rattle.registry.specs.declared.grant.GrantTerms.{GrantTerms}
use Rattle.registry.specs.declared.command.Proposed.TheVariants.{Create as CreateChange, Withdraw as WithdrawChange}
use Rattle.registry.specs.declared.command.Query.{Query}
use Rattle.registry.specs.declared.command.Query.TheVariants.{Show, Content, List as ListQuery, Payloads, Validity, WhatIf}
use Rattle.serde_json.specs.Data.{Data, Items}
use Rattle.serde_json.specs.Find.{get, as_array}
use Rattle.json_values.specs.Parts.{and_then, both, mapped, unless, each}
use Rattle.json_values.specs.Tree.{tree_of, required, only, list_of}
use Rattle.slurm.specs.Exceptions.{Exceptions}
use Rattle.slurm.specs.SlurmSets.{name_cmp}
use Rattle.slurm.specs.declared.set.NamedSlurm.{NamedSlurm}
use Rattle.slurm.specs.declared.set.TheConstants.{MOST_FILES}
use Rattle.slurm.specs.declared.fault.SlurmFault.TheVariants.{NotJson}
use Rattle.slurm.specs.steps.SlurmFile.{slurm_in}
use Rattle.registry.specs.declared.asked.Asked.{Asked}
use Rattle.registry.specs.declared.asked.Request.{Request}
use Rattle.registry.specs.declared.asked.Request.TheVariants.{Command as CommandRequest, Query as QueryRequest}
use Rattle.requests.specs.RequestFaults.{fault_order, role_at, row_members, creation_members, withdrawal_members, route_members, names_of, part_names, is_count, has_some, entry_choice, entry_members, file_members, action_in, line_names}
use Rattle.requests.specs.RequestText.{main_alone}
use Rattle.json_values.specs.Values.{as_name, as_prefix, as_day, as_asn}
use Rattle.requests.specs.RequestValues.{as_origin, as_max, as_number, as_role, as_scope}
use Rattle.requests.specs.declared.request.TheConstants.{LINE_LENGTH_LIMIT}
use Rattle.requests.specs.declared.action.Action.{Action}
use Rattle.requests.specs.declared.action.Action.TheVariants.{Register as AskRegister, Delegate as AskDelegate, Transfer as AskTransfer, Reclaim as AskReclaim, Grant as AskGrant, Revoke as AskRevoke, Create as AskCreate, Amend as AskAmend, Withdraw as AskWithdraw, Slurm as AskSlurm, Slurms as AskSlurms, Show as AskShow, Content as AskContent, List as AskList, Export as AskExport, Import as AskImport, WhatIf as AskWhatIf, Payloads as AskPayloads, Validity as AskValidity}
use Rattle.requests.specs.declared.request.lists.TheConstants.{MOST_ITEMS, MOST_CHANGES}
use Rattle.requests.specs.declared.request.fault.Fault.{Fault}
use Rattle.requests.specs.declared.request.commands.Subject.{Subject}
use Rattle.requests.specs.declared.request.terms.AsnAndDays.{AsnAndDays}
use Rattle.requests.specs.declared.request.fault.Fault.TheVariants.{Json, Members, Holder, Caller, Prefix as PrefixFault, Asn, Max, Day, Role, Number, File, Count, TooLong, Repeated, FileName}

-- ---- requests, with their maxLengths, rows, changes and routes as lists

pub data RequestTerms : Type 0 where
  request : Request → RequestTerms
  amend : List ℕ → ℕ → List ℕ → ℕ → RequestTerms
  import : List ℕ → List ImportRow → RequestTerms
  validity : List Route → RequestTerms
  what_if : List ℕ → List Proposed → List Route → RequestTerms

pub record AskedTerms : Type 0 where
  pub day : ℕ
  pub caller : List ℕ
  pub terms : RequestTerms

abbrev pub request_terms : Request → RequestTerms
request_terms (CommandRequest (Amend holder number maxes until)) = amend holder number maxes.items until
request_terms (CommandRequest (Import holder rows)) = import holder rows.items
request_terms (QueryRequest (Validity routes)) = validity routes.items
request_terms (QueryRequest (WhatIf holder changes routes)) = what_if holder changes.items routes.items
request_terms other = request other

abbrev pub asked_terms : Asked → AskedTerms
asked_terms asked = record { day = asked.day; caller = asked.caller; terms = request_terms asked.request }

-- ---- parts: what f makes of their values, or the lowest of their faults

abbrev pub of_two : {A B C : Type 0} → (A → B → C) → Result A Fault → Result B Fault → Result C Fault
of_two f one other = mapped (λ p. f p.0 p.1) (both fault_order one other)

abbrev pub of_three : {A B C D : Type 0}
    → (A → B → C → D) → Result A Fault → Result B Fault → Result C Fault → Result D Fault
of_three f one second third = of_two (λ a (b, c). f a b c) one (both fault_order second third)

-- the value of an object that has members of these names alone
abbrev pub with_only : {A : Type 0} → List (List ℕ) → Data → Result A Fault → Result A Fault
with_only names d value = unless fault_order value (only Members names d)

-- ---- members

-- the member of this name, which has to be there: the value that is read of it, or its fault
abbrev pub member_in : {A : Type 0} → (Data → Option A) → Fault → List ℕ → Data → Result A Fault
member_in reading fault name d =
    required Members (λ found. ok_or (reading found) fault) (get name d)

abbrev pub holder_member : List ℕ → Data → Result (List ℕ) Fault
holder_member = member_in as_name Holder

abbrev pub caller_member : List ℕ → Data → Result (List ℕ) Fault
caller_member = member_in as_name Caller

abbrev pub asked_prefix : Data → Result Prefix Fault
asked_prefix = member_in as_prefix PrefixFault (codes "prefix")

abbrev pub max_member : Data → Result ℕ Fault
max_member = member_in as_max Max (codes "max")

abbrev pub number_member : Data → Result ℕ Fault
number_member = member_in as_number Number (codes "number")

abbrev pub day_member : List ℕ → Data → Result ℕ Fault
day_member = member_in as_day Day

-- a SLURM file, its fault as one of the request
abbrev pub as_file : Data → Result Exceptions Fault
as_file d = result_map_both (λ file. file) File (slurm_in d)

-- where no JSON was found, there is no file
abbrev pub file_of : Option Data → Result Exceptions Fault
file_of None = Err (File NotJson)
file_of (Some d) = as_file d

abbrev pub file_in : Data → Result Exceptions Fault
file_in d = required Members as_file (get (codes "file") d)

-- the set of one file
abbrev pub main_file_in : Data → Result (List NamedSlurm) Fault
main_file_in d = mapped main_alone (file_in d)

abbrev pub main_file_of : Option Data → Result (List NamedSlurm) Fault
main_file_of found = mapped main_alone (file_of found)

-- ---- lists

abbrev pub count_of : ℕ → ℕ → ℕ → Result (Unit {0}) Fault
count_of least most n = if is_count least most n then Ok tt else Err Count

abbrev pub items_of : {A : Type 0} → (Data → Result A Fault) → ℕ → ℕ → Option Items → Result (List A) Fault
items_of reading least most None = Err Members
items_of reading least most (Some items) =
    unless fault_order (each fault_order reading (list_of items))
    (count_of least most (length (list_of items)))

-- what the items of a member are read as
abbrev pub items_in : {A : Type 0} → (Data → Result A Fault) → ℕ → ℕ → List ℕ → Data → Result (List A) Fault
items_in reading least most name d = items_of reading least most (option_and_then as_array (get name d))

-- the items in order and one more
abbrev pub with_item : {A : Type 0} → (A → A → Ordering) → A → List A → List A
with_item order new [] = new ∷ []
with_item order new (x ∷ xs) =
    if is_lt (order new x) then new ∷ x ∷ xs else x ∷ with_item order new xs

abbrev pub in_order : {A : Type 0} → (A → A → Ordering) → List A → List A
in_order order [] = []
in_order order (x ∷ xs) = with_item order x (in_order order xs)

-- items of which none is there twice, in order
abbrev pub once_in_order : {A : Type 0} → Bool → Fault → (A → A → Ordering) → List A → Result (List A) Fault
once_in_order true fault order xs = Err fault
once_in_order false fault order xs = Ok (in_order order xs)

-- `least` to `most` items of which none is there twice, in order
abbrev pub arranged : {A : Type 0}
    → ℕ → ℕ → (List A → Bool) → Fault → (A → A → Ordering) → List A → Result (List A) Fault
arranged least most repeats fault order xs =
    if is_count least most (length xs) then once_in_order (repeats xs) fault order xs else Err Count

-- by which of two lists of members an object has
abbrev pub chosen : {A : Type 0} → Bool → Bool → Result A Fault → Result A Fault → Result A Fault
chosen true false one other = one
chosen false true one other = other
chosen has_one has_other one other = Err Members

-- ---- entries and their maxLengths

abbrev pub entry_members_in : Data → Result RoaPrefix Fault
entry_members_in d =
    of_two (λ prefix max. record { prefix = prefix; max = max }) (asked_prefix d) (max_member d)

abbrev pub entry_in : Data → Result RoaPrefix Fault
entry_in d = with_only (names_of entry_members) d (entry_members_in d)

-- the entries of an authorization that these are in order
abbrev pub entries_arranged : List RoaPrefix → Result (List RoaPrefix) Fault
entries_arranged = arranged 1 MOST_ENTRIES repeats_prefix Repeated (λ d e. prefix_cmp d.prefix e.prefix)

abbrev pub one_entry_in : Data → Result (List RoaPrefix) Fault
one_entry_in d = mapped (λ entry. entry ∷ []) (entry_members_in d)

abbrev pub entry_list_in : Data → Result (List RoaPrefix) Fault
entry_list_in d = and_then entries_arranged (items_in entry_in 1 MOST_ENTRIES (codes "entries") d)

abbrev pub entries_in : Data → Result (List RoaPrefix) Fault
entries_in d =
    chosen (has_some (names_of entry_members) d) (has_some (codes "entries" ∷ []) d)
    (one_entry_in d) (entry_list_in d)

abbrev pub max_item_in : Data → Result ℕ Fault
max_item_in d = ok_or (as_max d) Max

abbrev pub one_max_in : Data → Result (List ℕ) Fault
one_max_in d = mapped (λ max. max ∷ []) (max_member d)

abbrev pub maxes_in : Data → Result (List ℕ) Fault
maxes_in d =
    chosen (has_some (codes "max" ∷ []) d) (has_some (codes "maxes" ∷ []) d)
    (one_max_in d) (items_in max_item_in 1 MOST_ENTRIES (codes "maxes") d)

-- ---- SLURM files and their names

abbrev pub file_members_in : Data → Result NamedSlurm Fault
file_members_in d =
    of_two (λ name file. record { name = name; file = file })
    (member_in as_name FileName (codes "name") d) (file_in d)

abbrev pub named_file_in : Data → Result NamedSlurm Fault
named_file_in d = with_only (names_of file_members) d (file_members_in d)

-- whether two files have one name
abbrev pub repeats_name : List NamedSlurm → Bool
repeats_name files = has_repeat (λ f g. bytes_eq f.name g.name) files

-- the set of these files in order
abbrev pub files_arranged : List NamedSlurm → Result (List NamedSlurm) Fault
files_arranged = arranged 0 MOST_FILES repeats_name FileName name_cmp

abbrev pub file_list_in : Data → Result (List NamedSlurm) Fault
file_list_in d = and_then files_arranged (items_in named_file_in 0 MOST_FILES (codes "files") d)

abbrev pub files_in : Data → Result (List NamedSlurm) Fault
files_in d =
    chosen (has_some (codes "file" ∷ []) d) (has_some (codes "files" ∷ []) d)
    (main_file_in d) (file_list_in d)

-- ---- terms of authorizations

-- what is said beside the entries
abbrev pub asn_and_days_in : Data → Result AsnAndDays Fault
asn_and_days_in d =
    of_three (λ asn from until. record { asn = asn; from = from; until = until })
    (member_in as_asn Asn (codes "asn") d) (day_member (codes "from") d) (day_member (codes "until") d)

abbrev pub terms_of : AsnAndDays → List RoaPrefix → AuthTerms
terms_of said entries = record { asn = said.asn; entries = entries; from = said.from; until = said.until }

abbrev pub terms_in : Data → Result AuthTerms Fault
terms_in d = of_two terms_of (asn_and_days_in d) (entries_in d)

abbrev pub row_of : AsnAndDays → RoaPrefix → ImportRow
row_of said entry =
    record { asn = said.asn; prefix = entry.prefix; max = entry.max; from = said.from; until = said.until }

abbrev pub row_members_in : Data → Result ImportRow Fault
row_members_in d = of_two row_of (asn_and_days_in d) (entry_members_in d)

-- ---- rows, changes and routes

abbrev pub row_in : Data → Result ImportRow Fault
row_in d = with_only (names_of row_members) d (row_members_in d)

-- by what it does, if that is known
abbrev pub change_by : Option Action → Data → Result Proposed Fault
change_by (Some AskCreate) d =
    mapped CreateChange (with_only (part_names creation_members (entry_choice ∷ [])) d (terms_in d))
change_by (Some AskWithdraw) d =
    mapped WithdrawChange (with_only (names_of withdrawal_members) d (number_member d))
change_by other d = Err Members

abbrev pub change_in : Data → Result Proposed Fault
change_in d = change_by (action_in d) d

abbrev pub route_in : Data → Result Route Fault
route_in d =
    with_only (names_of route_members) d
    (of_two (λ prefix origin. record { prefix = prefix; origin = origin })
    (asked_prefix d) (member_in as_origin Asn (codes "origin") d))

abbrev pub row_list_in : Data → Result (List ImportRow) Fault
row_list_in = items_in row_in 1 MOST_ITEMS (codes "rows")

abbrev pub changes_in : Data → Result (List Proposed) Fault
changes_in = items_in change_in 0 MOST_CHANGES (codes "changes")

abbrev pub routes_in : Data → Result (List Route) Fault
routes_in = items_in route_in 1 MOST_ITEMS (codes "routes")

-- ---- requests

abbrev pub slurm_request : Result (List NamedSlurm) Fault → Result RequestTerms Fault
slurm_request files = mapped (λ f. request (CommandRequest (Slurm f))) files

-- the command or the query of two parts
abbrev pub command_of : {A B : Type 0} → (A → B → Command) → Result A Fault → Result B Fault → Result RequestTerms Fault
command_of make = of_two (λ a b. request (CommandRequest (make a b)))

abbrev pub query_of : {A B : Type 0} → (A → B → Query) → Result A Fault → Result B Fault → Result RequestTerms Fault
query_of make = of_two (λ a b. request (QueryRequest (make a b)))

-- what a grant gives, and to whom
abbrev pub grant_terms_in : Data → Result GrantTerms Fault
grant_terms_in d =
    of_three (λ to role (scope, until). record { to = to; role = role; scope = scope; until = until })
    (caller_member (codes "name") d) (member_in as_role Role (codes "role") d)
    (both fault_order (member_in (as_scope (role_at d)) Role (codes "scope") d) (day_member (codes "until") d))

abbrev pub request_in : Action → Subject → Data → Result RequestTerms Fault
request_in AskRegister subject d = mapped (λ named. request (CommandRequest (Register named))) subject.holder
request_in AskDelegate subject d = command_of Delegate subject.holder (asked_prefix d)
request_in AskTransfer subject d =
    of_three (λ prefix giver taker. request (CommandRequest (Transfer prefix giver taker)))
    (asked_prefix d) (holder_member (codes "giver") d) (holder_member (codes "taker") d)
request_in AskReclaim subject d = command_of Reclaim subject.holder (asked_prefix d)
request_in AskGrant subject d = command_of Grant subject.holder (grant_terms_in d)
request_in AskRevoke subject d = command_of Revoke subject.holder subject.number
request_in AskCreate subject d = command_of Create subject.holder (terms_in d)
request_in AskAmend subject d =
    of_two (λ (holder, number) (until, maxes). amend holder number maxes until)
    (both fault_order subject.holder subject.number)
    (both fault_order (day_member (codes "until") d) (maxes_in d))
request_in AskWithdraw subject d = command_of Withdraw subject.holder subject.number
request_in AskSlurm subject d = slurm_request (files_in d)
request_in AskSlurms subject d = slurm_request (file_list_in d)
request_in AskShow subject d = query_of Show subject.holder subject.number
request_in AskContent subject d = query_of Content subject.holder subject.number
request_in AskList subject d = mapped (λ named. request (QueryRequest (ListQuery named))) subject.holder
request_in AskExport subject d = mapped (λ named. request (QueryRequest (ListQuery named))) subject.holder
request_in AskImport subject d = of_two import subject.holder (row_list_in d)
request_in AskWhatIf subject d = of_three what_if subject.holder (changes_in d) (routes_in d)
request_in AskPayloads subject d = Ok (request (QueryRequest Payloads))
request_in AskValidity subject d = mapped validity (routes_in d)

-- ---- lines

-- a line has members for its holder and its number
abbrev pub line_subject : Data → Subject
line_subject d = record { holder = holder_member (codes "holder") d; number = number_member d }

abbrev pub asked_with : Result ℕ Fault → Result (List ℕ) Fault → Result RequestTerms Fault → Result AskedTerms Fault
asked_with = of_three (λ day caller terms. record { day = day; caller = caller; terms = terms })

abbrev pub asked_as : Action → Data → Result AskedTerms Fault
asked_as action d =
    with_only (line_names action) d
    (asked_with (day_member (codes "day") d) (caller_member (codes "caller") d) (request_in action (line_subject d) d))

abbrev pub asked_by : Option Action → Data → Result AskedTerms Fault
asked_by None d = Err Members
asked_by (Some action) d = asked_as action d

abbrev pub asked_from : Option Data → Result AskedTerms Fault
asked_from None = Err Json
asked_from (Some d) = asked_by (action_in d) d

-- the request that a line is, or its lowest fault; the length is tested first
abbrev pub asked_in : List ℕ → Result AskedTerms Fault
asked_in line =
    if nat_lt LINE_LENGTH_LIMIT (length line) then Err TooLong else asked_from (tree_of line)
