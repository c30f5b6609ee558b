-- Which request the bytes of an HTTP message are: a head as http_messages defines it, with the body that it announces.
use Rattle.std.specs.Prelude.{◌≡◌, ◌<◌, ◌⊎◌, ℕ, List, [], ◌++◌, length, codes, Option, Some, None, option_map, Ok, Err}
use Rattle.addr.specs.Name.{name_in}
use Rattle.serde_json.specs.Data.{Data, null}
use Rattle.serde_json.specs.Find.{get}
use Rattle.http_messages.specs.HeadEnd.{IsWholeHead, LacksEnd}
use Rattle.requests.specs.RequestHeads.{Head, SaysHead}
use Rattle.requests.specs.declared.action.Action.{Action}
use Rattle.requests.specs.declared.action.Action.TheVariants.{Import, Slurms}
use Rattle.http_messages.specs.declared.head.TheConstants.{HEAD_LIMIT}
use Rattle.http_messages.specs.declared.refusal.HttpRefusal.{HttpRefusal}
use Rattle.http_messages.specs.declared.refusal.HttpRefusal.TheVariants.{BadRequest}
use Rattle.http_messages.specs.declared.response.ContentType.{ContentType}
use Rattle.registry.specs.declared.asked.Asked.{Asked}
use Rattle.requests.specs.Actions.{list_form}
use Rattle.requests.specs.HttpFaults.{body_bytes, head_caller, http_fault, http_faults, json_tree, path_number}
use Rattle.requests.specs.RequestText.{Heading, in_text, SaysRequest}
use Rattle.requests.specs.declared.malformed.Malformed.{Malformed}

-- ---- the request of a head and a body

-- the JSON value of a body, null where there is none or it is CSV
abbrev pub body_tree : Action → Option (List ℕ) → Option Data
body_tree Import body = Some null
body_tree action body = json_tree body

-- the list of SLURM files that a body brings
abbrev pub files_brought : Action → Data → Option Data
files_brought Slurms tree = get (codes "files") tree
files_brought action tree = None

-- the action is that of path and method, the path names holder and number, a SLURM file is the body's value, and the
-- rows of an import are the body's
abbrev pub http_heading : Head → Option (List ℕ) → Data → Heading
http_heading head body tree = record {
  action = Some head.action;
  holder = name_in head.holder;
  number = path_number head.number;
  file = Some tree;
  files = files_brought head.action tree;
  rows = in_text (body_bytes body);
}

-- head and body are this request on the day, and have no fault
pub record SaysAsked (day : ℕ) (head : Head) (body : Option (List ℕ)) (asked : Asked) : Type 0 where
  pub tree : Data
  pub is_tree : body_tree head.action body ≡ Some tree
  pub on_day : asked.day ≡ day
  pub caller : head_caller head ≡ Some asked.caller
  pub request : SaysRequest (http_heading head body tree) tree asked.request
  pub faultless : http_faults head body ≡ []

-- ---- messages

-- the bytes are a whole head and the whole body of which it gives the length, and nothing after them
pub record IsMessage (bytes : List ℕ) (said : Head) (body : Option (List ℕ)) : Type 0 where
  pub head : List ℕ
  pub is_whole : IsWholeHead head
  pub says : SaysHead head (Ok said)
  pub size : option_map length body ≡ said.body_length
  pub all : bytes ≡ head ++ body_bytes body

-- as many bytes as a head may have, and not its end
abbrev pub IsEndless : List ℕ → Type 0
IsEndless bytes = (length bytes ≡ HEAD_LIMIT) × LacksEnd bytes

-- the stream broke off within the head, or within the body that it announces
abbrev pub IsCutShort : List ℕ → Type 0
IsCutShort bytes =
    ((length bytes < HEAD_LIMIT) × LacksEnd bytes)
    ⊎ ((head rest : List ℕ) × (said : Head) × (size : ℕ)
    × (bytes ≡ head ++ rest) × IsWholeHead head × SaysHead head (Ok said)
    × (said.body_length ≡ Some size) × (length rest < size))

-- ---- what the bytes ask for

-- a refusal by the protocol, a malformed request, or a request and the form in which it asks for a list
pub data HttpRequest : Type 0 where
  refused : HttpRefusal → HttpRequest
  malformed : Malformed → HttpRequest
  asked : ContentType → Asked → HttpRequest

-- these are all the bytes that are read for it; a refused request has its body unread
abbrev pub ReadsHttp : ℕ → List ℕ → HttpRequest → Type 0
ReadsHttp day bytes (refused refusal) =
    (IsEndless bytes × (refusal ≡ BadRequest)) ⊎ (IsWholeHead bytes × SaysHead bytes (Err refusal))
ReadsHttp day bytes (malformed fault) =
    (said : Head) × (body : Option (List ℕ)) × IsMessage bytes said body × (http_fault said body ≡ Some fault)
ReadsHttp day bytes (asked form request) =
    (said : Head) × (body : Option (List ℕ)) × IsMessage bytes said body × SaysAsked day said body request
    × (form ≡ list_form said.action)

-- the bytes are a request without a fault
abbrev pub IsRequest : ℕ → List ℕ → Type 0
IsRequest day bytes = (form : ContentType) × (request : Asked) × ReadsHttp day bytes (asked form request)

-- Reading on from these bytes takes memory: before the first of them, for the paths; after a head that nothing refuses,
-- for the body that it announces; after that body, to read it.
abbrev pub NeedsMemory : List ℕ → Type 0
NeedsMemory bytes =
    (bytes ≡ [])
    ⊎ ((said : Head) × (size : ℕ) × IsWholeHead bytes × SaysHead bytes (Ok said) × (said.body_length ≡ Some size))
    ⊎ ((said : Head) × (body : List ℕ) × IsMessage bytes said (Some body))
