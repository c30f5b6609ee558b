-- What the head of a request asks for. Its faults have an order: no head of the grammar, no route, no such method, then the
-- length of the body.
use Rattle.std.specs.Prelude.{◌≡◌, ◌≤◌, ◌⊎◌, ℕ, List, [], length, map, codes, Option, Some, None, option_map, Result, Ok, Err}
use Rattle.httparse.specs.Grammar.{ReadsRequest, RequestHead}
use Rattle.httparse.specs.Spans.{name_and_value}
use Rattle.requests.specs.Actions.{takes_body}
use Rattle.http_messages.specs.Fields.{Fields, only_value, values_of}
use Rattle.http_messages.specs.Lengths.{body_length}
use Rattle.requests.specs.Paths.{holder_piece, number_piece, path_of}
use Rattle.requests.specs.Routes.{action_at, methods_of}
use Rattle.requests.specs.declared.action.Action.{Action}
use Rattle.requests.specs.declared.path.Path.{Path}
use Rattle.http_messages.specs.declared.refusal.HttpRefusal.{HttpRefusal}
use Rattle.http_messages.specs.declared.refusal.HttpRefusal.TheVariants.{BadRequest, MethodNotAllowed, NotFound}
use Rattle.requests.specs.declared.head.Head.{Head as HeadRead}
use Rattle.requests.specs.declared.head.TheConstants.{FIELD_LIMIT}

-- what a request asks for
pub record Head : Type 0 where
  pub action : Action
  pub holder : List ℕ
  pub number : List ℕ
  pub caller : Option (List ℕ)
  pub body_length : Option ℕ

-- the one value, where no more than one was found
abbrev pub single_value : Option (Option (List ℕ)) → Option (List ℕ)
single_value None = None
single_value (Some value) = value

-- the value of the one field Desk-Caller
abbrev pub caller_field : Fields → Option (List ℕ)
caller_field fields = single_value (only_value (values_of (codes "desk-caller") fields))

-- an action with the length of its body
abbrev pub head_with : Action → List ℕ → Fields → Result (Option ℕ) HttpRefusal → Result Head HttpRefusal
head_with action target fields (Err refusal) = Err refusal
head_with action target fields (Ok size) = Ok (record {
  action = action;
  holder = holder_piece target;
  number = number_piece target;
  caller = caller_field fields;
  body_length = size;
})

-- what the method asks for at a path
abbrev pub head_as : Path → List ℕ → Fields → Option Action → Result Head HttpRefusal
head_as path target fields None = Err (MethodNotAllowed (methods_of path))
head_as path target fields (Some action) =
    head_with action target fields (body_length (takes_body action) fields)

abbrev pub head_at : List ℕ → List ℕ → Fields → Option Path → Result Head HttpRefusal
head_at method target fields None = Err NotFound
head_at method target fields (Some path) = head_as path target fields (action_at method path)

-- what a method, a target and fields ask for, or their first fault
abbrev pub head_of : List ℕ → List ℕ → Fields → Result Head HttpRefusal
head_of method target fields = head_at method target fields (path_of target)

-- the head that was read, as bytes
abbrev pub head_view : HeadRead → Head
head_view head = record {
  action = head.action;
  holder = head.holder.now;
  number = head.number.now;
  caller = option_map (λ caller. caller.now) head.caller;
  body_length = head.body_length;
}

-- what was read of a head, as bytes
abbrev pub read_view : Result HeadRead HttpRefusal → Result Head HttpRefusal
read_view (Ok head) = Ok (head_view head)
read_view (Err refusal) = Err refusal

-- the bytes are this head, of the grammar of httparse (RFC 9112 sections 2 to 5), and nothing else
abbrev pub IsHeadOf : List ℕ → RequestHead → Type 0
IsHeadOf bytes head = (length head.fields ≤ FIELD_LIMIT) × ReadsRequest bytes head []

-- what the bytes of a head ask for, or why they are refused
abbrev pub SaysHead : List ℕ → Result Head HttpRefusal → Type 0
SaysHead bytes said =
    ((head : RequestHead) × IsHeadOf bytes head
    × (head_of head.method head.target (map name_and_value head.fields) ≡ said))
    ⊎ (((head : RequestHead) → ¬ (IsHeadOf bytes head)) × (said ≡ Err BadRequest))
