-- A head that nothing refuses has the length of a body if and only if its action takes one.
use Rattle.requests.proofs.Vocabulary.{◌≡◌, ℕ, Bool, true, false, List, [], ◌∷◌, codes, map, nat_le, ◌==◌, if◌then◌else◌, Option, Some, None, is_some, Result, Ok, Err, refl, subst, inl, inr, name_and_value, path_of, Head, head_as, head_at, head_with, SaysHead, action_at, Action, Path}
use Rattle.std.proofs.Common.{IfOk}
use Rattle.http_messages.specs.Fields.{Fields, only_value, values_of}
use Rattle.http_messages.specs.Lengths.{body_length, body_length_after, content_length, length_by, length_within}
use Rattle.http_messages.specs.declared.body.TheConstants.{BODY_LIMIT}
use Rattle.http_messages.specs.declared.refusal.HttpRefusal.{HttpRefusal}
use Rattle.http_messages.specs.declared.refusal.HttpRefusal.TheVariants.{BadRequest, ContentTooLarge}
use Rattle.requests.specs.Actions.{takes_body}

-- there is a length if and only if there is a body
abbrev HasLength : Bool → Result (Option ℕ) HttpRefusal → Type 0
HasLength has_body length = IfOk length (λ size. is_some size ≡ has_body)

within-limit : (fits : Bool) (size : ℕ) → HasLength true (if fits then Ok (Some size) else Err ContentTooLarge)
within-limit true size = refl
within-limit false size = tt

empty-only : (empty : Bool) → HasLength false (if empty then Ok None else Err BadRequest)
empty-only true = refl
empty-only false = tt

has-length_within : (has_body : Bool) (size : Option ℕ) → HasLength has_body (length_within has_body size)
has-length_within has_body None = tt
has-length_within true (Some size) = within-limit (nat_le size BODY_LIMIT) size
has-length_within false (Some size) = empty-only (size == 0)

has-length_by : (has_body : Bool) (value : Option (Option (List ℕ))) → HasLength has_body (length_by has_body value)
has-length_by has_body None = tt
has-length_by true (Some None) = tt
has-length_by false (Some None) = refl
has-length_by has_body (Some (Some text)) = has-length_within has_body (content_length text)

has-length_after : (codings : List (List ℕ)) (has_body : Bool) (fields : Fields) → HasLength has_body (body_length_after codings has_body fields)
has-length_after [] has_body fields = has-length_by has_body (only_value (values_of (codes "content-length") fields))
has-length_after (coding ∷ codings) has_body fields = tt

abbrev IsAnnounced : Result Head HttpRefusal → Type 0
IsAnnounced said = IfOk said (λ head. is_some head.body_length ≡ takes_body head.action)

announced-with : (action : Action) (target : List ℕ) (fields : Fields) (length : Result (Option ℕ) HttpRefusal)
    → HasLength (takes_body action) length → IsAnnounced (head_with action target fields length)
announced-with action target fields (Err refusal) has = tt
announced-with action target fields (Ok size) has = has

announced-as : (path : Path) (target : List ℕ) (fields : Fields) (found : Option Action) → IsAnnounced (head_as path target fields found)
announced-as path target fields None = tt
announced-as path target fields (Some action) =
    announced-with action target fields (body_length (takes_body action) fields) (has-length_after (values_of (codes "transfer-encoding") fields) (takes_body action) fields)

announced-at : (method target : List ℕ) (fields : Fields) (found : Option Path) → IsAnnounced (head_at method target fields found)
announced-at method target fields None = tt
announced-at method target fields (Some path) = announced-as path target fields (action_at method path)

pub says-length : (bytes : List ℕ) (said : Head) → SaysHead bytes (Ok said) → is_some said.body_length ≡ takes_body said.action
says-length bytes said (inl (head, is_head, is)) =
    subst IsAnnounced is (announced-at head.method head.target (map name_and_value head.fields) (path_of head.target))
says-length bytes said (inr (no_head, is)) = cc
