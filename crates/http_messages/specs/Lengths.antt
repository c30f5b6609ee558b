-- How long a request's body is (RFC 9112 section 6). This profile takes no Transfer-Encoding, any run of decimal digits
-- as a Content-Length, no body longer than the limit, and only an empty one if the request has no body.
use Rattle.std.specs.Prelude.{ℕ, Bool, true, false, ◌&&◌, ◌==◌, not, nat_le, List, [], ◌∷◌, length, codes, if◌then◌else◌, Option, Some, None, Result, Ok, Err}
use Rattle.std.specs.List.{list_all}
use Rattle.std.specs.Char.{is_ascii_digit}
use Rattle.std.specs.Str.Parse.{digits_value}
use Rattle.http_messages.specs.Fields.{Fields, only_value, values_of}
use Rattle.http_messages.specs.declared.body.TheConstants.{BODY_LIMIT}
use Rattle.http_messages.specs.declared.refusal.HttpRefusal.{HttpRefusal}
use Rattle.http_messages.specs.declared.refusal.HttpRefusal.TheVariants.{BadRequest, ContentTooLarge, LengthRequired}

-- one decimal digit or more, and nothing else
abbrev pub is_number : List ℕ → Bool
is_number text = not (length text == 0) && list_all is_ascii_digit text

-- the number that the digits write, with leading zeros or without
abbrev pub content_length : List ℕ → Option ℕ
content_length text = if is_number text then Some (digits_value 10 text) else None

-- a length that a field gives, for a request with a body or without
abbrev pub length_within : Bool → Option ℕ → Result (Option ℕ) HttpRefusal
length_within _ None = Err BadRequest
length_within true (Some size) = if nat_le size BODY_LIMIT then Ok (Some size) else Err ContentTooLarge
length_within false (Some size) = if size == 0 then Ok None else Err BadRequest

-- by the values of Content-Length
abbrev pub length_by : Bool → Option (Option (List ℕ)) → Result (Option ℕ) HttpRefusal
length_by _ None = Err BadRequest
length_by true (Some None) = Err LengthRequired
length_by false (Some None) = Ok None
length_by has_body (Some (Some text)) = length_within has_body (content_length text)

abbrev pub body_length_after : List (List ℕ) → Bool → Fields → Result (Option ℕ) HttpRefusal
body_length_after [] has_body fields = length_by has_body (only_value (values_of (codes "content-length") fields))
body_length_after (_ ∷ _) has_body fields = Err LengthRequired

-- Transfer-Encoding is checked first, whether or not the request has a body
abbrev pub body_length : Bool → Fields → Result (Option ℕ) HttpRefusal
body_length has_body fields = body_length_after (values_of (codes "transfer-encoding") fields) has_body fields
