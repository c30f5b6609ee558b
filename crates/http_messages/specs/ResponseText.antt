-- The text of a response (RFC 9112 sections 4 and 5): the status line, the fields, an empty line, and the body.
use Rattle.std.specs.Prelude.{ℕ, ◌==◌, Bool, true, false, List, [], ◌++◌, length, codes, decimal, if◌then◌else◌}
use Rattle.http_messages.specs.Methods.{method_name}
use Rattle.http_messages.specs.declared.method.Method.{Method}
use Rattle.http_messages.specs.declared.method.Method.TheVariants.{Get, Put, Post, Patch, Delete}
use Rattle.http_messages.specs.declared.method.Methods.{Methods}
use Rattle.http_messages.specs.declared.status.Status.{Status}
use Rattle.http_messages.specs.declared.status.Status.TheVariants.{Done, BadRequest, Forbidden, NotFound, MethodNotAllowed, LengthRequired, ContentTooLarge, ServiceUnavailable}
use Rattle.http_messages.specs.declared.refusal.HttpRefusal.{HttpRefusal}
use Rattle.http_messages.specs.declared.refusal.HttpRefusal.TheVariants as refusal
use Rattle.http_messages.specs.declared.response.ContentType.{ContentType}
use Rattle.http_messages.specs.declared.response.ContentType.TheVariants.{Json, Csv}

-- status codes and their reasons (RFC 9110 section 15)
abbrev pub status_code : Status → ℕ
status_code Done = 200
status_code BadRequest = 400
status_code Forbidden = 403
status_code NotFound = 404
status_code (MethodNotAllowed _) = 405
status_code LengthRequired = 411
status_code ContentTooLarge = 413
status_code ServiceUnavailable = 503

abbrev pub status_reason : Status → List ℕ
status_reason Done = codes "OK"
status_reason BadRequest = codes "Bad Request"
status_reason Forbidden = codes "Forbidden"
status_reason NotFound = codes "Not Found"
status_reason (MethodNotAllowed _) = codes "Method Not Allowed"
status_reason LengthRequired = codes "Length Required"
status_reason ContentTooLarge = codes "Content Too Large"
status_reason ServiceUnavailable = codes "Service Unavailable"

abbrev pub status_line : Status → List ℕ
status_line status = decimal (status_code status) ++ codes " " ++ status_reason status

-- the status of a fault of the protocol
abbrev pub refused_status : HttpRefusal → Status
refused_status refusal.BadRequest = BadRequest
refused_status refusal.NotFound = NotFound
refused_status (refusal.MethodNotAllowed methods) = MethodNotAllowed methods
refused_status refusal.LengthRequired = LengthRequired
refused_status refusal.ContentTooLarge = ContentTooLarge

-- the body of a response to a fault of the protocol, with its line feed
abbrev pub fault_text : Status → List ℕ
fault_text status = codes "{\"error\":" ++ decimal (status_code status) ++ codes "}\n"

abbrev pub type_text : ContentType → List ℕ
type_text Json = codes "application/json"
type_text Csv = codes "text/csv"

-- a comma and a space after a name
abbrev pub separator_after : List ℕ → List ℕ
separator_after text = if length text == 0 then [] else codes ", "

-- names of methods with one more, if the method is there
abbrev pub with_method : Bool → Method → List ℕ → List ℕ
with_method false method text = text
with_method true method text = text ++ separator_after text ++ method_name method

-- the names of methods, in this order
abbrev pub methods_text : Methods → List ℕ
methods_text methods =
    with_method methods.delete Delete (with_method methods.patch Patch (with_method methods.post Post
    (with_method methods.put Put (with_method methods.get Get []))))

-- the field Allow (RFC 9110 section 10.2.1), which a response with status 405 alone has
abbrev pub allow_line : Status → List ℕ
allow_line (MethodNotAllowed methods) = codes "Allow: " ++ methods_text methods ++ codes "\r\n"
allow_line _ = []

-- up to the body, which has so many bytes
unfoldable pub response_head : Status → ContentType → ℕ → List ℕ
response_head status content_type size =
    codes "HTTP/1.1 " ++ status_line status
    ++ codes "\r\nContent-Type: " ++ type_text content_type
    ++ codes "\r\nContent-Length: " ++ decimal size
    ++ codes "\r\n" ++ allow_line status
    ++ codes "Connection: close\r\n\r\n"

abbrev pub response_text : Status → ContentType → List ℕ → List ℕ
response_text status content_type body = response_head status content_type (length body) ++ body
