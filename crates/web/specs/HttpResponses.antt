-- The texts of responses to HTTP requests: as http_messages defines them, with the text of a reply as their body. VRPs
-- and exports are sent as CSV, everything else in JSON.
use Rattle.std.specs.Prelude.{◌≡◌, ◌≢◌, ◌≤◌, ◌^◌, ℕ, List, ◌++◌, codes, length, None}
use Rattle.std.specs.List.{flat_map}
use Rattle.addr.specs.declared.vrp.Vrp.{Vrp}
use Rattle.http_messages.specs.ResponseText.{fault_text, refused_status, response_text, status_line}
use Rattle.http_messages.specs.declared.refusal.HttpRefusal.{HttpRefusal}
use Rattle.http_messages.specs.declared.response.ContentType.{ContentType}
use Rattle.http_messages.specs.declared.response.ContentType.TheVariants.{Csv, Json}
use Rattle.http_messages.specs.declared.status.Status.{Status}
use Rattle.http_messages.specs.declared.status.Status.TheVariants.{BadRequest, Done as DoneStatus, Forbidden, ServiceUnavailable}
use Rattle.csv_records.specs.Lines.{csv_text, list_header, list_rows, payload_header, payload_row}
use Rattle.registry.specs.declared.asked.Request.{Request}
use Rattle.registry.specs.declared.asked.Request.TheVariants.{Query as QueryRequest}
use Rattle.registry.specs.declared.command.Query.TheVariants.{Payloads as PayloadsQuery}
use Rattle.desk.specs.declared.reply.Reply.{Reply}
use Rattle.desk.specs.declared.reply.Reply.TheVariants.{Listed, Payloads, Denied, Unavailable}
use Rattle.requests.specs.MalformedText.{malformed_text}
use Rattle.web.specs.ReplyText.{line_text, short_text, unavailable_text}
use Rattle.requests.specs.declared.malformed.Malformed.{Malformed}

abbrev pub json_response : Status → List ℕ → List ℕ
json_response status body = response_text status Json body

-- a fault of the protocol
abbrev pub refusal_response : HttpRefusal → List ℕ
refusal_response refusal = json_response (refused_status refusal) (fault_text (refused_status refusal))

-- a request with a fault
abbrev pub malformed_response : Malformed → List ℕ
malformed_response fault = json_response BadRequest (malformed_text fault)

abbrev pub reply_status : Reply → Status
reply_status (Denied rule row) = Forbidden
reply_status Unavailable = ServiceUnavailable
reply_status _ = DoneStatus

-- with lists in this form
abbrev pub reply_type : ContentType → Reply → ContentType
reply_type form (Listed auths) = form
reply_type form (Payloads vrps) = Csv
reply_type form _ = Json

abbrev pub reply_body : ContentType → Reply → List ℕ
reply_body Csv (Listed auths) = csv_text list_header (λ row. row) (flat_map list_rows auths.items)
reply_body Csv (Payloads vrps) = csv_text payload_header payload_row vrps
reply_body _ reply = line_text reply

-- a reply, with lists in this form
abbrev pub reply_response : ContentType → Reply → List ℕ
reply_response form reply =
    response_text (reply_status reply) (reply_type form reply) (reply_body (reply_type form reply) reply)

-- where an allocation failed
abbrev pub unavailable_response : List ℕ
unavailable_response = json_response ServiceUnavailable unavailable_text

-- What the reply to a request shows may stay unsent, since its text takes memory. The VRPs of a day are sent as they are
-- kept: these stay unsent only if 64 bits do not count their text, whose length the head gives.
abbrev pub MayStayUnsent : Request → Reply → Type 0
MayStayUnsent (QueryRequest PayloadsQuery) reply =
    (vrps : List Vrp) × (reply ≡ Payloads vrps)
    × (2 ^ 64 ≤ length (csv_text payload_header payload_row vrps))
MayStayUnsent request reply = short_text reply ≡ None

-- the bytes begin with the status line of an error, which is every status except 200
abbrev pub HasErrorStatus : List ℕ → Type 0
HasErrorStatus bytes =
    (status : Status) × (rest : List ℕ) × (status ≢ DoneStatus)
    × (bytes ≡ codes "HTTP/1.1 " ++ status_line status ++ rest)
