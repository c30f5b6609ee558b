-- The texts of replies: each a JSON object (RFC 8259) without spaces, with its members in the order
-- of the format, and a line feed.
use Rattle.std.specs.Prelude.{ℕ, List, [], ◌∷◌, ◌++◌, map, codes, decimal, Option, Some, None}
use Rattle.std.specs.List.{join_with_byte}
use Rattle.std.specs.String.{string_bytes}
use Rattle.addr.specs.Day.{day_text}
use Rattle.addr.specs.OriginValidation.{state_text}
use Rattle.addr.specs.PrefixText.{spelling}
use Rattle.addr.specs.declared.prefix.Prefix.{Prefix}
use Rattle.addr.specs.declared.vrp.Vrp.{Vrp}
use Rattle.registry.specs.declared.authorization.Auth.{Auth}
use Rattle.addr.specs.declared.roa_prefix.RoaPrefix.{RoaPrefix}
use Rattle.registry.specs.declared.rule.Rule.{Rule}
use Rattle.registry.specs.Rule.{rule_name}
use Rattle.desk.specs.declared.reply.Reply.{Reply}
use Rattle.desk.specs.declared.reply.Reply.TheVariants.{Done, Imported, Shown, Content, Listed, Payloads, Answers, Report, Denied, Unavailable}
use Rattle.payload.specs.declared.validity.Validity.{Validity}
use Rattle.payload.specs.ValidityState.{state_of}

-- ---- parts

-- the members of a prefix with its maxLength
abbrev pub prefix_members : Prefix → ℕ → List ℕ
prefix_members prefix max =
    codes "\"prefix\":\"" ++ spelling prefix.family prefix.first prefix.length
    ++ codes "\",\"max\":" ++ decimal max

abbrev pub vrp_text : Vrp → List ℕ
vrp_text vrp =
    codes "{\"asn\":" ++ decimal vrp.asn.0
    ++ codes "," ++ prefix_members vrp.prefix vrp.max ++ codes "}"

-- a route origin validation state (RFC 6811 section 2), between quotation marks
abbrev pub quoted_state : Validity → List ℕ
quoted_state validity = codes "\"" ++ state_text (state_of validity) ++ codes "\""

-- the states of a route now, and after changes
abbrev pub states_text : Validity × Validity → List ℕ
states_text states = codes "[" ++ quoted_state states.0 ++ codes "," ++ quoted_state states.1 ++ codes "]"

-- the texts with a comma between each two
abbrev pub comma_joined : List (List ℕ) → List ℕ
comma_joined texts = join_with_byte 44 texts

-- ---- authorizations

abbrev pub entry_text : RoaPrefix → List ℕ
entry_text e = codes "{" ++ prefix_members e.prefix e.max ++ codes "}"

-- the member that lists entries
abbrev pub entries_list : List RoaPrefix → List ℕ
entries_list es = codes "\"entries\":[" ++ comma_joined (map entry_text es) ++ codes "]"

-- the members of the entry if there is only one, else the list
abbrev pub entries_text : List RoaPrefix → List ℕ
entries_text (e ∷ []) = prefix_members e.prefix e.max
entries_text es = entries_list es

-- what comes before the entries
abbrev pub auth_start : Auth → List ℕ
auth_start auth =
    codes "{\"number\":" ++ decimal auth.number ++ codes ",\"asn\":" ++ decimal auth.asn.0 ++ codes ","

-- what comes after the entries
abbrev pub auth_end : Auth → List ℕ
auth_end auth =
    codes ",\"from\":\"" ++ day_text auth.from ++ codes "\",\"until\":\"" ++ day_text auth.until ++ codes "\"}"

abbrev pub auth_text : Auth → List ℕ
auth_text auth = auth_start auth ++ entries_text auth.entries ++ auth_end auth

-- ---- replies

abbrev pub done_text : Option ℕ → List ℕ
done_text None = codes "{\"done\":null}\n"
done_text (Some number) = codes "{\"done\":" ++ decimal number ++ codes "}\n"

abbrev pub imported_text : ℕ → ℕ → List ℕ
imported_text made present =
    codes "{\"made\":" ++ decimal made ++ codes ",\"present\":" ++ decimal present ++ codes "}\n"

abbrev pub denied_text : Rule → Option ℕ → List ℕ
denied_text rule None = codes "{\"denied\":\"" ++ rule_name rule ++ codes "\"}\n"
denied_text rule (Some row) = codes "{\"denied\":\"" ++ rule_name rule ++ codes "\",\"row\":" ++ decimal row ++ codes "}\n"

abbrev pub unavailable_text : List ℕ
unavailable_text = codes "{\"unavailable\":true}\n"

abbrev pub shown_text : Auth → List ℕ
shown_text auth = codes "{\"shown\":" ++ auth_text auth ++ codes "}\n"

-- the hex of a content
abbrev pub content_text : List ℕ → List ℕ
content_text hex = codes "{\"content\":\"" ++ hex ++ codes "\"}\n"

-- an object with one member, a list, from its opening on
abbrev pub list_text : List ℕ → List (List ℕ) → List ℕ
list_text opening texts = opening ++ comma_joined texts ++ codes "]}\n"

-- a reply
abbrev pub line_text : Reply → List ℕ
line_text (Done number) = done_text number
line_text (Imported made present) = imported_text made present
line_text (Shown auth) = shown_text auth
line_text (Content text) = content_text (string_bytes text)
line_text (Listed auths) = list_text (codes "{\"listed\":[") (map auth_text auths.items)
line_text (Payloads vrps) = list_text (codes "{\"payloads\":[") (map vrp_text vrps)
line_text (Answers states) = list_text (codes "{\"answers\":[") (map quoted_state states.items)
line_text (Report states) = list_text (codes "{\"report\":[") (map states_text states.items)
line_text (Denied rule row) = denied_text rule row
line_text Unavailable = unavailable_text

-- the replies whose texts have a fixed bound
abbrev pub short_text : Reply → Option (List ℕ)
short_text (Done number) = Some (line_text (Done number))
short_text (Imported made present) = Some (line_text (Imported made present))
short_text (Denied rule row) = Some (line_text (Denied rule row))
short_text Unavailable = Some (line_text Unavailable)
short_text other = None
