-- Histories that agree on the entries that decide a request give it the same reply.
use Rattle.std.specs.Prelude.{◌≡◌, ℕ, List, IsSome}
use Rattle.std.specs.String.{string_bytes}
use Rattle.registry.specs.declared.charter.Charter.{Charter}
use Rattle.registry.specs.History.{History}
use Rattle.registry.specs.declared.asked.Request.{Request}
use Rattle.desk.specs.HolderAnswers.{deciding_entries, IsAnswerByEntries}
use Rattle.desk.specs.declared.reply.Reply.{Reply}
use Rattle.desk.specs.declared.reply.Reply.TheVariants.{Content, Listed, Report, Unavailable}

-- The replies say the same: of lists the items, of contents the text. Of Unavailable, and of the states of two
-- what-ifs, nothing is required.
abbrev pub SaySame : Reply → Reply → Type 0
SaySame Unavailable other = Unit {0}
SaySame one Unavailable = Unit {0}
SaySame (Report states) (Report others) = Unit {0}
SaySame (Listed xs) (Listed ys) = xs.items ≡ ys.items
SaySame (Content text) (Content other) = string_bytes text ≡ string_bytes other
SaySame one other = one ≡ other

-- histories that agree on the entries that decide a request give it the same reply
abbrev pub OneReply : Type 0
OneReply =
    (charter : Charter) (one other : History) (day : ℕ) (caller : List ℕ) (request : Request) (reply again : Reply)
    → IsSome (deciding_entries request one) → deciding_entries request one ≡ deciding_entries request other
    → IsAnswerByEntries charter one day caller request reply
    → IsAnswerByEntries charter other day caller request again
    → SaySame reply again
