-- Holders that share a desk: which entries of the history decide the reply to a request, and which rows
-- a request may change.
use Rattle.std.specs.Prelude.{◌≡◌, ℕ, Bool, false, List, [], ◌∷◌, Option, Some, None, IfSome, option_map, if◌then◌else◌}
use Rattle.std.specs.List.{list_any}
use Rattle.registry_laws.specs.Isolation.{concerns_all_holders}
use Rattle.registry.specs.declared.charter.Charter.{Charter}
use Rattle.registry.specs.declared.command.Query.TheVariants.{WhatIf}
use Rattle.registry.specs.ExceptionsInForce.{brings_exceptions}
use Rattle.registry.specs.History.{History}
use Rattle.registry.specs.HolderEntries.{names_holder, entries_naming, entries_for, holder_asked}
use Rattle.registry.specs.HypotheticalHistory.{HypotheticalHistory}
use Rattle.registry.specs.RowsOfAll.{AllRows}
use Rattle.registry.specs.Verdict.{IsLegal}
use Rattle.sqlite.specs.Store.{Ghosts}
use Rattle.store.specs.StoreRows.{Holds}
use Rattle.desk.specs.Answer.{AnswersRequest}
use Rattle.desk.specs.Desk.{store_of}
use Rattle.registry.specs.declared.asked.Asked.{Asked}
use Rattle.registry.specs.declared.asked.Request.{Request}
use Rattle.registry.specs.declared.asked.Request.TheVariants.{Command as CommandRequest, Query as QueryRequest}
use Rattle.desk.specs.declared.desk.Desk.{Desk}
use Rattle.desk.specs.declared.reply.Reply.{Reply}
use Rattle.desk.specs.declared.reply.Reply.TheVariants.{Report}

-- the entries that decide the reply to a request: those that name one of its holders; none where the
-- request concerns all holders
abbrev pub deciding_entries : Request → History → Option History
deciding_entries (CommandRequest command) history =
    if concerns_all_holders command then None else Some (entries_for command history)
deciding_entries (QueryRequest query) history =
    option_map (λ h. entries_naming h history) (holder_asked query)

-- The reply answers the request on these entries. Of a what-if the entries say that its changes
-- would be accepted, and nothing of its states, which are over the VRPs of all holders.
abbrev pub IsAnswerOn : Charter → History → ℕ → List ℕ → Request → Reply → Type 0
IsAnswerOn charter entries day caller (QueryRequest (WhatIf h changes routes)) (Report states) =
    (after : History) × HypotheticalHistory charter day caller h entries changes.items after
IsAnswerOn charter entries day caller request reply =
    (after : History) × AnswersRequest charter entries day caller request reply after

-- the reply answers the request on the entries that decide it alone
abbrev pub IsAnswerByEntries : Charter → History → ℕ → List ℕ → Request → Reply → Type 0
IsAnswerByEntries charter history day caller request reply =
    IfSome (deciding_entries request history) (λ entries. IsAnswerOn charter entries day caller request reply)

-- what answers a request on a legal history does so by the entries that decide it
abbrev pub AnswersByEntries : Type 0
AnswersByEntries =
    (charter : Charter) (history : History) (day : ℕ) (caller : List ℕ) (request : Request) (reply : Reply)
    (after : History) → IsLegal charter history
    → AnswersRequest charter history day caller request reply after
    → IsAnswerByEntries charter history day caller request reply

-- each reply answers by the entries that decide it, of the history that the replies before it left
abbrev pub RunsByEntries : Charter → History → List Asked → List Reply → Type 0
RunsByEntries charter before [] [] = Unit {0}
RunsByEntries charter before [] (reply ∷ replies) = ⊥
RunsByEntries charter before (asked ∷ more) [] = ⊥
RunsByEntries charter before (asked ∷ more) (reply ∷ replies) =
    IsAnswerByEntries charter before asked.day asked.caller asked.request reply
    × (next : History)
    × AnswersRequest charter before asked.day asked.caller asked.request reply next
    × RunsByEntries charter next more replies

-- a command may change the rows of the holders that it names, and no other request changes rows
abbrev pub may_change : Request → List ℕ → Bool
may_change (CommandRequest command) h = names_holder h command
may_change (QueryRequest query) h = false

-- SLURM files may change the exceptions, and no other request does
abbrev pub may_except : Request → Bool
may_except (CommandRequest command) = brings_exceptions command
may_except (QueryRequest query) = false

-- one of the requests may
abbrev pub may_change_any : List Asked → List ℕ → Bool
may_change_any asked h = list_any (λ a. may_change a.request h) asked

abbrev pub may_except_any : List Asked → Bool
may_except_any asked = list_any (λ a. may_except a.request) asked

-- of each holder for which the test is false the tables hold, in every one, the rows that they held; and
-- the SLURM files that they held, unless these may change
abbrev pub OthersStay : {S : Type 0} → Ghosts S → (List ℕ → Bool) → Bool → Desk S → Desk S → Type 0
OthersStay g changes excepts old new =
    (rows : AllRows) → Holds g (store_of old) rows
    → (after : AllRows) × Holds g (store_of new) after
    × ((h : List ℕ) → changes h ≡ false → after.of_holder h ≡ rows.of_holder h)
    × (excepts ≡ false → after.files ≡ rows.files)
