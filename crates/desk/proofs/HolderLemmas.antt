-- Replies by the entries that decide them, and the rows that a request leaves.
use Rattle.desk.proofs.Vocabulary.{◌≡◌, ℕ, Bool, true, false, ◌↔◌, cond, List, [], ◌∷◌, Option, Some, None, IfSome, inl, inr, refl, sym, ap, ◌∙◌, subst, Vec, cases_Bool, cond-false, or_parts, true≢false, GrowthIsLegal, concerns_all_holders, AreJudgedAlike, AreSeenAlike, GrowAlike, CommandsByEntries, HypotheticalByEntries, ImportsByEntries, QueriesByEntries, Route, ImportRow, Change, HolderChange, Charter, Command, Import, Proposed, Query, holder_of, taker_of, AreCounts, IsDenied, IsOfCommand, Leaves, History, JudgesChange, Rows, changed, changed_by_one, changed_by_second, changed_files, Verdict, IsLegal, NamedSlurm, is_import, AnswersCommand, AnswersShow, AnswersContent, AnswersList, AnswersQuery, AnswersRequest, IsAnswerOn, IsAnswerByEntries, AnswersByEntries, RunsByEntries, Runs, Asked, Request, Reply, Done, Imported, Shown, Content, Listed, Report, Denied, Unavailable}
use Rattle.registry.specs.declared.change.Change.TheVariants.{Holders, Exceptions as Replace}
use Rattle.registry.specs.declared.command.Query.TheVariants.{Show as ShowQuery, Content as ContentQuery, List as ListQuery, Payloads as PayloadsQuery, Validity as ValidityQuery, WhatIf as WhatIfQuery}
use Rattle.registry.specs.declared.rule.Rule.{Rule}
use Rattle.registry.specs.ExceptionsInForce.{brings_exceptions}
use Rattle.registry.specs.Import.{JudgesRow}
use Rattle.registry.specs.HolderEntries.{is_this, names_holder, entries_naming, entries_for}
use Rattle.registry.specs.declared.asked.Request.TheVariants.{Command as CommandRequest, Query as QueryRequest}

-- ---- replies

-- a command other than an import has an entry, and its verdict alone
pub left_by_entry : (charter : Charter) (before : History) (day : ℕ) (caller : List ℕ) (command : Command) (after : History) → is_import command ≡ false
    → Leaves charter before day caller command after
    → Verdict charter before day caller command None × (after ≡ record { day = day; caller = caller; command = command } ∷ before)
left_by_entry charter before day caller (Import h rows) after plain leaves = absurd (true≢false plain)
left_by_entry charter before day caller command after plain leaves = leaves

pub leaves_entry : (charter : Charter) (before : History) (day : ℕ) (caller : List ℕ) (command : Command) → is_import command ≡ false
    → Verdict charter before day caller command None
    → Leaves charter before day caller command (record { day = day; caller = caller; command = command } ∷ before)
leaves_entry charter before day caller (Import h rows) plain verdict = absurd (true≢false plain)
leaves_entry charter before day caller command plain verdict = (verdict, refl)

denied_alone : (charter : Charter) (history : History) (day : ℕ) (caller : List ℕ) (command : Command) (rule : Rule) (row : Option ℕ) → is_import command ≡ false
    → IsDenied charter history day caller command rule row ↔ (Verdict charter history day caller command (Some rule) × (row ≡ None))
denied_alone charter history day caller (Import h rows) rule row plain = absurd (true≢false plain)
denied_alone charter history day caller command rule row plain = (λ denied. denied, λ denied. denied)

-- only an import has counts
pub counts_of_import : (before : History) (command : Command) (after : History) (made present : ℕ) → AreCounts before command after made present → is_import command ≡ true
counts_of_import before (Import h rows) after made present counts = refl
counts_of_import before command after made present counts = absurd counts

-- a command that is judged alike is answered alike
command_alike : (charter : Charter) (one other : History) (day : ℕ) (caller : List ℕ) (command : Command) (reply : Reply) (after : History)
    → is_import command ≡ false → AreJudgedAlike charter one other day caller command → AnswersCommand charter one day caller command reply after
    → (later : History) × AnswersCommand charter other day caller command reply later
command_alike charter one other day caller command (Done number) after plain alike answers =
    let verdict = (left_by_entry charter one day caller command after plain answers.1).0 in (
      record { day = day; caller = caller; command = command } ∷ other,
      (plain, leaves_entry charter other day caller command plain ((alike.verdict None).0 verdict), answers.2 ∙ alike.number),
    )
command_alike charter one other day caller command (Imported made present) after plain alike answers =
    absurd (true≢false (sym (counts_of_import one command after made present answers.1) ∙ plain))
command_alike charter one other day caller command (Denied rule row) after plain alike answers =
    let denied = (denied_alone charter one day caller command rule row plain).0 answers.0 in
    (other, ((denied_alone charter other day caller command rule row plain).1 ((alike.verdict (Some rule)).0 denied.0, denied.1), refl))
command_alike charter one other day caller command Unavailable after plain alike answers = (other, refl)
command_alike charter one other day caller command reply after plain alike answers = absurd answers

-- and so is an import that comes out alike
import_alike : (charter : Charter) (history : History) (day : ℕ) (caller holder : List ℕ) (rows : Vec ImportRow) (reply : Reply) (after : History)
    → GrowAlike (JudgesRow charter day caller holder) day caller holder history rows.items → AnswersCommand charter history day caller (Import holder rows) reply after
    → (later : History) × AnswersCommand charter (entries_naming holder history) day caller (Import holder rows) reply later
import_alike charter history day caller holder rows (Imported made present) after alike answers =
    (entries_naming holder after, (alike.grows after answers.0, ((alike.made after made answers.0).0 answers.1.0, answers.1.1)))
import_alike charter history day caller holder rows (Denied rule (Some place)) after alike answers =
    (entries_naming holder history, ((alike.denied rule place).0 answers.0, refl))
import_alike charter history day caller holder rows (Denied rule None) after alike answers = absurd answers.0
import_alike charter history day caller holder rows Unavailable after alike answers = (entries_naming holder history, refl)
import_alike charter history day caller holder rows (Done number) after alike answers = absurd (true≢false answers.0)
import_alike charter history day caller holder rows reply after alike answers = absurd answers

either_alike : CommandsByEntries → ImportsByEntries → (charter : Charter) (history : History) (day : ℕ) (caller : List ℕ) (command : Command) (reply : Reply) (after : History)
    → IsLegal charter history → concerns_all_holders command ≡ false → AnswersCommand charter history day caller command reply after
    → (later : History) × AnswersCommand charter (entries_for command history) day caller command reply later
either_alike commands imports charter history day caller (Import h rows) reply after legal own answers =
    import_alike charter history day caller h rows reply after (imports charter history day caller h rows.items legal) answers
either_alike commands imports charter history day caller command reply after legal own answers =
    command_alike charter history (entries_for command history) day caller command reply after refl (commands charter history day caller command legal own) answers

command_by_entries : CommandsByEntries → ImportsByEntries → (charter : Charter) (history : History) (day : ℕ) (caller : List ℕ) (command : Command) (reply : Reply) (after : History)
    → IsLegal charter history → AnswersCommand charter history day caller command reply after
    → IsAnswerByEntries charter history day caller (CommandRequest command) reply
command_by_entries commands imports charter history day caller command reply after legal answers =
    let entries = entries_for command history in
    let By : Bool → Type 0 = λ all. IfSome (cond all None (Some entries)) (λ some. (later : History) × AnswersCommand charter some day caller command reply later) in
    elim (cases_Bool (concerns_all_holders command)) [
      | inl t ↦ subst By (sym t) tt
      | inr f ↦ subst By (sym f) (either_alike commands imports charter history day caller command reply after legal f answers)
    ]

show_alike : {one other : History} {h : List ℕ} {day : ℕ} {caller : List ℕ} → AreSeenAlike one other h day caller → (n : ℕ) (reply : Reply)
    → AnswersShow one h day caller n reply → AnswersShow other h day caller n reply
show_alike alike n (Shown x) answers = (alike.shown n x).0 answers
show_alike alike n (Denied rule row) answers = ((alike.show n (Some rule)).0 answers.0, answers.1)
show_alike alike n Unavailable answers = tt
show_alike alike n reply answers = absurd answers

content_alike : {one other : History} {h : List ℕ} {day : ℕ} {caller : List ℕ} → AreSeenAlike one other h day caller → (n : ℕ) (reply : Reply)
    → AnswersContent one h day caller n reply → AnswersContent other h day caller n reply
content_alike alike n (Content text) answers = (answers.0, (alike.shown n answers.0).0 answers.1, answers.2)
content_alike alike n (Denied rule row) answers = ((alike.show n (Some rule)).0 answers.0, answers.1)
content_alike alike n Unavailable answers = tt
content_alike alike n reply answers = absurd answers

list_alike : {one other : History} {h : List ℕ} {day : ℕ} {caller : List ℕ} → AreSeenAlike one other h day caller → (reply : Reply)
    → AnswersList one h day caller reply → AnswersList other h day caller reply
list_alike alike (Listed xs) answers = (alike.listed xs.items).0 answers
list_alike alike (Denied rule row) answers = ((alike.list (Some rule)).0 answers.0, answers.1)
list_alike alike Unavailable answers = tt
list_alike alike reply answers = absurd answers

what_if_alike : (charter : Charter) (history : History) (day : ℕ) (caller h : List ℕ) (changes : Vec Proposed) (routes : Vec Route) (reply : Reply)
    → GrowAlike (JudgesChange charter day caller h) day caller h history changes.items → AnswersQuery charter history day caller (WhatIfQuery h changes routes) reply
    → IsAnswerOn charter (entries_naming h history) day caller (QueryRequest (WhatIfQuery h changes routes)) reply
what_if_alike charter history day caller h changes routes (Report states) alike answers = (entries_naming h answers.0, alike.grows answers.0 answers.1)
what_if_alike charter history day caller h changes routes (Denied rule (Some place)) alike answers =
    (entries_naming h history, ((alike.denied rule place).0 answers, refl))
what_if_alike charter history day caller h changes routes (Denied rule None) alike answers = absurd answers
what_if_alike charter history day caller h changes routes Unavailable alike answers = (entries_naming h history, (tt, refl))
what_if_alike charter history day caller h changes routes reply alike answers = absurd answers

query_by_entries : QueriesByEntries → HypotheticalByEntries → (charter : Charter) (history : History) (day : ℕ) (caller : List ℕ) (query : Query) (reply : Reply)
    → IsLegal charter history → AnswersQuery charter history day caller query reply → IsAnswerByEntries charter history day caller (QueryRequest query) reply
query_by_entries law changed charter history day caller (ShowQuery h n) reply legal answers =
    (entries_naming h history, (show_alike (law charter history h day caller legal) n reply answers, refl))
query_by_entries law changed charter history day caller (ContentQuery h n) reply legal answers =
    (entries_naming h history, (content_alike (law charter history h day caller legal) n reply answers, refl))
query_by_entries law changed charter history day caller (ListQuery h) reply legal answers =
    (entries_naming h history, (list_alike (law charter history h day caller legal) reply answers, refl))
query_by_entries law changed charter history day caller PayloadsQuery reply legal answers = tt
query_by_entries law changed charter history day caller (ValidityQuery routes) reply legal answers = tt
query_by_entries law changed charter history day caller (WhatIfQuery h changes routes) reply legal answers =
    what_if_alike charter history day caller h changes routes reply (changed charter history day caller h changes.items legal) answers

pub answers_by_entries : CommandsByEntries → ImportsByEntries → QueriesByEntries → HypotheticalByEntries → AnswersByEntries
answers_by_entries commands imports queries changes charter history day caller (CommandRequest command) reply after legal answers =
    command_by_entries commands imports charter history day caller command reply after legal answers
answers_by_entries commands imports queries changes charter history day caller (QueryRequest query) reply after legal answers =
    query_by_entries queries changes charter history day caller query reply legal answers.0

-- ---- runs

-- an answered request leaves a legal history legal
pub legal_after : GrowthIsLegal → (charter : Charter) (before : History) (day : ℕ) (caller : List ℕ) (request : Request) (reply : Reply) (after : History)
    → IsLegal charter before → AnswersRequest charter before day caller request reply after → IsLegal charter after
legal_after grown charter before day caller (CommandRequest command) (Done number) after legal answers = grown charter before day caller command after legal answers.1
legal_after grown charter before day caller (CommandRequest command) (Imported made present) after legal answers = grown charter before day caller command after legal answers.0
legal_after grown charter before day caller (CommandRequest command) (Denied rule row) after legal answers = subst (IsLegal charter) (sym answers.1) legal
legal_after grown charter before day caller (CommandRequest command) Unavailable after legal answers = subst (IsLegal charter) (sym answers) legal
legal_after grown charter before day caller (CommandRequest command) reply after legal answers = absurd answers
legal_after grown charter before day caller (QueryRequest query) reply after legal answers = subst (IsLegal charter) (sym answers.1) legal

pub runs_by_entries : GrowthIsLegal → AnswersByEntries → (charter : Charter) (before : History) (asked : List Asked) (replies : List Reply) (after : History)
    → IsLegal charter before → Runs charter before asked replies after → RunsByEntries charter before asked replies
runs_by_entries grown law charter before [] [] after legal runs = tt
runs_by_entries grown law charter before [] (reply ∷ replies) after legal runs = absurd runs
runs_by_entries grown law charter before (a ∷ more) [] after legal runs = absurd runs
runs_by_entries grown law charter before (a ∷ more) (reply ∷ replies) after legal runs =
    let later = legal_after grown charter before a.day a.caller a.request reply runs.0 legal runs.1 in
    (law charter before a.day a.caller a.request reply runs.0 legal runs.1, runs.0, runs.1, runs_by_entries grown law charter runs.0 more replies after later runs.2)

-- ---- rows

left_by_one : (c : HolderChange) (named : Option (List ℕ)) (h : List ℕ) (rows : Option Rows) → named ≡ Some c.holder → is_this h named ≡ false → changed_by_one c h rows ≡ rows
left_by_one c named h rows of other = cond-false _ _ _ (sym (ap (is_this h) of) ∙ other)

left_by_second : (second : Option HolderChange) (named : Option (List ℕ)) (h : List ℕ) (rows : Option Rows) → IfSome second (λ c. named ≡ Some c.holder) → is_this h named ≡ false
    → changed_by_second second h rows ≡ rows
left_by_second None named h rows of other = refl
left_by_second (Some c) named h rows of other = left_by_one c named h rows of other

-- a change of what the command names leaves the rows of any other holder
pub others_left : (command : Command) (change : Change) (h : List ℕ) (rows : Option Rows) → IsOfCommand command change → names_holder h command ≡ false
    → changed change h rows ≡ rows
others_left command (Holders first second) h rows of unnamed =
    let others = or_parts (is_this h (holder_of command)) (is_this h (taker_of command)) unnamed in
    left_by_second second (taker_of command) h (changed_by_one first h rows) of.1 others.1
    ∙ left_by_one first (holder_of command) h rows of.0 others.0
others_left command (Replace file) h rows of unnamed = refl

-- and where the command brings no SLURM files, those in force
pub files_left : (command : Command) (change : Change) (files : List NamedSlurm) → IsOfCommand command change → brings_exceptions command ≡ false
    → changed_files change files ≡ files
files_left command (Holders first second) files of other = refl
files_left command (Replace brought) files of other = absurd (true≢false (sym (ap brings_exceptions of) ∙ other))
