-- Hypothetical changes, and the same changes done.
use Rattle.std.proofs.Common.{◌≡◌, ℕ, true, false, List, [], ◌∷◌, Some, None, refl, sym, ◌∙◌, subst}
use Rattle.std.specs.List.{list_all}
use Rattle.std.proofs.lemmas.Bool.{and_parts, false≢true, true≢false}
use Rattle.registry.specs.Answer.{number_given}
use Rattle.registry.specs.History.{History}
use Rattle.registry.specs.HypotheticalHistory.{hypothetical_command, HypotheticalHistory}
use Rattle.registry.specs.Verdict.{Verdict}
use Rattle.registry.specs.declared.charter.Charter.{Charter}
use Rattle.registry.specs.declared.command.Command.{Command}
use Rattle.registry.specs.declared.command.Proposed.{Proposed}
use Rattle.registry.specs.declared.command.Proposed.TheVariants.{Create as ProposedCreate, Withdraw as ProposedWithdraw}
use Rattle.registry_laws.specs.OneOutcome.{OneHypotheticalOutcome}
use Rattle.daily_vrps.specs.States.{states_after}
use Rattle.desk.specs.Answer.{is_accepted, is_import, AnswersCommand, AreStatesOn}
use Rattle.desk_laws.specs.AsDone.{requests_for, AreDone, WhatIfAsDone}
use Rattle.desk.specs.Run.{Runs}
use Rattle.desk.specs.declared.reply.Reply.{Reply}
use Rattle.desk.specs.declared.reply.Reply.TheVariants.{Done, Imported}
use Rattle.desk.proofs.HolderLemmas.{left_by_entry, leaves_entry, counts_of_import}

hypothetical_plain : (holder : List ℕ) (change : Proposed) → is_import (hypothetical_command holder change) ≡ false
hypothetical_plain holder (ProposedCreate t) = refl
hypothetical_plain holder (ProposedWithdraw n) = refl

-- the history with the entry of a command
abbrev with_entry : ℕ → List ℕ → Command → History → History
with_entry day caller command before = record { day = day; caller = caller; command = command } ∷ before

-- an accepted reply to a change leaves its entry
entry_left : (charter : Charter) (before : History) (day : ℕ) (caller holder : List ℕ) (change : Proposed) (reply : Reply) (after : History) → is_accepted reply ≡ true
    → AnswersCommand charter before day caller (hypothetical_command holder change) reply after
    → Verdict charter before day caller (hypothetical_command holder change) None × (after ≡ with_entry day caller (hypothetical_command holder change) before)
entry_left charter before day caller holder change (Done number) after accepted answers =
    left_by_entry charter before day caller (hypothetical_command holder change) after (hypothetical_plain holder change) answers.1
entry_left charter before day caller holder change (Imported made present) after accepted answers =
    absurd (true≢false (sym (counts_of_import before (hypothetical_command holder change) after made present answers.1) ∙ hypothetical_plain holder change))
entry_left charter before day caller holder change reply after accepted answers = absurd (false≢true accepted)

module _ (charter : Charter) (day : ℕ) (caller holder : List ℕ) where
  -- what would be is done
  doing : (before : History) (changes : List Proposed) (after : History) → HypotheticalHistory charter day caller holder before changes after
      → (replies : List Reply) × AreDone charter before day caller holder changes replies after
  doing before [] after would = ([], (refl, would))
  doing before (change ∷ changes) after (None, judged, would) = absurd judged
  doing before (change ∷ changes) after (Some command, judged, would) =
      let requested = hypothetical_command holder change in
      let next = with_entry day caller requested before in
      let more = doing next changes after (subst (λ (c : Command). HypotheticalHistory charter day caller holder (with_entry day caller c before) changes after) judged.0 would) in
      let verdict = subst (λ (c : Command). Verdict charter before day caller c None) judged.0 judged.1 in
      let plain = hypothetical_plain holder change in
      let answers : AnswersCommand charter before day caller requested (Done (number_given before requested)) next =
      (plain, leaves_entry charter before day caller requested plain verdict, refl) in
      (Done (number_given before requested) ∷ more.0, (more.1.0, (next, answers, more.1.1)))

  -- and what is done would be
  done : (before : History) (changes : List Proposed) (replies : List Reply) (after : History) → list_all is_accepted replies ≡ true
      → Runs charter before (requests_for day caller holder changes) replies after → HypotheticalHistory charter day caller holder before changes after
  done before [] [] after accepted runs = runs
  done before [] (reply ∷ replies) after accepted runs = absurd runs
  done before (change ∷ changes) [] after accepted runs = absurd runs
  done before (change ∷ changes) (reply ∷ replies) after accepted runs =
      let requested = hypothetical_command holder change in
      let both = and_parts (is_accepted reply) (list_all is_accepted replies) accepted in
      let left = entry_left charter before day caller holder change reply runs.0 both.0 runs.1 in
      let more = done runs.0 changes replies after both.1 runs.2 in
      (Some requested, (refl, left.0), subst (λ (next : History). HypotheticalHistory charter day caller holder next changes after) left.1 more)

pub what_if_as_done : OneHypotheticalOutcome → WhatIfAsDone
what_if_as_done law charter history day caller holder changes routes states answers =
    let made = doing charter day caller holder history changes answers.0 answers.1 in (
      (made.0, answers.0, made.1),
      λ replies after are.
          let same = (law charter day caller holder history changes).left answers.0 after answers.1 (done charter day caller holder history changes replies after are.0 are.1) in
          subst (λ (left : History). AreStatesOn left day routes (states_after states.items)) same answers.3,
    )
