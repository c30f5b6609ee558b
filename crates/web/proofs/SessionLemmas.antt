-- A script over a desk is a script over the histories that the desk represents.
use Rattle.web.proofs.Vocabulary.{◌≡◌, ◌≢◌, ◌∙◌, ℕ, Bool, true, false, List, [], ◌∷◌, ◌++◌, Option, Some, None, Result, Ok, Err, refl, sym, ap, append_assoc, inl, inr, Ghosts, History, Charter, is_accepted, charter_of, IsOnCleanDisk, RowsStay, appended_bytes-append, line_text, AnswersEach, BreaksOff, Replies, AnswersLineAt, AnswersLineLeaving, AnswersLineOn, AnswersLines, BreaksOffLines, IsLaterDesk, RepliesAt, RepliesLeaving, RepliesOn, SaysAccepted, Standing, within_limit, Desk}
use Rattle.std.proofs.Common.{OnOk}
use Rattle.std.specs.Io.{appended_bytes}
use Rattle.web.specs.declared.script.ScriptFault.{ScriptFault}
use Rattle.web.specs.declared.script.ScriptFault.TheVariants as script
use Rattle.web.proofs.RepliesAlong.{replied_leaving, replied_on, RepresentsFrom, StandsFrom}
use Rattle.web.proofs.ScriptAlong.{AnswersEach-along, AnswersEach-sound, AnswersLine-along, BreaksOff-along, BreaksOff-sound, Replies-sound}

-- what holds where a script was answered, or nothing was read
pub unless_broken : {T P : Type 0} → (result : Result T ScriptFault) → OnOk result P → (result ≡ Err script.Read → P) → (result ≡ Err script.Memory → P) → result ≢ Err script.Write → P
unless_broken (Ok x) ok read memory unbroken = ok
unless_broken (Err script.Read) ok read memory unbroken = read refl
unless_broken (Err script.Write) ok read memory unbroken = absurd (unbroken refl)
unless_broken (Err script.Memory) ok read memory unbroken = memory refl

-- what holds however a script ends
pub however_ended : {T P : Type 0} → (result : Result T ScriptFault) → OnOk result P → (result ≡ Err script.Read → P) → (result ≡ Err script.Write → P) → (result ≡ Err script.Memory → P) → P
however_ended (Ok x) ok read write memory = ok
however_ended (Err script.Read) ok read write memory = read refl
however_ended (Err script.Write) ok read write memory = write refl
however_ended (Err script.Memory) ok read write memory = memory refl

module _ {S : Type 0} (g : Ghosts S) where
  -- nothing was asked
  pub same_desk : (desk : Desk S) → IsLaterDesk g desk desk
  same_desk desk = record { charter = refl; limit = refl; clean = λ clean. clean }

  later_line : (old new : Desk S) (line : Option (List ℕ)) (text : List ℕ) → AnswersLineAt g old line text new → IsLaterDesk g old new
  later_line old new None text (is, same) = rw same (same_desk old)
  later_line old new (Some line) text (inl (refused, same)) = rw same (same_desk old)
  later_line old new (Some line) text (inr (inl (request, reply, reads, at, is))) = at.later
  later_line old new (Some line) text (inr (inr (is, same))) = rw same (same_desk old)

  later_before : (last state next : Desk S) (line : Option (List ℕ)) (reply : List ℕ) → AnswersLineAt g state line reply next → IsLaterDesk g next last → IsLaterDesk g state last
  later_before last state next line reply at later =
      let here = later_line state next line reply at in
      record { charter = later.charter ∙ here.charter; limit = later.limit ∙ here.limit; clean = λ clean. here.clean (later.clean clean) }

  clean_before : (state next : Desk S) (line : Option (List ℕ)) (reply : List ℕ) → AnswersLineAt g state line reply next → IsOnCleanDisk g next → IsOnCleanDisk g state
  clean_before state next line reply at = (later_line state next line reply at).clean

  -- the desk after its answers
  pub later_each : (old new : Desk S) (lines : List (List ℕ)) (w w' : List ℕ) → AnswersEach (AnswersLineAt g) old new lines w w' → IsLaterDesk g old new
  later_each old new lines w w' each =
      AnswersEach-sound (AnswersLineAt g) (λ state. IsLaterDesk g state new) (later_before new) old new lines w w' each (same_desk new)

  pub later_broken : (old new : Desk S) (lines : List (List ℕ)) (w w' : List ℕ) → BreaksOff (AnswersLineAt g) old new lines w w' → IsLaterDesk g old new
  later_broken old new lines w w' broken =
      BreaksOff-sound (AnswersLineAt g) (λ state. IsLaterDesk g state new) (later_before new) old new lines w w' broken (same_desk new)

  -- a line answered by the desk is answered on each history that the desk represents
  line_on : (charter : Charter) (first : History) (state next : Desk S) (line : Option (List ℕ)) (text : List ℕ) (history : History) → IsOnCleanDisk g next → RepresentsFrom g charter first state history → AnswersLineAt g state line text next → (later : History) × RepresentsFrom g charter first next later × AnswersLineOn charter history line text later
  line_on charter first =
      AnswersLine-along (RepliesAt g) (IsOnCleanDisk g) (RepresentsFrom g charter first) (RepliesOn charter) (replied_on g charter first)

  -- and a crash leaves no more than the answer allows
  line_leaving : (charter : Charter) (first : Standing) (state next : Desk S) (line : Option (List ℕ)) (text : List ℕ) (standing : Standing) → IsOnCleanDisk g next → StandsFrom g charter first state standing → AnswersLineAt g state line text next → (later : Standing) × StandsFrom g charter first next later × AnswersLineLeaving charter standing line text later
  line_leaving charter first =
      AnswersLine-along (RepliesAt g) (IsOnCleanDisk g) (StandsFrom g charter first) (RepliesLeaving charter) (replied_leaving g charter first)

  pub each_along : (old new : Desk S) (lines : List (List ℕ)) (w w' : List ℕ) → AnswersEach (AnswersLineAt g) old new lines w w' → AnswersLines g old new lines w w'
  each_along old new lines w w' each = (
    each,
    (λ clean before represents.
        let (after, (represents_after, values), answered) = AnswersEach-along (AnswersLineAt g) (IsOnCleanDisk g) clean_before (RepresentsFrom g (charter_of old) before) (AnswersLineOn (charter_of old)) (line_on (charter_of old) before) old new lines w w' before clean (represents, λ fits. fits) each in
        (after, represents_after, values, answered)),
    λ clean charter before represents leaves.
        let (after, ((represents_after, values), fitting, left), answered) = AnswersEach-along (AnswersLineAt g) (IsOnCleanDisk g) clean_before (StandsFrom g charter before) (AnswersLineLeaving charter) (line_leaving charter before) old new lines w w' before clean ((represents, λ fits. fits), (λ fits. fits), leaves) each in
        (after, answered, represents_after, values, fitting, left),
  )

  pub broken_along : (old new : Desk S) (lines : List (List ℕ)) (w w' : List ℕ) → BreaksOff (AnswersLineAt g) old new lines w w' → BreaksOffLines g old new lines w w'
  broken_along old new lines w w' broken = (
    broken,
    (λ clean before represents.
        let (after, (represents_after, values), answered) = BreaksOff-along (AnswersLineAt g) (IsOnCleanDisk g) clean_before (RepresentsFrom g (charter_of old) before) (AnswersLineOn (charter_of old)) (line_on (charter_of old) before) old new lines w w' before clean (represents, λ fits. fits) broken in
        (after, represents_after, values, answered)),
    λ clean charter before represents leaves.
        let (after, ((represents_after, values), fitting, left), answered) = BreaksOff-along (AnswersLineAt g) (IsOnCleanDisk g) clean_before (StandsFrom g charter before) (AnswersLineLeaving charter) (line_leaving charter before) old new lines w w' before clean ((represents, λ fits. fits), (λ fits. fits), leaves) broken in
        (after, answered, represents_after, values, fitting, left),
  )

  -- ---- rows

  -- a text that follows says nothing either
  still_silent : (first rest : List ℕ) → ¬ SaysAccepted (first ++ rest) → ¬ SaysAccepted rest
  still_silent first rest silent (before, after, reply, accepted, is) =
      silent (first ++ before, after, reply, accepted, ap (λ u. first ++ u) is ∙ sym (append_assoc first (before ++ line_text reply) after) ∙ ap (λ u. u ++ after) (sym (append_assoc first before (line_text reply))))

  line_keeps : (old new : Desk S) (line : Option (List ℕ)) (text rest : List ℕ) → AnswersLineAt g old line text new → ¬ SaysAccepted (text ++ rest) → RowsStay g old new
  line_keeps old new None text rest (is, same) silent = λ clean rows holds. rw same holds
  line_keeps old new (Some line) text rest (inl (refused, same)) silent = λ clean rows holds. rw same holds
  line_keeps old new (Some line) text rest (inr (inr (is, same))) silent = λ clean rows holds. rw same holds
  line_keeps old new (Some line) text rest (inr (inl (request, reply, reads, at, is))) silent = go (is_accepted reply) refl
    where
      go : (accepted : Bool) → is_accepted reply ≡ accepted → RowsStay g old new
      go false unaccepted = at.kept unaccepted
      go true accepted = absurd (silent ([], rest, reply, accepted, ap (λ u. u ++ rest) is))

  replies_keep : (old new : Desk S) (lines : List (List ℕ)) (text : List ℕ) → Replies (AnswersLineAt g) old lines text new → ¬ SaysAccepted text → RowsStay g old new
  replies_keep old new [] text (is, same) silent = λ clean rows holds. rw same holds
  replies_keep old new (line ∷ lines) text (reply, replies, next, is, acted, rest) silent = λ clean rows holds.
      let clean_next = Replies-sound (AnswersLineAt g) (IsOnCleanDisk g) clean_before next new lines replies rest clean in
      let silent_here : ¬ SaysAccepted (reply ++ replies) = rw is at silent in
      let here = line_keeps old next (within_limit line) reply replies acted silent_here clean_next rows holds in
      replies_keep next new lines replies rest (still_silent reply replies silent_here) clean rows here

  pub each_keeps : (old new : Desk S) (lines : List (List ℕ)) (w w' : List ℕ) → ¬ SaysAccepted (appended_bytes w w') → AnswersEach (AnswersLineAt g) old new lines w w' → RowsStay g old new
  each_keeps old new lines w w' silent (text, replied, written) =
      replies_keep old new lines text replied (rw (appended_bytes-append w text w' written) at silent)
