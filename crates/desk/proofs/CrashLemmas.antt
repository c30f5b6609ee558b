-- What a crash may leave after a request.
use Rattle.desk.proofs.Vocabulary.{◌≡◌, inl, inr, ℕ, ◌+◌, ◌<◌, true, false, List, [], ◌∷◌, ◌++◌, length, get_or, take, arith, refl, sym, ◌∙◌, subst, Contains, true≢false, Contains-append_right, HasCleanDisk, Ghosts, Trees, Charter, GrowthFits, GrowthIsLegal, IsAccepted, EntryFits, History, AllRows, HasRows, changed_rows, IsLegal, Asked, Request, Change, Command, TablesHold, connection_state, HoldsAfter, IsRead, MayLeave, LeavesOnly, StoreView, is_accepted, AnswersCommand, AnswersRequest, IsAnswered, asked_on, AreDurablyAnswered, IsDurablyAnswered, LeavesAlong, MayBeLeft, StaysOpen, pending_after, pending_after_all, charter_of, HoldsHistory, HoldsRowsOf, IsOnCleanDisk, Runs, Desk, Reply, Denied, Done, Imported, Unavailable, AnswersAccepted, taken_more}
use Rattle.registry.specs.declared.asked.Request.TheVariants.{Command as CommandRequest, Query as QueryRequest}
use Rattle.store_transactions.specs.Databases.{IsDeskTrees}
use Rattle.desk.proofs.DeskLemmas.{rows_carried}
use Rattle.desk.proofs.RunLemmas.{Runs-append}

-- the newest of the pending requests
newest : (asked : Asked) (pending : List Asked) → Contains (asked ∷ pending) asked
newest asked pending = (0, omega (arith), refl)

-- what may be left may be left when one more is pending
one_more : (charter : Charter) (history : History) (asked : Asked) (pending : List Asked) (trees : Trees)
    → MayBeLeft charter history pending trees → MayBeLeft charter history (asked ∷ pending) trees
one_more charter history asked pending trees (inl is) = inl is
one_more charter history asked pending trees (inr is) =
    inr (is.0, is.1, Contains-append_right (asked ∷ []) pending is.0 is.2, is.3, is.4)

-- the tables after a change that may have been made
made_left : (charter : Charter) (history : History) (day : ℕ) (caller : List ℕ) (command : Command) (change : Change) (reply : Reply) (pending : List Asked) (trees : Trees)
    → (accepted : IsAccepted charter history day caller command change) → AnswersAccepted command change reply → is_accepted reply ≡ true
    → (rows : AllRows) → HasRows rows history → TablesHold charter (changed_rows change rows) trees → IsDeskTrees trees
    → MayBeLeft charter history (asked_on day caller (CommandRequest command) ∷ pending) trees
made_left charter history day caller command change reply pending trees accepted answers done rows has holds desk =
    let asked = asked_on day caller (CommandRequest command) in
    inr (
      asked,
      accepted.after,
      newest asked pending,
      (reply, done, answers charter history day caller accepted),
      (changed_rows change rows, rows_carried charter history day caller command change rows accepted has, holds, desk),
    )

-- a command that is not accepted leaves the history
command_unchanged : (charter : Charter) (before after : History) (day : ℕ) (caller : List ℕ) (command : Command) (reply : Reply)
    → AnswersCommand charter before day caller command reply after → is_accepted reply ≡ false → after ≡ before
command_unchanged charter before after day caller command (Done number) answers not = absurd (true≢false not)
command_unchanged charter before after day caller command (Imported made present) answers not = absurd (true≢false not)
command_unchanged charter before after day caller command (Denied rule row) answers not = answers.1
command_unchanged charter before after day caller command Unavailable answers not = answers
command_unchanged charter before after day caller command other answers not = absurd answers

unchanged : (charter : Charter) (before after : History) (day : ℕ) (caller : List ℕ) (request : Request) (reply : Reply)
    → AnswersRequest charter before day caller request reply after → is_accepted reply ≡ false → after ≡ before
unchanged charter before after day caller (CommandRequest command) reply answers not = command_unchanged charter before after day caller command reply answers not
unchanged charter before after day caller (QueryRequest query) reply answers not = answers.1

-- what a crash may leave after a request may be left of the history before it when the request is pending
as_pending : (charter : Charter) (before after : History) (asked : Asked) (reply : Reply) (pending : List Asked) (trees : Trees)
    → AnswersRequest charter before asked.day asked.caller asked.request reply after
    → MayBeLeft charter after (pending_after asked reply pending) trees → MayBeLeft charter before (asked ∷ pending) trees
as_pending charter before after asked (Done number) pending trees answers (inl is) = inr (asked, after, newest asked pending, (Done number, refl, answers), is)
as_pending charter before after asked (Done number) pending trees answers (inr is) = absurd (omega (arith, is.2.1))
as_pending charter before after asked (Imported made present) pending trees answers (inl is) = inr (asked, after, newest asked pending, (Imported made present, refl, answers), is)
as_pending charter before after asked (Imported made present) pending trees answers (inr is) = absurd (omega (arith, is.2.1))
as_pending charter before after asked Unavailable pending trees answers left =
    subst (λ (h : History). MayBeLeft charter h (asked ∷ pending) trees) (unchanged charter before after asked.day asked.caller asked.request Unavailable answers refl) left
as_pending charter before after asked other pending trees answers left =
    one_more charter before asked pending trees
    (subst (λ (h : History). MayBeLeft charter h pending trees) (unchanged charter before after asked.day asked.caller asked.request other answers refl) left)

-- one more request at the end
pending_more : (charter : Charter) (before middle : History) (asked : List Asked) (replies : List Reply) (a : Asked) (reply : Reply) (pending : List Asked)
    → Runs charter before asked replies middle
    → pending_after_all (asked ++ a ∷ []) (replies ++ reply ∷ []) pending ≡ pending_after a reply (pending_after_all asked replies pending)
pending_more charter before middle [] [] a reply pending runs = refl
pending_more charter before middle [] (r ∷ replies) a reply pending runs = absurd runs
pending_more charter before middle (x ∷ asked) [] a reply pending runs = absurd runs
pending_more charter before middle (x ∷ asked) (r ∷ replies) a reply pending runs =
    pending_more charter runs.0 middle asked replies a reply (pending_after x r pending) runs.2

module _ {S : Type 0} (g : Ghosts S) where
  -- a read leaves no more than before; and a request that was not accepted is pending at most
  read_leaves : (old new : Desk S) (history : History) (asked : Asked) (reply : Reply) → is_accepted reply ≡ false
      → IsRead g old.store new.store → IsOnCleanDisk g new → LeavesAlong g (charter_of old) old history (pending_after asked reply) new history
  read_leaves old new history asked (Done number) not read clean = absurd (true≢false not)
  read_leaves old new history asked (Imported made present) not read clean = absurd (true≢false not)
  read_leaves old new history asked Unavailable not read clean = λ pending left trees leaves.
      one_more (charter_of old) history asked pending trees (left trees (read.crash clean trees leaves))
  read_leaves old new history asked other not read clean = λ pending left trees leaves. left trees (read.crash clean trees leaves)

  -- a change that failed may be found made
  failed_leaves : (history : History) (day : ℕ) (caller : List ℕ) (command : Command) (change : Change) (reply : Reply) (old : Desk S) (mid : StoreView S) (new : Desk S)
      → IsRead g old.store mid → HasCleanDisk (connection_state g mid) → HoldsRowsOf g mid history
      → IsAccepted (charter_of old) history day caller command change → AnswersAccepted command change reply → is_accepted reply ≡ true
      → MayLeave g mid new.store (changed_rows change)
      → LeavesAlong g (charter_of old) old history (λ pending. asked_on day caller (CommandRequest command) ∷ pending) new history
  failed_leaves history day caller command change reply old mid new read clean held accepted answers done crash pending left trees leaves =
      elim (crash trees leaves) [
        | inl was ↦ one_more (charter_of old) history (asked_on day caller (CommandRequest command)) pending trees (left trees (read.crash clean trees was))
        | inr now ↦ made_left (charter_of old) history day caller command change reply pending trees accepted answers done held.0 held.1
            (subst (λ (k : Charter). TablesHold k (changed_rows change held.0) trees) read.charter (now.1 held.0 held.2)) now.0
      ]

  -- a change that was made is left alone
  made_leaves : (history : History) (day : ℕ) (caller : List ℕ) (command : Command) (change : Change) (to : List Asked → List Asked) (old : Desk S) (mid : StoreView S) (new : Desk S)
      → IsRead g old.store mid → HoldsRowsOf g mid history
      → (accepted : IsAccepted (charter_of old) history day caller command change)
      → LeavesOnly g mid new.store (changed_rows change)
      → LeavesAlong g (charter_of old) old history to new accepted.after
  made_leaves history day caller command change to old mid new read held accepted only pending left trees leaves =
      let it = only held.0 held.2 trees leaves in
      inl (
        changed_rows change held.0,
        rows_carried (charter_of old) history day caller command change held.0 accepted held.1,
        subst (λ (k : Charter). TablesHold k (changed_rows change held.0) trees) read.charter it.0,
        it.1,
      )

  -- a request that was not accepted, after a read
  pub read_kept : (history : History) (asked : Asked) (reply : Reply) (old new : Desk S) → is_accepted reply ≡ false
      → IsRead g old.store new.store → IsOnCleanDisk g new → IsLegal (charter_of old) history
      → AnswersRequest (charter_of old) history asked.day asked.caller asked.request reply history → HoldsHistory g new history
      → IsDurablyAnswered g (charter_of old) history asked reply old new
  read_kept history asked reply old new not read clean legal answers held = record {
    answered = record {
      after = history;
      legal = legal;
      values = λ fit. fit;
      answers = answers;
      rows_after = held;
    };
    left = read_leaves old new history asked reply not read clean;
  }

  -- a command whose change failed
  pub failed_kept : (history : History) (day : ℕ) (caller : List ℕ) (command : Command) (change : Change) (reply : Reply) (old : Desk S) (mid : StoreView S) (new : Desk S)
      → IsRead g old.store mid → HasCleanDisk (connection_state g mid) → IsLegal (charter_of old) history → HoldsRowsOf g mid history → HoldsHistory g new history
      → IsAccepted (charter_of old) history day caller command change → AnswersAccepted command change reply → is_accepted reply ≡ true
      → MayLeave g mid new.store (changed_rows change)
      → IsDurablyAnswered g (charter_of old) history (asked_on day caller (CommandRequest command)) Unavailable old new
  failed_kept history day caller command change reply old mid new read clean legal was held accepted answers done crash = record {
    answered = record { after = history; legal = legal; values = λ fit. fit; answers = refl; rows_after = held };
    left = failed_leaves history day caller command change reply old mid new read clean was accepted answers done crash;
  }

  -- what was answered where a command was accepted and its change was made
  abbrev pub accepted_answer : GrowthIsLegal → GrowthFits → (history : History) (day : ℕ) (caller : List ℕ) (command : Command) (change : Change) (reply : Reply) (old : Desk S) (mid : StoreView S) (new : Desk S)
      → EntryFits (record { day = day; caller = caller; command = command }) → IsLegal (charter_of old) history → HoldsRowsOf g mid history
      → IsAccepted (charter_of old) history day caller command change → AnswersAccepted command change reply
      → HoldsAfter g mid new.store (changed_rows change) → IsOnCleanDisk g new → StaysOpen g new
      → IsAnswered g (charter_of old) history day caller (CommandRequest command) reply new
  accepted_answer grown fits history day caller command change reply old mid new values legal held accepted answers applied clean opened = record {
    after = accepted.after;
    legal = grown (charter_of old) history day caller command accepted.after legal accepted.leaves;
    values = λ fit. fits (charter_of old) history day caller command accepted.after values fit accepted.leaves;
    answers = answers (charter_of old) history day caller accepted;
    rows_after = (
      changed_rows change held.0,
      rows_carried (charter_of old) history day caller command change held.0 accepted held.1,
      applied held.0 held.2,
      λ _ shut. absurd (true≢false (sym (opened clean) ∙ shut)),
    );
  }

  -- a command that was accepted, whose change was made
  pub accepted_kept : GrowthIsLegal → GrowthFits → (history : History) (day : ℕ) (caller : List ℕ) (command : Command) (change : Change) (reply : Reply) (old : Desk S) (mid : StoreView S) (new : Desk S)
      → EntryFits (record { day = day; caller = caller; command = command }) → IsRead g old.store mid → IsLegal (charter_of old) history → HoldsRowsOf g mid history
      → IsAccepted (charter_of old) history day caller command change → AnswersAccepted command change reply
      → HoldsAfter g mid new.store (changed_rows change) → LeavesOnly g mid new.store (changed_rows change) → IsOnCleanDisk g new → StaysOpen g new
      → IsDurablyAnswered g (charter_of old) history (asked_on day caller (CommandRequest command)) reply old new
  accepted_kept grown fits history day caller command change reply old mid new values read legal held accepted answers applied only clean opened = record {
    answered = accepted_answer grown fits history day caller command change reply old mid new values legal held accepted answers applied clean opened;
    left = made_leaves history day caller command change (pending_after (asked_on day caller (CommandRequest command)) reply) old mid new read held accepted only;
  }

  -- whatever the reply, a crash leaves the history before, or that with the request
  pub kept_crash : (charter : Charter) (before : History) (asked : Asked) (reply : Reply) (old new : Desk S)
      → IsDurablyAnswered g charter before asked reply old new → LeavesAlong g charter old before (λ pending. asked ∷ pending) new before
  kept_crash charter before asked reply old new kept pending left trees leaves =
      as_pending charter before kept.answered.after asked reply pending trees kept.answered.answers (kept.left pending left trees leaves)

  -- the request at an index was answered after those before it
  left_next : (charter : Charter) (history : History) (asked : List Asked) (index : ℕ) (a : Asked) (replies : List Reply) (reply : Reply) (start old new : Desk S)
      → index < length asked → a ≡ get_or asked index a
      → (so_far : AreDurablyAnswered g charter history (take index asked) replies start old)
      → IsDurablyAnswered g charter so_far.answered.after a reply old new
      → AreDurablyAnswered g charter history (take (index + 1) asked) (replies ++ reply ∷ []) start new
  left_next charter history asked index a replies reply start old new below here so_far is =
      let grown : take (index + 1) asked ≡ take index asked ++ a ∷ [] = taken_more asked index a below here in
      record {
        answered = record {
          after = is.answered.after;
          legal = is.answered.legal;
          values = λ fit. is.answered.values (so_far.answered.values fit);
          runs = rw grown (Runs-append charter history so_far.answered.after is.answered.after (take index asked) replies a reply so_far.answered.runs is.answered.answers);
          rows_after = is.answered.rows_after;
        };
        left = λ pending left trees leaves.
            subst (λ (p : List Asked). MayBeLeft charter is.answered.after p trees)
            (sym (rw grown (pending_more charter history so_far.answered.after (take index asked) replies a reply pending so_far.answered.runs)))
            (is.left (pending_after_all (take index asked) replies pending) (so_far.left pending left) trees leaves);
      }

  -- the same, by a desk that keeps each history of its rows, with the charter as it now is
  pub left_more : (charter here : Charter) (history : History) (asked : List Asked) (index : ℕ) (a : Asked) (replies grown : List Reply) (reply : Reply) (start old new : Desk S)
      → here ≡ charter → index < length asked → a ≡ get_or asked index a → grown ≡ replies ++ reply ∷ []
      → AreDurablyAnswered g charter history (take index asked) replies start old
      → ((h : History) → IsLegal here h → HoldsHistory g old h → IsDurablyAnswered g here h a reply old new)
      → AreDurablyAnswered g charter history (take (index + 1) asked) grown start new
  left_more charter here history asked index a replies grown reply start old new same below at pushed so_far keeps =
      let after = so_far.answered.after in
      let is = subst (λ (k : Charter). IsLegal k after → IsDurablyAnswered g k after a reply old new) same
      (λ legal. keeps after legal so_far.answered.rows_after) so_far.answered.legal in
      rw pushed (left_next charter history asked index a replies reply start old new below at so_far is)
