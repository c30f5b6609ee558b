-- What the rows of a legal history say of it.
use Rattle.desk.proofs.Vocabulary.{◌≡◌, ℕ, Bool, true, false, List, refl, sym, ap, ◌∙◌, subst, arith, length, ◌-◌, Result, Ok, Err, IsErrAnd, Vec, false≢true, true≢false, History, changed_files, IsAccepted, IsAnswer, IsListRefusal, IsOfCommand, imported, number_made, Refusal, Memory, Change, is_accepted, is_import, only_reads, refused_with, AnswersCommand, AnswersList, AnswersQuery, Reply, Desk, IsOnCleanDisk, RowsStay, EachHeld, may_change, may_except, OthersStay, AnswersAccepted, Decides, HasCleanDisk, Ghosts, connection_state, StoreView, IsRead, HoldsAfter, ImportRow, Command, Import, Query, IsLegal, Charter, AllRows, changed_rows, HasRows}
use Rattle.registry.specs.declared.rule.Refusal.TheVariants.{Denied}
use Rattle.registry.specs.declared.asked.Request.TheVariants.{Command as CommandRequest}
use Rattle.desk.specs.declared.reply.Reply.TheVariants.{Denied as DeniedReply, Done, Imported, Unavailable}
use Rattle.desk.specs.declared.desk.following.Decided.{Decided}
use Rattle.registry.specs.declared.command.Query.TheVariants.{Show, Content, List as ListQuery, Payloads, Validity, WhatIf}
use Rattle.desk.proofs.HolderLemmas.{others_left, files_left}

-- the rows after an accepted command are those of the history that it leaves
pub rows_carried : (charter : Charter) (history : History) (day : ℕ) (caller : List ℕ) (command : Command) (change : Change) (rows : AllRows)
    → (accepted : IsAccepted charter history day caller command change) → HasRows rows history → HasRows (changed_rows change rows) accepted.after
rows_carried charter history day caller command change rows accepted has = record {
  holders = λ h. accepted.carries.holders h (rows.of_holder h) (has.holders h);
  files = ap (changed_files change) has.files ∙ sym accepted.carries.files;
}

-- ---- desks before and after

module _ {S : Type 0} (g : Ghosts S) where
  pub read_then : (a b c : StoreView S) → IsRead g a b → IsRead g b c → IsRead g a c
  read_then a b c first second = record {
    clean = λ clean. first.clean (second.clean clean);
    charter = second.charter ∙ first.charter;
    limit = second.limit ∙ first.limit;
    rows = λ clean rows holds. second.rows clean rows (first.rows (second.clean clean) rows holds);
    crash = λ clean trees left. first.crash (second.clean clean) trees (second.crash clean trees left);
  }

  -- what is found after a first read is so of the histories before it
  pub found_later : (so : History → Type 0) (old mid new : StoreView S) → IsRead g old mid → IsRead g mid new → EachHeld g mid new so → EachHeld g old new so
  found_later so old mid new first second found clean history legal held =
      found clean history (subst (λ (k : Charter). IsLegal k history) (sym first.charter) legal) (held.0, held.1, first.rows (second.clean clean) held.0 held.2)

  -- where all rows are kept, so are those of other holders
  pub all_kept : (changes : List ℕ → Bool) (excepts : Bool) (old new : Desk S) → RowsStay g old new → IsOnCleanDisk g new → OthersStay g changes excepts old new
  all_kept changes excepts old new keeps clean rows holds = (rows, keeps clean rows holds, λ h other. refl, λ other. refl)

  -- and where a change was made of what the command names
  pub changed_kept : (command : Command) (change : Change) (old : Desk S) (mid : StoreView S) (new : Desk S) → IsOfCommand command change → IsRead g old.store mid
      → HasCleanDisk (connection_state g mid) → HoldsAfter g mid new.store (changed_rows change) → OthersStay g (may_change (CommandRequest command)) (may_except (CommandRequest command)) old new
  changed_kept command change old mid new of read clean made rows holds =
      (changed_rows change rows, made rows (read.rows clean rows holds), λ h unnamed. others_left command change h (rows.of_holder h) of unnamed, files_left command change rows.files of)

-- ---- refusals

refused_answers : (charter : Charter) (history : History) (day : ℕ) (caller : List ℕ) (command : Command) (refusal : Refusal) → IsAnswer charter history day caller command (Err refusal) → AnswersCommand charter history day caller command (refused_with refusal) history
refused_answers charter history day caller command (Denied rule row) answer = (answer, refl)
refused_answers charter history day caller command Memory answer = refl

never_accepted : (refusal : Refusal) → is_accepted (refused_with refusal) ≡ false
never_accepted (Denied rule row) = refl
never_accepted Memory = refl

module _ {S : Type 0} (g : Ghosts S) (day : ℕ) (caller : List ℕ) (command : Command) (old new : StoreView S) where
  pub refuses : (refusal : Refusal) (r : Result Decided Reply) → IsErrAnd r (λ reply. reply ≡ refused_with refusal)
      → EachHeld g old new (λ history. IsAnswer old.charter history day caller command (Err refusal)) → Decides g day caller command old new r
  refuses refusal (Ok decided) none answer = absurd none
  refuses refusal (Err reply) is answer = rw is (record {
    shape = tt;
    enough = λ clean. tt;
    answer = λ clean history legal held. refused_answers old.charter history day caller command refusal (answer clean history legal held);
    never_done = never_accepted refusal;
  })

pub list_refused : (history : History) (h : List ℕ) (day : ℕ) (caller : List ℕ) (refusal : Refusal) → IsListRefusal history h day caller refusal → AnswersList history h day caller (refused_with refusal)
list_refused history h day caller (Denied rule row) refused = refused
list_refused history h day caller Memory refused = tt

pub query_unavailable : (charter : Charter) (history : History) (day : ℕ) (caller : List ℕ) (query : Query) → AnswersQuery charter history day caller query Unavailable
query_unavailable charter history day caller (Show h n) = tt
query_unavailable charter history day caller (Content h n) = tt
query_unavailable charter history day caller (ListQuery h) = tt
query_unavailable charter history day caller Payloads = tt
query_unavailable charter history day caller (Validity routes) = tt
query_unavailable charter history day caller (WhatIf h changes routes) = tt

-- ---- acceptances

-- an accepted command does more than read
pub accepted_acts : (command : Command) (reply : Reply) → is_accepted reply ≡ true → only_reads (CommandRequest command) reply ≡ false
accepted_acts command (DeniedReply rule row) accepted = absurd (false≢true accepted)
accepted_acts command reply accepted = refl

-- a command other than an import is none
not_import : (command : Command) → ((h : List ℕ) (rows : Vec ImportRow) → command ≡ Import h rows → ⊥) → is_import command ≡ false
not_import (Import h rows) other = absurd (other h rows refl)
not_import command other = refl

plain_accepted : (command : Command) (change : Change) → is_import command ≡ false → AnswersAccepted command change (Done (number_made change))
plain_accepted (Import h rows) change plain charter history day caller accepted = absurd (true≢false plain)
plain_accepted command change plain charter history day caller accepted = (plain, accepted.leaves, accepted.numbered)

-- an accepted command other than an import has its number
pub done_accepted : (command : Command) (change : Change) → ((h : List ℕ) (rows : Vec ImportRow) → command ≡ Import h rows → ⊥)
    → AnswersAccepted command change (Done (number_made change))
done_accepted command change other = plain_accepted command change (not_import command other)

-- and an import its counts
pub imported_accepted : (holder : List ℕ) (rows : Vec ImportRow) (change : Change) (count : ℕ) → count ≡ length rows.items
    → AnswersAccepted (Import holder rows) change (Imported (imported change) (count - imported change))
imported_accepted holder rows change count long charter history day caller accepted =
    let counts = accepted.numbered.1 in
    (accepted.leaves, (counts.0, omega (arith, counts.1, long)))
