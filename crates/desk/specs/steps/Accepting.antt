-- What is decided of a command, and what is replied where it is accepted, before its change is made.
use Rattle.std.specs.Prelude.{◌≡◌, ℕ, false, List, Result, IfOk, IfErr, MatchResult}
use Rattle.registry.specs.Answer.{IsAccepted}
use Rattle.registry.specs.Edits.{HasEditsOf}
use Rattle.registry.specs.History.{History}
use Rattle.registry.specs.declared.change.Change.{Change}
use Rattle.registry.specs.declared.charter.Charter.{Charter}
use Rattle.registry.specs.declared.command.Command.{Command}
use Rattle.sqlite.specs.Store.{Ghosts}
use Rattle.store.specs.StoreRows.{OnCleanStore, EachHeldRows, StoreView}
use Rattle.desk.specs.Answer.{is_accepted, AnswersCommand}
use Rattle.desk.specs.Desk.{EachHeld}
use Rattle.desk.specs.declared.desk.following.Decided.{Decided}
use Rattle.desk.specs.declared.reply.Reply.{Reply}
use Rattle.desk.specs.steps.Following.{AreEnoughFor}

-- The command is accepted with a change of its edits, beside authorizations that are enough to follow it; or a reply
-- refuses it.
pub record Decides {S : Type 0} (g : Ghosts S) (day : ℕ) (caller : List ℕ) (command : Command) (old new : StoreView S)
    (result : Result Decided Reply) : Type 0 where
  pub shape : IfOk result (λ decided. HasEditsOf command decided.change)
  pub enough : OnCleanStore g new (IfOk result (λ decided.
      EachHeldRows g old (AreEnoughFor decided.change decided.first decided.second)))
  pub answer : EachHeld g old new (λ history. MatchResult result
      (λ decided. IsAccepted old.charter history day caller command decided.change)
      (λ reply. AnswersCommand old.charter history day caller command reply history))
  pub never_done : IfErr result (λ reply. is_accepted reply ≡ false)

-- on each history on which the command is accepted with this change, it is the reply, and leaves
-- the history to which the change carries
abbrev pub AnswersAccepted : Command → Change → Reply → Type 0
AnswersAccepted command change reply =
    (charter : Charter) (history : History) (day : ℕ) (caller : List ℕ)
    → (accepted : IsAccepted charter history day caller command change)
    → AnswersCommand charter history day caller command reply accepted.after
