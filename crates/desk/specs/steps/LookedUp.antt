-- What a query makes of a desk, and its reply.
use Rattle.std.specs.Prelude.{◌≡◌, ℕ, false, List}
use Rattle.registry.specs.declared.command.Query.{Query}
use Rattle.sqlite.specs.Store.{Ghosts}
use Rattle.store.specs.StoreRows.{IsRead}
use Rattle.desk.specs.Answer.{is_accepted, AnswersQuery}
use Rattle.desk.specs.DayAfter.{DayAfterQuery}
use Rattle.desk.specs.Desk.{charter_of, HoldsHistory, EachHistory}
use Rattle.desk.specs.Prepared.{day_of}
use Rattle.desk.specs.declared.desk.Desk.{Desk}
use Rattle.desk.specs.declared.reply.Reply.{Reply}

-- The tables were read at most, and the reply is of each legal history that the desk held, and holds still.
pub record IsLookedUp {S : Type 0} (g : Ghosts S) (day : ℕ) (caller : List ℕ) (query : Query) (reply : Reply) (old new : Desk S) : Type 0 where
  pub read : IsRead g old.store new.store
  pub held : EachHistory g old new (HoldsHistory g new)
  pub answered : EachHistory g old new (λ history. AnswersQuery (charter_of old) history day caller query reply)
  pub kept_day : DayAfterQuery day query reply (day_of old.kept) (day_of new.kept)
  pub never_done : is_accepted reply ≡ false
