-- Requests, one after the other.
use Rattle.std.specs.Prelude.{◌≡◌, List, [], ◌∷◌}
use Rattle.registry.specs.History.{History}
use Rattle.registry.specs.Values.{HistoryFits}
use Rattle.registry.specs.Verdict.{IsLegal}
use Rattle.registry.specs.declared.charter.Charter.{Charter}
use Rattle.desk.specs.Answer.{AnswersRequest}
use Rattle.sqlite.specs.Store.{Ghosts}
use Rattle.desk.specs.Desk.{HoldsHistory}
use Rattle.desk.specs.declared.desk.Desk.{Desk}
use Rattle.registry.specs.declared.asked.Asked.{Asked}
use Rattle.desk.specs.declared.reply.Reply.{Reply}

-- one reply to each request, on the history that the one before it left; a reply of Unavailable
-- leaves the history
abbrev pub Runs : Charter → History → List Asked → List Reply → History → Type 0
Runs charter before [] [] after = after ≡ before
Runs charter before [] (reply ∷ replies) after = ⊥
Runs charter before (asked ∷ more) [] after = ⊥
Runs charter before (asked ∷ more) (reply ∷ replies) after =
    (next : History)
    × AnswersRequest charter before asked.day asked.caller asked.request reply next
    × Runs charter next more replies after

-- requests were answered: the tables hold the rows of the history that the run leaves, which is legal and,
-- where it was so before, of values of their types
pub record AreAnswered {S : Type 0} (g : Ghosts S) (charter : Charter) (before : History)
    (asked : List Asked) (replies : List Reply) (desk : Desk S) : Type 0 where
  pub after : History
  pub legal : IsLegal charter after
  pub values : HistoryFits before → HistoryFits after
  pub runs : Runs charter before asked replies after
  pub rows_after : HoldsHistory g desk after
