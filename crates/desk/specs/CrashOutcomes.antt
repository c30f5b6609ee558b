-- What a crash may leave of a desk, and how the requests that it answers change that. A crash leaves the rows of
-- the history, or those of the history with one command that was answered Unavailable since the last command that
-- was accepted.
use Rattle.std.specs.Prelude.{◌≡◌, ◌⊎◌, ℕ, true, List, [], ◌∷◌, Contains, IsTrue}
use Rattle.sqlite.specs.Store.{Ghosts}
use Rattle.sqlite_trees.specs.Tree.{Trees}
use Rattle.registry.specs.declared.charter.Charter.{Charter}
use Rattle.registry.specs.History.{History}
use Rattle.registry.specs.RowsOfAll.{AllRows, HasRows}
use Rattle.registry.specs.declared.asked.Asked.{Asked}
use Rattle.registry.specs.declared.asked.Request.{Request}
use Rattle.store_tables.specs.TablesHold.{TablesHold}
use Rattle.store_transactions.specs.Databases.{IsDeskTrees}
use Rattle.store.specs.StoreRows.{connection_state}
use Rattle.desk.specs.Answer.{is_accepted, AnswersRequest, IsAnswered}
use Rattle.desk.specs.Desk.{charter_of, store_of, HoldsHistory, IsOnCleanDisk}
use Rattle.desk.specs.Run.{AreAnswered}
use Rattle.desk.specs.declared.desk.Desk.{Desk}
use Rattle.desk.specs.declared.reply.Reply.{Reply}
use Rattle.desk.specs.declared.reply.Reply.TheVariants.{Done, Imported, Unavailable}

abbrev pub asked_on : ℕ → List ℕ → Request → Asked
asked_on day caller request = record { day = day; caller = caller; request = request }

-- no failure of the disk shut the connection, where the disk returned what was written
abbrev pub StaysOpen : {S : Type 0} → Ghosts S → Desk S → Type 0
StaysOpen g desk = IsOnCleanDisk g desk → IsTrue (connection_state g (store_of desk)).is_open

-- the trees are those of a desk, whose tables hold the charter and the rows of the history
abbrev pub HoldDesk : Charter → History → Trees → Type 0
HoldDesk charter history trees =
    (rows : AllRows) × HasRows rows history × TablesHold charter rows trees × IsDeskTrees trees

-- the request is accepted on the history, and this is the history that it leaves
abbrev pub IsAcceptedOn : Charter → History → Asked → History → Type 0
IsAcceptedOn charter before asked after =
    (reply : Reply) × (is_accepted reply ≡ true)
    × AnswersRequest charter before asked.day asked.caller asked.request reply after

-- the tables are those of the history, or of the history with one of the pending requests
abbrev pub MayBeLeft : Charter → History → List Asked → Trees → Type 0
MayBeLeft charter history pending trees =
    HoldDesk charter history trees
    ⊎ ((asked : Asked) × (after : History) × Contains pending asked
    × IsAcceptedOn charter history asked after × HoldDesk charter after trees)

-- The requests that a crash may leave applied although they were not accepted: those that were answered Unavailable
-- since the last one that was accepted.
abbrev pub pending_after : Asked → Reply → List Asked → List Asked
pending_after asked (Done number) pending = []
pending_after asked (Imported made present) pending = []
pending_after asked Unavailable pending = asked ∷ pending
pending_after asked other pending = pending

-- and after one reply to each request
abbrev pub pending_after_all : List Asked → List Reply → List Asked → List Asked
pending_after_all (asked ∷ more) (reply ∷ replies) pending =
    pending_after_all more replies (pending_after asked reply pending)
pending_after_all [] replies pending = pending
pending_after_all (asked ∷ more) [] pending = pending

-- a crash at this moment leaves the history, or the history with one of the pending requests
abbrev pub LeavesAtMost : {S : Type 0} → Ghosts S → Charter → Desk S → History → List Asked → Type 0
LeavesAtMost g charter desk history pending =
    (trees : Trees) → (connection_state g (store_of desk)).may_leave trees → MayBeLeft charter history pending trees

-- no request is pending: a crash leaves the history that the desk holds, and no other
abbrev pub HasNonePending : {S : Type 0} → Ghosts S → Desk S → Type 0
HasNonePending g desk =
    (history : History) → HoldsHistory g desk history → LeavesAtMost g (charter_of desk) desk history []

-- where that was so with the one history before, it is so with the other one after, of what is then pending
abbrev pub LeavesAlong :
    {S : Type 0} → Ghosts S → Charter → Desk S → History → (List Asked → List Asked) → Desk S → History → Type 0
LeavesAlong g charter old before to new after =
    (pending : List Asked) → LeavesAtMost g charter old before pending
    → LeavesAtMost g charter new after (to pending)

-- a request was answered, and a crash leaves no more than that
pub record IsDurablyAnswered {S : Type 0} (g : Ghosts S) (charter : Charter) (before : History)
    (asked : Asked) (reply : Reply) (old new : Desk S) : Type 0 where
  pub answered : IsAnswered g charter before asked.day asked.caller asked.request reply new
  pub left : LeavesAlong g charter old before (pending_after asked reply) new answered.after

-- requests were answered, and a crash leaves no more than that
pub record AreDurablyAnswered {S : Type 0} (g : Ghosts S) (charter : Charter) (before : History)
    (asked : List Asked) (replies : List Reply) (old new : Desk S) : Type 0 where
  pub answered : AreAnswered g charter before asked replies new
  pub left : LeavesAlong g charter old before (pending_after_all asked replies) new answered.after
