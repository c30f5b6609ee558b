-- The lives of a desk over a disk that may crash: lists of requests, with a crash after each.
use Rattle.std.specs.Prelude.{◌≡◌, ◌⊎◌, ℕ, ◌+◌, List, [], ◌∷◌, ◌++◌, take, IsTrue}
use Rattle.std.specs.List.{AllByRecursion}
use Rattle.sqlite.specs.Store.{Ghosts}
use Rattle.sqlite_trees.specs.Tree.{Trees}
use Rattle.sqlite_trees.specs.View.{IsClean}
use Rattle.addr.specs.Name.{is_name}
use Rattle.registry.specs.CharterSets.{IsCharter}
use Rattle.registry.specs.declared.charter.Charter.{Charter}
use Rattle.registry.specs.History.{History}
use Rattle.registry.specs.Values.{HistoryFits}
use Rattle.registry.specs.Verdict.{IsLegal}
use Rattle.registry.specs.declared.asked.Asked.{Asked}
use Rattle.store_transactions.specs.declared.fault.StoreFault.{StoreFault}
use Rattle.store_transactions.specs.declared.fault.StoreFault.TheVariants.{Schema}
use Rattle.desk.specs.CrashOutcomes.{pending_after_all, LeavesAtMost, MayBeLeft}
use Rattle.desk.specs.Desk.{IsOnCleanDisk, Represents}
use Rattle.desk.specs.Resumed.{IsAtMostOneMore, Resumes}
use Rattle.desk.specs.Run.{Runs}
use Rattle.desk.specs.declared.desk.Desk.{Desk}
use Rattle.desk.specs.declared.reply.Reply.{Reply}

-- where a crash of the desk leaves at most a legal history with requests pending, the desk that is opened next
-- resumes it
abbrev pub ResumesAfter : {S : Type 0} → Ghosts S → Desk S → Desk S → Type 0
ResumesAfter g desk again =
    (charter : Charter) (before : History) (pending : List Asked)
    → IsCharter charter → IsLegal charter before → LeavesAtMost g charter desk before pending
    → Resumes g charter before pending again

-- a crash of the store leaves the tables of the history, or of the history with one of the pending requests
abbrev pub StoreLeavesAtMost : {S : Type 0} → Ghosts S → Charter → S → History → List Asked → Type 0
StoreLeavesAtMost g charter store history pending =
    (trees : Trees) → g.recovers store trees → MayBeLeft charter history pending trees

-- A crash of the desk leaves at most a legal history with requests pending. The operators of the charter have names, and
-- whichever request is accepted, the values of the history are those of their types.
pub record LeavesLegal {S : Type 0} (g : Ghosts S) (desk : Desk S) : Type 0 where
  pub charter : Charter
  pub before : History
  pub pending : List Asked
  pub chartered : IsCharter charter
  pub named : AllByRecursion (λ name. IsTrue (is_name name)) charter.operators
  pub legal : IsLegal charter before
  pub fits : (after : History) → IsAtMostOneMore charter before pending after → HistoryFits after
  pub left : LeavesAtMost g charter desk before pending

-- A desk was crashed and not opened again, and the store is what is left. Where the disk returned what was written, what
-- a crash leaves of a legal history is not refused as a database of another schema, and a crash of the store leaves no
-- more than one of the desk did.
pub record RefusesAfter {S : Type 0} (g : Ghosts S) (desk : Desk S) (fault : StoreFault) (store : S) : Type 0 where
  pub clean : IsClean (g.view store) → IsOnCleanDisk g desk
  pub not_schema : IsClean (g.view store) → fault ≡ Schema → ¬ LeavesLegal g desk
  pub left :
      IsClean (g.view store) → (charter : Charter) (history : History) (pending : List Asked)
      → LeavesAtMost g charter desk history pending → StoreLeavesAtMost g charter store history pending

-- A life is a list of requests, each of which has one reply. It begins with the history that the life before it left,
-- or with that history and one more request of that life, which was answered Unavailable after the last one there that
-- was accepted.
abbrev pub Lives : Charter → History → List (List Asked) → List (List Reply) → History → Type 0
Lives charter before [] [] after = after ≡ before
Lives charter before [] (replies ∷ more) after = ⊥
Lives charter before (asked ∷ lives) [] after = ⊥
Lives charter before (asked ∷ lives) (replies ∷ more) after =
    (left : History) × (next : History)
    × Runs charter before asked replies left
    × IsAtMostOneMore charter left (pending_after_all asked replies []) next
    × Lives charter next lives more after

-- The first of these lives were lived, and left a history. Then nothing more was asked, or the requests of the next life
-- were answered and the desk was not opened after them. `after` is the history then, and these requests are pending.
abbrev pub LivesUntil : Charter → History → List (List Asked) → History → List Asked → Type 0
LivesUntil charter before lives after pending =
    (number : ℕ) × (replies : List (List Reply)) × (left : History)
    × Lives charter before (take number lives) replies left
    × (((after ≡ left) × (pending ≡ []))
    ⊎ ((asked : List Asked) × (list : List Reply)
    × (take (number + 1) lives ≡ take number lives ++ asked ∷ [])
    × Runs charter left asked list after × (pending ≡ pending_after_all asked list [])))

-- The desk has a legal history of values of their types, and a crash leaves that and nothing else. The operators of the
-- charter have names.
pub record HoldsLegal {S : Type 0} (g : Ghosts S) (desk : Desk S) : Type 0 where
  pub charter : Charter
  pub history : History
  pub chartered : IsCharter charter
  pub named : AllByRecursion (λ name. IsTrue (is_name name)) charter.operators
  pub represents : Represents g charter desk history
  pub fits : HistoryFits history
  pub left : LeavesAtMost g charter desk history []

-- Where the old desk had a history, and a crash of it left that and nothing else, the new desk has a history to which
-- the lives lead from there, and a crash of it leaves that and nothing else. Its values are those of their types where
-- those of the old one were.
abbrev pub LivesOn : {S : Type 0} → Ghosts S → Desk S → List (List Asked) → List (List Reply) → Desk S → Type 0
LivesOn g old lives replies new =
    (charter : Charter) (before : History) → IsCharter charter
    → Represents g charter old before → LeavesAtMost g charter old before []
    → (after : History) × Lives charter before lives replies after
    × Represents g charter new after
    × (HistoryFits before → HistoryFits after)
    × LeavesAtMost g charter new after []

-- Where the desk had a history, and a crash of it left that and nothing else, a crash of the store leaves at most what the
-- first of these lives led to.
abbrev pub LeavesLives : {S : Type 0} → Ghosts S → Desk S → List (List Asked) → S → Type 0
LeavesLives g desk lives store =
    (charter : Charter) (before : History) → IsCharter charter
    → Represents g charter desk before → LeavesAtMost g charter desk before []
    → (after : History) × (pending : List Asked) × LivesUntil charter before lives after pending
    × StoreLeavesAtMost g charter store after pending
