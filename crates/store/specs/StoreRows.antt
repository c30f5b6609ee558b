-- What a store shows and holds, as it is and after a crash.
use Rattle.std.specs.Prelude.{◌≡◌, ◌⊎◌, ℕ, List, false, Option, Result, Err, IfOk, IfSome, IsTrue, refl}
use Rattle.std.specs.Coded.{Coded, code_by, coded×}
use Rattle.sqlite.specs.Held.{Held, held_code, state}
use Rattle.sqlite.specs.State.{State, HasCleanDisk}
use Rattle.sqlite.specs.Store.{Ghosts}
use Rattle.sqlite_trees.specs.Tree.{Trees}
use Rattle.registry.specs.contracts.charter.Charter as charter
use Rattle.registry.specs.CharterSets.{CharterSets, IsCharter}
use Rattle.registry.specs.Answer.{holder_of, taker_of}
use Rattle.registry.specs.declared.change.Change.{Change}
use Rattle.registry.specs.declared.command.Command.{Command}
use Rattle.registry.specs.Rows.{Rows}
use Rattle.registry.specs.RowsOfAll.{AllRows}
use Rattle.registry.specs.Values.{FilesFit, FitIfAny}
use Rattle.store_tables.specs.Tables.{desk_tables}
use Rattle.store_tables.specs.TablesHold.{TablesHold}
use Rattle.store_schema.specs.EitherSchema.{AreOfEitherSchema, EitherSchemaHolds}
use Rattle.store_transactions.specs.Databases.{IsDeskTrees}
use Rattle.store_transactions.specs.declared.fault.StoreFault.{StoreFault}
use Rattle.store_transactions.specs.declared.fault.StoreFault.TheVariants.{Schema}
use Rattle.store_open.specs.Opening.{IsLeftAlone}
use Rattle.store_open.specs.TablesRead.{TablesRead}
use Rattle.store_write.specs.Changes.{RowChange, PlacesExceptions}

-- a store as its connection and its charter
pub record StoreView (S : Type 0) : Type 0 where
  pub connection : Held S
  pub charter : CharterSets

abbrev pub view_code : {S : Type 0} → Coded S → Coded (StoreView S)
view_code {S} store =
    code_by (Held S × CharterSets) (coded× (held_code store) charter.the_row.coded)
    (λ v. (v.connection, v.charter)) (λ p. record { connection = p.0; charter = p.1 }) (λ _. refl)

abbrev pub connection_state : {S : Type 0} → Ghosts S → StoreView S → State
connection_state g store = state g store.connection

-- The tables hold the store's charter and these rows. Nothing is said if the disk returned what was not written, or if
-- a failure of the disk shut the connection, which then answers nothing more.
abbrev pub Holds : {S : Type 0} → Ghosts S → StoreView S → AllRows → Type 0
Holds g store rows =
    HasCleanDisk (connection_state g store) → IsTrue (connection_state g store).is_open
    → TablesHold store.charter rows (connection_state g store).now.trees

-- this holds for the rows that a store holds
abbrev pub EachHeldRows :
    {S : Type 0} → Ghosts S → StoreView S → (AllRows → Type 0) → Type 0
EachHeldRows g store so = (rows : AllRows) → Holds g store rows → so rows

-- the rows of each holder that the command names fit
abbrev pub NamedFit : Command → AllRows → Type 0
NamedFit command rows =
    IfSome (holder_of command) (λ h. FitIfAny (rows.of_holder h))
    × IfSome (taker_of command) (λ h. FitIfAny (rows.of_holder h))

-- this holds, unless the disk returned what was not written
abbrev pub OnCleanStore : {S : Type 0} → Ghosts S → StoreView S → Type 0 → Type 0
OnCleanStore g store so = HasCleanDisk (connection_state g store) → so

-- ---- what a read of a store says, where the disk returned what was written

-- what it answers is so of the rows that the store held, and of those of the holder
abbrev pub FindsHeld : {S X E : Type 0} → Ghosts S → StoreView S → StoreView S → Result X E → (AllRows → X → Type 0) → Type 0
FindsHeld g old new result so = OnCleanStore g new (IfOk result (λ x. EachHeldRows g old (λ rows. so rows x)))

abbrev pub FindsHeldOf : {S X E : Type 0} → Ghosts S → StoreView S → StoreView S → List ℕ → Result X E → (Option Rows → X → Type 0) → Type 0
FindsHeldOf g old new h result so = FindsHeld g old new result (λ rows. so (rows.of_holder h))

-- where it answers fault `Schema`, this holds for the rows that the store held
abbrev pub RefusesHeld : {S X : Type 0} → Ghosts S → StoreView S → StoreView S → Result X StoreFault → (AllRows → Type 0) → Type 0
RefusesHeld g old new result so = OnCleanStore g new (result ≡ Err Schema → EachHeldRows g old so)

-- and there the rows of the holder do not fit
abbrev pub RefusesUnfitOf : {S X : Type 0} → Ghosts S → StoreView S → StoreView S → List ℕ → Result X StoreFault → Type 0
RefusesUnfitOf g old new h result = RefusesHeld g old new result (λ rows. ¬ FitIfAny (rows.of_holder h))

-- ---- what a change leaves

-- the tables hold the rows after the change, if they held those before it
abbrev pub HoldsAfter : {S : Type 0} → Ghosts S → StoreView S → StoreView S → RowChange → Type 0
HoldsAfter g old new to = (rows : AllRows) → Holds g old rows → Holds g new (to rows)

-- A crash leaves what it left before, or the trees of a desk with the rows after the change.
abbrev pub MayLeave : {S : Type 0} → Ghosts S → StoreView S → StoreView S → RowChange → Type 0
MayLeave g old new to =
    (trees : Trees) → (connection_state g new).may_leave trees
    → (connection_state g old).may_leave trees
    ⊎ (IsDeskTrees trees × ((rows : AllRows) → Holds g old rows → TablesHold old.charter (to rows) trees))

-- A crash leaves the trees of a desk with the rows after the change, and nothing else.
abbrev pub LeavesOnly : {S : Type 0} → Ghosts S → StoreView S → StoreView S → RowChange → Type 0
LeavesOnly g old new to =
    (rows : AllRows) → Holds g old rows → (trees : Trees)
    → (connection_state g new).may_leave trees → TablesHold old.charter (to rows) trees × IsDeskTrees trees

-- the change places the exceptions in the tables, and a crash leaves them so
pub record LeavesPlaced {S : Type 0} (g : Ghosts S) (change : Change) (old new : StoreView S) : Type 0 where
  pub shown : PlacesExceptions change (connection_state g old).now.trees (connection_state g new).now.trees
  pub left :
      (trees : Trees) → (connection_state g new).may_leave trees
      → PlacesExceptions change (connection_state g old).now.trees trees

-- While the store is open its schema is as it was: no table, index or view was made or dropped.
abbrev pub KeepsSchema : {S : Type 0} → Ghosts S → StoreView S → StoreView S → Type 0
KeepsSchema g old new =
    IsTrue (connection_state g new).is_open
    → (connection_state g new).now.schema ≡ (connection_state g old).now.schema

-- A read: the charter, the rows and the limit of steps stay, and a crash leaves nothing else than before. A disk that
-- returns what was written did so before.
pub record IsRead {S : Type 0} (g : Ghosts S) (old new : StoreView S) : Type 0 where
  pub clean : HasCleanDisk (connection_state g new) → HasCleanDisk (connection_state g old)
  pub charter : new.charter ≡ old.charter
  pub limit : new.connection.step_limit ≡ old.connection.step_limit
  pub rows : HasCleanDisk (connection_state g new) → (rows : AllRows) → Holds g old rows → Holds g new rows
  pub crash : HasCleanDisk (connection_state g new) → (trees : Trees) → (connection_state g new).may_leave trees → (connection_state g old).may_leave trees

-- ---- an opened store

-- each value of the rows is in the range of its type, and the exceptions of each SLURM file are no more than it may have
abbrev pub AreInRange : AllRows → Type 0
AreInRange rows = ((h : List ℕ) → FitIfAny (rows.of_holder h)) × FilesFit rows.files

-- A store over a database that was found, of this schema, which is left alone, or of schema 1. It holds some rows, each
-- value of which is in the range of its type, and what the tables held before, in either schema, with its charter; each
-- of its rows reads; and a crash leaves the trees of a desk with the rows that it holds.
pub record IsOpened {S : Type 0} (g : Ghosts S) (found : State) (store : StoreView S) : Type 0 where
  pub idle : found.in_transaction ≡ false
  pub tables : AreOfEitherSchema found.now.schema.tables
  pub is_open : IsTrue (connection_state g store).is_open
  pub unchanged : found.now.schema.tables ≡ desk_tables → IsLeftAlone found (connection_state g store)
  pub some : (rows : AllRows) × Holds g store rows × AreInRange rows
  pub reads : TablesRead (connection_state g store).now.trees
  pub same :
      (charter : CharterSets) (rows : AllRows) → IsCharter charter
      → EitherSchemaHolds charter rows found.now.trees → (store.charter ≡ charter) × Holds g store rows
  pub left :
      (rows : AllRows) → Holds g store rows → (trees : Trees)
      → (connection_state g store).may_leave trees → TablesHold store.charter rows trees
  pub listed : (trees : Trees) → (connection_state g store).may_leave trees → IsDeskTrees trees
