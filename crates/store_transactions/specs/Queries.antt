-- What a query needs, and what it leaves of a connection.
use Rattle.std.specs.Prelude.{◌≡◌, false, Result, OnOk, IsTrue}
use Rattle.sqlite.specs.declared.transaction.Transaction.{Transaction}
use Rattle.sqlite.specs.Effect.{IsDatabase}
use Rattle.sqlite.specs.Held.{Held, state}
use Rattle.sqlite.specs.State.{State, HasCleanDisk, IsUnchanged, KeepsCounts, Shows, Survives}
use Rattle.sqlite.specs.Store.{Ghosts}
use Rattle.store_transactions.specs.Databases.{HasDeskTables}
use Rattle.store_transactions.specs.Statements.{IsAsBefore, IfDone, IsReady, StaysInside}

-- the disk of a connection returned what was written
abbrev pub IsClean : {S : Type 0} → Ghosts S → Held S → Type 0
IsClean g conn = HasCleanDisk (state g conn)

-- what a query needs: no transaction, and the tables of a desk
pub record IsReadyToAsk {S : Type 0} (g : Ghosts S) (conn : Held S) : Type 0 where
  pub idle : conn.in_transaction ≡ false
  pub tables : HasDeskTables (state g conn)

-- What a query leaves: all as it was, where the connection stays open, and after an answer the
-- savepoints and the counts too. A crash leaves nothing else than before.
pub record IsAsked {S X E : Type 0} (g : Ghosts S) (old new : Held S) (result : Result X E) : Type 0
  where
    pub idle : new.in_transaction ≡ false
    pub same : IsClean g new → OnOk result (IsUnchanged (state g old) (state g new))
    pub kept :
        IsClean g new → IsTrue (state g new).is_open → IsAsBefore (state g old) (state g new)
    pub survives : Survives (state g old) (state g new) (λ _. ⊥)

-- all is as it was, the savepoints aside
abbrev pub ShowsTheSame : State → State → Type 0
ShowsTheSame old new = Shows old new old.now old.committed old.in_transaction × KeepsCounts old new

-- What a transaction of queries alone leaves, once it is rolled back: what a query does, except for
-- the savepoints. It ends with none, whatever savepoints the given connection had.
pub record IsAskedOnce {S X E : Type 0} (g : Ghosts S) (old new : Held S) (result : Result X E) : Type 0
  where
    pub idle : new.in_transaction ≡ false
    pub same : IsClean g new → OnOk result (ShowsTheSame (state g old) (state g new))
    pub kept :
        IsClean g new → IsTrue (state g new).is_open → IsAsBefore (state g old) (state g new)
    pub survives : Survives (state g old) (state g new) (λ _. ⊥)

-- ---- queries within a transaction

-- while the connection is open, the rows obey the schema
abbrev pub ObeysSchema : State → Type 0
ObeysSchema s = IsTrue s.is_open → IsDatabase s.now

-- What a query over the tables of a desk leaves: what every statement does, and after an answer all
-- as it was.
pub record IsAskedInside {S X E : Type 0} (g : Ghosts S) (old new : Transaction S) (result : Result X E) : Type 0
  where
    pub inside : StaysInside g old new
    pub same : IfDone g result IsUnchanged old new
    pub ready : IfDone g result (λ _ s. IsReady s) old new
