-- What a read of the tables says, where the disk returned what was written.
use Rattle.std.specs.Prelude.{◌≡◌, ℕ, List, Result, Err, OnOk, IfOk}
use Rattle.std.specs.List.{AllByRecursion}
use Rattle.sqlite.specs.Effect.{Database}
use Rattle.sqlite.specs.Held.{Held, state}
use Rattle.sqlite.specs.Store.{Ghosts}
use Rattle.sqlite_value.specs.Order.{Row}
use Rattle.store_tables.specs.Tables.{IsTree}
use Rattle.store_transactions.specs.Queries.{IsClean}
use Rattle.store_transactions.specs.declared.fault.StoreFault.{StoreFault}
use Rattle.store_transactions.specs.declared.fault.StoreFault.TheVariants.{Schema}
use Rattle.store_open.specs.TablesRead.{ShowsSome, TablesRead}
use Rattle.store_open.specs.steps.Numbered.{shown_in}

-- what it answers is so of the database that was there
abbrev pub FindsIn : {S X E : Type 0} → Ghosts S → Held S → Held S → Result X E → (X → Database → Type 0) → Type 0
FindsIn g old new result so = IsClean g new → IfOk result (λ x. so x (state g old).now)

-- where it succeeds, this is so of the database that was there
abbrev pub FindsThat : {S X E : Type 0} → Ghosts S → Held S → Held S → Result X E → (Database → Type 0) → Type 0
FindsThat g old new result so = IsClean g new → OnOk result (so (state g old).now)

-- where it answers fault `Schema`, this is so of the database that was there
abbrev pub RefusesIn : {S X : Type 0} → Ghosts S → Held S → Held S → Result X StoreFault → (Database → Type 0) → Type 0
RefusesIn g old new result so = IsClean g new → result ≡ Err Schema → so (state g old).now

-- and there its tables do not read
abbrev pub RefusesUnread : {S X : Type 0} → Ghosts S → Held S → Held S → Result X StoreFault → Type 0
RefusesUnread g old new result = RefusesIn g old new result (λ db. ¬ TablesRead db.trees)

-- each row of a table shows a value of the type in some columns
abbrev pub EachShows : {X : Type 0} → (X → Row) → (X → Type 0) → ℕ → List ℕ → Database → Type 0
EachShows cells fits tree places db = AllByRecursion (ShowsSome cells fits) (shown_in tree places db)

-- its tree of this number is that of a table with rowids
abbrev pub HasTree : ℕ → Database → Type 0
HasTree tree db = IsTree (db.trees tree)
