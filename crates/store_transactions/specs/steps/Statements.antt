-- What single statements do and answer.
use Rattle.std.specs.Prelude.{ℕ, List, [], ◌++◌}
use Rattle.sqlite.specs.Effect.{Database, IsDatabase, Reads}
use Rattle.sqlite.specs.Listing.{understood}
use Rattle.sqlite.specs.State.{State}
use Rattle.sqlite.proofs.Callers.{command_of}
use Rattle.sqlite_value.specs.Order.{Row}
use Rattle.store_tables.specs.Tables.{desk_beside}
use Rattle.store_tables.specs.steps.Edits.{Edits}
use Rattle.store_transactions.specs.Statements.{IsReady}

-- the transaction goes on, and these rows were put into a table
pub record PutsRows (tree : ℕ) (rows : List Row) (old new : State) : Type 0 where
  pub ready : IsReady new
  pub sound : IsDatabase old.now → IsDatabase new.now
  pub edits : Edits tree (λ table. rows ++ table) old.now new.now

-- over the tables of a desk the text answers these rows, with these parameters, and with none
abbrev pub AnswersWith : List ℕ → Row → Database → List Row → Type 0
AnswersWith sql params db rows = Reads (command_of (understood (desk_beside db.schema) sql)) db params rows

abbrev pub AnswersSelect : List ℕ → Database → List Row → Type 0
AnswersSelect sql = AnswersWith sql []
