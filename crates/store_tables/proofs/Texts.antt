-- What the statements of a desk mean over its tables, whatever indexes and views are beside them. Each fact is
-- computed.
use Rattle.store_tables.proofs.Vocabulary.{◌≡◌, ℕ, zero, suc, pos, List, [], ◌∷◌, codes, true, false, refl, sym, ap, subst, Binary, Key, Null, Int, Text, Values, Insert, Update, Delete, Select, Schema, Eq, Le, Ge, Compare, Term, lit, col, op2, IsPlain, command_of, desk_tables, desk_beside, OverDesk, DELETE_EXCEPTIONS, INSERT_EXCEPTION, INSERT_SCHEMA, SCHEMA}
use Rattle.sqlite_schema.specs.declared.command.Command.{Command}
use Rattle.sqlite.specs.Listing.{understood, reads_listing}
use Rattle.sqlite_tied.specs.Compute.{everything}
use Rattle.store_tables.specs.declared.granted.TheConstants.{DELETE_GRANT, INSERT_GRANT, SELECT_HOLDER_GRANTS}
use Rattle.store_tables.specs.declared.holder.TheConstants.{INSERT_HOLDER, SELECT_COUNTERS, UPDATE_CREATED, UPDATE_GRANTED}
use Rattle.store_tables.specs.declared.holding.TheConstants.{DELETE_HOLDING, INSERT_HOLDING, SELECT_HOLDER_SPANS, SELECT_OVERLAP, SELECT_RUN_BELOW}
use Rattle.store_tables.specs.declared.operator.TheConstants.{INSERT_OPERATOR}
use Rattle.store_tables.specs.declared.pool.TheConstants.{INSERT_PREFIX}
use Rattle.store_tables.proofs.Selecting.{from_table, no_limit}

-- a schema that has the tables of a desk
pub beside : (s : Schema) → s.tables ≡ desk_tables → s ≡ desk_beside s
beside s has = ap (λ tables. record s { tables = tables }) has

pub at_desk : (so : Schema → Type 0) → OverDesk so → (s : Schema) → s.tables ≡ desk_tables → so s
at_desk so over s has = subst so (sym (beside s has)) (over s)

-- the text is this command, shows no RETURNING, and reads no listing
pub record Means (sql : List ℕ) (command : Command) : Type 0 where
  pub is : OverDesk (λ s. command_of (understood s sql) ≡ command)
  pub plain : OverDesk (λ s. IsPlain (understood s sql))
  pub unlisted : OverDesk (λ s. reads_listing s sql ≡ false)

-- a column of the table is a parameter
abbrev pub equals : ℕ → ℕ → Term
equals place parameter = op2 (Compare Eq Binary) (col 1 place) (col 0 parameter)

-- the rows are sorted upwards by a column
abbrev pub upwards : ℕ → Term × Key
upwards place = (col 1 place, record { collation = Binary; descending = false })

-- a row of parameters, the hidden rowid left to SQLite
abbrev pub put_terms : ℕ → List Term
put_terms n = lit Null ∷ from n 0
  where
    from : ℕ → ℕ → List Term
    from zero at = []
    from (suc n) at = col 0 at ∷ from n (suc at)

pub put_schema_is : Means INSERT_SCHEMA.now (Insert 0 (Values (lit Null ∷ lit (Text (codes "schema")) ∷ lit (Int (pos SCHEMA)) ∷ []) 3))
unfolding understood everything
put_schema_is = record { is = λ s. refl; plain = λ s. (refl, refl); unlisted = λ s. refl }

pub put_operator_is : Means INSERT_OPERATOR.now (Insert 1 (Values (put_terms 1) 2))
unfolding understood everything
put_operator_is = record { is = λ s. refl; plain = λ s. (refl, refl); unlisted = λ s. refl }

pub put_prefix_is : Means INSERT_PREFIX.now (Insert 2 (Values (put_terms 3) 4))
unfolding understood everything
put_prefix_is = record { is = λ s. refl; plain = λ s. (refl, refl); unlisted = λ s. refl }

pub put_holder_is : Means INSERT_HOLDER.now (Insert 3 (Values (lit Null ∷ col 0 0 ∷ lit (Int (pos 0)) ∷ lit (Int (pos 0)) ∷ []) 4))
unfolding understood everything
put_holder_is = record { is = λ s. refl; plain = λ s. (refl, refl); unlisted = λ s. refl }

pub put_holding_is : Means INSERT_HOLDING.now (Insert 4 (Values (put_terms 4) 5))
unfolding understood everything
put_holding_is = record { is = λ s. refl; plain = λ s. (refl, refl); unlisted = λ s. refl }

pub put_granted_is : Means INSERT_GRANT.now (Insert 5 (Values (put_terms 8) 9))
unfolding understood everything
put_granted_is = record { is = λ s. refl; plain = λ s. (refl, refl); unlisted = λ s. refl }

pub take_holding_is : Means DELETE_HOLDING.now (Delete 4 (record { lets = []; body = from_table 8 (equals 1 0 ∷ equals 2 1 ∷ equals 3 2 ∷ equals 4 3 ∷ []) (col 1 0 ∷ []) [] no_limit }))
unfolding understood everything
take_holding_is = record { is = λ s. refl; plain = λ s. (refl, refl); unlisted = λ s. refl }

pub take_granted_is : Means DELETE_GRANT.now (Delete 5 (record { lets = []; body = from_table 10 (equals 1 0 ∷ equals 2 1 ∷ []) (col 1 0 ∷ []) [] no_limit }))
unfolding understood everything
take_granted_is = record { is = λ s. refl; plain = λ s. (refl, refl); unlisted = λ s. refl }

pub set_grants_is : Means UPDATE_GRANTED.now (Update 3 (record { lets = []; body = from_table 6 (equals 1 0 ∷ []) (col 1 0 ∷ col 1 0 ∷ col 1 1 ∷ col 0 1 ∷ col 1 3 ∷ []) [] no_limit }))
unfolding understood everything
set_grants_is = record { is = λ s. refl; plain = λ s. (refl, refl); unlisted = λ s. refl }

pub set_auths_is : Means UPDATE_CREATED.now (Update 3 (record { lets = []; body = from_table 6 (equals 1 0 ∷ []) (col 1 0 ∷ col 1 0 ∷ col 1 1 ∷ col 1 2 ∷ col 0 1 ∷ []) [] no_limit }))
unfolding understood everything
set_auths_is = record { is = λ s. refl; plain = λ s. (refl, refl); unlisted = λ s. refl }

pub counters_is : Means SELECT_COUNTERS.now (Select (record { lets = []; body = from_table 6 (equals 1 0 ∷ []) (col 1 2 ∷ col 1 3 ∷ []) [] no_limit }) (codes "grants" ∷ codes "auths" ∷ []))
unfolding understood everything
counters_is = record { is = λ s. refl; plain = λ s. (refl, refl); unlisted = λ s. refl }

pub spans_is : Means SELECT_HOLDER_SPANS.now (Select (record { lets = []; body = from_table 8 (equals 4 0 ∷ []) (col 1 1 ∷ col 1 2 ∷ col 1 3 ∷ []) (upwards 1 ∷ upwards 2 ∷ []) no_limit }) (codes "family" ∷ codes "lo" ∷ codes "hi" ∷ []))
unfolding understood everything
spans_is = record { is = λ s. refl; plain = λ s. (refl, refl); unlisted = λ s. refl }

pub grants_is : Means SELECT_HOLDER_GRANTS.now (Select (record { lets = []; body = from_table 10 (equals 1 0 ∷ []) (col 1 2 ∷ col 1 3 ∷ col 1 4 ∷ col 1 5 ∷ col 1 6 ∷ col 1 7 ∷ col 1 8 ∷ []) (upwards 2 ∷ []) no_limit }) (codes "number" ∷ codes "caller" ∷ codes "role" ∷ codes "family" ∷ codes "lo" ∷ codes "len" ∷ codes "until" ∷ []))
unfolding understood everything
grants_is = record { is = λ s. refl; plain = λ s. (refl, refl); unlisted = λ s. refl }

-- the rows of the runs that share an address with the run from ?2 to ?3
abbrev pub overlap_tests : List Term
overlap_tests = equals 1 0 ∷ op2 (Compare Le Binary) (col 1 2) (col 0 2) ∷ op2 (Compare Ge Binary) (col 1 3) (col 0 1) ∷ []

pub overlap_is : Means SELECT_OVERLAP.now (Select (record { lets = []; body = from_table 8 overlap_tests (lit (Int (pos 1)) ∷ []) [] (lit (Int (pos 1))) }) (codes "1" ∷ []))
unfolding understood everything
overlap_is = record { is = λ s. refl; plain = λ s. (refl, refl); unlisted = λ s. refl }

-- the rows of the runs of the family ?1 that begin at or before the address ?2, the last one first
abbrev pub below_tests : List Term
below_tests = equals 1 0 ∷ op2 (Compare Le Binary) (col 1 2) (col 0 1) ∷ []

abbrev pub last_first : List (Term × Key)
last_first = (col 1 2, record { collation = Binary; descending = true }) ∷ []

pub run_below_is : Means SELECT_RUN_BELOW.now (Select (record { lets = []; body = from_table 8 below_tests (col 1 1 ∷ col 1 2 ∷ col 1 3 ∷ col 1 4 ∷ []) last_first (lit (Int (pos 1))) }) (codes "family" ∷ codes "lo" ∷ codes "hi" ∷ codes "holder" ∷ []))
unfolding understood everything
run_below_is = record { is = λ s. refl; plain = λ s. (refl, refl); unlisted = λ s. refl }

pub take_exceptions_is : Means DELETE_EXCEPTIONS.now (Delete 7 (record { lets = []; body = from_table 15 [] (col 1 0 ∷ []) [] no_limit }))
unfolding understood everything
take_exceptions_is = record { is = λ s. refl; plain = λ s. (refl, refl); unlisted = λ s. refl }

pub put_exception_is : Means INSERT_EXCEPTION.now (Insert 7 (Values (put_terms 8) 9))
unfolding understood everything
put_exception_is = record { is = λ s. refl; plain = λ s. (refl, refl); unlisted = λ s. refl }
