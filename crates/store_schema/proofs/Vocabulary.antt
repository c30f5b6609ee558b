-- The names of the logic, of other crates and of the definitions that the proofs use, in one place.
pub use Rattle.std.proofs.Common.{Bool, Contains, IsPermutation, List, None, Ok, Option, Some, [], ap, append-nil, ap₂, arith, codes, cond, drop, false, filter, flat_map, inl, inr, length, map, not, pos, refl, slice_get, subst, suc, sym, take, true, ℕ, ◌++◌, ◌+◌, ◌∙◌, ◌∷◌, ◌≡◌, ◌≢◌}
pub use Rattle.std.proofs.lemmas.List.{map-append, nil_from_length}
pub use Rattle.std.proofs.lemmas.List.Sorted.{Contains-permutation, IsPermutation-append_left, IsPermutation-map, IsPermutation-refl, IsPermutation-sym, IsPermutation-trans, length_permutation}
pub use Rattle.std.proofs.lemmas.Result.{on_ok_weaker}
pub use Rattle.std.specs.List.{AllByRecursion}
pub use Rattle.sqlite.proofs.Callers.{IsPlain, command_of, runs_as, statement_of}
pub use Rattle.sqlite.specs.Change.{KeepsRows, created, indexed, next_tree, without_index}
pub use Rattle.sqlite.specs.Does.{Does, Tally, lacks_sequence}
pub use Rattle.sqlite.specs.Effect.{Database}
pub use Rattle.sqlite.specs.State.{HasCleanDisk, State, Writes, mode_of}
pub use Rattle.sqlite_rules.proofs.ListLemmas.{all_from, has_contained}
pub use Rattle.sqlite_rules.specs.Cast.{cast_all, cast_row}
pub use Rattle.sqlite_schema.specs.declared.command.Command.{Command}
pub use Rattle.sqlite_schema.specs.declared.command.Command.TheVariants.{CreateIndex, CreateTable, Delete, DropIndex, Insert, Update}
pub use Rattle.sqlite_schema.specs.declared.schema.Schema.{Schema}
pub use Rattle.sqlite_schema.specs.declared.schema.Table.{Table}
pub use Rattle.sqlite_sql.specs.Term.{Term, col, eval_all, lit}
pub use Rattle.sqlite_trees.proofs.ListLemmas.{IsPermutation-filter, all-append, all-map, all-permutation, all_both, all_weaker, filter-map, flat_map_same_on, map-flat_map, map-map}
pub use Rattle.sqlite_trees.specs.Tree.{Trees, put_row, rowid}
pub use Rattle.sqlite_value.specs.Order.{Row, column}
pub use Rattle.sqlite_value.specs.declared.value.Value.{Value}
pub use Rattle.sqlite_value.specs.declared.value.Value.TheVariants.{Int, Null, Text}
pub use Rattle.addr.specs.declared.roa_prefix.RoaPrefix.{RoaPrefix}
pub use Rattle.registry.specs.CharterSets.{CharterSets}
pub use Rattle.registry.specs.Rows.{Rows}
pub use Rattle.registry.specs.RowsOfAll.{AllRows}
pub use Rattle.store_tables.proofs.CellLemmas.{cast_claim, cast_entry, cast_prefix, cast_schema}
pub use Rattle.store_tables.proofs.Deleting.{deletion_of, takes}
pub use Rattle.store_tables.proofs.Inserting.{applied, at_table, each_table, same_value, went}
pub use Rattle.store_tables.proofs.Texts.{Means, put_operator_is, put_prefix_is, put_schema_is, put_terms}
pub use Rattle.store_tables.proofs.Updating.{changes, update_of}
pub use Rattle.store_tables.specs.Authorizations.{claim_of, entry_rows_of}
pub use Rattle.store_tables.specs.Cells.{claim_row, entry_row, number_cell, operator_row, prefix_cells, schema_row}
pub use Rattle.store_tables.specs.Groups.{claim_entry}
pub use Rattle.store_tables.specs.Tables.{AreTrees, IsTree, SameRows, as_strict, auth, claim, contents, desk_beside, desk_schema, desk_tables, entry, granted, holder, holding, holding_of, is_table, meta, operator, pool, slurm, with_tables}
pub use Rattle.store_tables.specs.TablesHold.{HoldsFiles, HoldsPart, Part, TablesHold, claim_part, entry_part, granted_part, holder_part, holding_part, is_name_of, is_text, part_rows}
pub use Rattle.store_tables.specs.declared.auth.TheConstants.{CREATE_AUTH}
pub use Rattle.store_tables.specs.declared.claim.TheConstants.{CREATE_CLAIM}
pub use Rattle.store_tables.specs.declared.entry.TheConstants.{CREATE_ENTRY}
pub use Rattle.store_tables.specs.declared.exception.TheConstants.{CREATE_SLURM}
pub use Rattle.store_tables.specs.declared.granted.TheConstants.{CREATE_GRANTED}
pub use Rattle.store_tables.specs.declared.holder.TheConstants.{CREATE_HOLDER}
pub use Rattle.store_tables.specs.declared.holding.TheConstants.{CREATE_HOLDING, CREATE_HOLDING_INDEX}
pub use Rattle.store_tables.specs.declared.meta.TheConstants.{CREATE_META, INSERT_SCHEMA, SCHEMA}
pub use Rattle.store_tables.specs.declared.operator.TheConstants.{CREATE_OPERATOR, INSERT_OPERATOR}
pub use Rattle.store_tables.specs.declared.pool.TheConstants.{CREATE_POOL, INSERT_PREFIX}
pub use Rattle.store_tables.specs.steps.Edits.{Edits, EditsAmong}
pub use Rattle.store_transactions.proofs.PutLemmas.{puts_along, puts_none}
pub use Rattle.store_transactions.proofs.StatementLemmas.{has_schema, means, puts_row, ready_still, sound_still, stays, stays_then, wrote}
pub use Rattle.store_transactions.specs.Statements.{IsExecuted, IsReady, StaysInside, state_in}
pub use Rattle.store_transactions.specs.steps.Statements.{PutsRows}
pub use Rattle.store_schema.specs.Making.{IsMadeTo, IsOver, schema_so_far, tables_so_far}
pub use Rattle.store_schema.specs.Moved.{AreAuthRows, AreMovable, IsMoved, IsWidened, claim_columns, entry_columns}
pub use Rattle.store_schema.specs.Moving.{IsOverOld, MovesRows, WidensTables, old_schema_if, wide_schema}
pub use Rattle.store_schema.specs.OldTables.{HasOldNumber, HasOneEntry, OldTablesHold, auth_part, auth_row, auth_rows, is_old_table, old_holding_of, old_schema, old_schema_row, old_schema_without_index, old_tables}
pub use Rattle.store_schema.specs.declared.statements.TheConstants.{COPY_CLAIMS, COPY_ENTRIES, DELETE_ALL_AUTHS, DROP_HOLDING_INDEX, UPDATE_SCHEMA}
pub use Rattle.store_schema.specs.steps.Making.{DropsIndex, HasCharter, MakesClaimTables, MakesTable, Redefines}
