-- The names of the logic, of other crates and of the definitions that the proofs use, in one place.
pub use Rattle.std.proofs.Common.{All, Bool, Err, IsPermutation, IsSome, List, None, Ok, OnOk, Option, Result, Some, [], ap, append-nil, ap₂, arith, cond, drop, false, filter, flat_map, get_or, if◌then◌else◌, inl, inr, is_some, length, map, not, option_map, pos, refl, slice_get, subst, suc, sym, take, true, ℕ, ◌&&◌, ◌++◌, ◌+◌, ◌/◌, ◌<◌, ◌==◌, ◌∙◌, ◌∷◌, ◌≡◌, ◌≢◌, ◌⊎◌}
pub use Rattle.std.proofs.Math.Bool.{and-true, or-false}
pub use Rattle.std.proofs.lemmas.Bool.{and_parts, both_ways, cond-false, cond-true, eq-eqb, eqb-true}
pub use Rattle.std.proofs.lemmas.Grind.{flat_map-append}
pub use Rattle.std.proofs.lemmas.List.{length-map, length-take, map-append, take_more}
pub use Rattle.std.proofs.lemmas.List.Elements.{All-more, filter-append, recursion_from_All}
pub use Rattle.std.proofs.lemmas.List.Sorted.{IsPermutation-append_comm, IsPermutation-append_right, IsPermutation-cons, IsPermutation-map, IsPermutation-middle, IsPermutation-refl, IsPermutation-sym, IsPermutation-trans, length_permutation}
pub use Rattle.std.proofs.lemmas.Result.{on_ok_weaker}
pub use Rattle.std.specs.List.{AllByRecursion, list_any}
pub use Rattle.sqlite.specs.Effect.{Database, IsDatabase, value_rows}
pub use Rattle.sqlite.specs.State.{HasCleanDisk, IsUnchanged, Shown, State}
pub use Rattle.sqlite_rules.specs.Cast.{cast, cast_all}
pub use Rattle.sqlite_sql.specs.Term.{Term, col, eval_all, lit}
pub use Rattle.sqlite_trees.proofs.ListLemmas.{IsPermutation-filter, IsPermutation-flat_map, IsPermutation-same, all-append, all-filter, filter-map, map-map}
pub use Rattle.sqlite_value.specs.Order.{Row, column}
pub use Rattle.sqlite_value.specs.declared.value.Value.TheVariants.{Int, Null, Text}
pub use Rattle.addr.specs.Spans.{is_one_of, span_eq, without_runs}
pub use Rattle.addr.specs.declared.span.Span.{Span}
pub use Rattle.registry.specs.CharterSets.{CharterSets}
pub use Rattle.registry.specs.RoaPrefixes.{AreEntries}
pub use Rattle.registry.specs.Rows.{Rows, changed_by_one, edited, edited_if_any, new_rows, replaced_by}
pub use Rattle.registry.specs.RowsOfAll.{AllRows, changed_rows}
pub use Rattle.registry.specs.declared.authorization.Auth.{Auth}
pub use Rattle.registry.specs.declared.change.Change.TheVariants.{Holders}
pub use Rattle.registry.specs.declared.change.Edit.TheVariants.{Amend, Create, Grant, Hold, Import, Register, Revoke, Withdraw}
pub use Rattle.registry.specs.declared.change.HolderChange.{HolderChange}
pub use Rattle.registry.specs.declared.grant.Granted.{Granted}
pub use Rattle.store_tables.proofs.CellLemmas.{appended, cast_claim, cast_entry, cast_exception, cast_granted, cast_holder, cast_holding, cast_number, is_bytes, is_number_cell, number_of_number, same_address, same_family_number}
pub use Rattle.store_tables.proofs.ClaimTexts.{amend_claim_is, claim_sets, of_number_tests, put_claim_is, put_entry_is, take_claim_is, take_entries_is}
pub use Rattle.store_tables.proofs.Claims.{amends_claim, amends_counted, entries_taken, takes_claim, takes_entries}
pub use Rattle.store_tables.proofs.Columns.{column_after}
pub use Rattle.store_tables.proofs.HaveEntries.{edited_have_entries, replaced_have_entries, turned_have_entries}
pub use Rattle.store_tables.proofs.PartLemmas.{EditsPart, IsLocal, change_local, name_of-true, name_of_itself, names, part_same, part_turned, put_local, take_local, turned_at}
pub use Rattle.store_tables.proofs.Selecting.{permuted, picks}
pub use Rattle.store_tables.proofs.Testing.{equals_blob, equals_int, equals_text, holder_test}
pub use Rattle.store_tables.proofs.Texts.{Means, counters_is, equals, put_exception_is, put_terms, take_exceptions_is}
pub use Rattle.store_tables.proofs.TreeRows.{all_kept, filter_twice, neither}
pub use Rattle.store_tables.proofs.Updating.{changed_if}
pub use Rattle.store_tables.specs.Authorizations.{EachHasEntries, HaveEntries, claim_of, entry_rows_of}
pub use Rattle.store_tables.specs.Cells.{address_bytes, claim_cells, claim_row, entry_row, exception_row, family_number, granted_row, holder_row, holding_row, number_cell, operator_row, prefix_cells, role_number, schema_row, scope_cells}
pub use Rattle.store_tables.specs.Tables.{AreTrees, IsTree, as_strict, claim, contents, desk_beside, desk_tables, entry, granted, holder, holding, is_table, slurm}
pub use Rattle.store_tables.specs.TablesHold.{HoldsCharter, HoldsFiles, HoldsFromOne, HoldsPart, Part, TablesHold, at_positions, claim_part, entry_part, file_rows, granted_part, holder_part, holding_part, is_name_of, part_rows}
pub use Rattle.store_tables.specs.declared.claim.Claim.{Claim}
pub use Rattle.store_tables.specs.declared.claim.TheConstants.{DELETE_CLAIM, INSERT_CLAIM, UPDATE_CLAIM}
pub use Rattle.store_tables.specs.declared.entry.TheConstants.{DELETE_ENTRIES, INSERT_ENTRY}
pub use Rattle.store_tables.specs.declared.holder.TheConstants.{INSERT_HOLDER, SELECT_COUNTERS, UPDATE_CREATED, UPDATE_GRANTED}
pub use Rattle.store_tables.specs.steps.Edits.{Edits}
pub use Rattle.store_transactions.proofs.PutLemmas.{puts_then}
pub use Rattle.store_transactions.proofs.QueryLemmas.{reads_desk}
pub use Rattle.store_transactions.proofs.StatementLemmas.{has_schema, means, puts_row, ready_still, sound_still, stays, stays_then, taken_more, wrote}
pub use Rattle.store_transactions.specs.Laws.{ClaimsDiffer, number_columns}
pub use Rattle.store_transactions.specs.Statements.{IfDone, IsExecuted, IsReady, OnCleanDisk, StaysInside, state_in}
pub use Rattle.store_transactions.specs.steps.Statements.{PutsRows}
pub use Rattle.store_write.specs.Changes.{MakesChange, RowChange, RowsBecome}
pub use Rattle.store_write.specs.steps.RowEdits.{is_registration, with_auths, with_created, with_granted, with_grants, with_holdings, with_new_auths, with_replaced_holdings, without_auths, without_holdings}
pub use Rattle.store_write.specs.steps.Statements.{AnswersWhetherRegistered, EditsHolder, EditsRows, HoldersBecome, IsBounded, IsExecutedOn, KeepsExceptions, Registers, TakesRows, at_holder, each_holder, entry_rows}
