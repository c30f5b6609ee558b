-- The names of the logic, of other crates and of the definitions that the proofs use, in one place.
pub use Rattle.std.proofs.Common.{All, Any, Bool, Equal, Err, Greater, IfErr, IfOk, IsErr, IsErrAnd, IsPermutation, IsTrue, Less, List, None, Ok, OnErr, OnOk, Option, Ordering, Result, Some, [], ap, append-nil, append_assoc, arith, codes, drop, false, filter, get_or, if◌then◌else◌, inl, inr, is_eq, length, map, not, refl, rules, slice_get, slice_index_or, subst, suc, sym, take, true, zero, ℕ, ◌&&◌, ◌++◌, ◌+◌, ◌/◌, ◌<◌, ◌==◌, ◌||◌, ◌↔◌, ◌∙◌, ◌∷◌, ◌≡◌, ◌≢◌, ◌≤◌, ◌⊎◌}
pub use Rattle.std.proofs.lemmas.Bool.{and_from, and_parts, both_ways, cases_Bool, cases_lt, eq-eqb, eqb-true, lt-ltb, not-true}
pub use Rattle.std.proofs.lemmas.Cmp.{nat_cmp_total, nat_list_cmp_total, on_total, then_total, tied_itself}
pub use Rattle.std.proofs.lemmas.List.{length-append, length-drop, length-map, map-append, take_more}
pub use Rattle.std.proofs.lemmas.List.Elements.{All-from_all_within, All-from_recursion, All-nil, filter-append, recursion_from_All}
pub use Rattle.std.proofs.lemmas.List.Sorted.{All-permutation, IsPartitionPoint-from_clause, IsPermutation-append_comm, IsPermutation-append_left, IsPermutation-append_right, IsPermutation-cons, IsPermutation-filter_both, IsPermutation-map, IsPermutation-middle, IsPermutation-refl, IsPermutation-sym, IsPermutation-trans, length_permutation}
pub use Rattle.std.proofs.lemmas.Map.Text.{is_eq-slice_cmp}
pub use Rattle.std.proofs.lemmas.Result.{IfOk-weaker, err_from_is_err_and, on_ok_weaker}
pub use Rattle.std.specs.Cmp.Lexicographic.{slice_cmp}
pub use Rattle.std.specs.List.{AllAdjacentBelow, AllByRecursion, filter_map, list_all}
pub use Rattle.std.specs.Ordering.{is_lt, is_ne, nat_cmp, ordering_reverse, ordering_then}
pub use Rattle.std.specs.Str.{bytes_eq}
pub use Rattle.sqlite.proofs.Callers.{IsPlain, command_of, never_commits, reads_as, runs_as, statement_of, unchanged_then}
pub use Rattle.sqlite.proofs.InsideLemmas.{keeps_then, unchanged_keeps}
pub use Rattle.sqlite.proofs.StateLemmas.{survives_then, survives_weaker}
pub use Rattle.sqlite.specs.Effect.{Database, IsDatabase, Reads, value_rows}
pub use Rattle.sqlite.specs.Held.{Held, state}
pub use Rattle.sqlite.specs.Listing.{IsSourceOf, reads_listing, understood}
pub use Rattle.sqlite.specs.State.{CommitsShowing, FailsToQuery, FailsToShow, HasCleanDisk, IsRolledBack, IsTooLate, IsUnchanged, KeepsCommit, Runs, Shown, ShowsRows, State, Survives}
pub use Rattle.sqlite.specs.Store.{Ghosts}
pub use Rattle.sqlite.specs.Values.{bound}
pub use Rattle.sqlite.specs.declared.error.Error.{Error}
pub use Rattle.sqlite.specs.declared.transaction.Transaction.{Transaction}
pub use Rattle.sqlite_rules.proofs.ListLemmas.{all_from, all_has, has_filtered, has_kept, some_from, some_has, test_has}
pub use Rattle.sqlite_rules.specs.Lists.{Has}
pub use Rattle.sqlite_schema.specs.Rules.{agree, are_present, are_typed, clashes, differ, equal, guards, has_parent, is_held, parent_key, passes}
pub use Rattle.sqlite_schema.specs.declared.command.Command.{Command}
pub use Rattle.sqlite_schema.specs.declared.schema.Table.{Table}
pub use Rattle.sqlite_trees.proofs.ListLemmas.{IsPermutation-filter, all-append, all-filter, all-map, all-permutation, all_both, all_from_map, all_of, all_weaker, along_permutation, ascending-filter, ascending-get_or, ascending-map, filter-filter, filter-map, filter_all, filter_none, filter_same}
pub use Rattle.sqlite_trees.specs.Tree.{IsAscending, Trees, rowid}
pub use Rattle.sqlite_trees.specs.View.{is_int}
pub use Rattle.sqlite_value.specs.Keys.{plain}
pub use Rattle.sqlite_value.specs.Order.{Row, column, value_cmp}
pub use Rattle.sqlite_value.specs.declared.value.Value.{Value}
pub use Rattle.sqlite_value.specs.declared.value.Value.TheVariants.{Blob, Int, Null, Real, Text}
pub use Rattle.addr.specs.Name.{is_name}
pub use Rattle.registry.proofs.Names.{same_name-same, same_name-true}
pub use Rattle.registry.specs.Values.{ExceptionsFit, FileFits, FilesFit, FilterFits, VrpFits}
pub use Rattle.slurm.specs.Exceptions.{Exceptions}
pub use Rattle.slurm.specs.SlurmSets.{RiseByName, exceptions_named, has_entries, name_cmp}
pub use Rattle.slurm.specs.declared.exceptions.TheConstants.{MOST_ENTRIES}
pub use Rattle.slurm.specs.declared.set.NamedSlurm.{NamedSlurm}
pub use Rattle.store_tables.proofs.PartLemmas.{name_of-true, name_of_itself, name_of_text}
pub use Rattle.store_tables.proofs.Texts.{Means, at_desk, beside}
pub use Rattle.store_tables.specs.Cells.{exception_row, kind_number}
pub use Rattle.store_tables.specs.Decode.{DecodesAll, ExceptionFits, ExceptionRowFits, IsPosition, ShowsNone, exception_columns, first_columns}
pub use Rattle.store_tables.specs.Tables.{AreTrees, IsTree, OverDesk, as_strict, claim, contents, desk_beside, desk_tables, entry, holder, holder_reference, required_column, rising}
pub use Rattle.store_tables.specs.TablesHold.{ArePlaced, HoldsExceptions, HoldsFiles, is_name_of, is_of_file, is_text}
pub use Rattle.store_tables.specs.declared.exception.Exception.{Exception}
pub use Rattle.store_tables.specs.declared.exception.ExceptionRow.{ExceptionRow}
pub use Rattle.store_transactions.specs.Files.{AreFewOfEach, ShowsExceptions}
pub use Rattle.store_transactions.specs.Laws.{ClaimsDiffer, EntriesDiffer, RowsDiffer, number_columns, payload_columns}
pub use Rattle.store_transactions.specs.Queries.{IsAsked, IsAskedInside, IsClean}
pub use Rattle.store_transactions.specs.Statements.{IfDone, IsAsBefore, IsExecuted, IsReady, OnCleanDisk, StaysInside, state_in}
pub use Rattle.store_transactions.specs.declared.fault.StoreFault.{StoreFault}
pub use Rattle.store_transactions.specs.declared.fault.StoreFault.TheVariants.{Schema}
pub use Rattle.store_transactions.specs.steps.Files.{AreFew, AreFilesIn, RiseByPlace, assertion_if, exceptions_in, filter_if, is_in_file, place_cmp}
pub use Rattle.store_transactions.specs.steps.Statements.{AnswersWith, PutsRows}
