-- The names of the logic, of other crates and of the definitions that the proofs use, in one place.
pub use Rattle.std.proofs.Common.{Bool, Contains, Err, IfOk, IfSome, IsPermutation, IsSomeAnd, IsSortedByKey, IsTrue, Less, List, MatchBool, None, Ok, OnErr, OnOk, Option, Result, Some, [], ap, append-nil, append_assoc, arith, cond, drop, false, filter, find, flat_map, get_or, inl, inr, is_lt, is_some, length, map, nat_cmp, nat_le, not, refl, rules, subst, suc, sym, take, true, zero, ℕ, ◌&&◌, ◌++◌, ◌+◌, ◌<◌, ◌==◌, ◌||◌, ◌↔◌, ◌∙◌, ◌∷◌, ◌≡◌, ◌≢◌, ◌≤◌, ◌⊎◌}
pub use Rattle.std.proofs.lemmas.Bool.{and_from, and_parts, both_ways, cases_Bool, cond-true, eq-eqb, eqb-true, false≢true, le-leb, true≢false}
pub use Rattle.std.proofs.lemmas.Bool.Decides.{nat_tests}
pub use Rattle.std.proofs.lemmas.List.{drop_all, drop_more}
pub use Rattle.std.proofs.lemmas.List.Elements.{All-contains, All-from_recursion, recursion_from_All}
pub use Rattle.std.proofs.lemmas.List.Filters.{length-filter_both}
pub use Rattle.std.proofs.lemmas.List.Sorted.{Contains-permutation, IsPermutation-append, IsPermutation-cons, IsPermutation-filter_both, IsPermutation-middle, IsPermutation-refl, IsPermutation-sym, IsPermutation-trans, length_permutation, list_any-IsPermutation}
pub use Rattle.std.proofs.lemmas.Result.{IfOk-weaker, on_ok_weaker}
pub use Rattle.std.specs.List.{AllByRecursion, list_any}
pub use Rattle.std.specs.Ordering.{eq_by_cmp, on}
pub use Rattle.std.specs.Prelude.{AllPairs, option_map, ⊤}
pub use Rattle.sqlite.proofs.Callers.{memory_is_clean, survives_begin}
pub use Rattle.sqlite.specs.Effect.{Database, IsDatabase}
pub use Rattle.sqlite.specs.Held.{Held, state}
pub use Rattle.sqlite.specs.State.{HasCleanDisk, IsLive, IsUnchanged, Shows, State, Survives}
pub use Rattle.sqlite.specs.Store.{Ghosts}
pub use Rattle.sqlite_keyed.proofs.ListLemmas.{all-filter}
pub use Rattle.sqlite_rules.proofs.ListLemmas.{all_from, all_has, contains_had, has_contained, has_filtered, has_left, has_right, some_from, some_has, test_from}
pub use Rattle.sqlite_rules.proofs.ProbeLemmas.{has_mapped, mapped_has}
pub use Rattle.sqlite_rules.specs.Lists.{Has}
pub use Rattle.sqlite_schema.specs.declared.schema.Schema.{Schema}
pub use Rattle.sqlite_trees.proofs.ListLemmas.{IsPermutation-same, all-map, all-permutation, all_from_map, all_of, all_weaker, ascending-append, ascending_weaker, filter_all, filter_none, filter_same, flat_map-map}
pub use Rattle.sqlite_trees.specs.Tree.{IsAscending, Trees}
pub use Rattle.sqlite_value.specs.Order.{Row, column}
pub use Rattle.sqlite_value.specs.declared.value.Value.TheVariants.{Blob, Int, Null, Real, Text}
pub use Rattle.addr.specs.Address.{Address, fits_max_length, last_of, overlaps}
pub use Rattle.addr.specs.Name.{is_name}
pub use Rattle.addr.specs.declared.prefix.Prefix.{Prefix}
pub use Rattle.addr.specs.declared.roa_prefix.RoaPrefix.{RoaPrefix}
pub use Rattle.addr.specs.declared.span.Span.{Span}
pub use Rattle.registry.proofs.Names.{held_by_itself, is_held_by-true, same_name-true}
pub use Rattle.registry.specs.CharterSets.{CharterSets, IsCharter}
pub use Rattle.registry.specs.History.{History, is_registered, registers, same_name}
pub use Rattle.registry.specs.PartOfRows.{IsPartIfAny, looked_for, looks_for}
pub use Rattle.registry.specs.RoaPrefixes.{AreEntries, with_maxes}
pub use Rattle.registry.specs.Rows.{Rows, RowsIfAny, auths_if_any, grants_if_any, rows_if_any}
pub use Rattle.registry.specs.RowsOfAll.{AllRows, HasRows, IsGivenOn, IsTaken, blank_rows, changed_rows}
pub use Rattle.registry.specs.Terms.{AreActive, HeldSinceMade, Keeps, OfActive, authorization_terms, authorizations_made, gives_some, grant_terms, granted_after, grants_after, grants_made, numbered_grant, terms_overlap}
pub use Rattle.registry.specs.Values.{AuthFits, CommandFits, ExceptionsFit, FileFits, FilesFit, FilterFits, FitIfAny, GrantFits, HistoryFits, IsCount, RowsFit, VrpFits}
pub use Rattle.registry.specs.Verdict.{IsLegal, auth_of_number, maxes_fit}
pub use Rattle.registry.specs.declared.authorization.Auth.{Auth}
pub use Rattle.registry.specs.declared.charter.Charter.{Charter}
pub use Rattle.registry.specs.declared.command.Command.{Command}
pub use Rattle.registry.specs.declared.command.Command.TheVariants.{Amend, Create, Delegate, Grant, Import, Reclaim, Register, Revoke, Slurm, Transfer, Withdraw}
pub use Rattle.registry.specs.declared.grant.Granted.{Granted}
pub use Rattle.registry.specs.declared.limits.TheConstants.{MOST_AUTHORIZATIONS}
pub use Rattle.registry.specs.declared.rows.HolderRows.{HolderRows}
pub use Rattle.store_open.specs.OldTablesRead.{HasSomeOldAuths, OldTablesRead, rows_of_auth}
pub use Rattle.store_open.specs.Opening.{HasOtherNames, OpensDesk, has_new_table}
pub use Rattle.store_open.specs.TablesRead.{HasSomeAuths, CommonTablesRead, ShowsException, ShowsHolder, ShowsOfHolder, TablesRead, row_of_claim, rows_of_entries}
pub use Rattle.store_read.proofs.GivenAuths.{any_and, any_each, any_kept, created_shown, gives_from, gives_none, gives_out_of}
pub use Rattle.store_read.proofs.Giving.{cells_of_vrp, gives_each, taken_iff}
pub use Rattle.store_read.proofs.InTurn.{earlier, later, unfit_later}
pub use Rattle.store_read.proofs.Loading.{claim_fits, entries_of_fit}
pub use Rattle.store_read.specs.Loads.{AllGiveOn, AreCounted, AreFilesOf, AreGrants, AreHoldings, AreInOrder, AreListed, AreNumbered, AreOverlapping, AreRunsApart, EachRows, EachRowsOf, HasRun, HaveSame, IsForCreate, IsForDelegate, IsForLoss, MeetsSome, OpenEachRows, auths_held, begins_up_to, created_if_any, entries_up_to, some_gives}
pub use Rattle.store_schema.specs.OldTables.{HasOneEntry, HaveOneEntry, IsOldSchema, OldTablesHold, auth_part, old_tables}
pub use Rattle.store_tables.proofs.Once.{claim_row_once, entry_row_once, two_are_one}
pub use Rattle.store_tables.proofs.SomeRow.{has_entry_row, has_permuted, in_table, of_some}
pub use Rattle.store_tables.proofs.TreeRows.{list_any-map}
pub use Rattle.store_tables.specs.Authorizations.{claim_of, entry_rows_of}
pub use Rattle.store_tables.specs.Cells.{claim_row, entry_row, exception_row, granted_row, holder_row, holding_row, operator_row, prefix_cells, schema_row}
pub use Rattle.store_tables.specs.Groups.{claim_entry}
pub use Rattle.store_tables.specs.Tables.{auth, claim, contents, desk_tables, entry, meta, operator, pool, slurm}
pub use Rattle.store_tables.specs.TablesHold.{ArePlaced, HoldsExceptions, HoldsFiles, HoldsPart, Part, TablesHold, claim_part, entry_part, granted_part, holder_part, holding_part, is_of_file, is_text, items_if_any, part_rows}
pub use Rattle.store_tables.specs.declared.entry.EntryRow.{EntryRow}
pub use Rattle.store_tables.specs.declared.groups.OfHolder.{OfHolder}
pub use Rattle.store_transactions.proofs.Asking.{asked_then}
pub use Rattle.store_transactions.proofs.HeldRows.{files_few, files_read, some_row}
pub use Rattle.store_transactions.proofs.QueryLemmas.{refused_by}
pub use Rattle.store_transactions.specs.Databases.{HasDeskTables, IsDeskTrees, IsDeskWhileOpen, IsNew, LeavesNew}
pub use Rattle.store_transactions.specs.Laws.{ClaimsDiffer, EntriesDiffer, number_columns, payload_columns}
pub use Rattle.store_transactions.specs.Queries.{IsAsked, IsClean}
pub use Rattle.store_transactions.specs.Statements.{CommitsAtMost}
pub use Rattle.store_transactions.specs.declared.fault.StoreFault.{StoreFault}
pub use Rattle.store_write.specs.Changes.{MakesChange, PlacesExceptions, RowsBecome}
pub use Rattle.store.specs.Given.{GivenOnce}
pub use Rattle.store.specs.Laws.{HistoriesRead, LoadsFactsOfHistories, LoadsListsOfHistories, LoadsNumberOfHistories, LoadsPartsOfHistories, LoadsRowsOfHistories, OldHistoriesRead, RowsInRangeGive, RowsThatReadFit}
pub use Rattle.store.specs.PartLoaded.{IsForChanges}
pub use Rattle.store.specs.StoreRows.{EachHeldRows, HoldsAfter, IsOpened, IsRead, LeavesOnly, LeavesPlaced, MayLeave, StoreView, connection_state}
pub use Rattle.store.specs.steps.Commits.{CommitsChange, MayCommit}
pub use Rattle.store.specs.steps.PartNumbers.{AreOfNumbers, asks_for, gives_numbered, has_number, overlaps_numbered, some_asks_for}
