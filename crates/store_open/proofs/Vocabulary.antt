-- The names of the logic, of other crates and of the definitions that the proofs use, in one place.
pub use Rattle.std.proofs.Common.{All, Bool, Equal, Err, IsErr, Greater, IfOk, IfSome, IsPermutation, IsSorted, IsTrue, Less, List, MatchBool, None, Ok, OnOk, Option, Ordering, Result, SFits, Some, [], add-one, ap, ap₂, arith, codes, cond, drop, false, filter, flat_map, get_or, inl, inr, int_cmp, is_eq, is_lt, length, map, nat_cmp, nat_eq, nat_le, not, refl, rules, set, slice_get, subst, suc, sym, take, true, w64, zero, ℕ, ℤ, ◌++◌, ◌+◌, ◌-◌, ◌<◌, ◌==◌, ◌^◌, ◌||◌, ◌∙◌, ◌∷◌, ◌≡◌, ◌≢◌, ◌≤◌}
pub use Rattle.std.proofs.Math.ListN.{drop_of_length-le}
pub use Rattle.std.proofs.lemmas.Bool.{and_from, and_parts, both_ways, eq-eqb, eqb-true, false_from_ne_true, false≢true, le-leb, leb-false, leb-true, not-false, not-true}
pub use Rattle.std.proofs.lemmas.Cmp.{nat_cmp_total, nat_list_cmp_total, nat_list_eq_equiv, on_total, then_total}
pub use Rattle.std.proofs.lemmas.Fn.{always_returns_same}
pub use Rattle.std.proofs.lemmas.Int.{ints, to_z-of_z}
pub use Rattle.std.proofs.lemmas.List.{drop-map, get_or-map, length-append, length-map, map-append, map-set}
pub use Rattle.std.proofs.lemmas.List.Elements.{All-from_recursion, filter-append, recursion_from_All}
pub use Rattle.std.proofs.lemmas.List.Sorted.{All-permutation, Contains-permutation, IsPermutation-map, IsPermutation-sym, IsPermutation-trans, length_permutation, ranks_by}
pub use Rattle.std.proofs.lemmas.Result.{IfOk-weaker, on_ok_weaker}
pub use Rattle.std.specs.Cmp.Lexicographic.{pointwise, slice_cmp}
pub use Rattle.std.specs.Global.{Vec}
pub use Rattle.std.specs.List.{AllAdjacentBelow, AllByRecursion, swap}
pub use Rattle.std.specs.List.Sorted.{IsStrictlySortedBy, SwapsInRange, apply_swaps}
pub use Rattle.std.specs.Ordering.{ordering_reverse, ordering_then}
pub use Rattle.std.specs.Prelude.{Any, Contains, ⊤}
pub use Rattle.sqlite.proofs.Callers.{memory_is_clean}
pub use Rattle.sqlite.specs.Effect.{Database, Reads}
pub use Rattle.sqlite.specs.Held.{Held, state}
pub use Rattle.sqlite.specs.State.{HasCleanDisk, IsNotRun, KeepsCommit, Shows, State, Survives}
pub use Rattle.sqlite.specs.Steps.{over_memory}
pub use Rattle.sqlite.specs.Store.{Ghosts}
pub use Rattle.sqlite.specs.declared.transaction.Transaction.{Transaction}
pub use Rattle.sqlite_catalog.proofs.ReadLemmas.{lists_once}
pub use Rattle.sqlite_catalog.specs.Listing.{IsSound}
pub use Rattle.sqlite_rules.proofs.ListLemmas.{all_has, any_has, contains_had, has_contained, has_filtered, has_kept, has_left, has_right}
pub use Rattle.sqlite_rules.proofs.ProbeLemmas.{has_mapped, mapped_has}
pub use Rattle.sqlite_rules.specs.Lists.{Has}
pub use Rattle.sqlite_schema.specs.declared.command.Command.{Command}
pub use Rattle.sqlite_schema.specs.declared.command.Command.TheVariants.{Select}
pub use Rattle.sqlite_schema.specs.declared.schema.Kind.TheVariants.{Integer}
pub use Rattle.sqlite_sql.specs.Term.{Term, col, eval, eval_all}
pub use Rattle.sqlite_trees.proofs.ListLemmas.{IsPermutation-filter, IsPermutation-same, all-filter, all-flat_map, all-map, all-permutation, all_both, all_from_map, all_of, all_weaker, ascending-append, ascending-filter, ascending-map, ascending_from_map, ascending_weaker, filter-map, filter_all, filter_none, flat_map-map, flat_map_same_on, map-flat_map, map-map}
pub use Rattle.sqlite_trees.specs.Objects.{catalog_tree}
pub use Rattle.sqlite_trees.specs.Tree.{IsAscending, Trees, rowid}
pub use Rattle.sqlite_trees.specs.View.{is_int}
pub use Rattle.sqlite_trees.specs.declared.memory.MemStore.{MemStore}
pub use Rattle.sqlite_value.proofs.OrderLemmas.{then-Equal, value_cmp-Int, value_cmp-Text}
pub use Rattle.sqlite_value.specs.Order.{Row, column, value_cmp}
pub use Rattle.sqlite_value.specs.declared.value.Value.{Value}
pub use Rattle.sqlite_value.specs.declared.value.Value.TheVariants.{Int, Null, Text}
pub use Rattle.addr.specs.Address.{FitsMaxLength, fits_max_length, prefix_eq}
pub use Rattle.addr.specs.Name.{is_name}
pub use Rattle.addr.specs.declared.roa_prefix.RoaPrefix.{RoaPrefix}
pub use Rattle.addr.specs.declared.span.Span.{Span}
pub use Rattle.registry.specs.CharterSets.{AreAllowedCounts, CharterSets, IsCharter}
pub use Rattle.registry.specs.Repeats.{has_repeat}
pub use Rattle.registry.specs.RoaPrefixes.{AreEntries}
pub use Rattle.registry.specs.Values.{AuthFits, GrantFits}
pub use Rattle.registry.specs.declared.authorization.Auth.{Auth}
pub use Rattle.registry.specs.declared.grant.Granted.{Granted}
pub use Rattle.store_schema.proofs.EitherSchema.{hold_now, not_now}
pub use Rattle.store_schema.proofs.Moved.{claim_turned, entry_turned, joined_ones, moved_hold, stays}
pub use Rattle.store_schema.specs.Moved.{AreAuthRows, AreMovable, IsMoved, IsWidened, claim_columns, entry_columns}
pub use Rattle.store_schema.specs.Moving.{IsOverOld, MovesRows, WidensTables, old_schema_if}
pub use Rattle.store_schema.specs.OldTables.{HasOldNumber, HasOneEntry, IsOldSchema, auth_row, old_schema_row, old_tables}
pub use Rattle.store_tables.proofs.CellsOnce.{one_claim, one_entry_row, one_prefix, values_shown}
pub use Rattle.store_tables.proofs.Columns.{column_after, exception_places, grant_shown, shown_at, shown_columns}
pub use Rattle.store_tables.proofs.GroupOrder.{AreOrders, HaveInOrder, claim_cmp, claim_orders, entry_row_cmp, groups_in_order, holder_orders, of_holder_cmp, rising_apart}
pub use Rattle.store_tables.proofs.Grouping.{Walked, after_all, claim_unfit, first_of, no_more_than, one_claim_more, rows_left, unfit_entries, walked_all, walked_more, walked_none}
pub use Rattle.store_tables.proofs.PartLemmas.{name_of-true, name_of_itself, names}
pub use Rattle.store_tables.proofs.ReadLemmas.{all_columns, first_of_all}
pub use Rattle.store_tables.proofs.Selecting.{from_table, no_limit, permuted, picks, sorted}
pub use Rattle.store_tables.proofs.Texts.{Means, upwards}
pub use Rattle.store_tables.specs.Authorizations.{EachHasEntries, HaveEntries, claim_of, entry_rows_of}
pub use Rattle.store_tables.specs.Cells.{claim_row, entry_cells, entry_row, exception_row, grant_cells, granted_row, holder_row, holding_row, named_cells, operator_row, prefix_cells, schema_row, span_cells}
pub use Rattle.store_tables.specs.Decode.{ClaimFits, EntryRowFits, ExceptionRowFits, NamedFits, ShowsNone, exception_columns, first_columns}
pub use Rattle.store_tables.specs.Groups.{AllApart, AreGroups, HasNoGroups, claim_entry, group_rows, holder_entry}
pub use Rattle.store_tables.specs.Tables.{AreTrees, IsTree, OverDesk, auth, claim, columns, contents, desk_schema, desk_tables, entry, granted, holder, holder_reference, holding, meta, operator, pool, required_column, slurm}
pub use Rattle.store_tables.specs.TablesHold.{HoldsCharter, HoldsPart, Part, TablesHold, claim_part, entry_part, granted_part, holder_part, holding_part, is_name_of, is_text, part_rows}
pub use Rattle.store_tables.specs.declared.claim.Claim.{Claim}
pub use Rattle.store_tables.specs.declared.claim.TheConstants.{SELECT_ALL_CLAIMS}
pub use Rattle.store_tables.specs.declared.entry.EntryRow.{EntryRow}
pub use Rattle.store_tables.specs.declared.entry.TheConstants.{SELECT_ALL_ENTRIES, SELECT_ENTRIES_BY_KEY, SELECT_ENTRY_ROWIDS}
pub use Rattle.store_tables.specs.declared.groups.Group.{Group}
pub use Rattle.store_tables.specs.declared.groups.OfHolder.{OfHolder}
pub use Rattle.store_tables.specs.declared.meta.TheConstants.{SELECT_SCHEMA}
pub use Rattle.store_tables.specs.steps.Groups.{entry_found, entry_if, first_entries, holder_entry_found, holder_entry_if, only_found, only_found_of_holder, with_entry}
pub use Rattle.store_transactions.proofs.Ascending.{ascending_moved}
pub use Rattle.store_transactions.proofs.KeyedRows.{all_claims_differ, at_claim, at_entry}
pub use Rattle.store_transactions.proofs.Obeyed.{all_referred, all_whole, equal_texts, once}
pub use Rattle.store_transactions.proofs.QueryLemmas.{always, answered, asked_in_vain, asked_then, no_answer, not_run_after, refused_by, undone_as_before}
pub use Rattle.store_transactions.specs.Files.{AreFewOfEach}
pub use Rattle.store_transactions.specs.Queries.{IsAskedInside, IsClean}
pub use Rattle.store_transactions.specs.Statements.{state_in}
pub use Rattle.store_transactions.specs.declared.fault.StoreFault.{StoreFault}
pub use Rattle.store_transactions.specs.declared.fault.StoreFault.TheVariants.{Schema}
pub use Rattle.store_transactions.specs.steps.Statements.{AnswersSelect}
pub use Rattle.store_open.specs.OldTablesRead.{HasSomeOldAuths, OldTablesRead, rows_of_auth}
pub use Rattle.store_open.specs.Opening.{AreMoved, LeavesOldOrMoved, OpensDesk}
pub use Rattle.store_open.specs.TablesRead.{HasSomeAuths, HoldSomeRows, CommonTablesRead, ShowsException, ShowsHolder, ShowsOfHolder, ShowsSome, TablesRead, row_of_claim, rows_of_entries}
pub use Rattle.store_open.specs.declared.join.Joined.{Joined}
pub use Rattle.store_open.specs.declared.key.ClaimKey.{ClaimKey}
pub use Rattle.store_open.specs.steps.Joining.{AreOfFirst, EachShowsEntry, EntriesRead, JoinsRows, MakeNoneOfRows, MakeNoneOfTable, MakeOfRows, MakeOfTable, NeverMake, ShowEntries, WalkGoesOn, WalkStands, first_claim_entry, shown_entries}
pub use Rattle.store_open.specs.steps.Keys.{AreOfAll, AreOfSome, AreTakenClaims, ClaimsInOrder, ClaimsRead, Collects, ShowsKey, ShowsNoClaim, first_key_entry, key_cmp, key_of}
pub use Rattle.store_open.specs.steps.Moving.{MovesDesk}
pub use Rattle.store_open.specs.steps.Numbered.{AreRead, AreTaken, AscendByNumber, EndApart, EndsUpTo, SelectsAll, columns_and_rowid, is_integer_below, last_value, shown_in}
pub use Rattle.store_open.specs.steps.Reading.{HasTree}
pub use Rattle.store_open.specs.steps.Opened.{HasNoOldAuths, HasNumber, MakeAuths, ReadAndHold, ShowAuths, ShowExceptions, ShowHolders, ShowsCharter, ShowsEach, ShowsNumber, ShowsOthers, show_claim, show_entry, claim_places, entry_places, named_claim, named_entries, number_row}
