-- The names of the logic, of other crates and of the definitions that the proofs use, in one place.
pub use Rattle.std.proofs.Common.{Any, Bool, Contains, Equal, Err, Greater, IsPermutation, IsSome, IsSorted, IsSortedBy, IsSortedByKey, IsTrue, Less, List, MatchBool, None, Ok, Option, Ordering, Result, Some, [], add-one, ap, append-nil, ap₂, arith, cond, drop, false, filter, flat_map, get_or, inl, inr, int_cmp, int_eq, is_eq, is_le, is_lt, is_ok, length, map, min, nat_cmp, nat_le, not, option_copied, option_to_list, pos, pow_pos, refl, rules, slice_get, subst, suc, sym, take, true, unwrap_or, zero, ℕ, ◌&&◌, ◌++◌, ◌+◌, ◌-◌, ◌<◌, ◌==◌, ◌^◌, ◌||◌, ◌↔◌, ◌∙◌, ◌∷◌, ◌≡◌, ◌≢◌, ◌≤◌, ◌⊎◌}
pub use Rattle.std.proofs.Math.Bool.{and-false, and-true, or-false}
pub use Rattle.std.proofs.lemmas.Bool.{and_from, and_parts, cases_lt, eq-eqb, eqb-true, false_from_ne_true, false≢true, le-leb, leb-true, or_cases, or_left, or_right}
pub use Rattle.std.proofs.lemmas.Bool.Decides.{nat_tests}
pub use Rattle.std.proofs.lemmas.Cmp.{nat_cmp_total, on_total, then_total, tied_itself}
pub use Rattle.std.proofs.lemmas.Int.{ints}
pub use Rattle.std.proofs.lemmas.List.{drop_all, drop_more, get_or-map, length-append, length-map, map-append, map-id, nil_from_length}
pub use Rattle.std.proofs.lemmas.List.Elements.{All-cons, All-from_recursion, All-nil, filter-append, recursion_from_All}
pub use Rattle.std.proofs.lemmas.List.Folds.{list_any-append, list_any_at, list_any_none}
pub use Rattle.std.proofs.lemmas.List.Sorted.{IsPermutation-map, IsPermutation-refl, IsPermutation-sym, IsPermutation-trans, IsStrictWeakOrder-flip, length_permutation, list_any-IsPermutation, ranks_by, searchable_from_sorted, sorted_far}
pub use Rattle.std.proofs.lemmas.Result.{IfOk-weaker}
pub use Rattle.std.specs.Global.{Vec}
pub use Rattle.std.specs.List.{AllByRecursion, list_any}
pub use Rattle.std.specs.Option.{ok_or}
pub use Rattle.std.specs.Ordering.{is_ge, on, ordering_reverse, ordering_then, then_cmp}
pub use Rattle.std.specs.Prelude.{All, AllPairs, IfOk, IfSome, MatchOption, is_some, ⊤}
pub use Rattle.sqlite.specs.Effect.{Database, IsDatabase, Reads}
pub use Rattle.sqlite.specs.Held.{Held, state}
pub use Rattle.sqlite.specs.State.{Shown, State}
pub use Rattle.sqlite_rules.proofs.ListLemmas.{all_from, all_has, any_has, contains_had, has_contained, has_filtered, has_kept, has_left, has_right, some_from, some_has, test_has}
pub use Rattle.sqlite_rules.proofs.ProbeLemmas.{has_mapped, mapped_has}
pub use Rattle.sqlite_rules.specs.Lists.{Has}
pub use Rattle.sqlite_schema.specs.declared.command.Command.{Command}
pub use Rattle.sqlite_sql.specs.Ops.{binary, is_true}
pub use Rattle.sqlite_sql.specs.Program.{overlay}
pub use Rattle.sqlite_sql.specs.Query.{IsAnswer, Output, Query, as_count, key_cmp, output}
pub use Rattle.sqlite_sql.specs.Term.{Term, col, eval_all, lit}
pub use Rattle.sqlite_sql.specs.declared.ops.BinaryOp.TheVariants.{Compare}
pub use Rattle.sqlite_sql.specs.declared.ops.CompareOp.TheVariants.{Eq, Ge, Le}
pub use Rattle.sqlite_trees.proofs.ListLemmas.{IsPermutation-filter, IsPermutation-same, all-filter, all-flat_map, all-map, all-permutation, all_from_map, all_of, all_weaker, ascending-map, ascending_weaker, filter-map, filter_all, filter_none, flat_map-map, map-flat_map, map-map}
pub use Rattle.sqlite_trees.specs.Tree.{IsAscending, Trees}
pub use Rattle.sqlite_typed.proofs.TestLemmas.{at_blobs, at_ints, last_term, then_term}
pub use Rattle.sqlite_value.proofs.OrderLemmas.{then-Equal, value_cmp-Blob, value_cmp-Int, value_cmp_total}
pub use Rattle.sqlite_value.specs.Order.{Row, column, value_cmp}
pub use Rattle.sqlite_value.specs.declared.keys.Collation.TheVariants.{Binary}
pub use Rattle.sqlite_value.specs.declared.keys.Key.{Key}
pub use Rattle.sqlite_value.specs.declared.value.Value.TheVariants.{Blob, Int, Null, Text}
pub use Rattle.addr.proofs.AddressLemmas.{below_widest, between_at, between_within, first-last, first_below, overlap_ends}
pub use Rattle.addr.proofs.Equality.{equal_family, equal_prefix, prefix_itself, same_family}
pub use Rattle.addr.proofs.SpanLemmas.{gap_wider, is_gap, met_iff, no_gap}
pub use Rattle.addr.specs.Address.{Address, FitsMaxLength, fits_max_length, has_address, last_of, prefix_eq}
pub use Rattle.addr.specs.Family.{family_eq, width}
pub use Rattle.addr.specs.Order.{same_vrp}
pub use Rattle.addr.specs.Spans.{AreApart, AreMaximal, HaveAll, is_apart, is_apart_below, span_has, span_meets, spans_have}
pub use Rattle.addr.specs.VrpParts.{IsVrpOfEntry, is_entry}
pub use Rattle.addr.specs.declared.asn.Asn.{Asn}
pub use Rattle.addr.specs.declared.family.Family.{Family}
pub use Rattle.addr.specs.declared.prefix.Prefix.{Prefix}
pub use Rattle.addr.specs.declared.roa_prefix.RoaPrefix.{RoaPrefix}
pub use Rattle.addr.specs.declared.span.Span.{Span}
pub use Rattle.addr.specs.declared.vrp.Vrp.{Vrp}
pub use Rattle.registry.specs.CharterSets.{CharterSets}
pub use Rattle.registry.specs.RoaPrefixes.{AreEntries, with_maxes}
pub use Rattle.registry.specs.Rows.{Rows}
pub use Rattle.registry.specs.RowsOfAll.{AllRows, IsGivenOn, IsTaken}
pub use Rattle.registry.specs.Terms.{IsVrpOf, are_shared, entries_have, gives_some, with_terms}
pub use Rattle.registry.specs.Values.{AuthFits, FitIfAny, GrantFits, IsCount, IsU32, VrpFits}
pub use Rattle.registry.specs.Verdict.{auth_of_number, maxes_fit}
pub use Rattle.registry.specs.declared.authorization.Auth.{Auth}
pub use Rattle.registry.specs.declared.limits.TheConstants.{MOST_AUTHORIZATIONS}
pub use Rattle.registry.specs.declared.rows.HolderRows.{HolderRows}
pub use Rattle.slurm.specs.declared.set.NamedSlurm.{NamedSlurm}
pub use Rattle.store_tables.proofs.AddressBytes.{addresses_in_order}
pub use Rattle.store_tables.proofs.CellsOnce.{cells_of_counters, counters_of_rows, one_claim, one_counters, one_entry_row, one_grant, one_prefix, one_span, same_values, values_shown}
pub use Rattle.store_tables.proofs.ClaimTexts.{claims_in_force_is, claims_in_force_tests, claims_is, count_claims_is, entries_is, entries_up_to_is, given_entries_is, given_tests, numbered_claim_is, numbered_entries_is, of_number_tests, payloads_is, up_to_tests}
pub use Rattle.store_tables.proofs.Columns.{column_after, exception_places, grant_places, grant_shown, shown_at, shown_columns}
pub use Rattle.store_tables.proofs.ExceptionTexts.{all_exceptions_is}
pub use Rattle.store_tables.proofs.GroupCells.{by_entry, entries_alike}
pub use Rattle.store_tables.proofs.PartLemmas.{name_of-true, name_of_itself, name_of_text, names}
pub use Rattle.store_tables.proofs.ReadLemmas.{all_show, are_whole}
pub use Rattle.store_tables.proofs.Selecting.{first_shown, from_table, no_limit, outputs, permuted, picks, sorted}
pub use Rattle.store_tables.proofs.SomeRow.{entry_row_of, has_entry_row, has_permuted, in_table, of_some}
pub use Rattle.store_tables.proofs.Testing.{equals_blob, equals_int, equals_text, holder_test}
pub use Rattle.store_tables.proofs.Texts.{Means, below_tests, counters_is, equals, grants_is, last_first, overlap_is, overlap_tests, run_below_is, spans_is, upwards}
pub use Rattle.store_tables.proofs.TreeRows.{filter_twice, list_any-map}
pub use Rattle.store_tables.specs.Authorizations.{AreAuths, NumbersRise, claim_of, entry_rows_of}
pub use Rattle.store_tables.specs.Cells.{address_bytes, assertion_cells, claim_cells, claim_row, entry_cells, entry_row, exception_cells, exception_row, family_number, filter_cells, given_cells, grant_cells, granted_row, holding_row, kind_number, named_cells, number_cell, prefix_cells, span_cells, vrp_cells}
pub use Rattle.store_tables.specs.Decode.{ClaimFits, Decodes, EntryRowFits, ExceptionRowFits, ShowsNone, exception_columns, first_columns}
pub use Rattle.store_tables.specs.Groups.{claim_entry, group_rows}
pub use Rattle.store_tables.specs.Tables.{IsTree, claim, columns, contents, desk_tables, entry, slurm}
pub use Rattle.store_tables.specs.TablesHold.{ArePlaced, HoldsExceptions, HoldsFiles, HoldsPart, Part, TablesHold, claim_part, entry_part, granted_part, holder_part, holding_part, is_name_of, is_of_file, items_if_any, part_rows}
pub use Rattle.store_tables.specs.declared.claim.Claim.{Claim}
pub use Rattle.store_tables.specs.declared.claim.TheConstants.{COUNT_HOLDER_CLAIMS, SELECT_CLAIMS_IN_FORCE, SELECT_HOLDER_CLAIMS, SELECT_NUMBERED_CLAIM}
pub use Rattle.store_tables.specs.declared.entry.EntryRow.{EntryRow}
pub use Rattle.store_tables.specs.declared.entry.TheConstants.{SELECT_ENTRIES_UP_TO, SELECT_GIVEN_ENTRIES, SELECT_HOLDER_ENTRIES, SELECT_NUMBERED_ENTRIES, SELECT_PAYLOADS}
pub use Rattle.store_tables.specs.declared.exception.ExceptionRow.{ExceptionRow}
pub use Rattle.store_tables.specs.declared.exception.TheConstants.{SELECT_ALL_EXCEPTIONS}
pub use Rattle.store_tables.specs.declared.holding.TheConstants.{SELECT_HOLDER_SPANS, SELECT_OVERLAP, SELECT_RUN_BELOW}
pub use Rattle.store_transactions.proofs.Asking.{asked_then}
pub use Rattle.store_transactions.proofs.QueryLemmas.{answered, reads_desk, refused_by}
pub use Rattle.store_transactions.specs.Laws.{ClaimsDiffer, number_columns, payload_columns}
pub use Rattle.store_transactions.specs.Queries.{IsAsked, IsClean}
pub use Rattle.store_transactions.specs.declared.fault.StoreFault.{StoreFault}
pub use Rattle.store_transactions.specs.declared.fault.StoreFault.TheVariants.{Schema}
pub use Rattle.store_transactions.specs.steps.Statements.{AnswersSelect, AnswersWith}
pub use Rattle.store_read.specs.Loads.{AllGiveOn, AreCounted, AreGrants, AreHeld, AreInOrder, AreLoaded, AreRunsApart, EachRows, EachRowsOf, HasRun, HaveSame, MeetsSome, OpenEachRows, auths_held, begins_up_to, created_if_any, entries_given, entries_up_to, gives_entry, is_other, some_gives}
pub use Rattle.store_read.specs.declared.across.ClaimKey.{ClaimKey}
pub use Rattle.store_read.specs.steps.Below.{IsLastBelow, IsRowBelow, IsRunBelow}
pub use Rattle.store_read.specs.steps.InForce.{ClaimsRise, FindsClaims, FindsInForce, FindsPayloads, IsPayloadOn, ShowVrps, claim_columns_read, claim_key, entry_columns_read, is_claimed, is_claimed_on, is_open_on, key_cells, key_order, keys_on, of_claims, payload_cells, payload_key, payload_of}
pub use Rattle.store_read.specs.steps.Queries.{AnswersRows, Selects, SelectsWith, by_column, counters_if_any}
