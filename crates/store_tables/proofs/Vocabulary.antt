-- The names of the logic, of other crates and of the definitions that the proofs use, in one place.
pub use Rattle.std.proofs.Common.{Bool, Equal, Err, Greater, IsPermutation, IsSorted, Less, List, MatchOption, None, Ok, Option, Ordering, Result, Some, [], ap, append-nil, append_assoc, ap₂, arith, codes, cond, drop, false, filter, flat_map, get_or, if◌then◌else◌, inl, inr, int_cmp, is_eq, length, map, mod-eq_of_lt, mod-lt, nat_cmp, nat_le, nat_lt, negsuc, not, option_map, pos, refl, rules, slice_get, subst, subst₂, suc, sym, take, true, unwrap_or, zero, ℕ, ℤ, ◌%◌, ◌&&◌, ◌*◌, ◌++◌, ◌+◌, ◌-◌, ◌/◌, ◌<◌, ◌==◌, ◌^◌, ◌||◌, ◌↔◌, ◌∙◌, ◌∷◌, ◌≡◌, ◌≢◌, ◌≤◌, ◌⊎◌}
pub use Rattle.std.proofs.Math.Arith.{mod-mul}
pub use Rattle.std.proofs.Math.Nat.{div-div-eq-div-mul, pow-le-pow_right, pow-succ', zero-lt-suc}
pub use Rattle.std.proofs.lemmas.Bool.{and_from, and_parts, and_right, both_ways, cases_lt, eq-eqb, eqb-true, false_from_ne_true, false≢true, lt-ltb, ne_eqb, not-true, or_left, or_parts, true≢false}
pub use Rattle.std.proofs.lemmas.Cmp.{int_cmp_total, nat_cmp_total, nat_list_cmp_total, on_total, then_total, tied_itself}
pub use Rattle.std.proofs.lemmas.Int.{ints}
pub use Rattle.std.proofs.lemmas.List.{at_drop_more, drop_more, get_or-map, length-append, length-map, map-append, take_all, take_more}
pub use Rattle.std.proofs.lemmas.List.Elements.{All-map, filter-append, filter_passes, recursion_from_All}
pub use Rattle.std.proofs.lemmas.List.Sorted.{All-permutation, Contains-permutation, IsPermutation-append_comm, IsPermutation-append_left, IsPermutation-append_right, IsPermutation-cons, IsPermutation-filter_both, IsPermutation-map, IsPermutation-middle, IsPermutation-refl, IsPermutation-sym, IsPermutation-to_front, IsPermutation-trans, length_permutation, list_any-IsPermutation}
pub use Rattle.std.specs.Cmp.{IsTotalOrder, nat_cmp_is, ranks}
pub use Rattle.std.specs.Cmp.Lexicographic.{slice_cmp}
pub use Rattle.std.specs.Int.{byte_at, bytes_high_first}
pub use Rattle.std.specs.List.{AllByRecursion, cons_option, enumerate_from, filter_map, list_all, list_any}
pub use Rattle.std.specs.Ordering.{MatchOrdering, is_lt, match_ordering, ordering_reverse, ordering_then}
pub use Rattle.std.specs.Prelude.{AllPairs, Any, IfSome, IsSome, MatchBool, is_some, ⊤}
pub use Rattle.addr.proofs.AddressLemmas.{below_widest, first_below}
pub use Rattle.addr.specs.Address.{FitsMaxLength, IsPrefix, same_prefix}
pub use Rattle.addr.specs.Family.{family_eq, width}
pub use Rattle.addr.specs.Order.{family_cmp, prefix_cmp}
pub use Rattle.addr.specs.declared.family.Family.{Family}
pub use Rattle.addr.specs.declared.family.Family.TheVariants.{V4, V6}
pub use Rattle.addr.specs.declared.prefix.Prefix.{Prefix}
pub use Rattle.addr.specs.declared.span.Span.{Span}
pub use Rattle.addr.specs.declared.vrp.Vrp.{Vrp}
pub use Rattle.registry.proofs.Names.{same_name-false, same_name-same, same_name-true}
pub use Rattle.registry.specs.History.{same_name}
pub use Rattle.registry.specs.RoaPrefixes.{AreEntries, Rise}
pub use Rattle.registry.specs.Rows.{Rows, replaced_by}
pub use Rattle.registry.specs.declared.authorization.Auth.{Auth}
pub use Rattle.addr.specs.declared.roa_prefix.RoaPrefix.{RoaPrefix}
pub use Rattle.registry.specs.declared.grant.Granted.{Granted}
pub use Rattle.registry.specs.declared.grant.Scope.{Scope}
pub use Rattle.registry.specs.declared.grant.Scope.TheVariants.{All, Only}
pub use Rattle.slurm.specs.Exceptions.{Exceptions}
pub use Rattle.slurm.specs.declared.filter.Filter.TheVariants.{Both, By, Under}
pub use Rattle.sqlite.proofs.Callers.{IsPlain, command_of, one_step}
pub use Rattle.sqlite.specs.Does.{AtPlace, Does, OnRows, Tally}
pub use Rattle.sqlite.specs.Effect.{Answers, Database, IsSource, value_rows}
pub use Rattle.sqlite.specs.Rows.{Written}
pub use Rattle.sqlite.specs.State.{State, Writes, mode_of}
pub use Rattle.sqlite_rules.proofs.ActionLemmas.{no_works}
pub use Rattle.sqlite_rules.proofs.ListLemmas.{all_from, all_has, contains_had, has_contained, has_either, has_filtered, has_front, has_kept, has_last, has_left, has_right, some_from, some_has}
pub use Rattle.sqlite_rules.proofs.ProbeLemmas.{has_mapped, mapped_has}
pub use Rattle.sqlite_rules.specs.Action.{ActsOn, AreChildren, Leads, Work, deed_for, is_child_of, loses, max_depth, pairs, work_by, work_for, works}
pub use Rattle.sqlite_rules.specs.Calls.{ids_of}
pub use Rattle.sqlite_rules.specs.Cast.{cast, cast_all, cast_row}
pub use Rattle.sqlite_rules.specs.Edit.{Applies, Edit, are_fresh, edit_of, have_rowids, id_in, is_taken, next_rowid, numbered, put_all, row_at, taken_by, without_all}
pub use Rattle.sqlite_rules.specs.Lists.{Has}
pub use Rattle.sqlite_rules.specs.declared.action.Deed.{Deed}
pub use Rattle.sqlite_rules.specs.declared.error.Rowids.TheVariants.{Chosen, Given}
pub use Rattle.sqlite_schema.specs.Rules.{ParentKey, agree, parent_key}
pub use Rattle.sqlite_schema.specs.declared.command.Command.TheVariants.{Delete, Insert, Select, Update}
pub use Rattle.sqlite_schema.specs.declared.command.Source.TheVariants.{Values}
pub use Rattle.sqlite_schema.specs.declared.program.Program.{Program}
pub use Rattle.sqlite_schema.specs.declared.schema.Keys.{Keys}
pub use Rattle.sqlite_schema.specs.declared.schema.Keys.TheVariants.{Enforced}
pub use Rattle.sqlite_schema.specs.declared.schema.Kind.TheVariants.{Integer}
pub use Rattle.sqlite_schema.specs.declared.schema.Reference.{Reference}
pub use Rattle.sqlite_schema.specs.declared.schema.Schema.{Schema}
pub use Rattle.sqlite_schema.specs.declared.schema.Table.{Table}
pub use Rattle.sqlite_sql.specs.Term.{Term, col, eval, eval_all, holds, lit, op2}
pub use Rattle.sqlite_sql.specs.declared.ops.BinaryOp.TheVariants.{Compare}
pub use Rattle.sqlite_sql.specs.declared.ops.CompareOp.TheVariants.{Eq, Ge, Le}
pub use Rattle.sqlite_trees.proofs.ListLemmas.{IsPermutation-filter, all-append, all-filter, all-flat_map, all-get_or, all-map, all-permutation, all_both, all_of, all_weaker, along_permutation, ascending-append, ascending-filter, ascending-map, ascending_weaker, filter-map, filter_all, filter_none, filter_same, map-map, pull_back}
pub use Rattle.sqlite_trees.specs.Tree.{IsAscending, Trees, has_rowid, put_row, rowid, without_rowid}
pub use Rattle.sqlite_typed.proofs.TestLemmas.{last_term, turn_eq}
pub use Rattle.sqlite_value.proofs.OrderLemmas.{value_cmp-Blob, value_cmp-Int, value_cmp-Text, value_cmp-apart, value_cmp_total}
pub use Rattle.sqlite_value.specs.Order.{Row, column, value_cmp}
pub use Rattle.sqlite_value.specs.declared.keys.Collation.TheVariants.{Binary}
pub use Rattle.sqlite_value.specs.declared.keys.Key.{Key}
pub use Rattle.sqlite_value.specs.declared.value.Value.{Value}
pub use Rattle.sqlite_value.specs.declared.value.Value.TheVariants.{Blob, Int, Null, Real, Text}
pub use Rattle.store_tables.specs.Authorizations.{AreAuths, EachHasEntries, HasNoAuths, HaveEntries, NumbersRise, claim_of, entry_rows_of}
pub use Rattle.store_tables.specs.Cells.{address_bytes, claim_cells, claim_row, counter_cells, entry_cells, entry_row, exception_row, family_number, grant_cells, granted_row, holder_row, holding_row, number_cell, prefix_cells, role_number, schema_row, scope_cells, span_cells}
pub use Rattle.store_tables.specs.Decode.{Decodes, IsPosition, exception_columns, first_columns}
pub use Rattle.store_tables.specs.Groups.{AllApart, ShareNoRow, AreGroups, HasNoGroups, claim_entry, group_rows, holder_entry}
pub use Rattle.store_tables.specs.Tables.{IsTree, OverDesk, as_strict, claim, claim_reference, columns, contents, desk_beside, desk_tables, entry, granted, holder, holding, meta, pool, rising, slurm, with_tables}
pub use Rattle.store_tables.specs.TablesHold.{ArePlaced, HoldsExceptions, HoldsFiles, HoldsFromOne, HoldsPart, Part, TablesHold, at_positions, claim_part, entry_part, file_rows, is_name_of, is_of_file, is_text, part_rows}
pub use Rattle.store_tables.specs.declared.claim.Claim.{Claim}
pub use Rattle.store_tables.specs.declared.entry.EntryRow.{EntryRow}
pub use Rattle.store_tables.specs.declared.exception.Exception.{Exception}
pub use Rattle.store_tables.specs.declared.exception.Exception.TheVariants.{Assertion}
pub use Rattle.store_tables.specs.declared.exception.ExceptionRow.{ExceptionRow}
pub use Rattle.store_tables.specs.declared.exception.TheConstants.{DELETE_EXCEPTIONS, INSERT_EXCEPTION, SELECT_ALL_EXCEPTIONS}
pub use Rattle.store_tables.specs.declared.groups.Group.{Group}
pub use Rattle.store_tables.specs.declared.meta.TheConstants.{INSERT_SCHEMA, SCHEMA}
pub use Rattle.store_tables.specs.steps.Edits.{Edits, EditsAmong}
pub use Rattle.store_tables.specs.steps.Groups.{entry_found, entry_if, first_entries, only_found, with_entry}
