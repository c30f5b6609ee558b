-- The names of the logic, of other crates and of the definitions that the proofs use, in one place.
pub use Rattle.std.proofs.Common.{All, Bool, Err, FitsSigned, IfSome, IsTrue, List, None, Ok, Option, Ordering, Result, Some, [], add-one, ap, append-nil, append_assoc, ap₂, arith, cond, drop, false, filter, get_or, inl, inr, is_ok, length, length-append, length-drop, length-set, lit<, lit≤, nat_eq, nat_le, nat_lt, ne_eqb, negsuc, not, of_z, one-add, option_map, pos, refl, rules, set, slice_index, sub-le, subst, suc, sym, take, take_all, to_z, true, true≢false, w16, w64, w8, zero, ℕ, ℤ, ◌%◌, ◌&&◌, ◌*ℤ◌, ◌*◌, ◌++◌, ◌+ℤ◌, ◌+◌, ◌-ℤ◌, ◌-◌, ◌/◌, ◌<ℤ◌, ◌<◌, ◌==◌, ◌^◌, ◌||◌, ◌↔◌, ◌∙◌, ◌∷◌, ◌≡◌, ◌≢◌, ◌≤ℤ◌, ◌≤◌, ◌⊎◌}
pub use Rattle.std.proofs.Math.Bool.{and-false, or-false, or_assoc, or_comm}
pub use Rattle.std.proofs.Math.Nat.{add-mul-mod_self_right, div-lt_iff_lt-mul, mul-le-mul_right, pow-le-pow_right, pow-suc, pow-zero, suc-mul, ℕ_set}
pub use Rattle.std.proofs.Math.Seq.{drop-cons, take-append_seam}
pub use Rattle.std.proofs.lemmas.Bool.{and_from, and_parts, cases_Bool, cases_lt, eq-eqb, eqb-true, false≢true, le-leb, le-ltb, leb-true, lt-leb, lt-ltb, ltb-false, ltb-true, not-false, not-true, or_cases, or_from, or_left, or_parts, or_right}
pub use Rattle.std.proofs.lemmas.Bool.Decides.{nat_tests}
pub use Rattle.std.proofs.lemmas.Cmp.{tied_itself, upto}
pub use Rattle.std.proofs.lemmas.Fmt.{IsAscii-decimal, decimal_digit, decimal_injective, decimal_is_IsNumeral, decimal_step, length-decimal-le, parse-decimal}
pub use Rattle.std.proofs.lemmas.Int.{by_lt_z, ints, to_z-of_z}
pub use Rattle.std.proofs.lemmas.Int.Digits.{digits_more, digits_value-lt, digits_value_more, number_lt, number_more, number_push}
pub use Rattle.std.proofs.lemmas.List.{drop-replicate, drop-set, length_push, take_more, take_rest}
pub use Rattle.std.proofs.lemmas.List.Elements.{All-cons, All-head, All-nil, All-tail}
pub use Rattle.std.proofs.lemmas.List.Folds.{Any-from_list_any, list_all-append, list_any-append, list_any-from_Any, list_any_at, list_any_none}
pub use Rattle.std.proofs.lemmas.List.Sorted.{IsPartitionPoint-from_clause, searchable_from_sorted}
pub use Rattle.std.proofs.lemmas.List.Sums.{AllPass-from_list_all, list_all-from_AllPass}
pub use Rattle.std.proofs.lemmas.Nat.{div-add-mod', div_below, mod-pow-add, pow-add, pow_below, pow_pos}
pub use Rattle.std.proofs.lemmas.Option.{cond_some, none-some, option_and_then_some, same_Some, some_pair_parts}
pub use Rattle.std.proofs.lemmas.Str.{IsUtf8-from_ascii}
pub use Rattle.std.specs.Char.{digit_value, is_digit}
pub use Rattle.std.specs.Cmp.{IsTotalOrder, nat_cmp_total, on_total, then_total}
pub use Rattle.std.specs.Cmp.Lexicographic.{bytes_decides, pointwise}
pub use Rattle.std.specs.FinMap.{IsAntisymmetric, nat_cmp-IsAntisymmetric}
pub use Rattle.std.specs.Fmt.{decimal}
pub use Rattle.std.specs.Int.Digits.{AllBelowBase, number_from_digits}
pub use Rattle.std.specs.List.{AllByRecursion, join_with_byte, list_all, list_any, position, position_or_len, slice_get, slice_split}
pub use Rattle.std.specs.Net.Text.{dotted_text, groups_text, hex_groups_text, ipv4_text, longest_zero_run, zero_run}
pub use Rattle.std.specs.Option.{option_map_or, option_to_list}
pub use Rattle.std.specs.Ordering.{is_gt, is_le, is_lt, nat_cmp, ordering_index, ordering_reverse, ordering_then}
pub use Rattle.std.specs.Prelude.{int_div, int_lt, replicate, unsigned_abs}
pub use Rattle.std.specs.Result.{MatchResult, result_ok}
pub use Rattle.std.specs.Str.{IsUtf8, bytes_eq}
pub use Rattle.std.specs.Str.Parse.{AllDigits, digits_value}
pub use Rattle.std.specs.declared.cmp.Ordering.TheVariants.{Equal, Greater, Less}
pub use Rattle.jiff.specs.Words.{IsEpochDay, IsYmd, epoch_day}
pub use Rattle.jiff_core.proofs.CalendarLemmas.{days_in_month_bounds}
pub use Rattle.jiff_core.proofs.SignedLemmas.{signed_arith}
pub use Rattle.addr.specs.Address.{Address, Contains, Overlaps, contains, has_address, is_between, last_of, overlaps, prefix_eq, same_prefix}
pub use Rattle.addr.specs.Day.{IsDay, date_text, day_in, day_number, day_text, digit, four_digits, from_1970, is_calendar_day, two_digits}
pub use Rattle.addr.specs.Digits.{in_three_digits, number_in, writes}
pub use Rattle.addr.specs.Family.{family_eq, width}
pub use Rattle.addr.specs.Name.{is_name, is_name_byte}
pub use Rattle.addr.specs.Order.{IsOrder, TestsEquality, family_cmp, prefix_cmp, same_vrp, vrp_cmp}
pub use Rattle.addr.specs.PrefixText.{IsFirstLongestRun, PrefixTextLaw, Spells, address_text, all_groups, digits_in, fault_of, group, groups_of, is_aligned, loose_groups, octet, octets_of, prefix_if, short_number}
pub use Rattle.addr.specs.Spans.{AreApart, AreMaximal, HaveAll, HaveSome, family_lt, is_apart, is_apart_below, is_before, is_one_of, same_span, span_covers, span_eq, span_has, span_meets, spans_have, without_runs}
pub use Rattle.addr.specs.declared.day.TheConstants.{LAST_DAY}
pub use Rattle.addr.specs.declared.family.Family.{Family}
pub use Rattle.addr.specs.declared.family.Family.TheVariants.{V4, V6}
pub use Rattle.addr.specs.declared.prefix.Prefix.{Prefix}
pub use Rattle.addr.specs.declared.span.Span.{Span}
pub use Rattle.addr.specs.steps.Parts.{AreParts, IsWithin, is_after, part_has}
pub use Rattle.addr.specs.steps.TotalOrders.{family_total, prefix_total}
