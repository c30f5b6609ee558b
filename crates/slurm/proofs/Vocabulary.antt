-- The names of the logic, of other crates and of the definitions that the proofs use, in one place.
pub use Rattle.std.proofs.Common.{Bool, Err, Global, IfSome, IsSome, IsTrue, List, None, Ok, Option, Ordering, Result, Some, Vec, [], ap, append_assoc, arith, codes, drop, false, get_or, if◌then◌else◌, inl, inr, is_some, length, lit≤, map, nat_le, nat_lt, not, option_and_then, option_map, refl, rules, subst, suc, sym, take, true, zero, ℕ, ◌&&◌, ◌++◌, ◌+◌, ◌-◌, ◌<◌, ◌==◌, ◌^◌, ◌||◌, ◌↔◌, ◌∙◌, ◌∷◌, ◌≡◌, ◌≢◌, ◌≤◌, ◌⊎◌}
pub use Rattle.std.proofs.Math.Decide.{dec_le}
pub use Rattle.std.proofs.lemmas.Bool.{and_from, and_parts, both_ways, cases_Bool, cases_lt, cases_order, eq-eqb, eqb-true, le-leb, leb-true, or_cases, or_left, or_right}
pub use Rattle.std.proofs.lemmas.Bool.Decides.{Decides-and, Decides-eqb, Decides-or, leb_tells}
pub use Rattle.std.proofs.lemmas.Fn.{always_returns_same, dedup_same}
pub use Rattle.std.proofs.lemmas.List.{append-nil, get_or-take, get_or_read, length-take-le, map-append, take_all, take_more}
pub use Rattle.std.proofs.lemmas.List.Folds.{Any-from_list_any, list_any-append, list_any-from_Any, list_any_at}
pub use Rattle.std.proofs.lemmas.List.Sorted.{IsPartitionPoint-from_clause, list_any-IsPermutation, ranks_by, sorted_far}
pub use Rattle.std.proofs.lemmas.Slice.Eq.{bytes_eq-Decides}
pub use Rattle.std.specs.Bool.{Decides}
pub use Rattle.std.specs.Cmp.{IsEquivalence, IsTotalOrder, nat_cmp_total, nat_eq_equiv, on_equiv, on_total, then_total}
pub use Rattle.std.specs.Cmp.Lexicographic.{options_equiv, options_total}
pub use Rattle.std.specs.List.{All, AllByRecursion, AllPairs, AllZip, Any, dedup, dedup_from, filter_map, flat_map, list_any}
pub use Rattle.std.specs.List.Sorted.{IsPartitionPoint, IsPartitionedBy, IsPermutation, IsSorted, IsSortedByKey}
pub use Rattle.std.specs.Option.{ok_or, option_cmp, option_eq}
pub use Rattle.std.specs.Ordering.{eq_by_cmp, is_le, is_lt, nat_cmp, ordering_reverse, ordering_then}
pub use Rattle.std.specs.Prelude.{IfErr, IfOk, OnOk}
pub use Rattle.std.specs.Str.{bytes_eq}
pub use Rattle.std.specs.declared.cmp.Ordering.TheVariants.{Equal, Greater, Less}
pub use Rattle.serde_json.specs.Data.{Data, Items, array, boolean, float, item, negative, no_items, null, number, object, string, unsigned}
pub use Rattle.serde_json.specs.Find.{as_object, as_str, get}
pub use Rattle.serde_json.specs.View.{items_view, view}
pub use Rattle.addr.proofs.AddressLemmas.{contains_each, first-last, overlaps_some}
pub use Rattle.addr.proofs.OrderLemmas.{le-trans, prefix_order}
pub use Rattle.addr.proofs.PrefixOrderLemmas.{at_most-ends, block-within, cmp-equal, cmp-greater, contains-at_most, contains-between, contains-ends, ends-contains, first-size, size}
pub use Rattle.addr.specs.Address.{Contains, FitsMaxLength, Overlaps, contains, fits_max_length, last_of, overlaps}
pub use Rattle.addr.specs.Family.{family_eq, width}
pub use Rattle.addr.specs.VrpParts.{vrp_if, vrp_with}
pub use Rattle.addr.specs.declared.asn.Asn.{Asn}
pub use Rattle.addr.specs.declared.prefix.Prefix.{Prefix}
pub use Rattle.addr.specs.declared.vrp.Vrp.{Vrp}
pub use Rattle.json_values.proofs.PartsLemmas.{lower-first, mapped-unless}
pub use Rattle.json_values.specs.Parts.{and_then, both, each, mapped, unless}
pub use Rattle.json_values.specs.Tree.{list_of, only, optional, required}
pub use Rattle.json_values.specs.Values.{as_asn, as_prefix, asn_of, whole_number}
pub use Rattle.slurm.specs.Exceptions.{Exceptions, exceptions_of}
pub use Rattle.slurm.specs.Fault.{slurm_fault_number}
pub use Rattle.slurm.specs.Filter.{FilterMatches, filter_matches}
pub use Rattle.slurm.specs.Overlap.{Names, Overlap, filter_prefix, named_prefixes, overlap, shares}
pub use Rattle.slurm.specs.SlurmEntries.{IsAsnMember, IsFilterOf, IsMaxLengthMember, IsPrefixMember, SaysAssertion, SaysExceptions, SaysFilter}
pub use Rattle.slurm.specs.SlurmFaults.{array_at, asn_faults, assertion_faults, assertion_names, assertions_at, assertions_faults, bgpsec_faults, comment_faults, entries_faults, entry_count, file_faults, file_names, filter_faults, filter_names, filters_at, filters_faults, is_max_length, is_one, items_at, max_length_faults, part_faults, prefix_faults, prefix_member, slurm_fault, version_faults}
pub use Rattle.slurm.specs.SlurmSets.{AreNamedOnce, RiseByName, SomeOverlap, name_cmp, some_overlap}
pub use Rattle.slurm.specs.declared.exceptions.TheConstants.{MOST_ENTRIES}
pub use Rattle.slurm.specs.declared.fault.SlurmFault.{SlurmFault}
pub use Rattle.slurm.specs.declared.fault.SlurmFault.TheVariants.{Bgpsec, MaxPrefixLength}
pub use Rattle.slurm.specs.declared.filter.Filter.{Filter}
pub use Rattle.slurm.specs.declared.filter.Filter.TheVariants.{Both, By, Under}
pub use Rattle.slurm.specs.declared.set.NamedSlurm.{NamedSlurm}
pub use Rattle.slurm.specs.declared.walk.NamedPrefix.{NamedPrefix}
pub use Rattle.slurm.specs.steps.Reach.{AreReachesOf, AreWidest, encloses, reach_cmp, some_encloses, some_reaches}
pub use Rattle.slurm.specs.steps.SlurmFile.{asn_or_fault, assertion_in, assertion_of, assertions_in, bgpsec_from, comment_in, entries_from, filter_in, filter_of, filters_in, length_in, lists_in, max_or_length, part_in, prefix_or_fault, slurm_in, version_from, version_in}
pub use Rattle.slurm.specs.steps.Walk.{clash, of_file, prefixes_of, some_clash, walk}
