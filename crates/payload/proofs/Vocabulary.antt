-- The names of the logic, of other crates and of the definitions that the proofs use, in one place.
pub use Rattle.std.proofs.Common.{Bool, Err, IfOk, IsTrue, List, None, Ok, Option, Ordering, Result, Some, T, [], ap, append_assoc, arith, bit_and, cond, drop, false, filter, get_or, if◌then◌else◌, inl, inr, is_some, length, lit<, map, mod-eq_of_lt, nat_le, nat_lt, not, refl, rules, slice_index_or, subst, suc, sym, take, true, zero, ℕ, ◌%◌, ◌&&◌, ◌*◌, ◌++◌, ◌+◌, ◌-◌, ◌/◌, ◌<◌, ◌==◌, ◌^◌, ◌||◌, ◌↔◌, ◌∙◌, ◌∷◌, ◌≡◌, ◌≤◌, ◌⊎◌}
pub use Rattle.std.proofs.Math.Bool.{and-false, and-true, or-false, or-true, or_comm}
pub use Rattle.std.proofs.Math.Nat.{add-mul, add-mul-mod_self_right, div-div-eq-div-mul, mod-lt, mul-add, mul-le-mul_right, mul-mod_left, pow-le-pow_right}
pub use Rattle.std.proofs.lemmas.Bool.{and_from, and_left, and_parts, both_ways, cases_Bool, cases_lt, eq-eqb, eqb-true, false_from_ne_true, false≢true, le-leb, leb-true, lt-leb, ne_eqb}
pub use Rattle.std.proofs.lemmas.Bool.Decides.{nat_tests}
pub use Rattle.std.proofs.lemmas.Cmp.{tied_itself}
pub use Rattle.std.proofs.lemmas.List.{append-nil, get_or-append-add, get_or-drop, get_or-take, get_or_append_left, get_or_at, get_or_read, length-append, length-drop, length-take-le, take-append-drop, take-append-le, take_all, take_more}
pub use Rattle.std.proofs.lemmas.List.Elements.{All-append, All-cons, All-head, All-more, All-nil, All-tail, All-weaker, filter_map-append}
pub use Rattle.std.proofs.lemmas.List.Folds.{list_any-append, list_any_more, list_any_none}
pub use Rattle.std.proofs.lemmas.List.Sorted.{IsPartitionPoint-from_clause}
pub use Rattle.std.proofs.lemmas.Nat.{and_mask, div-add-mod', div-mul-add, le-div, mod-pow-add, one_shl, pow-add, pow_below, pow_pos}
pub use Rattle.std.proofs.lemmas.Result.{on_err_weaker, on_ok_weaker}
pub use Rattle.std.specs.Cmp.{Equal-is, IsTotalOrder, nat_cmp_total, on_total, then_total}
pub use Rattle.std.specs.List.{All, AllPairs, AllWithin, list_any, range_with_len, slice_range}
pub use Rattle.std.specs.List.Sorted.{IsPartitionPoint, IsPartitionedBy, IsStrictlySortedBy}
pub use Rattle.std.specs.Ordering.{eq_by_cmp, is_eq, is_le, is_lt, nat_cmp, ordering_then}
pub use Rattle.std.specs.Prelude.{OnErr, OnOk}
pub use Rattle.std.specs.declared.cmp.Ordering.TheVariants.{Equal, Greater, Less}
pub use Rattle.addr.proofs.AddressLemmas.{below_widest, first_below, multiple-at_most, multiple-fits}
pub use Rattle.addr.proofs.Equality.{family_itself, same_family}
pub use Rattle.addr.proofs.OrderLemmas.{both_equal, derived_vrp_cmp, derived_vrp_order, le-trans, less_is, prefix_order, vrp_order}
pub use Rattle.addr.proofs.PrefixOrderLemmas.{at_most-ends, block-within, cmp-equal, cmp-less, contains-at_most, contains-between, contains-ends, ends-contains, first-size, numbers-order, order-one_family, size}
pub use Rattle.addr.specs.Address.{bit_of, contains, last_of, same_prefix}
pub use Rattle.addr.specs.Family.{family_eq, width}
pub use Rattle.addr.specs.Order.{family_cmp, prefix_cmp, same_vrp, vrp_cmp}
pub use Rattle.addr.specs.VrpParts.{vrp_if}
pub use Rattle.addr.specs.OriginValidation.{Invalid, NotFound, Valid, ValidationState, covers, is_from, matches, validation_state}
pub use Rattle.addr.specs.declared.family.Family.{Family}
pub use Rattle.addr.specs.declared.family.Family.TheVariants.{V4, V6}
pub use Rattle.addr.specs.declared.prefix.Prefix.{Prefix}
pub use Rattle.addr.specs.declared.route.Route.{Route}
pub use Rattle.addr.specs.declared.vrp.Vrp.{Vrp}
pub use Rattle.sorted_items.proofs.Places.{All-inserted, All-removed}
pub use Rattle.sorted_items.specs.Rising.{RiseBy}
pub use Rattle.payload.specs.Rising.{AreRising}
pub use Rattle.payload.specs.SearchDepths.{agrees, first_bits, is_matched_before, is_reached, search_depths}
pub use Rattle.payload.specs.ValidityState.{state_of}
pub use Rattle.payload.specs.Visit.{TookBeginning}
pub use Rattle.payload.specs.declared.originator.Originator.{Originator}
pub use Rattle.payload.specs.steps.Branch.{top_of}
pub use Rattle.payload.specs.steps.Search.{HasAllEnclosing, HasAllMatching, IsFrontUpTo, is_at_most, is_below}
pub use Rattle.payload.specs.steps.Shortest.{AreNoShorter, shortest_in}
pub use Rattle.payload.specs.steps.Shrinks.{shrinks}
pub use Rattle.payload.specs.steps.Skipped.{common, low_bits, number_of}
pub use Rattle.payload.specs.steps.Tree.{AreOriginators, Fork, IsInserted, IsPruned, IsRemoved, Leaf, Top, Tree, above, bare, below, chain, grown, has, has_on_path, is_bare, is_place, nodes_on_path, originator_cmp, same_originator, same_tops, subtree, tree, weight}
pub use Rattle.payload.specs.steps.Trie.{authorizes, bits_from, half_first, half_vrps, joined_state, last_bits, node_vrps, originator_of, state_among, state_below, trie_vrps, vrp_at, vrp_of_parts, vrps_at, vrps_below, walked_state, whole}
