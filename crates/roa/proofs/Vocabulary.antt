-- The names of the logic, of other crates and of the definitions that the proofs use, in one place.
pub use Rattle.std.proofs.Common.{Bool, Contains, List, None, Ok, Option, Some, [], ap, append_assoc, arith, cond, drop, eqb, false, get_or, inl, inr, leb, length, ltb, map, not, refl, rules, subst, suc, sym, take, true, zero, ℕ, ◌%◌, ◌&&◌, ◌*◌, ◌++◌, ◌+◌, ◌-◌, ◌/◌, ◌<◌, ◌^◌, ◌∙◌, ◌∷◌, ◌≡◌, ◌≤◌, ◌⊎◌}
pub use Rattle.std.proofs.Math.Nat.{mul-le-mul_left, pow-le-pow_right}
pub use Rattle.std.proofs.lemmas.Bool.{and_from, and_parts, both_ways, cases_Bool, cases_eq, cases_lt, eq-eqb, eqb-false, eqb-true, false≢true, le-leb, le-ltb, leb-true, lt-ltb, ltb-true, ne_eqb}
pub use Rattle.std.proofs.lemmas.List.{append-nil, drop_at, length-append, length-take, map-append, nil_from_length, take-append-drop, take_at, take_more}
pub use Rattle.std.proofs.lemmas.List.Concat.{flat_map-cons}
pub use Rattle.std.proofs.lemmas.List.Elements.{All-contains, Contains-append_right, filter_more}
pub use Rattle.std.proofs.lemmas.List.Sorted.{All-permutation, Contains-permutation, IsPermutation-sym}
pub use Rattle.std.proofs.lemmas.List.Sums.{AllPass-from_list_all, list_all-from_AllPass, sum_by-cons}
pub use Rattle.std.proofs.lemmas.Nat.{div-add-mod', div-mul-add, div_below, mod-mul-add, mod_below, mul-add-lt, one_shl, pow-add, pow_pos, shl-shr, shl_below, shr_below, shr_split}
pub use Rattle.std.proofs.lemmas.Option.{none-some, option_and_then_some, same_Some, some_pair_parts}
pub use Rattle.std.proofs.lemmas.Result.{IfOk-weaker, err_from_is_err_and, on_ok_weaker}
pub use Rattle.std.specs.List.{AllByRecursion, count_by, flat_map, list_all}
pub use Rattle.std.specs.Option.{SomeIff, ok_or, option_map}
pub use Rattle.std.specs.Prelude.{Err, IfNone, IfOk, IfSome, IsPermutation, IsSome, MatchResult, nat_eq, unwrap_or, ◌↔◌}
pub use Rattle.std.specs.declared.cmp.Ordering.TheVariants.{Less}
pub use Rattle.addr.proofs.AddressLemmas.{below_widest, first_below, multiple-at_most, width_small}
pub use Rattle.addr.specs.Address.{IsPrefix, same_prefix}
pub use Rattle.addr.specs.Family.{family_eq, width}
pub use Rattle.addr.specs.PrefixText.{◌>>=◌}
pub use Rattle.addr.specs.declared.asn.Asn.{Asn}
pub use Rattle.addr.specs.declared.family.Family.{Family}
pub use Rattle.addr.specs.declared.family.Family.TheVariants.{V4, V6}
pub use Rattle.addr.specs.declared.prefix.Prefix.{Prefix}
pub use Rattle.roa.specs.ContentOctets.{AreOctetsOf, be_octets, bit_octets, bit_string, content_octets, element, entry_octets, integer, integer_len, length_octets, max_length, octet_string, roa_ip_address, roa_ip_address_family, sequence}
pub use Rattle.roa.specs.RoaContent.{AreCanonical, AreFirstBits, AreOctets, AreRoaIpAddresses, Encodes, IsBitString, IsBlock, IsContent, IsElement, IsInteger, IsLength, IsMaxLength, IsRoaIpAddress, IsTwosComplement, Rises, RouteOriginAttestation, be_value, entry_eq, entry_order, family_octets, is_in_range, of_family}
pub use Rattle.roa.specs.declared.fault.DecodeFault.{DecodeFault}
pub use Rattle.roa.specs.declared.fault.DecodeFault.TheVariants.{Memory, NotContent}
pub use Rattle.roa.specs.steps.Reading.{IsReadAs, Numbers, ReadsAs, content_of, element_at, entries_after, entries_in_octets, entry_at, integer_of, numbers, prefix_of, sole_element}
