-- The names of the logic, of other crates and of the definitions that the proofs use, in one place.
pub use Rattle.std.proofs.Common.{All, Bool, Bor, Contains, IfNone, IfSome, IsSomeAnd, List, MatchOption, None, Option, Ordering, Some, [], ap, append-nil, arith, cond, drop, eqb, false, filter, get_or, inl, inr, length, map, min, nat_eq, not, option_copied, refl, rules, slice_set, subst, suc, sym, take, true, zero, ℕ, ◌&&◌, ◌++◌, ◌+◌, ◌-◌, ◌<◌, ◌==◌, ◌||◌, ◌↔◌, ◌∙◌, ◌∷◌, ◌≡◌, ◌≤◌}
pub use Rattle.std.proofs.Math.Bool.{or-true}
pub use Rattle.std.proofs.lemmas.Bool.{and_from, and_parts, both_ways, cases_Bool, cases_lt, cond-false, cond-true, eq-eqb, eqb-true, false≢true, or_parts}
pub use Rattle.std.proofs.lemmas.Bool.Decides.{nat_tests}
pub use Rattle.std.proofs.lemmas.List.{drop_all, take_all}
pub use Rattle.std.proofs.lemmas.List.Elements.{All-cons, All-contains, All-head, All-more, All-nil, All-tail}
pub use Rattle.std.proofs.lemmas.List.Sorted.{length_permutation}
pub use Rattle.std.specs.Cmp.Lexicographic.{bytes_decides, pointwise}
pub use Rattle.std.specs.List.{AllByRecursion, find, list_any}
pub use Rattle.std.specs.List.Sorted.{IsPermutation}
pub use Rattle.std.specs.Ordering.{is_eq}
pub use Rattle.addr.proofs.AddressLemmas.{between_at, overlaps_some}
pub use Rattle.addr.proofs.Equality.{equal_prefix, prefix_itself}
pub use Rattle.addr.specs.Address.{Address, fits_max_length, has_address, is_between, last_of, overlaps, prefix_eq}
pub use Rattle.addr.specs.Order.{prefix_cmp, same_vrp}
pub use Rattle.addr.specs.VrpParts.{IsVrpOfEntry, is_entry}
pub use Rattle.addr.specs.declared.family.Family.{Family}
pub use Rattle.addr.specs.declared.family.Family.TheVariants.{V4, V6}
pub use Rattle.addr.specs.declared.prefix.Prefix.{Prefix}
pub use Rattle.addr.specs.declared.roa_prefix.RoaPrefix.{RoaPrefix}
pub use Rattle.registry.specs.Answer.{holder_of}
pub use Rattle.registry.specs.History.{Entry, History, is_registered, registers, same_name}
pub use Rattle.registry.specs.HolderEntries.{is_this}
pub use Rattle.registry.specs.Pool.{HasFromTo, IsInPool, pool_has}
pub use Rattle.registry.specs.Repeats.{has_repeat}
pub use Rattle.registry.specs.Resources.{is_held_by, resource_holder}
pub use Rattle.registry.specs.RoaPrefixes.{AreEntries, Rise, have_one_prefix, repeats_prefix, with_maxes}
pub use Rattle.registry.specs.Terms.{AreActive, HeldSinceMade, HoldsTerms, IsVrpOf, Keeps, amended, are_shared, authorization_terms, authorizations_made, created_after, entries_have, grant_terms, granted_after, grants_after, grants_made, numbered_terms, row_terms, share_vrp, terms_after, terms_overlap, with_terms}
pub use Rattle.registry.specs.Values.{AskedFits, FileFits, FilterFits, ImportRowFits, VrpFits}
pub use Rattle.registry.specs.Verdict.{Verdict, fit_lengths, maxes_fit}
pub use Rattle.registry.specs.declared.authorization.Auth.{Auth}
pub use Rattle.registry.specs.declared.authorization.ImportRow.{ImportRow}
pub use Rattle.registry.specs.declared.command.Command.{Command}
pub use Rattle.registry.specs.declared.command.Command.TheVariants.{Amend, Create, Delegate, Grant, Import, Reclaim, Register, Revoke, Slurm, Transfer, Withdraw}
pub use Rattle.registry.specs.declared.grant.Granted.{Granted}
