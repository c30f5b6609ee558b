-- The names of the logic, of other crates and of the definitions that the proofs use, in one place.
pub use Rattle.std.proofs.Common.{Bool, Err, IsSomeAnd, List, None, Ok, Option, Result, Some, [], ap, arith, cond, eqb, false, filter, inl, inr, length, map, nat_le, not, refl, subst, sym, true, ℕ, ◌&&◌, ◌++◌, ◌+◌, ◌<◌, ◌||◌, ◌↔◌, ◌∙◌, ◌∷◌, ◌≡◌, ◌≤◌}
pub use Rattle.std.proofs.Math.Bool.{or-true}
pub use Rattle.std.proofs.lemmas.Bool.{and_from, and_parts, cases_Bool, cond-false, cond-true, false≢true, or_cases, or_left, or_parts, or_right}
pub use Rattle.std.proofs.lemmas.Bool.Decides.{nat_tests}
pub use Rattle.std.proofs.lemmas.List.Elements.{All-cons, All-filter, All-head, All-map, All-nil, All-push, All-tail, All-weaker}
pub use Rattle.std.proofs.lemmas.Option.{IfSome_then, none-some, same_Some}
pub use Rattle.std.specs.List.{All, Contains, list_any}
pub use Rattle.addr.proofs.AddressLemmas.{between_at, first-last, overlaps_some}
pub use Rattle.addr.specs.Address.{Address, Overlaps, has_address, last_of, prefix_eq}
pub use Rattle.addr.specs.VrpParts.{is_entry}
pub use Rattle.addr.specs.declared.prefix.Prefix.{Prefix}
pub use Rattle.addr.specs.declared.roa_prefix.RoaPrefix.{RoaPrefix}
pub use Rattle.registry.proofs.Entries.{are_shared-flips, row-are, with_maxes-again, with_maxes-are, with_maxes-fit}
pub use Rattle.registry.proofs.Held.{LosesNothing, active-kept, amended-addresses, amended-number, authorization_terms-numbered, held_now, not_yet_made, since_more, since_same, within}
pub use Rattle.registry.proofs.Kept.{Keeps-all, Keeps-append, Keeps-same, Keeps-unique}
pub use Rattle.registry.proofs.Names.{held_by_itself, held_by_same, same_name-false, same_name-same, same_name-true}
pub use Rattle.registry.specs.Answer.{Leaves, holder_of, number_given, taker_of}
pub use Rattle.registry.specs.ExceptionsInForce.{brings_exceptions, exceptions_in_force, files_after, files_in_force}
pub use Rattle.registry.specs.GrowingHistory.{Grows, IsDeniedAt, grown_by}
pub use Rattle.registry.specs.History.{Entry, History, is_registered, registers, same_name}
pub use Rattle.registry.specs.HolderEntries.{entries_for, entries_naming, entries_naming_either, entries_of, is_this, names_holder}
pub use Rattle.registry.specs.HypotheticalHistory.{JudgesChange, hypothetical_command}
pub use Rattle.registry.specs.Import.{ImportGrows, IsPresent, JudgesRow, are_same, has_terms, row_command}
pub use Rattle.registry.specs.Permission.{are_permitted, has_access, is_permitted_terms}
pub use Rattle.registry.specs.Resources.{HoldsPrefix, holder_after, is_held_by, resource_holder}
pub use Rattle.registry.specs.Rows.{Rows, RowsIfAny}
pub use Rattle.registry.specs.Terms.{AreActive, HeldSinceMade, HoldsEntries, HoldsTerms, IsActive, Keeps, OfActive, amended, are_shared, authorization_terms, authorizations_made, created_after, entries_have, gives_some, grant_terms, granted_after, grants_after, grants_made, numbered_grant, numbered_terms, row_terms, share_vrp, terms_after, with_terms}
pub use Rattle.registry.specs.Values.{AuthFits, CommandFits, FileFits, FilesFit, GrantFits, HistoryFits, ImportRowFits}
pub use Rattle.registry.specs.Verdict.{HasAccessTo, IsLegal, ListVerdict, OfNumber, ShowVerdict, Verdict, accept, auth_of_number, check, maxes_fit}
pub use Rattle.registry.specs.declared.authorization.Auth.{Auth}
pub use Rattle.registry.specs.declared.authorization.ImportRow.{ImportRow}
pub use Rattle.registry.specs.declared.charter.Charter.{Charter}
pub use Rattle.registry.specs.declared.command.Command.{Command}
pub use Rattle.registry.specs.declared.command.Command.TheVariants.{Amend, Create, Delegate, Grant, Import, Reclaim, Register, Revoke, Slurm, Transfer, Withdraw}
pub use Rattle.registry.specs.declared.command.Proposed.{Proposed}
pub use Rattle.registry.specs.declared.grant.Access.TheVariants.{Alter, Look, Manage}
pub use Rattle.registry.specs.declared.grant.Granted.{Granted}
pub use Rattle.registry.specs.declared.rule.Rule.{Rule}
pub use Rattle.slurm.specs.declared.set.NamedSlurm.{NamedSlurm}
pub use Rattle.registry_laws.specs.Isolation.{AreJudgedAlike, AreSeenAlike, CommandsByEntries, GrowAlike, HypotheticalByEntries, HypotheticalKeepsOthers, ImportsByEntries, IsVrpInForceByEntries, OthersKeepRows, QueriesByEntries, RowsOfEntries, VrpsOfEntries, concerns_all_holders}
pub use Rattle.registry_laws.specs.RepeatedRequests.{HaveSameRows, ImportsRepeat, NoneNames, RepeatsLeaveRows, has_slurm_file, is_grant, is_named}
