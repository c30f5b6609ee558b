-- The names of the logic, of other crates and of the definitions that the proofs use, in one place.
pub use Rattle.std.proofs.Common.{Bool, Bor, Contains, Err, IfSome, IsSomeAnd, List, None, Ok, Option, Result, Some, [], ap, append-nil, append_assoc, arith, cond, eqb, false, filter, find, get_or, inl, inr, is_some, length, length-append, map, not, option_copied, refl, rules, subst, suc, sym, take, true, zero, ℕ, ◌&&◌, ◌++◌, ◌+◌, ◌<◌, ◌==◌, ◌||◌, ◌↔◌, ◌∙◌, ◌∷◌, ◌≡◌, ◌≤◌}
pub use Rattle.std.proofs.Math.Bool.{and-false, and-true, or-false, or-true}
pub use Rattle.std.proofs.lemmas.Bool.{and_from, and_parts, cases_Bool, cond-false, cond-true, eq-eqb, false≢true, not-false, not-true, or_cases, or_left, or_right, true≢false}
pub use Rattle.std.proofs.lemmas.Bool.Decides.{nat_tests, when_false}
pub use Rattle.std.proofs.lemmas.List.{length-take-le, take_all, take_more}
pub use Rattle.std.proofs.lemmas.List.Elements.{Contains-get_or, filter-append}
pub use Rattle.std.proofs.lemmas.Result.{MatchResult-weaker, err_from_is_err_and}
pub use Rattle.std.specs.BTreeSet.{BTreeSet, contains}
pub use Rattle.std.specs.Global.{Vec}
pub use Rattle.std.specs.List.{list_all, list_any}
pub use Rattle.std.specs.Prelude.{MatchBool, nat_le, option_map}
pub use Rattle.addr.specs.Address.{Address, has_address, last_of, prefix_eq}
pub use Rattle.addr.specs.Spans.{AddsAddresses, AreApart, AreMaximal, TakesAddresses, is_one_of, span_covers, spans_have, without_runs}
pub use Rattle.addr.specs.VrpParts.{is_entry}
pub use Rattle.addr.specs.declared.prefix.Prefix.{Prefix}
pub use Rattle.addr.specs.declared.roa_prefix.RoaPrefix.{RoaPrefix}
pub use Rattle.addr.specs.declared.span.Span.{Span}
pub use Rattle.registry.proofs.Carry.{active-left, carried, carries-edit, carries-exceptions, carries-one, carries-two}
pub use Rattle.registry.proofs.Ended.{LosesPrefix, active-ended, among, filter-numbers, numbers_where}
pub use Rattle.registry.proofs.Entries.{both_share, row-are, with_maxes-none}
pub use Rattle.registry.proofs.Held.{LosesNothing, active-kept, active-numbered, amended-addresses, amended-number, not_yet_made, since_same}
pub use Rattle.registry.proofs.Kept.{Keeps-append, Keeps-filtered, Keeps-map, Keeps-unique}
pub use Rattle.registry.proofs.Names.{held_by_itself, is_held_by-true, same_name-false, same_name-same, same_name-true}
pub use Rattle.registry.proofs.Unregistered.{has_nothing}
pub use Rattle.registry.specs.Answer.{AnswersAmend, AnswersCreate, AnswersDelegate, AnswersLoss, AnswersNumber, AreFacts, AtEachHolder, HasRuns, IfRegistered, IsAccepted, IsAnswer, IsHypotheticalAnswer, IsMadeIfAny, ListBasis, PutsNoneBack, ReportsTaken, RowsOfNamed, SharesWithNone, edit_number, holder_of, is_transfer}
pub use Rattle.registry.specs.Edits.{AreOfRows, IsOfTerms}
pub use Rattle.registry.specs.History.{Entry, History, is_registered, same_name}
pub use Rattle.registry.specs.Import.{ImportGrows, IsImportDenied, JudgesRow, are_same, has_terms, row_command}
pub use Rattle.registry.specs.PartOfRows.{IsPartFor, IsPartIfAny, looks_for, not_kept}
pub use Rattle.registry.specs.Permission.{are_permitted, gives_access, has_access, is_permitted_terms}
pub use Rattle.registry.specs.Resources.{HoldsPrefix, IsFree, is_held_by, resource_holder}
pub use Rattle.registry.specs.RoaPrefixes.{AreInNumber, with_maxes}
pub use Rattle.registry.specs.Rows.{Carries, Rows, RowsIfAny, RowsOf, auths_if_any, changed, edited, edited_if_any, grants_if_any, replaced_by, rows_if_any, rows_of}
pub use Rattle.registry.specs.Terms.{AreActive, HeldSinceMade, HoldsEntries, Keeps, OfActive, amended, authorization_terms, authorizations_made, entries_have, gives_some, grant_terms, grants_made, numbered_grant, numbered_terms, row_terms, terms_overlap, with_terms}
pub use Rattle.registry.specs.Verdict.{IsLegal, OfNumber, Verdict, auth_of_number, fit_lengths, maxes_fit}
pub use Rattle.registry.specs.declared.authorization.Auth.{Auth}
pub use Rattle.registry.specs.declared.authorization.AuthTerms.{AuthTerms}
pub use Rattle.registry.specs.declared.authorization.ImportRow.{ImportRow}
pub use Rattle.registry.specs.declared.change.Change.TheVariants.{Holders}
pub use Rattle.registry.specs.declared.charter.Charter.{Charter}
pub use Rattle.registry.specs.declared.command.Command.{Command}
pub use Rattle.registry.specs.declared.command.Command.TheVariants.{Amend, Delegate, Grant, Import, Reclaim, Register, Revoke, Slurm, Transfer, Withdraw}
pub use Rattle.registry.specs.declared.command.Proposed.{Proposed}
pub use Rattle.registry.specs.declared.command.Proposed.TheVariants.{Create}
pub use Rattle.registry.specs.declared.grant.Access.TheVariants.{Alter, Look, Manage}
pub use Rattle.registry.specs.declared.grant.Granted.{Granted}
pub use Rattle.registry.specs.declared.limits.TheConstants.{LAST_NUMBER, MOST_AUTHORIZATIONS, MOST_GRANTS}
pub use Rattle.registry.specs.declared.rows.HolderRows.{HolderRows}
pub use Rattle.registry.specs.declared.rule.Refusal.{Refusal}
pub use Rattle.registry.specs.declared.rule.Refusal.TheVariants.{Denied, Memory}
pub use Rattle.registry.specs.declared.rule.Rule.{Rule}
pub use Rattle.policy.specs.steps.Authorized.{AreAuthorized, row_of_auth, row_of_entries}
pub use Rattle.policy.specs.steps.Creation.{IsCreated}
pub use Rattle.policy.specs.steps.HypotheticalChange.{IsHypotheticalChange, OfPart}
pub use Rattle.policy.specs.steps.Part.{IsRefusedBy, refusal_at}
