-- The names of the logic, of other crates and of the definitions that the proofs use, in one place.
pub use Rattle.std.proofs.Common.{Bool, Contains, IsTrue, List, None, Option, Some, [], ap, arith, cond, drop, false, filter, get_or, inl, inr, length, map, not, refl, rules, subst, suc, sym, take, take_all, true, zero, ℕ, ◌++◌, ◌+◌, ◌<◌, ◌==◌, ◌^◌, ◌||◌, ◌↔◌, ◌∙◌, ◌∷◌, ◌≡◌, ◌≤◌, ◌⊎◌}
pub use Rattle.std.proofs.lemmas.Bool.{and_from, and_parts, cases_Bool, eq-eqb, eqb-true, false≢true, not-true, or_cases, or_left, or_parts, or_right, true≢false}
pub use Rattle.std.proofs.lemmas.Fn.{filter_same}
pub use Rattle.std.proofs.lemmas.List.{append-nil, length-append, length-map, take_more}
pub use Rattle.std.proofs.lemmas.List.Elements.{Contains-append_cases, Contains-append_left, Contains-append_right, filter-append}
pub use Rattle.std.proofs.lemmas.Result.{IfOk-weaker}
pub use Rattle.std.specs.List.{flat_map, list_all, list_any, zip}
pub use Rattle.std.specs.Prelude.{Any, if◌then◌else◌}
pub use Rattle.addr.specs.OriginValidation.{HasState, Invalid, NotFound, Valid, ValidationState, covers, matches, validation_state}
pub use Rattle.addr.specs.VrpParts.{IsVrpOfEntry, is_entry}
pub use Rattle.addr.specs.declared.asn.Asn.{Asn}
pub use Rattle.addr.specs.declared.roa_prefix.RoaPrefix.{RoaPrefix}
pub use Rattle.addr.specs.declared.route.Route.{Route}
pub use Rattle.addr.specs.declared.vrp.Vrp.{Vrp}
pub use Rattle.payload.proofs.Visits.{on-err}
pub use Rattle.payload.specs.ValidityState.{state_of}
pub use Rattle.registry.proofs.EntryVrps.{one_of_entry, vrp_of_terms}
pub use Rattle.registry.proofs.Names.{same_name-true}
pub use Rattle.registry.proofs.Unregistered.{has_nothing}
pub use Rattle.registry.specs.DailyVrps.{IsAfterExceptions, IsVrpInForce, IsVrpOn}
pub use Rattle.registry.specs.Edits.{begun, ended, ends}
pub use Rattle.registry.specs.History.{History, is_registered, same_name}
pub use Rattle.registry.specs.Rows.{Rows, RowsIfAny, RowsOf, edited, edited_if_any, new_rows, replaced_by}
pub use Rattle.registry.specs.RowsOfAll.{AllRows, HasRows, IsGivenOn, changed_rows}
pub use Rattle.registry.specs.Terms.{AreActive, HeldSinceMade, IsActive, IsVrpOf, Keeps, authorization_terms, share_vrp}
pub use Rattle.registry.specs.Verdict.{IsLegal}
pub use Rattle.registry.specs.declared.authorization.Auth.{Auth}
pub use Rattle.registry.specs.declared.change.Edit.{Edit}
pub use Rattle.registry.specs.declared.charter.Charter.{Charter}
pub use Rattle.slurm.specs.Exceptions.{Exceptions}
pub use Rattle.slurm.specs.Filter.{FilterMatches, filter_matches}
pub use Rattle.slurm.specs.SlurmSets.{union}
pub use Rattle.slurm.specs.declared.filter.Filter.{Filter}
pub use Rattle.daily_vrps.specs.Changes.{AreExchanged, AreJoined, IsAdded, IsJoined, IsLeft, IsSpared, IsWithSame}
pub use Rattle.daily_vrps.specs.Days.{ExchangesVrps, IsDayOf, IsDayOfRows}
pub use Rattle.daily_vrps.specs.Giving.{AreGivingOn, GivesOn, auths_of_rows}
pub use Rattle.daily_vrps.specs.KeptDay.{FollowsExceptions, HasExceptions, KeptDay, kept_exceptions}
pub use Rattle.daily_vrps.specs.States.{HaveStates, states_after, states_now}
pub use Rattle.daily_vrps.specs.steps.Entries.{IsJoinedBy, IsLeftWithout, IsVrpOfSome}
pub use Rattle.daily_vrps.specs.steps.Exchanging.{IsAfter, is_left, over_both}
