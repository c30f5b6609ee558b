-- The names of the logic, of other crates and of the definitions that the proofs use, in one place.
pub use Rattle.std.proofs.Common.{All, Bool, Contains, Err, IsErrAnd, List, None, Ok, Option, Result, Some, [], ap, arith, cond, false, filter, flat_map, get_or, if◌then◌else◌, inl, inr, length, map, not, refl, subst, sym, take, take_all, true, ℕ, ◌++◌, ◌+◌, ◌-◌, ◌<◌, ◌==◌, ◌||◌, ◌↔◌, ◌∙◌, ◌∷◌, ◌≡◌, ◌≢◌, ◌≤◌, ◌⊎◌}
pub use Rattle.std.proofs.lemmas.Bool.{cases_Bool, cond-false, eqb-true, false_from_ne_true, false≢true, or_parts, true≢false}
pub use Rattle.std.proofs.lemmas.List.Elements.{All-cons, All-contains, All-head, All-nil, All-tail, Contains-append_right}
pub use Rattle.std.proofs.lemmas.Option.{none-some, same_Some}
pub use Rattle.std.specs.Global.{Vec}
pub use Rattle.std.specs.List.{list_all, list_any}
pub use Rattle.std.specs.Prelude.{Any, IfErr, IfOk, IfSome, IsOk, IsPermutation, IsSome, IsSomeAnd, IsTrue, OnErr, OnOk, is_err, is_ok, is_some, option_copied, option_map, vec_capacity, vec_len}
pub use Rattle.sqlite.specs.State.{HasCleanDisk, IsLive, State}
pub use Rattle.sqlite.specs.Store.{Ghosts}
pub use Rattle.sqlite_trees.specs.Tree.{Trees}
pub use Rattle.addr.specs.OriginValidation.{HasState, validation_state}
pub use Rattle.addr.specs.declared.roa_prefix.RoaPrefix.{RoaPrefix}
pub use Rattle.addr.specs.declared.route.Route.{Route}
pub use Rattle.addr.specs.declared.vrp.Vrp.{Vrp}
pub use Rattle.daily_vrps.proofs.DayLemmas.{day_of_found, day_of_history, has_same}
pub use Rattle.daily_vrps.proofs.Edits.{begins, rows_edited, rows_stay, stays, was_or_begun}
pub use Rattle.daily_vrps.proofs.ExceptionLemmas.{after_alike}
pub use Rattle.daily_vrps.proofs.Follows.{follow_keeps, none_given, none_joined}
pub use Rattle.daily_vrps.proofs.Members.{head_or_tail, in_filter, none_in_nil}
pub use Rattle.daily_vrps.specs.Changes.{AreExchanged, AreJoined, IsSpared, IsWithSame}
pub use Rattle.daily_vrps.specs.Days.{ExchangesVrps, IsDayOf, IsDayOfRows}
pub use Rattle.daily_vrps.specs.Giving.{AreGivingOn, auths_of_rows}
pub use Rattle.daily_vrps.specs.KeptDay.{HasExceptions, KeptDay, kept_exceptions}
pub use Rattle.payload.specs.ValidityState.{state_of}
pub use Rattle.payload.specs.declared.validity.Validity.{Validity}
pub use Rattle.registry.specs.Answer.{AreCounts, IsAccepted, IsAnswer, IsDenied, IsHypotheticalAnswer, IsListRefusal, IsOfCommand, Leaves, edit_imported, holder_of, imported, number_made, taker_of}
pub use Rattle.registry.specs.CharterSets.{CharterSets, IsCharter}
pub use Rattle.registry.specs.DailyVrps.{IsVrpOn}
pub use Rattle.registry.specs.Edits.{AreRuled, HasEditsOf, IsEditOf, IsHold, IsHoldEnding, IsHoldEndingNone, begun, ended, ends}
pub use Rattle.registry.specs.History.{History, same_name}
pub use Rattle.registry.specs.HypotheticalHistory.{HypotheticalHistory, JudgesChange}
pub use Rattle.registry.specs.PartOfRows.{looked_for, not_kept}
pub use Rattle.registry.specs.RoaPrefixes.{AreEntries, AreInNumber, Rise}
pub use Rattle.registry.specs.Rows.{Rows, RowsIfAny, auths_if_any, changed, changed_by_one, changed_by_second, changed_files, edited, edited_if_any}
pub use Rattle.registry.specs.RowsOfAll.{AllRows, HasRows, IsGivenOn, blank_rows, changed_rows}
pub use Rattle.registry.specs.Terms.{IsActive, IsVrpOf, authorizations_made, entries_have, terms_overlap}
pub use Rattle.registry.specs.Values.{AskedFits, EntryFits, HistoryFits, RequestFits}
pub use Rattle.registry.specs.Verdict.{IsLegal, Verdict, fit_lengths}
pub use Rattle.registry.specs.declared.asked.Asked.{Asked}
pub use Rattle.registry.specs.declared.asked.Request.{Request}
pub use Rattle.registry.specs.declared.authorization.Auth.{Auth}
pub use Rattle.registry.specs.declared.authorization.ImportRow.{ImportRow}
pub use Rattle.registry.specs.declared.change.Change.{Change}
pub use Rattle.registry.specs.declared.change.Change.TheVariants.{Exceptions, Holders}
pub use Rattle.registry.specs.declared.change.Edit.{Edit}
pub use Rattle.registry.specs.declared.change.HolderChange.{HolderChange}
pub use Rattle.registry.specs.declared.charter.Charter.{Charter}
pub use Rattle.registry.specs.declared.command.Command.{Command}
pub use Rattle.registry.specs.declared.command.Command.TheVariants.{Import}
pub use Rattle.registry.specs.declared.command.Proposed.{Proposed}
pub use Rattle.registry.specs.declared.command.Query.{Query}
pub use Rattle.registry.specs.declared.rows.HolderRows.{HolderRows}
pub use Rattle.registry.specs.declared.rule.Refusal.{Refusal}
pub use Rattle.registry.specs.declared.rule.Refusal.TheVariants.{Memory}
pub use Rattle.registry_laws.specs.Growth.{GrowthFits, GrowthIsLegal, HypotheticalIsLegal}
pub use Rattle.registry_laws.specs.Isolation.{AreJudgedAlike, AreSeenAlike, CommandsByEntries, DifferAtMostAt, GrowAlike, HypotheticalByEntries, HypotheticalKeepsOthers, ImportsByEntries, QueriesByEntries, concerns_all_holders}
pub use Rattle.slurm.specs.SlurmSets.{union}
pub use Rattle.slurm.specs.declared.filter.Filter.{Filter}
pub use Rattle.slurm.specs.declared.set.NamedSlurm.{NamedSlurm}
pub use Rattle.store.specs.Given.{GivenOnce}
pub use Rattle.store.specs.StoreRows.{EachHeldRows, Holds, HoldsAfter, IsOpened, IsRead, LeavesOnly, MayLeave, OnCleanStore, StoreView, connection_state}
pub use Rattle.store_read.specs.Loads.{AreCounted, AreFilesOf, AreHeld, AreLoaded, AreNumbered, AreOverlapping, IsForLoss, IsLoadedFor, auths_held}
pub use Rattle.store_tables.specs.TablesHold.{TablesHold, items_if_any}
pub use Rattle.store_transactions.proofs.StatementLemmas.{taken_more}
pub use Rattle.desk.specs.Answer.{AnswersCommand, AnswersContent, AnswersList, AnswersQuery, AnswersRequest, AnswersShow, AnswersWhatIf, AreStatesOn, AreVrpsOn, IsAnswered, is_accepted, is_import, only_reads, refused_with}
pub use Rattle.desk.specs.CrashOutcomes.{AreDurablyAnswered, HasNonePending, HoldDesk, IsDurablyAnswered, LeavesAlong, LeavesAtMost, MayBeLeft, StaysOpen, asked_on, pending_after, pending_after_all}
pub use Rattle.desk.specs.DayAfter.{DayAfter, DayAfterAll, DayAfterCommand, DayAfterQuery, DropsForGain, DropsForGainAll, MovesDay, PutsOn, StaysUnless, has_made_none}
pub use Rattle.desk.specs.Desk.{ContinuesHistories, EachHeld, EachHistory, HoldsHistory, HoldsRowsOf, IsOnCleanDisk, Represents, RowsStay, charter_of, store_of}
pub use Rattle.desk.specs.DeskView.{HoldsRowsAndDay}
pub use Rattle.desk.specs.HolderAnswers.{AnswersByEntries, IsAnswerByEntries, IsAnswerOn, OthersStay, RunsByEntries, may_change, may_change_any, may_except, may_except_any}
pub use Rattle.desk.specs.Prepared.{IsPrepared, day_of}
pub use Rattle.desk.specs.Run.{AreAnswered, Runs}
pub use Rattle.desk.specs.declared.desk.Desk.{Desk}
pub use Rattle.desk.specs.declared.reply.Reply.{Reply}
pub use Rattle.desk.specs.declared.reply.Reply.TheVariants.{Content, Denied, Done, Imported, Listed, Report, Shown, Unavailable}
pub use Rattle.desk.specs.steps.Accepting.{AnswersAccepted, Decides}
pub use Rattle.desk.specs.steps.EditsGiven.{AreEnough, EditsGiven, EditsGivenByEnough, EditsNothing, EndingKeepsOnce, HaveSameAuths, IsGivenAfter, auths_of, begun_if_any, ended_if_any}
pub use Rattle.desk.specs.steps.Following.{AddsSome, AreEnoughFor, BeginsOn, EditsTwoApart, Follows, FollowsChange, FollowsDay, FollowsEdit, MayDrop, listed, reply_of}
pub use Rattle.desk.specs.steps.WhatIf.{AreStatesOver, IsDayOfHeld, WouldExchange}
