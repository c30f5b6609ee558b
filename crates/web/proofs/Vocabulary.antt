-- The names of the logic, of other crates and of the definitions that the proofs use, in one place.
pub use Rattle.std.proofs.Common.{Bool, Bor, Err, IsTrue, List, None, Ok, Option, Result, Some, [], add-one, ap, append_assoc, arith, cond, drop, drop-cons, false, get_or, inl, inr, is_some, le_refl, length, length-drop, map, nat_eq, nat_le, nat_lt, option_copied, refl, rules, subst, sym, take, true, true≢false, ℕ, ◌&&◌, ◌++◌, ◌+◌, ◌-◌, ◌<◌, ◌==◌, ◌^◌, ◌↔◌, ◌∙◌, ◌∷◌, ◌≡◌, ◌≢◌, ◌≤◌}
pub use Rattle.std.proofs.lemmas.Bool.{eq-eqb, false≢true, ne_eqb}
pub use Rattle.std.proofs.lemmas.List.{append-nil, append_cancel_left, drop_more, get_or-take, length-take, take-append-drop, take_all}
pub use Rattle.std.specs.Prelude.{IfSome, codes}
pub use Rattle.std.specs.Result.{OnErr, OnOk}
pub use Rattle.sqlite.specs.Store.{Ghosts}
pub use Rattle.addr.specs.declared.vrp.Vrp.{Vrp}
pub use Rattle.csv_records.specs.Lines.{csv_line, csv_text, payload_header, payload_row, payload_rows}
pub use Rattle.daily_vrps.specs.CsvLength.{IsCsvLength, csv_of}
pub use Rattle.desk.specs.Answer.{AnswersRequest, is_accepted}
pub use Rattle.desk.specs.CrashOutcomes.{IsDurablyAnswered, LeavesAlong, LeavesAtMost, pending_after}
pub use Rattle.desk.specs.Desk.{EachHistory, IsOnCleanDisk, Represents, RowsStay, charter_of}
pub use Rattle.desk.specs.declared.desk.Desk.{Desk}
pub use Rattle.desk.specs.declared.reply.Reply.{Reply}
pub use Rattle.desk.specs.declared.reply.Reply.TheVariants.{Denied, Done, Imported, Payloads, Unavailable}
pub use Rattle.registry.specs.History.{History}
pub use Rattle.registry.specs.Values.{AskedFits, HistoryFits}
pub use Rattle.registry.specs.declared.asked.Asked.{Asked}
pub use Rattle.registry.specs.declared.charter.Charter.{Charter}
pub use Rattle.requests.specs.RequestHeads.{Head, SaysHead, head_view}
pub use Rattle.streams.proofs.StreamLemmas.{appended_bytes-append, on-err, passes-more, passes-nothing}
pub use Rattle.streams.specs.Streams.{AppendsBeginning}
pub use Rattle.web.specs.HttpResponses.{HasErrorStatus, MayStayUnsent, json_response, reply_response, reply_status, unavailable_response}
pub use Rattle.web.specs.ReplyText.{auth_end, auth_start, auth_text, comma_joined, entries_list, entries_text, entry_text, line_text, list_text, short_text, shown_text, unavailable_text}
pub use Rattle.web.specs.Script.{AnswersEach, BreaksOff, Replies}
pub use Rattle.web.specs.ScriptAnswer.{AnswersLine, AnswersLineAt, AnswersLineLeaving, AnswersLineOn, AnswersLines, BreaksOffLines, IsLaterDesk, RepliesAt, RepliesLeaving, RepliesOn, SaysAccepted, Standing}
pub use Rattle.web.specs.ScriptLines.{all_but_last, last_piece, pieces, script_lines, unless_empty, whole_lines, within_limit}
pub use Rattle.web.specs.declared.pieces.Pieces.{Pieces}
pub use Rattle.web.specs.steps.HttpAnswering.{AnswersNext, IsReplyResponse, IsResponseUnless, ReadsNext, extent_of}
pub use Rattle.web.specs.steps.LineSplitting.{behind, completed_lines, unfinished_line}
pub use Rattle.web.specs.steps.PieceWriting.{HasAdded, added_none, added_then}
pub use Rattle.web.specs.steps.ReplyItems.{after_commas, auth_item, item_after, items_left, list_closing, list_opening, separator}
pub use Rattle.web.specs.steps.VrpWriting.{all_items, first_after, items_text}
