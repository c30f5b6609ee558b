-- The histories that a desk has after connections.
use Rattle.cli_tasks.proofs.Vocabulary.{◌≡◌, ◌∙◌, ℕ, Bool, true, false, List, [], ◌∷◌, ◌++◌, Option, Some, None, ap, refl, subst, sym, inl, inr, result_err, Ghosts, Charter, History, HistoryFits, Asked, asked, HttpRequest, malformed, ReadsHttp, refused, IsOnCleanDisk, Represents, Desk, AnswersHttp, RespondsTo, RepliesAt, RepliesLeaving, RepliesOn, Standing, WebFault, Read, Write, ConnectionLeads, LeavesInTurn, RespondsBy, AnswersInTurn, EndsWith, IsReadied, ReadiesAgain, ServesInTurn, Transcript}
use Rattle.registry.specs.Verdict.{IsLegal}
use Rattle.desk.specs.declared.reply.Reply.{Reply}
use Rattle.web.proofs.RepliesAlong.{replied_leaving, replied_on, RepresentsFrom, StandsFrom}
use Rattle.web.proofs.HttpLemmas.{long-keeps, shown-pending, unsent-shows}
use Rattle.web.specs.ReplyText.{short_text}
use Rattle.cli_tasks.proofs.ServingLemmas.{later_again, later_in_turn, ServesReady}

-- connections of the desk are connections of what it represents, as histories, where its replies are replies there, of
-- which those that show something leave what it represents, as making ready does
module _ {S There : Type 0} (g : Ghosts S)
    (Shows : Desk S → There → Type 0)
    (replies : There → Asked → Reply → There → Type 0)
    (replied : (old new : Desk S) (request : Asked) (reply : Reply) (before : There)
    → IsOnCleanDisk g new → Shows old before → RepliesAt g old request reply new
    → (after : There) × Shows new after × replies before request reply after)
    (same : (before after : There) (request : Asked) (reply : Reply) → short_text reply ≡ None → replies before request reply after
    → after ≡ before)
    (still : (day : ℕ) (old new : Desk S) (there : There) → IsOnCleanDisk g new → IsReadied g day old new → Shows old there
    → Shows new there) where
  -- what connections lead to, which the desk shows
  abbrev LeadsTo : Desk S → (There → Type 0) → Type 0
  LeadsTo new leads = (after : There) × Shows new after × leads after

  abbrev ConnectionBy : ℕ → There → Transcript → There → Type 0
  ConnectionBy day before passed after = EndsWith (RespondsBy replies day) before passed (result_err passed.ended) after

  module _ (day : ℕ) (old new : Desk S) (before : There) (clean : IsOnCleanDisk g new) (shows : Shows old before) where
    unchanged : (leads : There → Type 0) → new ≡ old → leads before → LeadsTo new leads
    unchanged leads same holds = (before, subst (λ desk. Shows desk before) (sym same) shows, holds)

    answered : (bytes text : List ℕ) (request : HttpRequest) → ReadsHttp day bytes request → AnswersHttp g old request text new
        → LeadsTo new (RespondsBy replies day before bytes text)
    answered bytes text (refused refusal) reads answers =
        unchanged (RespondsBy replies day before bytes text) answers.1 (inl (refused refusal, reads, (answers.0, refl)))
    answered bytes text (malformed fault) reads answers =
        unchanged (RespondsBy replies day before bytes text) answers.1 (inl (malformed fault, reads, (answers.0, refl)))
    answered bytes text (asked form request) reads (reply, written, at) =
        let (after, shows_after, answers) = replied old new request reply before clean shows at in
        (after, shows_after, inl (asked form request, reads, (reply, written, answers)))

    responded : (bytes text : List ℕ) → RespondsTo g old day bytes text new → LeadsTo new (RespondsBy replies day before bytes text)
    responded bytes text (inl (request, reads, answers)) = answered bytes text request reads answers
    responded bytes text (inr (inl (needs, unasked), said, keeps)) =
        unchanged (RespondsBy replies day before bytes text) unasked (inr (inl needs, said, refl))
    responded bytes text (inr (inr (form, request, reads, (reply, unsent, at)), said, keeps)) =
        let (after, shows_after, answers) = replied old new request reply before clean shows at in
        let stays = same before after request reply (unsent-shows request.request reply unsent) answers in
        (after, shows_after, inr (inr (form, request, reads, (reply, unsent, answers)), said, stays))

    ended : (passed : Transcript) (fault : Option WebFault)
        → EndsWith (λ from bytes text to. RespondsTo g from day bytes text to) old passed fault new
        → LeadsTo new (EndsWith (RespondsBy replies day) before passed fault)
    ended passed None responds = responded passed.received passed.sent responds
    ended passed (Some Read) (cut, over, unsent, same) =
        unchanged (EndsWith (RespondsBy replies day) before passed (Some Read)) same (cut, over, unsent, refl)
    ended passed (Some Write) (unsent, responds, failed) =
        let (after, shows_after, leads) = responded passed.received (passed.sent ++ unsent) responds in
        (after, shows_after, (unsent, leads, failed))

  again_shows : (day : ℕ) (old new : Desk S) (was_ready : Bool) (there : There) → IsOnCleanDisk g new
      → ReadiesAgain (IsReadied g day) was_ready old new → Shows old there → Shows new there
  again_shows day old new true there clean readied shows = still day old new there clean readied shows
  again_shows day old new false there clean same shows = subst (λ desk. Shows desk there) (sym same) shows

  in_turn_along : (day : ℕ) (passed : List Transcript) (old new : Desk S) (before : There)
      → AnswersInTurn (ServesReady g day) old passed new → IsOnCleanDisk g new → Shows old before
      → LeadsTo new (AnswersInTurn (ConnectionBy day) before passed)
  in_turn_along day [] old new before same clean shows =
      (before, subst (λ desk. Shows desk before) (sym same) shows, refl)
  in_turn_along day (one ∷ later) old new before (next, (mid, served, was_ready, tells, again), in_turn) clean shows =
      let clean_next = (later_in_turn g day next new later in_turn).clean clean in
      let clean_mid = (later_again g day mid next was_ready again).clean clean_next in
      let (after_one, shows_one, leads_one) = ended day old mid before clean_mid shows one (result_err one.ended) served.1 in
      let shows_next = again_shows day mid next was_ready after_one clean_next again shows_one in
      let (after, shows_after, leads) = in_turn_along day later next new after_one in_turn clean shows_next in
      (after, shows_after, (after_one, leads_one, leads))

  served_along : (day : ℕ) (passed : List Transcript) (old new : Desk S) (before : There) → ServesInTurn g day old passed new
      → IsOnCleanDisk g new → Shows old before → LeadsTo new (AnswersInTurn (ConnectionBy day) before passed)
  served_along day passed old new before (ready, readied, in_turn) clean shows =
      let clean_ready = (later_in_turn g day ready new passed in_turn).clean clean in
      in_turn_along day passed ready new before in_turn clean (still day old ready before clean_ready readied shows)

-- what a reply that shows something leaves
same_on : (charter : Charter) (before after : History) (request : Asked) (reply : Reply) → short_text reply ≡ None
    → RepliesOn charter before request reply after → after ≡ before
same_on charter before after request reply shows answers =
    long-keeps charter before after request.day request.caller request.request reply answers shows

same_leaving : (charter : Charter) (before after : Standing) (request : Asked) (reply : Reply) → short_text reply ≡ None
    → RepliesLeaving charter before request reply after → after ≡ before
same_leaving charter before after request reply shows (answers, pending) =
    let same = same_on charter before.history after.history request reply shows answers in
    let kept = pending ∙ shown-pending request reply shows before.pending in
    ap (λ h. record { history = h; pending = after.pending }) same
    ∙ ap (λ p. record { history = before.history; pending = p }) kept

module _ {S : Type 0} (g : Ghosts S) where
  -- a desk that was made ready represents what it represented, and a crash leaves no more than before
  readied_represents : (charter : Charter) (day : ℕ) (old new : Desk S) (history : History) → IsOnCleanDisk g new
      → IsReadied g day old new → Represents g charter old history → Represents g charter new history
  readied_represents charter day old new history clean (done, prepared) is = record {
    chartered = prepared.read.charter ∙ is.chartered;
    legal = is.legal;
    rows = prepared.held clean history (subst (λ (c : Charter). IsLegal c history) (sym is.chartered) is.legal) is.rows;
  }

  still_on : (charter : Charter) (first : History) (day : ℕ) (old new : Desk S) (history : History) → IsOnCleanDisk g new
      → IsReadied g day old new → RepresentsFrom g charter first old history → RepresentsFrom g charter first new history
  still_on charter first day old new history clean readied (is, values) =
      (readied_represents charter day old new history clean readied is, values)

  still_leaving : (charter : Charter) (first : Standing) (day : ℕ) (old new : Desk S) (standing : Standing) → IsOnCleanDisk g new
      → IsReadied g day old new → StandsFrom g charter first old standing → StandsFrom g charter first new standing
  still_leaving charter first day old new standing clean readied ((is, values), fitting, left) = (
    (readied_represents charter day old new standing.history clean readied is, values),
    fitting,
    (λ trees leaves. left trees (readied.1.read.crash clean trees leaves)),
  )

  pub each_leads : (charter : Charter) (day : ℕ) (passed : List Transcript) (old new : Desk S) (before : History)
      → ServesInTurn g day old passed new → IsOnCleanDisk g new → Represents g charter old before
      → (after : History) × Represents g charter new after × (HistoryFits before → HistoryFits after)
      × AnswersInTurn (ConnectionLeads charter day) before passed after
  each_leads charter day passed old new before in_turn clean is =
      let (after, (represents, values), leads) = served_along g (RepresentsFrom g charter before) (RepliesOn charter) (replied_on g charter before)
      (same_on charter) (still_on charter before)
      day passed old new before in_turn clean (is, λ fits. fits) in
      (after, represents, values, leads)

  pub each_leaves : (day : ℕ) (passed : List Transcript) (old new : Desk S) → ServesInTurn g day old passed new
      → LeavesInTurn g day old passed new
  each_leaves day passed old new in_turn = λ clean charter before is leaves.
      let (after, ((represents, values), fitting, left), leads) = served_along g (StandsFrom g charter before) (RepliesLeaving charter) (replied_leaving g charter before) (same_leaving charter)
      (still_leaving charter before)
      day passed old new before in_turn clean ((is, λ fits. fits), (λ fits. fits), leaves) in
      (after, leads, represents, values, fitting, left)
