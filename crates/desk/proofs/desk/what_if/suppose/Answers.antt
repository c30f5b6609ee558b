use Rattle.desk.proofs.Vocabulary.{sym, ◌∙◌, eqb-true, looked_for}
use Rattle.std.proofs.lemmas.Result.{err_from_is_err_and}
use Rattle.desk.proofs.ExchangeLemmas.{exchanges_nothing, hypothetical_refused, would_exchange}
use Rattle.desk.proofs.desk.what_if.suppose.Goals as goal

pub returns-then-is_empty-clause-found : goal.returns-then-is_empty-clause-found
returns-then-is_empty-clause-found g c clean history legal held =
    exchanges_nothing c.args.store.now.charter history c.args.day c.args.caller.now c.args.holder.now c.args.changes.now
    (eqb-true _ 0 (sym c.is_empty.ensures ∙ c.if-is_empty.true))

pub returns-in_err-after-clause-found : goal.returns-in_err-after-clause-found
returns-in_err-after-clause-found g c clean history legal held =
    let charter = c.args.store.now.charter in
    let h = c.args.holder.now in
    let changes = c.args.changes.now in
    let whole = held.0.of_holder h in
    let of = held.1.holders h in
    let part = c.part_of_a_history.ensures charter history h changes whole c.in_ok-rows.field-0 legal of (c.in_ok-rows.ensures.found clean held.0 held.2) in
    let refused = err_from_is_err_and c.from_residual-in_err-after.result c.from_residual-in_err-after.ensures.1 in
    let judged = rw c.as_ref.ensures.value at (c.in_err-after.ensures.part charter history h (looked_for changes) whole legal of) in
    rw (refused.1, refused.2) (hypothetical_refused charter history h c.args.day c.args.caller.now changes c.in_err-after.field-0.0 (judged part))

pub returns-clause-found : goal.returns-clause-found
returns-clause-found g c clean history legal held =
    let charter = c.args.store.now.charter in
    let h = c.args.holder.now in
    let changes = c.args.changes.now in
    let whole = held.0.of_holder h in
    let of = held.1.holders h in
    let part = c.part_of_a_history.ensures charter history h changes whole c.in_ok-rows.field-0 legal of (c.in_ok-rows.ensures.found clean held.0 held.2) in
    let judged = rw c.as_ref.ensures.value at (c.in_ok-after.ensures.part charter history h (looked_for changes) whole legal of) in
    let answer = judged part in
    would_exchange c.no_shared_vrp.ensures c.hypothetical_is_legal.ensures c.hypothetical_keeps_others.ensures charter
    history answer.0 c.args.day c.args.caller.now h changes held.0 legal held.1 _ _ answer.1 answer.2
