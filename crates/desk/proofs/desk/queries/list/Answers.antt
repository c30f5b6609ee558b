use Rattle.desk.proofs.DeskLemmas.{list_refused}
use Rattle.desk.proofs.desk.queries.list.Goals as goal

pub returns-in-Ok-clause-answered : goal.returns-in-Ok-clause-answered
returns-in-Ok-clause-answered g c clean history legal held =
    let h = c.args.holder.now in
    let part = c.list_of_a_history.ensures c.args.store.now.charter history h (held.0.of_holder h) c.in_ok-rows.rows legal (held.1.holders h) (c.in_ok-rows.ensures.found clean held.0 held.2) in
    c.in-Ok.ensures.part history h part

pub returns-clause-answered : goal.returns-clause-answered
returns-clause-answered g c clean history legal held =
    let h = c.args.holder.now in
    let part = c.list_of_a_history.ensures c.args.store.now.charter history h (held.0.of_holder h) c.in_ok-rows.rows legal (held.1.holders h) (c.in_ok-rows.ensures.found clean held.0 held.2) in
    rw c.from.ensures (list_refused history h c.args.day c.args.caller.now c.in-Err.refusal (c.in-Err.ensures.part history h part))
