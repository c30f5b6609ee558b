use Rattle.desk.proofs.Vocabulary.{refl}
use Rattle.desk.proofs.desk.queries.show.Goals as goal

pub returns-in-Ok-clause-answered : goal.returns-in-Ok-clause-answered
returns-in-Ok-clause-answered g c clean history legal held =
    let h = c.args.holder.now in
    let part = c.number_of_a_history.ensures c.args.store.now.charter history h c.args.number (held.0.of_holder h) c.in_ok-rows.rows legal (held.1.holders h) (c.in_ok-rows.ensures.found clean held.0 held.2) in
    rw c.in_ok-shown-in-Ok.ensures (c.in-Ok.ensures.part history h part)

pub returns-clause-answered : goal.returns-clause-answered
returns-clause-answered g c clean history legal held =
    let h = c.args.holder.now in
    let part = c.number_of_a_history.ensures c.args.store.now.charter history h c.args.number (held.0.of_holder h) c.in_ok-rows.rows legal (held.1.holders h) (c.in_ok-rows.ensures.found clean held.0 held.2) in
    (c.in-Err.ensures.part history h part, refl)
