use Rattle.store_write.proofs.Vocabulary.{arith, state_in, counters_is}
use Rattle.store_write.proofs.HolderSteps.{registered_if_found}
use Rattle.store_write.proofs.holder.is_registered.Goals as goal

pub ask_inside-requires-clause-plain : goal.ask_inside-requires-clause-plain
ask_inside-requires-clause-plain g c = counters_is.plain

pub returns-clause-answered : goal.returns-clause-answered
returns-clause-answered g c clean =
    let asked = c.in_ok-found.ensures.asked in
    let ready = c.requires (omega (arith, asked.inside.survives.clean)) in
    registered_if_found c.args.holder.now (state_in g.S.Store c.args.tx.now) (state_in g.S.Store c.ask_inside.new.tx) ready c.in_ok-found.found.items (rw c.name_values.ensures at (c.in_ok-found.ensures.shown clean))
    c.is_empty.result c.in_ok-found.found.len c.in_ok-found.found.ok.0 c.is_empty.ensures (asked.same clean) (asked.ready clean)
