use Rattle.store_open.proofs.Vocabulary.{[], refl, state_in, answered}
use Rattle.store_open.proofs.InTurn.{earlier}
use Rattle.store_open.proofs.reading.ask_all.Goals as goal

pub returns-clause-answered : goal.returns-clause-answered
returns-clause-answered g c clean =
    let first = c.requires.ready (earlier c.ask_inside.ensures.asked.inside.survives clean) in
    answered c.args.sql.now [] _ (state_in g.S.Store c.args.tx.now) _ c.in_ok-rows.rows.items c.requires.plain c.requires.unlisted first.tables refl (c.in_ok-rows.ensures.shown clean)
