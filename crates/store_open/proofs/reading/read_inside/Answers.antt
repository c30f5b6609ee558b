use Rattle.store_open.proofs.Vocabulary.{subst, state_in, ShowAuths}
use Rattle.store_open.proofs.InTurn.{earlier}
use Rattle.store_open.proofs.Opened.{read_and_hold}
use Rattle.store_open.proofs.reading.read_inside.Goals as goal

pub returns-clause-held : goal.returns-clause-held
returns-clause-held g c clean =
    let mid = earlier c.read_auths.ensures.asked.inside.survives clean in
    let first = earlier c.read_others.ensures.asked.inside.survives mid in
    let one = (c.in_ok-charter.ensures.asked.same mid).0 in
    read_and_hold (state_in g.S.Store c.args.tx.now).now ((c.requires.ready first).tables one.was_open) (c.requires.sound first one.was_open)
    c.in_ok-charter.charter (c.in_ok-charter.ensures.shown mid) (subst ShowAuths one.now_is (c.in_ok-read_auths.ensures.found clean))
