use Rattle.store_open.proofs.Vocabulary.{subst, state, ShowAuths}
use Rattle.store_open.proofs.InTurn.{earlier}
use Rattle.store_open.proofs.Opened.{read_and_hold}
use Rattle.store_open.proofs.reading.read_tables.Goals as goal

pub returns-clause-held : goal.returns-clause-held
returns-clause-held g c clean =
    let mid = earlier c.collect_auths.ensures.asked.survives clean in
    let first = earlier c.read_others_once.ensures.asked.survives mid in
    let one = (c.in_ok-charter.ensures.asked.same mid).0 in
    read_and_hold (state g.S.Store c.args.conn.now).now (c.requires.tables first one.was_open) (c.schema-schema.ensures.live one.was_open).0
    c.in_ok-charter.charter (c.in_ok-charter.ensures.shown mid) (subst ShowAuths one.now_is (c.in_ok-collect_auths.ensures.found clean))
