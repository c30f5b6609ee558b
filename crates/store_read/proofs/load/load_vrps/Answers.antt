use Rattle.store_read.proofs.Vocabulary.{refl, state, entry, is_claimed_on}
use Rattle.store_read.proofs.Giving.{each_given, given_once, given_read}
use Rattle.store_read.proofs.InForce.{each_payload}
use Rattle.store_read.proofs.InTurn.{earlier}
use Rattle.store_read.proofs.load.load_vrps.Goals as goal

pub returns-in_default-clause-schema : goal.returns-in_default-clause-schema
returns-in_default-clause-schema g c clean is =
    let old = state g.S.Store c.args.conn.now in
    let first = earlier g.S.Store c.take_in_force.ensures.asked clean in
    let opened = (c.in_ok-taken.ensures.asked.same clean).0.was_open in
    let it = c.in_ok-taken.ensures.taken clean in
    let each = each_payload c.args.day old c.claims_differ.ensures (c.schema-schema.ensures.live opened).0 (c.requires.tables first opened) it.0 it.1 in
    (opened, λ charter all holds give. given_read c.args.day all it.0 (each charter all holds) give (it.2.unread c.in_default.ensures))

pub returns-clause-found : goal.returns-clause-found
returns-clause-found g c clean charter all holds =
    let old = state g.S.Store c.args.conn.now in
    let first = earlier g.S.Store c.take_in_force.ensures.asked clean in
    let opened = (c.in_ok-taken.ensures.asked.same clean).0.was_open in
    let it = c.in_ok-taken.ensures.taken clean in
    let each = each_payload c.args.day old c.claims_differ.ensures (c.schema-schema.ensures.live opened).0 (c.requires.tables first opened) it.0 it.1 in
    each_given c.args.day all it.0 (each charter all holds) c.in-Some.vrps.items (rw c.in-Some.ensures.1 (it.2.read c.in-Some.ensures.0))

pub returns-clause-once : goal.returns-clause-once
returns-clause-once g c clean charter all holds =
    let old = state g.S.Store c.args.conn.now in
    let first = earlier g.S.Store c.take_in_force.ensures.asked clean in
    let opened = (c.in_ok-taken.ensures.asked.same clean).0.was_open in
    let it = c.in_ok-taken.ensures.taken clean in
    given_once c.in-Some.vrps.items it.0 (rw c.in-Some.ensures.1 (it.2.read c.in-Some.ensures.0))
    (c.entries_differ.ensures old.now (c.schema-schema.ensures.live opened).0 (c.requires.tables first opened) (holds.whole entry.tree refl) (is_claimed_on c.args.day old.now) it.0 it.1)
