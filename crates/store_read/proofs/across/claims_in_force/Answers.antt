use Rattle.store_read.proofs.Vocabulary.{state, claims_in_force_is}
use Rattle.store_read.proofs.InForce.{claims_rise, finds_claims}
use Rattle.store_read.proofs.across.claims_in_force.Goals as goal

pub take_each-requires-clause-plain : goal.take_each-requires-clause-plain
take_each-requires-clause-plain g c = claims_in_force_is.plain

pub take_each-requires-clause-unlisted : goal.take_each-requires-clause-unlisted
take_each-requires-clause-unlisted g c = claims_in_force_is.unlisted

pub returns-clause-found : goal.returns-clause-found
returns-clause-found g c clean =
    let db = (state g.S.Store c.args.conn.now).now in
    let it = c.in_ok-taken.ensures.taken clean in
    finds_claims c.args.day db c.in_ok-taken.taken.keys.items it.0 it.2 (rw c.day_values.ensures at it.1)

pub returns-clause-rising : goal.returns-clause-rising
returns-clause-rising g c clean =
    let db = (state g.S.Store c.args.conn.now).now in
    let it = c.in_ok-taken.ensures.taken clean in
    claims_rise c.args.day db c.in_ok-taken.taken.keys.items it.0 it.2 (rw c.day_values.ensures at it.1)
