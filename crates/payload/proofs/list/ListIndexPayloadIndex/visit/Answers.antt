use Rattle.payload.proofs.Places.{listed}
use Rattle.payload.proofs.Visits.{beginning-one, on-err, took-all}
use Rattle.payload.proofs.list.ListIndexPayloadIndex.visit.Goals as goal

pub returns-in_err-take-clause-beginning : goal.returns-in_err-take-clause-beginning
returns-in_err-take-clause-beginning g c =
    let all = listed c.args.self.now _ _ c.deref-vrp-items.ensures.value c.self.view_is c.self.invariant.0 in
    on-err c.from_residual.result _ (λ fresh. beginning-one g.S.Sink.took g.met.S.Sink.took_then _ _ _ _ _ _ _ all (c.loop-vrp.invariant.taken fresh) (c.take.ensures.took (c.loop-vrp.invariant.goes_on fresh)) c.loop-vrp-test.true c.vrp-item.is)

pub returns-clause-all : goal.returns-clause-all
returns-clause-all g c = λ fresh.
    let all = listed c.args.self.now _ _ c.deref-vrp-items.ensures.value c.self.view_is c.self.invariant.0 in
    took-all g.S.Sink.took _ _ _ _ _ all (c.loop-vrp.invariant.taken fresh) c.loop-vrp-test.false
