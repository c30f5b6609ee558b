use Rattle.daily_vrps.proofs.Vocabulary.{IfOk-weaker, validation_state, Route, state_of, AreExchanged, IsAfter}
use Rattle.payload.specs.VrpSet as set
use Rattle.daily_vrps.proofs.Exchanges.{after_exchanged}
use Rattle.daily_vrps.proofs.States.{paired, states_such}
use Rattle.daily_vrps.proofs.exchange.judge_twice.Goals as goal

pub returns-clause-now : goal.returns-clause-now
returns-clause-now c =
    let exchange = c.in_ok-exchange.exchange in
    IfOk-weaker c.pair.result _ _
    (λ pairs are.
    (paired c.in_ok-now.now.items c.in_ok-after.after.items state_of (λ (r : Route). validation_state (set.items c.args.kept.now.vrps) r)
    (IsAfter c.args.kept.now exchange.ended exchange.begun) c.args.routes.now (rw c.vrps.ensures at c.in_ok-now.ensures) c.in_ok-after.ensures
    pairs.items (rw (c.deref.ensures.value, c.deref-2.ensures.value) at are)).0)
    c.pair.ensures

pub returns-clause-after : goal.returns-clause-after
returns-clause-after c =
    let kept = c.args.kept.now in
    let exchange = c.in_ok-exchange.exchange in
    let same = after_exchanged kept exchange.ended exchange.begun c.args.ended.now c.args.begun.now
    c.in_ok-exchange.ensures.ended c.in_ok-exchange.ensures.begun in
    IfOk-weaker c.pair.result _ _
    (λ pairs are.
    states_such (IsAfter kept exchange.ended exchange.begun) (AreExchanged kept c.args.ended.now c.args.begun.now) same c.args.routes.now _
    (paired c.in_ok-now.now.items c.in_ok-after.after.items state_of (λ (r : Route). validation_state (set.items kept.vrps) r)
    (IsAfter kept exchange.ended exchange.begun) c.args.routes.now (rw c.vrps.ensures at c.in_ok-now.ensures) c.in_ok-after.ensures
    pairs.items (rw (c.deref.ensures.value, c.deref-2.ensures.value) at are)).1)
    c.pair.ensures
