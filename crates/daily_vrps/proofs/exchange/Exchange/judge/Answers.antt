use Rattle.daily_vrps.proofs.Vocabulary.{◌≡◌, ◌+◌, ◌∷◌, ◌++◌, [], take, sym, ap, ◌∙◌, take_more, IsAfter}
use Rattle.daily_vrps.proofs.States.{one_more_state}
use Rattle.daily_vrps.proofs.exchange.Exchange.judge.Goals as goal

pub loop-route-preserved : goal.loop-route-preserved
loop-route-preserved c =
    let routes = c.args.routes.now in
    let index = c.loop-route.route-index in
    let grown : take (index + 1) routes ≡ take index routes ++ c.route-item.result ∷ [] =
    take_more routes index c.route-item.result c.loop-route-test.true ∙ ap (λ r. take index routes ++ r ∷ []) (sym c.route-item.is) in
    rw (grown, c.in_ok-push.ensures.items)
    (one_more_state (IsAfter c.args.kept.now c.args.self.now.ended c.args.self.now.begun) (take index routes) c.loop-route.states.items
    c.route-item.result c.validity.result c.loop-route.invariant c.validity.ensures)
