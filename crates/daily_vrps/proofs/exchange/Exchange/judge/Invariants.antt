use Rattle.daily_vrps.proofs.Vocabulary.{take, HaveStates, IsAfter}
use Rattle.daily_vrps.proofs.exchange.Exchange.judge.Given as goal

-- the routes so far have these states
abbrev pub invariant-loop-route : goal.invariant-loop-route
invariant-loop-route l = HaveStates (IsAfter l.kept l.self.ended l.self.begun) (take l.route-index l.routes) l.states.items
