use Rattle.daily_vrps.proofs.Vocabulary.{state_of}
use Rattle.daily_vrps.proofs.Exchanges.{state_after}
use Rattle.daily_vrps.proofs.exchange.Exchange.validity.Goals as goal

pub returns : goal.returns
returns c =
    state_after c.args.kept.now c.args.self.now.ended c.args.self.now.begun c.args.route.now
    (state_of c.validity_among.result) (state_of c.validity.result) (state_of c.over_both.result)
    (rw c.vrps.ensures at c.validity_among.ensures) c.validity.ensures c.over_both.ensures
