use Rattle.daily_vrps.proofs.Vocabulary.{rules, not, filter_same, Vrp}
use Rattle.payload.specs.VrpSet as set
use Rattle.daily_vrps.proofs.Exchanges.{in_rest}
use Rattle.daily_vrps.proofs.exchange.remove_all.Goals as goal

pub returns : goal.returns
returns c v =
    let kept = filter_same _ (λ (w : Vrp). not (set.has_vrp c.args.index.now w)) _ (λ x b f' k. search rules) _ _ c.retain.ensures.filtered in
    rw kept (in_rest c.args.index.now c.args.vrps.now.items v)
