use Rattle.daily_vrps.proofs.Vocabulary.{rules, filter_same}
use Rattle.daily_vrps.proofs.ExceptionLemmas.{passes, unfiltered}
use Rattle.daily_vrps.proofs.exceptions.keep_unfiltered.Goals as goal

pub returns : goal.returns
returns c v =
    let kept = filter_same _ (passes c.args.filters.now) _ (λ x b f' k. search rules) _ _ c.retain.ensures.filtered in
    rw kept (unfiltered c.args.filters.now c.args.vrps.now.items v)
