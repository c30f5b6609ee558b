use Rattle.payload.proofs.Vocabulary.{◌<◌, subst, sym, same_family}
use Rattle.payload.proofs.Fronts.{enclosing-from_front}
use Rattle.payload.proofs.Lengths.{none-so_short}
use Rattle.payload.proofs.Prefixes.{apart-before}
use Rattle.payload.proofs.search.enclosing_both.Goals as goal

pub common_bound-bound-requires-clause-order : goal.common_bound-bound-requires-clause-order
common_bound-bound-requires-clause-order c =
    apart-before c.args.low.now c.args.high.now (same_family _ _ (sym c.if-not-is.ensures)) c.requires.order c.requires.apart

pub returns-then-bound-in_family : goal.returns-then-bound-in_family
returns-then-bound-in_family c =
    none-so_short _ c.args.low.now c.args.high.now c.common_bound-bound.result.length _ c.requires.no_shorter c.requires.before c.requires.order c.common_bound-bound.ensures.length (subst (λ n. c.common_bound-bound.result.length < n) c.in_family.ensures c.if-bound-in_family.true)

pub returns : goal.returns
returns c =
    enclosing-from_front c.args.low.now c.args.high.now c.common_bound-bound.result _ _ c.requires.before c.requires.order c.common_bound-bound.ensures.order c.up_to_from_end.ensures
