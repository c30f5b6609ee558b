use Rattle.registry.proofs.Vocabulary.{◌≤◌, refl, arith, false≢true, last_of}
use Rattle.registry.proofs.PoolLemmas.{pool-whole, pool-hole}
use Rattle.registry.proofs.charter.is_in_pool.Goals as goal

pub returns-then-last-end : goal.returns-then-last-end
returns-then-last-end c =
    let reached : last_of c.args.prefix.now ≤ c.in-Some.end = omega (arith, c.last-last.ensures, c.if-last-end.true) in
    (λ _. pool-whole c.args.pool.now c.args.prefix.now c.loop-end.next c.in-Some.end reached c.loop-end.invariant.2 c.in-Some.ensures.some.1, λ _. refl)

pub returns : goal.returns
returns c =
    let below : c.loop-end.next ≤ last_of c.args.prefix.now = omega (arith, c.last-last.ensures, c.loop-end.invariant.1) in
    let hole = c.in_default.ensures.none in
    (λ is. absurd (false≢true is), λ whole. absurd (pool-hole c.args.pool.now c.args.prefix.now c.loop-end.next c.loop-end.invariant.0 below hole whole))
