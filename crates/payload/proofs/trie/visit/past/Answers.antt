use Rattle.payload.proofs.Vocabulary.{◌+◌, ap, arith}
use Rattle.payload.proofs.Halves.{past-shifted, past-small}
use Rattle.payload.proofs.trie.visit.past.Goals as goal

pub overflow_add-result : goal.overflow_add-result
overflow_add-result c =
    let there = past-shifted c.args.prefix.now c.args.bits.now _ _ _ c.number.ensures c.width.ensures (ap (λ n. c.args.prefix.now.length + n) c.count-count.ensures) (omega arith) in
    omega (arith, past-small _ _ _ _ there)

pub invariant_of-result : goal.invariant_of-result
invariant_of-result c =
    let there = past-shifted c.args.prefix.now c.args.bits.now _ _ _ c.number.ensures c.width.ensures (ap (λ n. c.args.prefix.now.length + n) c.count-count.ensures) (omega arith) in
    record { length_fits = omega arith; aligned = there.aligned; in_family = there.in_family }

pub returns-clause-vrps : goal.returns-clause-vrps
returns-clause-vrps c =
    (past-shifted c.args.prefix.now c.args.bits.now _ _ _ c.number.ensures c.width.ensures (ap (λ n. c.args.prefix.now.length + n) c.count-count.ensures) (omega arith)).vrps
