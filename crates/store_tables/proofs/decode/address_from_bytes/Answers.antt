use Rattle.store_tables.proofs.Vocabulary.{◌≡◌, ◌<◌, ◌++◌, [], ◌∷◌, arith, rules, sym, ◌∙◌, get_or, take_more}
use Rattle.store_tables.proofs.AddressBytes.{room, below_more, bytes_next, address_read}
use Rattle.store_tables.proofs.decode.address_from_bytes.Goals as goal

pub overflow_mul-number : goal.overflow_mul-number
overflow_mul-number c =
    omega (arith, room c.loop-byte.byte-index c.loop-byte.number 0 (omega arith) c.loop-byte.invariant.below (omega arith))

pub overflow_add-number : goal.overflow_add-number
overflow_add-number c =
    let small : c.from.result < 256 = search rules in
    omega (arith, room c.loop-byte.byte-index c.loop-byte.number c.from.result (omega arith) c.loop-byte.invariant.below small)

pub loop-byte-preserved : goal.loop-byte-preserved
loop-byte-preserved c =
    let xs = c.args.bytes.now in
    let i = c.loop-byte.byte-index in
    let n = c.loop-byte.number in
    let b = c.from.result in
    let small : b < 256 = search rules in
    let is : b ≡ get_or xs i 0 = search rules in
    record {
      below = below_more i n b c.loop-byte.invariant.below small;
      read = bytes_next i n b small ∙ (λ j. c.loop-byte.invariant.read j ++ is j ∷ []) ∙ sym (take_more xs i 0 (omega arith));
    }

pub returns-clause-some : goal.returns-clause-some
returns-clause-some c =
    address_read c.args.bytes.now c.loop-byte.byte-index c.loop-byte.number c.if-bytes-ne16.false (omega arith) c.loop-byte.invariant.read
