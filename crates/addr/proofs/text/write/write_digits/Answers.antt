use Rattle.addr.proofs.Vocabulary.{◌≡◌, ◌-◌, ◌%◌, length-set, arith, sym}
use Rattle.addr.proofs.PrefixTextLemmas.{digits_in-zero, digits_in_turn}
use Rattle.addr.proofs.text.write.write_digits.Goals as goal

pub loop-i-preserved : goal.loop-i-preserved
loop-i-preserved c =
    let same = c.loop-i.auto.digits in
    rw (length-set c.loop-i.digits (c.loop-i.i - 1) (c.loop-i.number % c.args.base))
    (digits_in_turn c.args.base c.loop-i.i (c.loop-i.i - 1) c.loop-i.number c.loop-i.digits _ (omega arith) (omega arith) c.loop-i.invariant)

pub returns : goal.returns
returns c =
    let end : c.loop-i.i ≡ 0 = omega arith in
    let all = rw (end, digits_in-zero, c.loop-i.auto.digits) at c.loop-i.invariant in
    sym all
