use Rattle.addr.proofs.Vocabulary.{length, ap, append_assoc, length-append, arith, rules}
use Rattle.addr.proofs.PrefixTextLemmas.{decimal_thousands, length_decimal, length_thousands}
use Rattle.addr.proofs.decimal.+push_digits.Goals as goal

pub push_three_digits-requires : goal.push_three_digits-requires
push_three_digits-requires g t c =
    let few = length_thousands c.args.number (omega arith) in
    let all = simp length-append at (ap length c.push_digits.ensures.bytes) in
    search (rules, few, all)

pub returns-else-number-lt1000-clause-bytes : goal.returns-else-number-lt1000-clause-bytes
returns-else-number-lt1000-clause-bytes g t c =
    rw (
      c.push_three_digits.ensures,
      c.push_digits.ensures.bytes,
      decimal_thousands c.args.number (omega arith) (omega arith),
    ) (simp append_assoc)

pub returns-else-number-lt1000-clause-len : goal.returns-else-number-lt1000-clause-len
returns-else-number-lt1000-clause-len g t c =
    let bytes = returns-else-number-lt1000-clause-bytes g t c in
    omega (arith, length_decimal c.args.number (omega arith), simp length-append at (ap length bytes))
