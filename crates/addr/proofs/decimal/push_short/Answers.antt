use Rattle.addr.proofs.Vocabulary.{append_assoc, arith}
use Rattle.addr.proofs.PrefixTextLemmas.{decimal_short_one, decimal_short_more}
use Rattle.addr.proofs.decimal.push_short.Goals as goal
use Rattle.addr.proofs.decimal.push_short.Goals.{then-number-ge10, else-number-ge10}

pub returns-clause-bytes : goal.returns-clause-bytes
returns-clause-bytes g c =
    elim c.if-number-ge10.branch [
      | then-number-ge10 v ↦ rw (
        decimal_short_more c.args.number (omega arith) (omega arith),
        c.push_ascii-2.ensures.bytes,
        v.text-is,
        v.push_ascii.ensures.bytes,
        c.push_ascii_if.ensures.bytes,
      ) (simp append_assoc)
      | else-number-ge10 v ↦ rw (
        decimal_short_one c.args.number (omega arith),
        c.push_ascii-2.ensures.bytes,
        v.text-is,
        c.push_ascii_if.ensures.bytes,
      ) (simp append_assoc)
    ]
