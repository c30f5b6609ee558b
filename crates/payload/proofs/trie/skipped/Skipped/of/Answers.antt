use Rattle.payload.proofs.Vocabulary.{◌-◌, arith}
use Rattle.payload.proofs.Skips.{last-low_bits}
use Rattle.payload.proofs.trie.skipped.Skipped.of.Goals as goal

pub returns : goal.returns
returns c =
    let p = c.args.prefix.now in
    rw c.width.ensures (last-low_bits p (p.length - c.args.at) (omega arith))
