use Rattle.payload.proofs.Vocabulary.{◌-◌, arith}
use Rattle.payload.proofs.Skips.{size_of, take-low_bits}
use Rattle.payload.proofs.trie.skipped.Skipped.first.Goals as goal

pub returns : goal.returns
returns c =
    let count = c.self.inside.count in
    let same = take-low_bits c.args.n (count - c.args.n) count c.self.inside.bits (omega (arith, c.requires, size_of _ _ _ c.self.view_is)) in
    rw (← c.self.view_is) same
