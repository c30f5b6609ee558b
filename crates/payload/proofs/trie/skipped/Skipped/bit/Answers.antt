use Rattle.payload.proofs.Vocabulary.{arith}
use Rattle.payload.proofs.Skips.{size_of, low_bits-next}
use Rattle.payload.proofs.trie.skipped.Skipped.bit.Goals as goal

pub returns : goal.returns
returns c =
    let next = low_bits-next c.args.i c.self.inside.count c.self.inside.bits (omega (arith, c.requires, size_of _ _ _ c.self.view_is)) in
    rw (← c.self.view_is) next
