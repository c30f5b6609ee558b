use Rattle.payload.proofs.Vocabulary.{◌-◌, sym, arith}
use Rattle.payload.proofs.Skips.{drop-low_bits, size_of}
use Rattle.payload.proofs.trie.skipped.Skipped.after.Goals as goal

pub returns : goal.returns
returns c =
    let count = c.self.inside.count in
    let same = drop-low_bits c.args.n count (count - c.args.n) c.self.inside.bits (omega (arith, c.requires, size_of _ _ _ c.self.view_is)) in
    rw (← c.self.view_is) (sym same)
