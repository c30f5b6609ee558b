use Rattle.payload.proofs.Vocabulary.{◌%◌, sym, ap, ◌∙◌, one_shl}
use Rattle.payload.proofs.Skips.{number-low_bits}
use Rattle.payload.proofs.trie.skipped.Skipped.number.Goals as goal

pub returns : goal.returns
returns c =
    let bits = c.self.inside.bits in
    rw (← c.self.view_is) (ap (λ m. bits % m) (one_shl c.self.inside.count 128 c.self.invariant) ∙ sym (number-low_bits c.self.inside.count bits))
