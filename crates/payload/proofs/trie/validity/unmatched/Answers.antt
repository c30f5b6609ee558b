use Rattle.payload.proofs.Vocabulary.{◌<◌, length, sym, ap, arith, nat_tests, state_of, state_below}
use Rattle.payload.proofs.TrieStates.{some-here}
use Rattle.payload.proofs.trie.validity.unmatched.Goals as goal

pub returns-else-is_empty : goal.returns-else-is_empty
returns-else-is_empty c =
    let full : 0 < length c.args.originators.now = grind (arith, nat_tests, c.if-is_empty.ensures) in
    sym (ap (state_below (state_of c.args.above)) (some-here c.args.originators.now full))
