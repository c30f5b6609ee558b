use Rattle.payload.proofs.Vocabulary.{◌≡◌, take}
use Rattle.payload.specs.VrpSet as set
use Rattle.payload.proofs.trie.Trie.of.Given as goal

-- the set of the VRPs so far
abbrev pub invariant-loop-vrp : goal.invariant-loop-vrp
invariant-loop-vrp l = l.trie ≡ set.from_list (take l.vrp-index l.vrps)
