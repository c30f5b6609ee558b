use Rattle.payload.proofs.Vocabulary.{◌∙◌, tree}
use Rattle.payload.proofs.Tries.{contains-in_four, contains-in_six}
use Rattle.payload.proofs.trie.TriePayloadIndex.contains.Goals as goal

pub returns-in-V4 : goal.returns-in-V4
returns-in-V4 c = c.contains.ensures ∙ contains-in_four c.args.self.now c.args.vrp.now (tree c.self.inside.four) (tree c.self.inside.six) c.self.view_is c.self.invariant.0 c.self.invariant.1 c.in-V4.is

pub returns-in-V6 : goal.returns-in-V6
returns-in-V6 c = c.contains-in-V6.ensures ∙ contains-in_six c.args.self.now c.args.vrp.now (tree c.self.inside.four) (tree c.self.inside.six) c.self.view_is c.self.invariant.0 c.self.invariant.1 c.in-V6.is
