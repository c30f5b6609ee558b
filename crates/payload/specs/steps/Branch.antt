-- What is at a node's prefix and below it.
use Rattle.payload.specs.declared.trie.node.Branch.{Branch}
use Rattle.payload.specs.steps.Tree.{Top, subtree}

abbrev pub top_of : Branch → Top
top_of b = record { originators = b.originators.items; zero = subtree b.zero; one = subtree b.one }
