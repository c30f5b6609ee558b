-- A node's children are smaller than the node.
use Rattle.std.specs.Prelude.{◌≡◌, ◌+◌, ◌≤◌, Bool, true, false, List, [], ◌∷◌, Option, Some, None, refl}
use Rattle.std.specs.Global.{Box}
use Rattle.std.proofs.Common.{arith}
use Rattle.payload.specs.declared.trie.node.Branch.{Branch}
use Rattle.payload.specs.declared.trie.node.Node.TheDeep.{deep-Branch, deep-Node}
use Rattle.payload.specs.declared.trie.node.Node.TheInside.{Inside}
use Rattle.payload.specs.steps.Branch.{top_of}
use Rattle.payload.specs.steps.Tree.{Top, grown, subtree, tree, weight}

weight-grown : (path : List Bool) (t : Top) → weight (tree t) ≤ weight (tree (grown path t))
weight-grown [] t = omega arith
weight-grown (false ∷ path) t = omega (arith, weight-grown path t)
weight-grown (true ∷ path) t = omega (arith, weight-grown path t)

shrinks-branch : (b : Branch) → deep-Branch b ≤ weight (tree (top_of b))
shrinks-branch b = by b.zero b.one refl refl
  where
    by : (zero one : Option (Box Top)) → b.zero ≡ zero → b.one ≡ one → deep-Branch b ≤ 1 + (weight (subtree b.zero) + weight (subtree b.one))
    by None None ez eo = rw (ez, eo) (omega arith)
    by None (Some one) ez eo = rw (ez, eo) (omega arith)
    by (Some zero) None ez eo = rw (ez, eo) (omega arith)
    by (Some zero) (Some one) ez eo = rw (ez, eo) (omega arith)

pub shrinks : (a : Inside) → deep-Node a ≤ weight (tree (grown a.skipped (top_of a.branch)))
shrinks a = omega (arith, shrinks-branch a.branch, weight-grown a.skipped (top_of a.branch))
