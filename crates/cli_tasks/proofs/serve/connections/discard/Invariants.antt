use Rattle.cli_tasks.proofs.Vocabulary.{◌≡◌, ◌+◌, ℕ, List, length, Gives}
use Rattle.cli_tasks.specs.declared.serve.connections.TheConstants.{DISCARD_LIMIT}
use Rattle.cli_tasks.proofs.serve.connections.discard.Given as goal

abbrev pub invariant-loop-left : goal.invariant-loop-left
invariant-loop-left g l = (bytes : List ℕ)
    × Gives bytes (g.S.Source.handed_out l.fn.source) (g.S.Source.handed_out l.source)
    × (length bytes + l.left ≡ DISCARD_LIMIT)

abbrev pub decreases-loop-left : goal.decreases-loop-left
decreases-loop-left g l = l.left
