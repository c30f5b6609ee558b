use Rattle.std.proofs.Common.{sym, ◌∙◌}
use Rattle.json_values.proofs.TreeLemmas.{tree_of-text, tree_of-none}
use Rattle.json_values.proofs.text.tree_of.Goals as goal

pub returns-in-Ok : goal.returns-in-Ok
returns-in-Ok c =
    sym (tree_of-text c.args.bytes.now c.in-Ok.ensures.ok.0 ∙ c.in-Ok.ensures.ok.1)

pub returns-in_default : goal.returns-in_default
returns-in_default c =
    sym (tree_of-none c.args.bytes.now (c.in-Err.ensures.err (λ memory. c.in_default.not-Memory (c.classify.ensures.memory.1 memory))))
