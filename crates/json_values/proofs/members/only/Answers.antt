use Rattle.std.proofs.Common.{true, false, sym, ◌∙◌}
use Rattle.json_values.proofs.TreeLemmas.{only-tested}
use Rattle.json_values.proofs.members.only.Goals as goal

pub returns-then-has_only : goal.returns-then-has_only
returns-then-has_only g c =
    only-tested g.F.Fault.members c.args.names.now _ _ true c.in-Some.ensures (sym c.if-has_only.true ∙ c.has_only.ensures)

pub returns-else-has_only : goal.returns-else-has_only
returns-else-has_only g c =
    rw c.members-else-has_only.ensures
    (only-tested g.F.Fault.members c.args.names.now _ _ false c.in-Some.ensures (sym c.if-has_only.false ∙ c.has_only.ensures))
