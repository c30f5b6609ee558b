use Rattle.json_values.proofs.TreeLemmas.{list_of-items_view}
use Rattle.slurm.proofs.lists.entries_in.Goals as goal

pub returns-in-Some : goal.returns-in-Some
returns-in-Some g c =
    rw (← c.in-Some.ensures, list_of-items_view c.in-Some.values.now.items, ← c.deref.ensures.value) c.each.ensures
