use Rattle.std.proofs.Common.{◌≡◌, sym}
use Rattle.std.specs.declared.cmp.Ordering.TheVariants.{Less}
use Rattle.std.proofs.lemmas.List.Quantifiers.{all_pairs_remove}
use Rattle.sorted_items.proofs.Places.{absent, absent-members, found, remove-members}
use Rattle.sorted_items.proofs.remove.Goals as goal

pub returns-in-Ok-clause-members : goal.returns-in-Ok-clause-members
returns-in-Ok-clause-members g c =
    remove-members g.met.T.Ord.total _ _ _ _ c.requires (rw c.as_slice.ensures at c.in-Ok.ensures.bound) (rw c.as_slice.ensures at c.in-Ok.ensures.position) c.remove.ensures

pub returns-in-Err-clause-found : goal.returns-in-Err-clause-found
returns-in-Err-clause-found g c = sym (absent g.met.T.Ord.total _ _ _ c.requires (rw c.as_slice.ensures at c.in-Err.ensures.position))

pub returns-in-Err-clause-members : goal.returns-in-Err-clause-members
returns-in-Err-clause-members g c =
    absent-members g.met.T.Ord.total _ _ (absent g.met.T.Ord.total _ _ _ c.requires (rw c.as_slice.ensures at c.in-Err.ensures.position))

pub returns-in-Ok-clause-found : goal.returns-in-Ok-clause-found
returns-in-Ok-clause-found g c = sym (found g.met.T.Ord.total _ _ _ (rw c.as_slice.ensures at c.in-Ok.ensures.bound) (rw c.as_slice.ensures at c.in-Ok.ensures.position))

pub returns-in-Ok-clause-rise : goal.returns-in-Ok-clause-rise
returns-in-Ok-clause-rise g c = rw c.remove.ensures (all_pairs_remove (λ x y. g.T.Ord.cmp x y ≡ Less) _ _ (rw c.as_slice.ensures at c.in-Ok.ensures.bound) c.requires)
