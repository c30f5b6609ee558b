use Rattle.std.proofs.Common.{ap, not, sym, Result, Ok, Err}
use Rattle.std.specs.Prelude.{OnErr}
use Rattle.sorted_items.proofs.Places.{found, found-members, absent, insert-rises, insert-members}
use Rattle.sorted_items.proofs.insert.Goals as goal

pub returns-in-Ok-clause-new : goal.returns-in-Ok-clause-new
returns-in-Ok-clause-new g c =
    sym (ap not (found g.met.T.Ord.total _ _ _ (rw c.as_slice.ensures at c.in-Ok.ensures.bound) (rw c.as_slice.ensures at c.in-Ok.ensures.position)))

pub returns-in-Ok-clause-members : goal.returns-in-Ok-clause-members
returns-in-Ok-clause-members g c =
    found-members g.met.T.Ord.total _ _ (found g.met.T.Ord.total _ _ _ (rw c.as_slice.ensures at c.in-Ok.ensures.bound) (rw c.as_slice.ensures at c.in-Ok.ensures.position))

pub returns-in_ok-insert-in-Err-clause-new : goal.returns-in_ok-insert-in-Err-clause-new
returns-in_ok-insert-in-Err-clause-new g c =
    sym (ap not (absent g.met.T.Ord.total _ _ _ c.requires (rw c.as_slice.ensures at c.in-Err.ensures.position)))

pub returns-in_ok-insert-in-Err-clause-members : goal.returns-in_ok-insert-in-Err-clause-members
returns-in_ok-insert-in-Err-clause-members g c = insert-members g.met.T.Ord.total _ _ _ _ c.in_ok-insert-in-Err.ensures.ok

pub returns-in_ok-insert-in-Err-clause-rise : goal.returns-in_ok-insert-in-Err-clause-rise
returns-in_ok-insert-in-Err-clause-rise g c =
    insert-rises g.met.T.Ord.total _ _ _ _ c.requires (rw c.as_slice.ensures at c.in-Err.ensures.bound) (rw c.as_slice.ensures at c.in-Err.ensures.position) c.in_ok-insert-in-Err.ensures.ok

if-err : {T E : Type 0} (r : Result T E) (P : Type 0) → P → OnErr r P
if-err (Ok x) P p = tt
if-err (Err e) P p = p

pub returns-in_err-insert-in-Err-clause-absent : goal.returns-in_err-insert-in-Err-clause-absent
returns-in_err-insert-in-Err-clause-absent g c =
    if-err c.from_residual.result _ (absent g.met.T.Ord.total _ _ _ c.requires (rw c.as_slice.ensures at c.in-Err.ensures.position))
