use Rattle.store_schema.proofs.Vocabulary.{arith, on_ok_weaker, stays_then}
use Rattle.store_schema.proofs.CharterSteps.{has_charter}
use Rattle.store_schema.proofs.charter.put_charter.Goals as goal

pub returns-in_err-put_operators-clause-inside : goal.returns-in_err-put_operators-clause-inside
returns-in_err-put_operators-clause-inside g c = stays_then g.S.Store _ _ _ c.put_schema.ensures.inside c.put_operators.ensures.inside

pub returns-clause-put : goal.returns-clause-put
returns-clause-put g c clean =
    let third = c.put_pool.ensures.inside.survives.clean in
    let second = c.put_operators.ensures.inside.survives.clean in
    let start = c.requires (omega (arith, c.put_schema.ensures.inside.survives.clean, second, third)) in
    let schema = c.in_ok-put_schema.ensures.put (omega (arith, second, third)) in
    let operators = c.in_ok-put_operators.ensures.put (omega (arith, third)) in
    on_ok_weaker c.put_pool.result (λ pool. has_charter c.args.charter.now _ _ _ _ start schema (rw c.operators.ensures.operators at operators) (rw c.pool.ensures.pool at pool)) (c.put_pool.ensures.put clean)

pub returns-clause-inside : goal.returns-clause-inside
returns-clause-inside g c = stays_then g.S.Store _ _ _ (stays_then g.S.Store _ _ _ c.put_schema.ensures.inside c.put_operators.ensures.inside) c.put_pool.ensures.inside
