use Rattle.store_write.proofs.Vocabulary.{arith, on_ok_weaker}
use Rattle.store_write.proofs.AuthSteps.{takes_auth}
use Rattle.store_write.proofs.auth.take_auth.Goals as goal

pub returns-clause-done : goal.returns-clause-done
returns-clause-done g c clean =
    let last = c.execute-2.ensures.inside.survives.clean in
    let ready = c.requires (omega (arith, last, c.execute.ensures.inside.survives.clean)) in
    let first = rw c.number_values.ensures at (c.in_ok-execute.ensures.ran (omega (arith, last))) in
    let second = rw c.number_values-2.ensures at (c.execute-2.ensures.ran clean) in
    on_ok_weaker c.execute-2.result (takes_auth c.args.holder.now c.args.number _ _ _ ready first) second
