use Rattle.store_write.proofs.Vocabulary.{arith, on_ok_weaker}
use Rattle.store_write.proofs.AuthSteps.{puts_auth}
use Rattle.store_write.proofs.auth.AuthHolderRow.put.Goals as goal

pub returns-clause-done : goal.returns-clause-done
returns-clause-done g c clean =
    let first = rw c.claim_of-claim.ensures at (c.in_ok-put_claim.ensures.done (omega (arith, c.put_entries.ensures.inside.survives.clean))) in
    let second = rw (c.claim_of-claim.ensures, c.as_slice.ensures.items) at (c.put_entries.ensures.done clean) in
    on_ok_weaker c.put_entries.result (puts_auth c.args.holder.now c.args.self.now (record { number = c.as_slice.ensures.number; rising = c.as_slice.ensures.rising }) _ _ _ first) second
