use Rattle.store_write.proofs.Vocabulary.{arith, on_ok_weaker}
use Rattle.store_write.proofs.AmendSteps.{ready_then, amends_none, amends_one}
use Rattle.store_write.proofs.auth.amend_auth.Goals as goal

pub put_entries-requires : goal.put_entries-requires
put_entries-requires g c clean =
    let earlier = c.execute_counting.ensures.inside.survives.clean in
    let ready = c.requires (omega (arith, clean, earlier, c.execute.ensures.inside.survives.clean)) in
    let first = rw c.number_values.ensures at (c.in_ok-execute.ensures.ran (omega (arith, clean, earlier))) in
    let second = rw (c.claim_values.ensures, c.claim_of-claim.ensures) at (c.in_ok-amended.ensures.ran clean) in
    ready_then c.args.holder.now c.args.auth.now _ _ _ c.in_ok-amended.amended ready first second

pub returns-then-amended-eq0-clause-done : goal.returns-then-amended-eq0-clause-done
returns-then-amended-eq0-clause-done g c clean =
    let earlier = c.execute_counting.ensures.inside.survives.clean in
    let ready = c.requires (omega (arith, clean, earlier, c.execute.ensures.inside.survives.clean)) in
    let first = rw c.number_values.ensures at (c.in_ok-execute.ensures.ran (omega (arith, clean, earlier))) in
    let second = rw (c.claim_values.ensures, c.claim_of-claim.ensures) at (c.in_ok-amended.ensures.ran clean) in
    amends_none c.args.holder.now c.args.auth.now _ _ _ c.in_ok-amended.amended ready first second (record { number = c.as_slice-entries.ensures.number; rising = c.as_slice-entries.ensures.rising }) (omega (arith, c.if-amended-eq0.true))

pub returns-clause-done : goal.returns-clause-done
returns-clause-done g c clean =
    let last = c.put_entries.ensures.inside.survives.clean in
    let earlier = c.execute_counting.ensures.inside.survives.clean in
    let ready = c.requires (omega (arith, clean, last, earlier, c.execute.ensures.inside.survives.clean)) in
    let first = rw c.number_values.ensures at (c.in_ok-execute.ensures.ran (omega (arith, clean, last, earlier))) in
    let second = rw (c.claim_values.ensures, c.claim_of-claim.ensures) at (c.in_ok-amended.ensures.ran (omega (arith, clean, last))) in
    let put = rw (c.claim_of-claim.ensures, c.as_slice-entries.ensures.items) at (c.put_entries.ensures.done clean) in
    on_ok_weaker c.put_entries.result
    (amends_one c.args.holder.now c.args.auth.now _ _ _ c.in_ok-amended.amended ready first second (record { number = c.as_slice-entries.ensures.number; rising = c.as_slice-entries.ensures.rising }) c.claims_differ.ensures (λ none. absurd (omega (arith, none, c.if-amended-eq0.false))) _) put
