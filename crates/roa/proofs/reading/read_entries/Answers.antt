use Rattle.roa.proofs.Vocabulary.{◌-◌, length, sym, ◌∙◌, arith, eqb-true, eqb-false, err_from_is_err_and, numbers, entry_at, entries_in_octets}
use Rattle.roa.proofs.Loop.{goes_on, ends, is_full, is_done, read_failed, read_given}
use Rattle.roa.proofs.reading.read_entries.Goals as goal

pub returns-then-len-eq-MAX_ENTRIES-clause-adds : goal.returns-then-len-eq-MAX_ENTRIES-clause-adds
returns-then-len-eq-MAX_ENTRIES-clause-adds c =
    is_full c.args.entries.now.items c.loop-rest.entries.items c.args.family c.loop-rest.rest.now (entries_in_octets (64 - length c.args.entries.now.items) c.args.family c.args.octets.now)
    (omega arith) (eqb-false _ 0 (sym c.is_empty.ensures ∙ c.loop-rest-test.true)) c.loop-rest.invariant.so_far

pub returns-in_err-entry-clause-adds : goal.returns-in_err-entry-clause-adds
returns-in_err-entry-clause-adds c =
    let p = err_from_is_err_and c.from_residual.result c.from_residual.ensures.1 in
    let none = read_failed (λ x. (numbers x.0, x.1.now)) c.take_entry.result (entry_at c.args.family c.loop-rest.rest.now) c.in_err-entry.field-0.0 c.take_entry.ensures c.in_err-entry.ensures.value in
    rw (p.1, p.2, none.1) (ends c.args.entries.now.items c.loop-rest.entries.items c.args.family c.loop-rest.rest.now (entries_in_octets (64 - length c.args.entries.now.items) c.args.family c.args.octets.now)
    (omega arith) (eqb-false _ 0 (sym c.is_empty.ensures ∙ c.loop-rest-test.true)) none.0 c.loop-rest.invariant.so_far)

pub loop-rest-preserved : goal.loop-rest-preserved
loop-rest-preserved c =
    let found = read_given (λ x. (numbers x.0, x.1.now)) c.take_entry.result (entry_at c.args.family c.loop-rest.rest.now) (c.in_ok-entry.entry, c.in_ok-entry.after) c.take_entry.ensures (sym c.ok_or.ensures.value ∙ c.in_ok-entry.was) in
    record {
      so_far = rw c.in_ok-push.ensures.items (goes_on c.loop-rest.entries.items c.in_ok-entry.entry c.args.family c.loop-rest.rest.now c.in_ok-entry.after.now _
          (omega arith) (eqb-false _ 0 (sym c.is_empty.ensures ∙ c.loop-rest-test.true)) found c.loop-rest.invariant.so_far);
      few = omega (arith, c.in_ok-push.ensures.len);
    }

pub returns-clause-adds : goal.returns-clause-adds
returns-clause-adds c = is_done c.loop-rest.entries.items c.args.family c.loop-rest.rest.now _ (eqb-true _ 0 (sym c.is_empty.ensures ∙ c.loop-rest-test.false)) c.loop-rest.invariant.so_far
