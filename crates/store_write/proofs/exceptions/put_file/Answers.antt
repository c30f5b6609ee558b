use Rattle.store_write.proofs.Vocabulary.{arith, on_ok_weaker}
use Rattle.store_write.proofs.ExceptionSteps.{puts_file}
use Rattle.store_write.proofs.exceptions.put_file.Goals as goal

pub returns-clause-done : goal.returns-clause-done
returns-clause-done g c clean =
    let filters = rw c.filters.ensures.list at (c.in_ok-put_entries.ensures.done (omega (arith, c.put_entries-2.ensures.inside.survives.clean))) in
    on_ok_weaker c.put_entries-2.result (λ assertions. puts_file c.args.named.now _ _ _ filters (rw c.assertions.ensures at assertions)) (c.put_entries-2.ensures.done clean)
