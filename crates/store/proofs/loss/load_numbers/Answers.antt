use Rattle.store.proofs.Vocabulary.{ap, ◌∙◌, refused_by, has_number}
use Rattle.store.proofs.LossFound.{overlaps_out_of}
use Rattle.store.proofs.PartFound.{has_sorted}
use Rattle.store.proofs.loss.load_numbers.Goals as goal

pub returns-in_err-entries-clause-schema : goal.returns-in_err-entries-clause-schema
returns-in_err-entries-clause-schema g c clean is = c.load_entries_up_to.ensures.schema clean (refused_by _ _ _ c.in_err-entries.was c.from_residual.ensures.1 is)

pub returns-clause-found : goal.returns-clause-found
returns-clause-found g c clean charter all holds n =
    let a = c.args in
    has_sorted c.in_ok-numbers.numbers.items c.sort_and_dedup.new.items.items c.sort_and_dedup.ensures.members n
    ∙ ap (λ l. has_number l n) (rw c.deref.ensures.value at c.in_ok-numbers.ensures)
    ∙ overlaps_out_of a.prefix.now (all.of_holder a.holder.now) c.in_ok-entries.entries.items n (c.in_ok-entries.ensures.found clean charter all holds)
