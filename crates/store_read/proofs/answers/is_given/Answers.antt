use Rattle.store_read.proofs.Vocabulary.{◌∙◌, refused_by, is_other}
use Rattle.store_read.proofs.GivenAuths.{gives_out_of}
use Rattle.store_read.proofs.answers.is_given.Goals as goal

pub returns-in_err-given-clause-schema : goal.returns-in_err-given-clause-schema
returns-in_err-given-clause-schema g c clean is = c.load_given.ensures.schema clean (refused_by _ _ _ c.in_err-given.was c.from_residual.ensures.1 is)

pub returns-clause-found : goal.returns-clause-found
returns-clause-found g c clean charter all holds =
    let a = c.args in
    (rw c.deref.ensures.value at c.has_other.ensures) ∙ gives_out_of (is_other a.but) a.asn a.entry.now (all.of_holder a.holder.now) c.in_ok-given.given.items (c.in_ok-given.ensures.found clean charter all holds)
