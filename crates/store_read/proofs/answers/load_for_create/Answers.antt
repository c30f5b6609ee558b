use Rattle.store_read.proofs.Vocabulary.{refused_by}
use Rattle.store_read.proofs.InTurn.{earlier, later}
use Rattle.store_read.proofs.answers.load_for_create.Goals as goal

pub returns-in_err-rows-clause-schema : goal.returns-in_err-rows-clause-schema
returns-in_err-rows-clause-schema g c clean is = c.load_grants_counted.ensures.schema clean (refused_by _ _ _ c.in_err-rows.was c.from_residual.ensures.1 is)

pub returns-clause-found : goal.returns-clause-found
returns-clause-found g c clean charter all holds =
    let before = earlier g.S.Store c.load_answers.ensures.asked clean in
    let counted = c.in_ok-rows.ensures.found before charter all holds in
    let created = c.created_of-created.ensures (all.of_holder c.args.holder.now) (rw c.as_ref.ensures.value counted) in
    record {
      counted = counted;
      answers = c.in_ok-answers.ensures.found clean charter all (later g.S.Store c.in_ok-rows.ensures.asked before charter all holds) created;
    }
