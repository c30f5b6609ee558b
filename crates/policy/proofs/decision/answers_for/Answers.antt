use Rattle.policy.proofs.Vocabulary.{option_copied}
use Rattle.policy.proofs.AmendLemmas.{amend-facts}
use Rattle.policy.proofs.RowsLemmas.{facts-of_rows}
use Rattle.policy.proofs.decision.answers_for.Goals as goal

pub returns-in-Create : goal.returns-in-Create
returns-in-Create c charter history legal are taken =
    rw c.in-Create.is (c.create_answers.ensures charter history c.in-Create.holder legal (rw c.in-Create.is at are))

pub returns-in-Amend : goal.returns-in-Amend
returns-in-Amend c charter history legal are taken =
    let auths = c.auths_of-auths.ensures in
    rw c.in-Amend.is (amend-facts charter history c.in-Amend.holder c.in-Amend.number c.in-Amend.maxes.items (option_copied c.args.rows) _ legal (rw c.in-Amend.is at are)
    (rw (c.auth_of_number.ensures, auths, c.deref.ensures.value) at c.is_found_shared.ensures))

pub returns-in_default : goal.returns-in_default
returns-in_default c charter history legal are taken =
    facts-of_rows charter history c.args.command.now (option_copied c.args.rows) _ c.requires c.in_default.not-Create c.in_default.not-Amend legal are taken
