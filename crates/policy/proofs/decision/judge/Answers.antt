use Rattle.policy.proofs.Vocabulary.{refl, sym, ◌∙◌, err_from_is_err_and}
use Rattle.policy.proofs.RowsLemmas.{some_copied}
use Rattle.policy.proofs.decision.judge.Goals as goal

pub returns-in_err-register-in-Register-clause-answer : goal.returns-in_err-register-in-Register-clause-answer
returns-in_err-register-in-Register-clause-answer c = λ history legal facts.
    let told = c.is_some.ensures ∙ some_copied c.args.facts.rows ∙ (rw c.in-Register.is at facts) in
    let refused = err_from_is_err_and c.from_residual.result c.from_residual.ensures.1 in
    rw (c.in-Register.is, refused.1, refused.2) (c.in_err-register-in-Register.ensures.answer history c.args.day legal told, refl)

pub returns-in-Delegate-clause-answer : goal.returns-in-Delegate-clause-answer
returns-in-Delegate-clause-answer c = λ history legal facts.
    rw c.in-Delegate.is (c.delegate.ensures.answer history c.args.day legal (rw c.holdings_of-held.ensures (rw c.in-Delegate.is at facts)))

pub returns-in-Transfer-clause-answer : goal.returns-in-Transfer-clause-answer
returns-in-Transfer-clause-answer c = rw c.in-Transfer.is (λ history legal facts. c.decide_transfer.ensures.answer history c.args.day legal facts.0 facts.1)

pub returns-in-Amend-clause-answer : goal.returns-in-Amend-clause-answer
returns-in-Amend-clause-answer c = λ history legal facts.
    let found = rw (sym c.auths_of.ensures) at (rw c.in-Amend.is at facts) in
    rw c.in-Amend.is (c.amend.ensures.answer c.args.charter.now history c.in-Amend.number c.in-Amend.maxes (sym c.deref.ensures.value) legal
    (rw (c.grants_of-in-Amend.ensures, c.auth_of_number-found.ensures) found))

pub returns-in-Amend-clause-shape : goal.returns-in-Amend-clause-shape
returns-in-Amend-clause-shape c = rw c.in-Amend.is (c.amend.ensures.shape c.in-Amend.number c.in-Amend.maxes _ c.auth_of_number-found.ensures)

pub returns-in-Import-clause-answer : goal.returns-in-Import-clause-answer
returns-in-Import-clause-answer c = λ history legal facts.
    rw c.in-Import.is (c.decide_import.ensures.answer history c.in-Import.listed (sym c.deref-in-Import.ensures.value) legal (rw c.in-Import.is at facts))

pub returns-in-Import-clause-shape : goal.returns-in-Import-clause-shape
returns-in-Import-clause-shape c = rw c.in-Import.is (c.decide_import.ensures.shape c.in-Import.listed (sym c.deref-in-Import.ensures.value))
