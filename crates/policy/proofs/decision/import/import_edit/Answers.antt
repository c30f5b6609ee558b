use Rattle.policy.proofs.Vocabulary.{◌≡◌, ◌<◌, length, sym, ◌∙◌, arith, nat_tests}
use Rattle.policy.proofs.Imports.{import-none, denied-unregistered}
use Rattle.policy.proofs.decision.import.import_edit.Goals as goal

pub returns-in-None-clause-answer : goal.returns-in-None-clause-answer
returns-in-None-clause-answer c charter history h legal are =
    let a = c.args in
    let test = sym c.is_empty.ensures ∙ c.if-is_empty.true in
    let empty : length a.listed.now ≡ 0 = grind (arith, nat_tests) in
    import-none charter history h a.day a.caller.now a.listed.now c.new.result 0 empty c.new.ensures.items (rw c.in-None.is at are)

pub returns-in-None-2-clause-answer : goal.returns-in-None-2-clause-answer
returns-in-None-2-clause-answer c charter history h legal are =
    let a = c.args in
    let test = sym c.is_empty.ensures ∙ c.if-is_empty.false in
    let some : 0 < length a.listed.now = grind (arith, nat_tests) in
    denied-unregistered charter history h a.day a.caller.now a.listed.now some legal (rw c.in-None-2.is at are)
