use Rattle.web.proofs.Vocabulary.{Err, ap, inl, inr, refl, line_text, unavailable_text}
use Rattle.requests.specs.MalformedText.{malformed_text}
use Rattle.web.proofs.VrpLemmas.{on-err-then}
use Rattle.web.proofs.session.DeskAnswerLines.answer.Goals as goal

pub returns-in_default-clause-err : goal.returns-in_default-clause-err
returns-in_default-clause-err g c =
    on-err-then c.write_malformed.result _ _ (λ begins. (malformed_text c.too_long.result, rw (c.in_default.is, c.too_long.ensures) (refl, refl), begins)) c.write_malformed.ensures.err

pub returns-in-Ok-clause-err : goal.returns-in-Ok-clause-err
returns-in-Ok-clause-err g c =
    on-err-then c.reply_to.result _ _
    (λ replied. (line_text replied.0, rw c.in-Some.is (inr (inl (c.in-Ok.asked, replied.0, c.in-Ok.ensures.ok, replied.1, refl))), replied.2))
    c.reply_to.ensures.err

pub returns-in-Err-Malformed-clause-err : goal.returns-in-Err-Malformed-clause-err
returns-in-Err-Malformed-clause-err g c =
    let malformed = c.in-Err-Malformed.malformed in
    on-err-then c.write_malformed-in-Err-Malformed.result _ _
    (λ begins. (malformed_text malformed, rw c.in-Some.is (inl ((malformed, c.in-Err-Malformed.ensures.malformed malformed (ap Err c.in-Err-Malformed.field-0-is), refl), refl)), begins))
    c.write_malformed-in-Err-Malformed.ensures.err

pub returns-in-Err-Memory-clause-err : goal.returns-in-Err-Memory-clause-err
returns-in-Err-Memory-clause-err g c =
    on-err-then c.write_reply.result _ _ (λ begins. (unavailable_text, rw c.in-Some.is (inr (inr (refl, refl))), begins)) c.write_reply.ensures.err
