use Rattle.addr.proofs.Vocabulary.{◌≡◌, true, sym, ◌∙◌, ap, arith, decimal, bytes_decides, number_in}
use Rattle.addr.proofs.DigitsLemmas.{number_in-decimal, number_in-unread, number_in-rewritten}
use Rattle.addr.proofs.decimal.number_from_text.Goals as goal

pub returns-in_default-clause-value : goal.returns-in_default-clause-value
returns-in_default-clause-value c =
    sym (number_in-unread c.args.text.now c.parse.result c.parse.ensures c.in_default.is)

pub returns-then-eq-clause-value : goal.returns-then-eq-clause-value
returns-then-eq-clause-value c =
    let equal : c.eq.result ≡ true = c.if-eq.true in
    let same = (bytes_decides c.as_bytes.result.now c.args.text.now).0 (sym c.eq.ensures ∙ equal) in
    let text : decimal c.in-Some.number ≡ c.args.text.now =
    sym c.digits.ensures.text ∙ sym c.as_str.ensures.value ∙ sym c.as_bytes.ensures.value ∙ same
    in
    sym (sym (ap number_in text) ∙ number_in-decimal c.in-Some.number (omega arith))

pub returns-else-eq-clause-value : goal.returns-else-eq-clause-value
returns-else-eq-clause-value c =
    sym (number_in-rewritten c.args.text.now c.as_bytes.result.now c.parse.result c.in-Some.number c.parse.ensures
    c.in-Some.is (c.as_bytes.ensures.value ∙ c.as_str.ensures.value ∙ c.digits.ensures.text) (sym c.eq.ensures ∙ c.if-eq.false))
