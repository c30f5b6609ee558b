use Rattle.addr.proofs.Vocabulary.{◌∙◌, ap, result_ok, parse-decimal}
use Rattle.addr.proofs.DigitsLemmas.{utf8_decimal}
use Rattle.addr.proofs.decimal.parse.Goals as goal

pub returns-in_default : goal.returns-in_default
returns-in_default c =
    λ n h e. let err = c.in_default.ensures in absurd (err.cases.0 (utf8_decimal c.args.text.now n h e))

pub returns : goal.returns
returns c =
    λ n h e.
    let ok = c.in-Ok.ensures in
    c.ok.ensures.value
    ∙ ap result_ok (parse-decimal 64 n c.in-Ok.text.now c.parse.result h h (ok.cases.0 ∙ e) c.parse.ensures.value.0)
