use Rattle.addr.proofs.Vocabulary.{◌≡◌, ◌≢◌, ◌<◌, length, take_all, get_or, sym, ◌∙◌, inl, inr, arith, nat_tests, eqb-true, eq-eqb, false≢true, digits_more, digits_value_more, digit_value}
use Rattle.addr.proofs.PrefixTextLemmas.{short_number_none, short_number_from, digit_of_all}
use Rattle.addr.proofs.text.read.read_decimal.Goals as goal

pub returns-then-is_empty : goal.returns-then-is_empty
returns-then-is_empty c =
    sym (short_number_none 10 3 c.args.digits.now λ number h.
    elim c.then-is_empty.either [
      | inl empty ↦ let none = eqb-true (length c.args.digits.now) 0 (sym c.is_empty.ensures ∙ empty) in omega (arith, h.some)
      | inr long ↦ omega (arith, h.few)
    ])

pub returns-then-not-is_ascii_digit : goal.returns-then-not-is_ascii_digit
returns-then-not-is_ascii_digit c =
    sym (short_number_none 10 3 c.args.digits.now λ number h.
    let digit = digit_of_all 10 c.args.digits.now c.loop-digit.digit-index h.digits (omega arith) in
    grind (arith, nat_tests))

pub loop-digit-preserved : goal.loop-digit-preserved
loop-digit-preserved c =
    let value : digit_value (get_or c.args.digits.now c.loop-digit.digit-index 0) ≡ c.from.result = grind (arith, nat_tests) in
    let digit : digit_value (get_or c.args.digits.now c.loop-digit.digit-index 0) < 10 = grind (arith, nat_tests) in (
      digits_more 10 c.args.digits.now c.loop-digit.digit-index (omega arith) c.loop-digit.invariant.0 digit,
      omega (arith, digits_value_more 10 c.args.digits.now c.loop-digit.digit-index (omega arith)),
    )

pub returns : goal.returns
returns c =
    let whole = rw (take_all c.loop-digit.digit-index c.args.digits.now (omega arith)) at c.loop-digit.invariant in
    let some : length c.args.digits.now ≢ 0 = λ none. false≢true (sym c.if-is_empty.false ∙ c.is_empty.ensures ∙ eq-eqb (length c.args.digits.now) 0 none) in
    sym (short_number_from 10 3 c.args.digits.now _ (record { some = omega arith; few = omega arith; digits = whole.0; value = sym whole.1 }))
