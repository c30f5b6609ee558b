use Rattle.std.proofs.Common.{ℕ, ◌+◌, take, get_or, ◌∙◌}
use Rattle.std.specs.Char.{digit_value, is_ascii_digit}
use Rattle.std.specs.Str.Parse.{digits_value}
use Rattle.std.proofs.lemmas.Int.Digits.{digits_value_more}
use Rattle.std.proofs.lemmas.Bool.{and_parts}
use Rattle.http_messages.proofs.LengthLemmas.{all-at, capped-more}
use Rattle.http_messages.proofs.length.capped_number.Goals as goal

pub loop-digit-preserved : goal.loop-digit-preserved
loop-digit-preserved c =
    let i : ℕ = c.loop-digit.digit-index in
    let digits = c.args.digits.now in
    let is_digit = all-at is_ascii_digit digits i c.loop-digit-test.true (and_parts _ _ c.requires).1 in
    c.min-number.ensures
    ∙ capped-more c.loop-digit.number (digits_value 10 (take i digits)) c.digit_value.result
    (digit_value (get_or digits i 0)) (digits_value 10 (take (i + 1) digits)) c.loop-digit.invariant
    (c.digit_value.ensures.value is_digit) (digits_value_more 10 digits i c.loop-digit-test.true)
