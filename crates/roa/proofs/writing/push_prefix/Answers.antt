use Rattle.roa.proofs.Vocabulary.{ℕ, List, ◌≡◌, ◌-◌, ◌*◌, ◌^◌, ◌/◌, ◌<◌, ◌∙◌, arith, SomeIff, on_ok_weaker, width, first_below, bit_octets}
use Rattle.roa.proofs.Primitives.{shifted_down, first_octets_fit, bit_string_pushed}
use Rattle.roa.proofs.writing.push_prefix.Goals as goal

pub push_number-requires-clause-fits : goal.push_number-requires-clause-fits
push_number-requires-clause-fits c =
    let len : c.div_ceil-len.result ≡ bit_octets c.args.prefix.now.length = omega (arith, c.div_ceil-len.ensures) in
    let missing : c.from.result ≡ width c.args.prefix.now.family - 8 * bit_octets c.args.prefix.now.length = cc in
    let shifted : SomeIff c.checked_shr.result (width c.args.prefix.now.family - 8 * bit_octets c.args.prefix.now.length < 128) (c.args.prefix.now.first / 2 ^ (width c.args.prefix.now.family - 8 * bit_octets c.args.prefix.now.length)) =
    rw (← missing) c.checked_shr.ensures in
    let first : c.unwrap_or-first_octets.result ≡ c.args.prefix.now.first / 2 ^ (width c.args.prefix.now.family - 8 * bit_octets c.args.prefix.now.length) =
    c.unwrap_or-first_octets.ensures ∙ shifted_down c.args.prefix.now.family c.args.prefix.now.first c.args.prefix.now.length c.checked_shr.result (first_below c.args.prefix.now) shifted in
    rw (first, c.from-3.ensures, len) (first_octets_fit c.args.prefix.now.family c.args.prefix.now.first c.args.prefix.now.length c.args.prefix.now.length_fits (first_below c.args.prefix.now))

pub returns : goal.returns
returns c =
    let len : c.div_ceil-len.result ≡ bit_octets c.args.prefix.now.length = omega (arith, c.div_ceil-len.ensures) in
    let missing : c.from.result ≡ width c.args.prefix.now.family - 8 * bit_octets c.args.prefix.now.length = cc in
    let shifted : SomeIff c.checked_shr.result (width c.args.prefix.now.family - 8 * bit_octets c.args.prefix.now.length < 128) (c.args.prefix.now.first / 2 ^ (width c.args.prefix.now.family - 8 * bit_octets c.args.prefix.now.length)) =
    rw (← missing) c.checked_shr.ensures in
    let first : c.unwrap_or-first_octets.result ≡ c.args.prefix.now.first / 2 ^ (width c.args.prefix.now.family - 8 * bit_octets c.args.prefix.now.length) =
    c.unwrap_or-first_octets.ensures ∙ shifted_down c.args.prefix.now.family c.args.prefix.now.first c.args.prefix.now.length c.checked_shr.result (first_below c.args.prefix.now) shifted in
    on_ok_weaker c.push_number.result (λ items. ◌∙◌ {A = List ℕ} items (rw (c.in_ok-push-2.ensures.items, c.in_ok-push_length.ensures, c.in_ok-push.ensures.items, c.from-2.ensures, c.from-3.ensures, len, first) (bit_string_pushed c.args.out.now.items c.args.prefix.now.family c.args.prefix.now.first c.args.prefix.now.length))) c.push_number.ensures
