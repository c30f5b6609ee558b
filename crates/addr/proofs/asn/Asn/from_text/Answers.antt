use Rattle.addr.proofs.Vocabulary.{◌≡◌, sym, ◌∙◌, arith, decimal, decimal_injective}
use Rattle.addr.proofs.DigitsLemmas.{behind_letters}
use Rattle.addr.proofs.asn.Asn.from_text.Goals as goal

pub returns-in_default-number_from_text-clause-exact :
    goal.returns-in_default-number_from_text-clause-exact
returns-in_default-number_from_text-clause-exact c =
    λ n h e.
    let read = c.in-Some.ensures in
    let digits : decimal n ≡ decimal c.in-Some.number = sym (behind_letters c.args.text.now (decimal n) 65 83 e) ∙ read.exact in
    let same : n ≡ c.in-Some.number =
    decimal_injective n c.in-Some.number (omega arith) (omega arith) digits
    in
    omega arith
