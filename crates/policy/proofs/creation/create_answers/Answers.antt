use Rattle.policy.proofs.Vocabulary.{◌∷◌, [], true, option_copied, refl, subst, Create, RowsIfAny, rows_if_any, rows_of}
use Rattle.policy.proofs.Parts.{whole-part}
use Rattle.policy.proofs.RowsLemmas.{create-unregistered}
use Rattle.policy.proofs.creation.create_answers.Goals as goal

pub returns-in-Some : goal.returns-in-Some
returns-in-Some c charter history h legal are =
    let of = subst (λ rows. RowsIfAny history h (rows_if_any (option_copied rows))) c.in-Some.is are in
    let rows = rows_of c.in-Some.rows.now in
    rw c.in-Some.is (c.answers_of.ensures history h (λ _. true) rows of.1 (whole-part (Create c.args.terms.now ∷ []) 0 rows))

pub returns-in-None : goal.returns-in-None
returns-in-None c charter history h legal are =
    let of = subst (λ rows. RowsIfAny history h (rows_if_any (option_copied rows))) c.in-None.is are in
    rw c.in-None.is (create-unregistered charter history h c.args.terms.now legal of c.as_slice-entries.ensures.number _ refl refl)
