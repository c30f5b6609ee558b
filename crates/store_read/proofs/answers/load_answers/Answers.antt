use Rattle.store_read.proofs.Vocabulary.{arith, length, sym, ◌∙◌, false≢true, refused_by, auths_held, created_if_any}
use Rattle.store_read.proofs.GivenAuths.{enough_made, few_made}
use Rattle.store_read.proofs.InTurn.{earlier, later, unfit_later}
use Rattle.store_read.proofs.answers.load_answers.Goals.{then-answers-via-then-answers, then-answers-via-else-answers+then-created-lt-MOST_AUTHORIZATIONS}
use Rattle.store_read.proofs.answers.load_answers.Goals as goal

pub returns-then-not-holds-clause-found : goal.returns-then-not-holds-clause-found
returns-then-not-holds-clause-found g c clean charter all holds made = record {
  created = made;
  holds = rw c.as_slice-entries.ensures.items at (c.in_ok-holds.ensures.found clean charter all holds);
  gives = λ is. absurd (false≢true (sym c.if-not-holds.true ∙ is));
  is_full = λ is _. absurd (false≢true (sym c.if-not-holds.true ∙ is));
}

pub returns-then-answers-clause-found : goal.returns-then-answers-clause-found
returns-then-answers-clause-found g c clean charter all holds made =
    let o = all.of_holder c.args.holder.now in
    let before = earlier g.S.Store c.some_given.ensures.asked clean in
    record {
      created = made;
      holds = rw c.as_slice-entries.ensures.items at (c.in_ok-holds.ensures.found before charter all holds);
      gives = λ _. rw c.as_slice-entries.ensures.items at (c.in_ok-answers.ensures.found clean charter all (later g.S.Store c.in_ok-holds.ensures.asked before charter all holds));
      is_full = λ _ none. elim c.then-answers.branch [
        | then-answers-via-then-answers w ↦ absurd (false≢true (sym none ∙ w.if-answers.true))
        | then-answers-via-else-answers+then-created-lt-MOST_AUTHORIZATIONS w ↦ few_made (created_if_any o) (length (auths_held o)) (omega (arith, made, w.if-created-lt-MOST_AUTHORIZATIONS.true))
      ];
    }

pub returns-in_err-answers-clause-schema : goal.returns-in_err-answers-clause-schema
returns-in_err-answers-clause-schema g c clean is =
    unfit_later g.S.Store c.in_ok-holds.ensures.asked (earlier g.S.Store c.some_given.ensures.asked clean)
    (c.some_given.ensures.schema clean (refused_by _ _ _ c.in_err-answers.was c.from_residual-in_err-answers.ensures.1 is))

pub returns-in_err-answers-2-clause-schema : goal.returns-in_err-answers-2-clause-schema
returns-in_err-answers-2-clause-schema g c clean is =
    absurd (c.load_full.ensures.no_schema (refused_by _ _ _ c.in_err-answers-2.was c.from_residual-in_err-answers-2.ensures.1 is))

pub returns-clause-found : goal.returns-clause-found
returns-clause-found g c clean charter all holds made =
    let o = all.of_holder c.args.holder.now in
    let before_2 = earlier g.S.Store c.load_full.ensures.asked clean in
    let before = earlier g.S.Store c.some_given.ensures.asked before_2 in
    let after = later g.S.Store c.in_ok-holds.ensures.asked before charter all holds in
    let after_2 = later g.S.Store c.in_ok-answers.ensures.asked before_2 charter all after in
    record {
      created = made;
      holds = rw c.as_slice-entries.ensures.items at (c.in_ok-holds.ensures.found before charter all holds);
      gives = λ _. rw c.as_slice-entries.ensures.items at (c.in_ok-answers.ensures.found before_2 charter all after);
      is_full = λ _ _.
          c.in_ok-answers-2.ensures.found clean charter all after_2
          ∙ enough_made (created_if_any o) (length (auths_held o)) (omega (arith, made, c.if-created-lt-MOST_AUTHORIZATIONS.false));
    }
