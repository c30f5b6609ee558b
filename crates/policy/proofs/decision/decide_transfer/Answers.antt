use Rattle.policy.proofs.Vocabulary.{◌∙◌, ap, refl, err_from_is_err_and, edit_number, terms_overlap, same_name-false, numbers_where}
use Rattle.policy.proofs.CarrySpace.{sparing, carries-transfer}
use Rattle.policy.proofs.decision.decide_transfer.Goals as goal

pub returns-in_err-giving-clause-answer : goal.returns-in_err-giving-clause-answer
returns-in_err-giving-clause-answer c history day legal giver_are taker_are =
    let refused = err_from_is_err_and c.from_residual.result c.from_residual.ensures.1 in
    rw (refused.1, refused.2) (c.in_err-giving.ensures.admitted history day giver_are taker_are, refl)

pub returns-in_err-less-clause-answer : goal.returns-in_err-less-clause-answer
returns-in_err-less-clause-answer c history day legal giver_are taker_are =
    let refused = err_from_is_err_and c.from_residual-in_err-less.result c.from_residual-in_err-less.ensures.1 in
    rw (refused.1, refused.2) (c.in_ok-giving.ensures.admitted history day giver_are taker_are).0

pub returns-in_err-more-clause-answer : goal.returns-in_err-more-clause-answer
returns-in_err-more-clause-answer c history day legal giver_are taker_are =
    let refused = err_from_is_err_and c.from_residual-in_err-more.result c.from_residual-in_err-more.ensures.1 in
    rw (refused.1, refused.2) (c.in_ok-giving.ensures.admitted history day giver_are taker_are).0

pub returns-in_err-ended-clause-answer : goal.returns-in_err-ended-clause-answer
returns-in_err-ended-clause-answer c history day legal giver_are taker_are =
    let refused = err_from_is_err_and c.from_residual-in_err-ended.result c.from_residual-in_err-ended.ensures.1 in
    rw (refused.1, refused.2) (c.in_ok-giving.ensures.admitted history day giver_are taker_are).0

pub returns-in_err-from_giver-clause-answer : goal.returns-in_err-from_giver-clause-answer
returns-in_err-from_giver-clause-answer c history day legal giver_are taker_are =
    let refused = err_from_is_err_and c.from_residual-in_err-from_giver.result c.from_residual-in_err-from_giver.ensures.1 in
    rw (refused.1, refused.2) (c.in_ok-giving.ensures.admitted history day giver_are taker_are).0

pub returns-in_err-to_taker-clause-answer : goal.returns-in_err-to_taker-clause-answer
returns-in_err-to_taker-clause-answer c history day legal giver_are taker_are =
    let refused = err_from_is_err_and c.from_residual-in_err-to_taker.result c.from_residual-in_err-to_taker.ensures.1 in
    rw (refused.1, refused.2) (c.in_ok-giving.ensures.admitted history day giver_are taker_are).0

pub returns-clause-answer : goal.returns-clause-answer
returns-clause-answer c history day legal giver_are taker_are =
    let a = c.args in
    let p = a.prefix.now in
    let had = c.in_ok-giving.ensures.admitted history day giver_are taker_are in
    let rules = had.0.1 in
    let numbers = c.in_ok-ended.ensures ∙ ap (numbers_where (λ x. terms_overlap x p)) c.deref.ensures.value in record {
      after = _;
      leaves = (had.0, refl);
      numbered = ap edit_number c.in_ok-from_giver.ensures.is;
      carries = carries-transfer history day a.caller.now a.giver.name.now a.taker.name.now p c.in_ok-less.less c.in_ok-more.more c.in_ok-ended.ended c.new.result c.in_ok-from_giver.from_giver c.in_ok-to_taker.to_taker
          c.in_ok-giving.giving.now c.in_ok-giving.taking.now.holdings
          rules.0.0 rules.0.1 (same_name-false a.giver.name.now a.taker.name.now rules.1.0) rules.1.1.0 had.1.0 had.1.1
          c.in_ok-from_giver.ensures c.in_ok-less.ensures c.in_ok-to_taker.ensures c.in_ok-more.ensures numbers c.new.ensures.items;
      sparing = (sparing _ _ _ _ c.in_ok-from_giver.ensures, sparing _ _ _ _ c.in_ok-to_taker.ensures);
      of_command = (refl, refl);
    }

pub returns-clause-ended : goal.returns-clause-ended
returns-clause-ended c =
    let p = c.args.prefix.now in
    let numbers = c.in_ok-ended.ensures ∙ ap (numbers_where (λ x. terms_overlap x p)) c.deref.ensures.value in
    rw (c.in_ok-giving.ensures.found, c.in_ok-from_giver.ensures.is) numbers
