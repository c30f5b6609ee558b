use Rattle.store_open.proofs.Vocabulary.{HasNoOldAuths, subst, ◌∙◌, ShowsCharter, ShowExceptions, ShowHolders}
use Rattle.store_open.proofs.InTurn.{earlier, in_turn, in_vain}
use Rattle.store_open.proofs.reading.read_others.Goals as goal

pub returns-in_err-read_unused-clause-asked : goal.returns-in_err-read_unused-clause-asked
returns-in_err-read_unused-clause-asked g c =
    let three = in_turn g.S.Store (in_turn g.S.Store c.in_ok-read_number.ensures.asked c.in_ok-charter.ensures.asked) c.in_ok-read_holders.ensures.asked in
    in_vain g.S.Store c.from_residual-in_err-read_unused.ensures.0 (in_turn g.S.Store three c.read_unused.ensures.asked)

pub returns-in_err-read_exceptions-clause-asked : goal.returns-in_err-read_exceptions-clause-asked
returns-in_err-read_exceptions-clause-asked g c =
    let three = in_turn g.S.Store (in_turn g.S.Store c.in_ok-read_number.ensures.asked c.in_ok-charter.ensures.asked) c.in_ok-read_holders.ensures.asked in
    let four = in_turn g.S.Store three c.in_ok-read_unused.ensures.asked in
    in_vain g.S.Store c.from_residual-in_err-read_exceptions.ensures.0 (in_turn g.S.Store four c.read_exceptions.ensures.asked)

pub returns-clause-asked : goal.returns-clause-asked
returns-clause-asked g c =
    let three = in_turn g.S.Store (in_turn g.S.Store c.in_ok-read_number.ensures.asked c.in_ok-charter.ensures.asked) c.in_ok-read_holders.ensures.asked in
    let five = in_turn g.S.Store (in_turn g.S.Store three c.in_ok-read_unused.ensures.asked) c.in_ok-read_exceptions.ensures.asked in
    record { inside = five.inside; same = five.same; ready = five.ready }

pub returns-clause-shown : goal.returns-clause-shown
returns-clause-shown g c clean =
    let clean_4 = earlier c.read_exceptions.ensures.asked.inside.survives clean in
    let clean_3 = earlier c.read_unused.ensures.asked.inside.survives clean_4 in
    let clean_2 = earlier c.read_holders.ensures.asked.inside.survives clean_3 in
    let clean_1 = earlier c.read_charter.ensures.asked.inside.survives clean_2 in
    let now_1 = (c.in_ok-read_number.ensures.asked.same clean_1).0.now_is in
    let now_2 = (c.in_ok-charter.ensures.asked.same clean_2).0.now_is ∙ now_1 in
    let now_3 = (c.in_ok-read_holders.ensures.asked.same clean_3).0.now_is ∙ now_2 in
    let now_4 = (c.in_ok-read_unused.ensures.asked.same clean_4).0.now_is ∙ now_3 in
    record {
      numbered = c.in_ok-read_number.ensures.found clean_1;
      valid = c.operators-operators.ensures.valid;
      chartered = subst (ShowsCharter _) now_1 (c.in_ok-charter.ensures.found clean_2);
      holders = subst ShowHolders now_2 (c.in_ok-read_holders.ensures.found clean_3);
      unused = subst HasNoOldAuths now_3 (c.in_ok-read_unused.ensures.found clean_4);
      excepted = subst ShowExceptions now_4 (c.in_ok-read_exceptions.ensures.found clean);
    }
