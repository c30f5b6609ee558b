use Rattle.store_open.proofs.Vocabulary.{rules, ◌≡◌, Err, Schema, state_in}
use Rattle.store_open.proofs.InTurn.{earlier}
use Rattle.store_open.proofs.MovingDesk.{if_both, moves_desk, not_moved, not_numbered}
use Rattle.store_open.proofs.opening.move_desk.Goals as goal

pub returns-in_err-read_number-clause-schema : goal.returns-in_err-read_number-clause-schema
returns-in_err-read_number-clause-schema g c clean is =
    let refused : c.read_number.result ≡ Err Schema = search rules in
    not_numbered _ _ (c.in_ok-widen_tables.ensures.widened (earlier c.read_number.ensures.asked.inside.survives clean)) (c.read_number.ensures.schema clean refused)

pub returns-clause-moved : goal.returns-clause-moved
returns-clause-moved g c clean =
    let clean_3 = earlier c.read_inside.ensures.asked.inside.survives clean in
    let clean_2 = earlier c.move_rows.ensures.inside.survives clean_3 in
    let widened = c.in_ok-widen_tables.ensures.widened (earlier c.read_number.ensures.asked.inside.survives clean_2) in
    if_both c.read_inside.result (c.read_inside.ensures.held clean) (c.read_inside.ensures.asked.same clean) (c.read_inside.ensures.asked.ready clean)
    (λ charter held same ready.
    moves_desk _ _ widened _ _ (c.in_ok-read_number.ensures.asked.same clean_2).0.now_is (c.in_ok-move_rows.ensures.moved clean_3)
    charter (state_in g.S.Store c.read_inside.new.tx) (c.in_ok-read_number.ensures.found clean_2) same.0.now_is ready.inside held)

pub returns-clause-schema : goal.returns-clause-schema
returns-clause-schema g c clean is =
    let clean_3 = earlier c.read_inside.ensures.asked.inside.survives clean in
    let clean_2 = earlier c.move_rows.ensures.inside.survives clean_3 in
    let widened = c.in_ok-widen_tables.ensures.widened (earlier c.read_number.ensures.asked.inside.survives clean_2) in
    not_moved _ _ widened _ _ (c.in_ok-read_number.ensures.asked.same clean_2).0.now_is (c.in_ok-move_rows.ensures.moved clean_3) (c.read_inside.ensures.schema clean is)
