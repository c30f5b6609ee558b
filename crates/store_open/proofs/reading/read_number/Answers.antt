use Rattle.store_open.proofs.Vocabulary.{◌≡◌, [], ◌∷◌, map, refl, subst, arith, length, IsPermutation, length-map, IsPermutation-sym, on_ok_weaker, first_columns, state_in, shown_in, number_row}
use Rattle.store_tables.proofs.SomeRow.{has_permuted}
use Rattle.store_open.proofs.AllTexts.{selects_meta}
use Rattle.store_open.proofs.Rowids.{is_tree, shown_of}
use Rattle.store_open.proofs.Unread.{has_some, some_from_has, only_one, number_in}
use Rattle.store_open.proofs.reading.read_number.Goals as goal

pub ask_all-requires-clause-plain : goal.ask_all-requires-clause-plain
ask_all-requires-clause-plain g c = selects_meta.plain

pub ask_all-requires-clause-unlisted : goal.ask_all-requires-clause-unlisted
ask_all-requires-clause-unlisted g c = selects_meta.unlisted

pub returns-clause-schema : goal.returns-clause-schema
returns-clause-schema g c clean is has =
    let db = (state_in g.S.Store c.args.tx.now).now in
    let rows = c.in_ok-rows.rows.items in
    let same = shown_of 2 (0 ∷ 1 ∷ []) (db.trees 0) rows refl (selects_meta.found db rows (c.in_ok-rows.ensures.answered clean)) in
    let some = some_from_has (first_columns 2) rows (number_row c.args.is_old) (has_permuted _ _ (number_row c.args.is_old) same (number_in c.args.is_old db has)) in
    c.check_number.ensures.schema is (rw c.deref.ensures.value some)

pub returns-clause-found : goal.returns-clause-found
returns-clause-found g c clean =
    let db = (state_in g.S.Store c.args.tx.now).now in
    let rows = c.in_ok-rows.rows.items in
    let found = selects_meta.found db rows (c.in_ok-rows.ensures.answered clean) in
    let same = shown_of 2 (0 ∷ 1 ∷ []) (db.trees 0) rows refl found in
    on_ok_weaker c.check_number.result (λ shown.
    let some = has_some (first_columns 2) rows (number_row c.args.is_old) (rw c.deref.ensures.value at shown.0) in
    let one : length (map (first_columns 2) rows) ≡ 1 = omega (arith, shown.1, length-map rows (first_columns 2)) in
    record {
      whole = is_tree (0 ∷ 1 ∷ []) (db.trees 0) rows found c.in_ok-rows.ensures.rise;
      shown = subst (λ l. IsPermutation l (shown_in 0 (0 ∷ 1 ∷ []) db)) (only_one (map (first_columns 2) rows) (number_row c.args.is_old) some one) (IsPermutation-sym _ _ same);
    }) c.check_number.ensures.found
