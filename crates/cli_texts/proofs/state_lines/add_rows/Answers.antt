use Rattle.cli_texts.proofs.Vocabulary.{◌+◌, ◌++◌, ◌∙◌, drop, length, take, ◌-◌, ◌≡◌, get_or, ap, sym, subst, append_assoc, take_rest, on-err, row_line, rows_text, RowsLieIn}
use Rattle.cli_texts.proofs.LineSteps.{broken-first, broken-then, fits-next, no_row, passes-then, text-next}
use Rattle.cli_texts.proofs.state_lines.add_rows.Goals as goal

pub returns-in_err-add_row-clause-err : goal.returns-in_err-add_row-clause-err
returns-in_err-add_row-clause-err g c =
    let (done, passed, whole) = c.loop-row.invariant.passed in
    let rest = c.loop-row.rest.now in
    let rows = c.args.rows.now in
    let index = c.loop-row.row-index in
    let row = get_or rows index no_row in
    let left = rows_text (drop row.end rest) (drop (index + 1) rows) in
    let old = g.D.Drain.written c.args.drain.now in
    let middle = g.D.Drain.written c.loop-row.drain in
    let new = g.D.Drain.written c.add_row.new.drain in
    let begins = broken-first middle new c.loop-row.piece.items (row_line rest row) left c.in_err-add_row.ensures.err in
    on-err c.from_residual.result _
    (rw (whole ∙ ap (λ u. done ++ u) (text-next rest rows index c.loop-row-test.true))
    (broken-then old c.args.piece.now.items done middle c.loop-row.piece.items (row_line rest row ++ left) new passed begins))

pub loop-row-preserved : goal.loop-row-preserved
loop-row-preserved g c =
    let (done, passed, whole) = c.loop-row.invariant.passed in
    let rest = c.loop-row.rest.now in
    let rows = c.args.rows.now in
    let index = c.loop-row.row-index in
    let row = get_or rows index no_row in
    let after : take (length rest - c.from.result) (drop c.from.result rest) ≡ drop row.end rest =
    take_rest rest c.from.result ∙ ap (λ n. drop n rest) c.from.ensures in
    let left = rows_text (drop row.end rest) (drop (index + 1) rows) in
    record {
      fits = subst (λ text. RowsLieIn text (drop (index + 1) rows)) (sym after) (fits-next rest rows index c.loop-row-test.true c.loop-row.invariant.fits);
      passed = (
        done ++ row_line rest row,
        passes-then (g.D.Drain.written c.args.drain.now) c.args.piece.now.items done (g.D.Drain.written c.loop-row.drain) c.loop-row.piece.items
            (row_line rest row) (g.D.Drain.written c.add_row.new.drain) c.add_row.new.piece.items passed c.in_ok-add_row.ensures.ok,
        whole ∙ ap (λ u. done ++ u) (text-next rest rows index c.loop-row-test.true)
            ∙ sym (append_assoc done (row_line rest row) left)
            ∙ ap (λ text. (done ++ row_line rest row) ++ rows_text text (drop (index + 1) rows)) (sym after),
      );
    }
