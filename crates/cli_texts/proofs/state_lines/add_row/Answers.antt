use Rattle.cli_texts.proofs.Vocabulary.{◌++◌, ◌∷◌, [], slice_range, state_text, on_err-map, state_of, on-err}
use Rattle.cli_texts.proofs.LineSteps.{broken-first, broken-then}
use Rattle.cli_texts.proofs.state_lines.add_row.Goals as goal

pub returns-in_err-add-clause-err : goal.returns-in_err-add-clause-err
returns-in_err-add-clause-err g c =
    let row = c.args.row.now in
    on-err c.from_residual.result _
    (broken-first (g.D.Drain.written c.args.drain.now) (g.D.Drain.written c.add.new.drain) c.args.piece.now.items
    (slice_range c.args.rest.now row.start row.end) (44 ∷ state_text (state_of row.state) ++ 10 ∷ [])
    (rw (c.from.ensures, c.from-2.ensures) at c.in_err-add.ensures.err))

pub returns-clause-err : goal.returns-clause-err
returns-clause-err g c =
    let row = c.args.row.now in
    on_err-map c.add-2.result _ _
    (broken-then (g.D.Drain.written c.args.drain.now) c.args.piece.now.items (slice_range c.args.rest.now row.start row.end)
    (g.D.Drain.written c.add.new.drain) c.add.new.piece.items (44 ∷ state_text (state_of row.state) ++ 10 ∷ [])
    (g.D.Drain.written c.add-2.new.drain)
    (rw (c.from.ensures, c.from-2.ensures) at c.in_ok-add.ensures.ok))
    (rw (c.as_bytes.ensures.value, c.state_end.ensures.text) at c.add-2.ensures.err)
