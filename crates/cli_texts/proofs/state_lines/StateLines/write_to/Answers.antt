use Rattle.cli_texts.proofs.Vocabulary.{[], on_err-map, on-err, rows_text}
use Rattle.cli_texts.proofs.LineSteps.{broken-first, broken-then, passes-sent}
use Rattle.cli_texts.proofs.state_lines.StateLines.write_to.Goals as goal

pub returns-in_err-add_rows-clause-err : goal.returns-in_err-add_rows-clause-err
returns-in_err-add_rows-clause-err g c =
    let lines = c.args.self.now in
    on-err c.from_residual.result _
    (broken-first (g.D.Drain.written c.args.drain.now) (g.D.Drain.written c.add_rows.new.drain) [] (rows_text lines.text.now lines.rows.items)
    lines.others.items (rw (c.new-piece.ensures, c.deref.ensures.value) at c.in_err-add_rows.ensures.err))

pub returns-in_err-write_all-clause-err : goal.returns-in_err-write_all-clause-err
returns-in_err-write_all-clause-err g c =
    let lines = c.args.self.now in
    let middle = g.D.Drain.written c.add_rows.new.drain in
    let new = g.D.Drain.written c.write_all.new.drain in
    let piece = c.add_rows.new.piece.items in
    on-err c.from_residual-in_err-write_all.result _
    (broken-then (g.D.Drain.written c.args.drain.now) [] (rows_text lines.text.now lines.rows.items) middle piece lines.others.items new
    (rw (c.new-piece.ensures, c.deref.ensures.value) at c.in_ok-add_rows.ensures.ok)
    (broken-first middle new [] piece lines.others.items (rw c.as_slice.ensures.value at c.in_err-write_all.ensures.err)))

pub returns-clause-err : goal.returns-clause-err
returns-clause-err g c =
    let lines = c.args.self.now in
    let old = g.D.Drain.written c.args.drain.now in
    let middle = g.D.Drain.written c.add_rows.new.drain in
    let sent = g.D.Drain.written c.write_all.new.drain in
    let rows = rows_text lines.text.now lines.rows.items in
    let passed =
    passes-sent old [] rows middle c.add_rows.new.piece.items sent
    (rw (c.new-piece.ensures, c.deref.ensures.value) at c.in_ok-add_rows.ensures.ok)
    (rw c.as_slice.ensures.value at c.in_ok-write_all.ensures.ok) in
    on_err-map c.write_all-2.result _ _
    (broken-then old [] rows sent [] lines.others.items (g.D.Drain.written c.write_all-2.new.drain) passed)
    (rw c.deref-2.ensures.value at c.write_all-2.ensures.err)
