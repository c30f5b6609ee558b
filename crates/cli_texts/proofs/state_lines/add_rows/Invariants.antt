use Rattle.cli_texts.proofs.Vocabulary.{◌≡◌, ◌++◌, ℕ, List, drop, rows_text, WritesBeginning, RowsLieIn}
use Rattle.cli_texts.proofs.state_lines.add_rows.Given as goal

abbrev pub invariant-loop-row : goal.invariant-loop-row
invariant-loop-row g l = record {
  fits : RowsLieIn l.rest (drop l.row-index l.rows);
  passed : (done : List ℕ)
      × WritesBeginning (g.D.Drain.written l.fn.drain) l.fn.piece.items done (g.D.Drain.written l.drain) l.piece.items
      × (rows_text l.text l.rows ≡ done ++ rows_text l.rest (drop l.row-index l.rows));
}
