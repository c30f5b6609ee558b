-- The lines of a check while they are kept: those of rows that are in the file as they are printed, and others.
use Rattle.std.specs.Prelude.{◌≡◌, ◌≤◌, ◌+◌, ℕ, List, [], ◌∷◌, ◌++◌, drop, length, slice_range}
use Rattle.addr.specs.OriginValidation.{state_text}
use Rattle.payload.specs.ValidityState.{state_of}
use Rattle.cli_texts.specs.declared.state_lines.JudgedRow.{JudgedRow}
use Rattle.cli_texts.specs.declared.state_lines.StateLines.{StateLines}

-- the line of a row that comes next in the text
abbrev pub row_line : List ℕ → JudgedRow → List ℕ
row_line text row = slice_range text row.start row.end ++ (44 ∷ state_text (state_of row.state) ++ 10 ∷ [])

-- the lines of rows that come one after the other
abbrev pub rows_text : List ℕ → List JudgedRow → List ℕ
rows_text text [] = []
rows_text text (row ∷ rows) = row_line text row ++ rows_text (drop row.end text) rows

abbrev pub after_rows : List ℕ → List JudgedRow → List ℕ
after_rows text [] = text
after_rows text (row ∷ rows) = after_rows (drop row.end text) rows

-- each row lies in the text
abbrev pub RowsLieIn : List ℕ → List JudgedRow → Type 0
RowsLieIn text [] = Unit
RowsLieIn text (row ∷ rows) = (row.start ≤ row.end) × (row.end ≤ length text) × RowsLieIn (drop row.end text) rows

abbrev pub lines_text : StateLines → List ℕ
lines_text lines = rows_text lines.text.now lines.rows.items ++ lines.others.items

-- the rows lie in the text, and the rest comes after them
pub record Stands (lines : StateLines) : Type 0 where
  pub fits : RowsLieIn lines.text.now lines.rows.items
  pub rest : lines.rest.now ≡ after_rows lines.text.now lines.rows.items

-- at least as many as the rows that were judged
abbrev pub rows_kept : StateLines → ℕ
rows_kept lines = length lines.rows.items + length lines.others.items

-- Of what waited and the text, a beginning was written since, and the rest waits.
abbrev pub WritesBeginning : List ℕ → List ℕ → List ℕ → List ℕ → List ℕ → Type 0
WritesBeginning old waited text new waits = (out : List ℕ) × (new ≡ old ++ out) × (waited ++ text ≡ out ++ waits)
