-- Lines of a check: one more row that is in the file, and texts that are written in pieces.
use Rattle.cli_texts.proofs.Vocabulary.{◌≡◌, ◌≤◌, ◌<◌, ◌+◌, ℕ, List, [], ◌∷◌, ◌++◌, length, take, drop, true, get_or, refl, sym, ap, ◌∙◌, append_assoc, drop_more, slice_range, Option, Some, None, IfSome, MatchOption, Bor, bytes_eq, append-nil, take-append-drop, bytes_eq-Decides, state_text, state_of, after_rows, row_line, rows_text, WritesBeginning, RowsLieIn}
use Rattle.payload.specs.declared.validity.Validity.{Validity}
use Rattle.payload.specs.declared.validity.Validity.TheVariants.{Valid}
use Rattle.streams.specs.Streams.{AppendsBeginning}
use Rattle.cli_texts.specs.declared.state_lines.JudgedRow.{JudgedRow}

-- ---- one more row

pub rows_text-append : (text : List ℕ) (rows : List JudgedRow) (r : JudgedRow)
    → rows_text text (rows ++ r ∷ []) ≡ rows_text text rows ++ row_line (after_rows text rows) r
rows_text-append text [] r = append-nil (row_line text r)
rows_text-append text (s ∷ rows) r =
    ap (λ u. row_line text s ++ u) (rows_text-append (drop s.end text) rows r)
    ∙ sym (append_assoc (row_line text s) (rows_text (drop s.end text) rows) (row_line (after_rows (drop s.end text) rows) r))

pub after_rows-append : (text : List ℕ) (rows : List JudgedRow) (r : JudgedRow)
    → after_rows text (rows ++ r ∷ []) ≡ drop r.end (after_rows text rows)
after_rows-append text [] r = refl
after_rows-append text (s ∷ rows) r = after_rows-append (drop s.end text) rows r

pub RowsFit-append : (text : List ℕ) (rows : List JudgedRow) (r : JudgedRow) → RowsLieIn text rows
    → r.start ≤ r.end → r.end ≤ length (after_rows text rows) → RowsLieIn text (rows ++ r ∷ [])
RowsFit-append text [] r fits order inside = (order, inside, tt)
RowsFit-append text (s ∷ rows) r fits order inside =
    (fits.0, fits.1, RowsFit-append (drop s.end text) rows r fits.2 order inside)

pub row_line-texts : (text prefix origin : List ℕ) (r : JudgedRow) (state : Validity)
    → slice_range text r.start r.end ≡ prefix ++ 44 ∷ origin → r.state ≡ state
    → row_line text r ≡ prefix ++ 44 ∷ origin ++ 44 ∷ state_text (state_of state) ++ 10 ∷ []
row_line-texts text prefix origin r state texts same =
    rw (texts, same) (sym (append_assoc (prefix ++ 44 ∷ origin) (44 ∷ state_text (state_of state)) (10 ∷ [])))

-- one more row, and what comes after it
pub fits-more : (text rest : List ℕ) (rows more : List JudgedRow) (r : JudgedRow) → more ≡ rows ++ r ∷ [] → rest ≡ after_rows text rows
    → RowsLieIn text rows → r.start ≤ r.end → r.end ≤ length rest → RowsLieIn text more
fits-more text rest rows more r m at fits order inside =
    rw m (RowsFit-append text rows r fits order (rw (← at) inside))

pub rest-more : (text rest : List ℕ) (rows more : List JudgedRow) (r : JudgedRow) → more ≡ rows ++ r ∷ [] → rest ≡ after_rows text rows
    → drop r.end rest ≡ after_rows text more
rest-more text rest rows more r m at = rw (m, after_rows-append text rows r, ← at) refl

pub lines-more : (text rest others prefix origin : List ℕ) (rows more : List JudgedRow) (r : JudgedRow) (state : Validity)
    → more ≡ rows ++ r ∷ [] → others ≡ [] → rest ≡ after_rows text rows
    → slice_range rest r.start r.end ≡ prefix ++ 44 ∷ origin → r.state ≡ state
    → rows_text text more ++ others
    ≡ (rows_text text rows ++ others) ++ (prefix ++ 44 ∷ origin ++ 44 ∷ state_text (state_of state) ++ 10 ∷ [])
lines-more text rest others prefix origin rows more r state m none at texts same =
    let line = row_line-texts rest prefix origin r state texts same in
    rw (m, none, rows_text-append text rows r, ← at, line)
    (append-nil _ ∙ ap (λ u. u ++ (prefix ++ 44 ∷ origin ++ 44 ∷ state_text (state_of state) ++ 10 ∷ [])) (sym (append-nil (rows_text text rows))))

-- ---- the next row

-- what a slice of no rows has at each place
abbrev pub no_row : JudgedRow
no_row = record { start = 0; end = 0; state = Valid }

pub fits-next : (rest : List ℕ) (rows : List JudgedRow) (index : ℕ) → index < length rows → RowsLieIn rest (drop index rows)
    → RowsLieIn (drop (get_or rows index no_row).end rest) (drop (index + 1) rows)
fits-next rest rows index below fits = let next = rw (drop_more rows index no_row below) at fits in next.2

pub text-next : (rest : List ℕ) (rows : List JudgedRow) (index : ℕ) → index < length rows
    → rows_text rest (drop index rows)
    ≡ row_line rest (get_or rows index no_row) ++ rows_text (drop (get_or rows index no_row).end rest) (drop (index + 1) rows)
text-next rest rows index below = rw (drop_more rows index no_row below) refl

-- ---- where a row is

pub part-first : (text part rest : List ℕ) → bytes_eq (take (length part) text) part ≡ true → rest ≡ drop (length part) text
    → text ≡ part ++ rest
part-first text part rest same is =
    let first = (bytes_eq-Decides (take (length part) text) part).0 same in
    sym (take-append-drop (length part) text) ∙ rw (first, is) refl

pub strip-gives : (found : Option (Bor (List ℕ))) (text part : List ℕ) (Missing : Type 0)
    → MatchOption found Missing (λ rest. (bytes_eq (take (length part) text) part ≡ true) × (rest.now ≡ drop (length part) text)
    × (length rest.now + length part ≡ length text))
    → IfSome found (λ rest. text ≡ part ++ rest.now)
strip-gives None text part Missing case = tt
strip-gives (Some rest) text part Missing case = part-first text part rest.now case.0 case.1

-- ---- texts in pieces

pub passes-none : (old waited : List ℕ) → WritesBeginning old waited [] old waited
passes-none old waited = ([], sym (append-nil old), append-nil waited)

pub passes-then : (old one first middle two second new three : List ℕ)
    → WritesBeginning old one first middle two → WritesBeginning middle two second new three → WritesBeginning old one (first ++ second) new three
passes-then old one first middle two second new three before then = (
  before.0 ++ then.0,
  then.1 ∙ ap (λ u. u ++ then.0) before.1 ∙ append_assoc old before.0 then.0,
  sym (append_assoc one first second) ∙ ap (λ u. u ++ second) before.2 ∙ append_assoc before.0 two second
      ∙ ap (λ u. before.0 ++ u) then.2 ∙ sym (append_assoc before.0 then.0 three),
)

-- what waited was written
pub passes-sent : (old one first middle two new : List ℕ)
    → WritesBeginning old one first middle two → new ≡ middle ++ two → WritesBeginning old one first new []
passes-sent old one first middle two new before sent = (
  before.0 ++ two,
  sent ∙ ap (λ u. u ++ two) before.1 ∙ append_assoc old before.0 two,
  before.2 ∙ sym (append-nil (before.0 ++ two)),
)

-- what comes before was added
pub broken-then : (old one first middle two second new : List ℕ)
    → WritesBeginning old one first middle two → AppendsBeginning middle new (two ++ second) → AppendsBeginning old new (one ++ (first ++ second))
broken-then old one first middle two second new before begins = (
  before.0 ++ begins.0,
  begins.1,
  begins.2 ∙ ap (λ u. u ++ begins.0) before.1 ∙ append_assoc old before.0 begins.0,
  sym (append_assoc one first second) ∙ ap (λ u. u ++ second) before.2 ∙ append_assoc before.0 two second
      ∙ ap (λ u. before.0 ++ u) begins.3 ∙ sym (append_assoc before.0 begins.0 begins.1),
)

-- more would have come
pub broken-first : (old new waited first second : List ℕ)
    → AppendsBeginning old new (waited ++ first) → AppendsBeginning old new (waited ++ (first ++ second))
broken-first old new waited first second begins = (
  begins.0,
  begins.1 ++ second,
  begins.2,
  sym (append_assoc waited first second) ∙ ap (λ u. u ++ second) begins.3 ∙ append_assoc begins.0 begins.1 second,
)
