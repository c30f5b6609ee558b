-- Lemmas on the length of VRPs as CSV.
use Rattle.daily_vrps.proofs.Vocabulary.{arith, ◌≡◌, ◌⊎◌, ◌≤◌, ◌<◌, ◌+◌, ◌^◌, ℕ, Bool, true, false, List, length, take, drop, Some, inl, inr, sym, ap, ◌∙◌, false≢true, length-append, Vrp}
use Rattle.std.specs.Option.{SomeIff}
use Rattle.csv_records.proofs.LineLemmas.{rows-split}
use Rattle.csv_records.specs.Lines.{csv_line, csv_text, payload_header, payload_row, payload_rows}
use Rattle.daily_vrps.specs.steps.Counting.{HasCounted}

length-csv : (head : List ℕ) (vrps : List Vrp) → head ≡ csv_line payload_header
    → length (csv_text payload_header payload_row vrps) ≡ length head + length (payload_rows vrps)
length-csv head vrps is =
    length-append (csv_line payload_header) (payload_rows vrps) ∙ ap (λ h. length h + length (payload_rows vrps)) (sym is)

pub counted-all : (head : List ℕ) (vrps : List Vrp) (was is : Bool) (after : ℕ) → head ≡ csv_line payload_header
    → is ≡ false → length head < 100 → HasCounted was is (length head) vrps after
    → SomeIff (Some after) (length (csv_text payload_header payload_row vrps) < 2 ^ 64)
    (length (csv_text payload_header payload_row vrps))
counted-all head vrps was is after header well short counted =
    let same : length (csv_text payload_header payload_row vrps) ≡ after = length-csv head vrps header ∙ sym (counted.0 well).1 in
    (rw same ((counted.0 well).2 (omega arith)), sym same)

-- where some of the rows are too many, all are
too_many : (was : Bool) (x m n : ℕ) → was ≡ false → (was ≡ true) ⊎ (2 ^ 64 ≤ x + m) → ¬ (x + (m + n) < 2 ^ 64)
too_many was x m n well (inl over) below = absurd (false≢true (sym well ∙ over))
too_many was x m n well (inr large) below = omega arith

pub counted-over : (head : List ℕ) (vrps : List Vrp) (n : ℕ) (was is : Bool) (after : ℕ) → head ≡ csv_line payload_header
    → was ≡ false → is ≡ true → HasCounted was is (length head) (take n vrps) after
    → ¬ (length (csv_text payload_header payload_row vrps) < 2 ^ 64)
counted-over head vrps n was is after header well over counted below =
    too_many was (length head) (length (payload_rows (take n vrps))) (length (payload_rows (drop n vrps))) well (counted.1 over)
    (rw (sym (length-append (payload_rows (take n vrps)) (payload_rows (drop n vrps))), sym (rows-split n vrps), sym (length-csv head vrps header)) below)
