-- Lemmas on VRPs that are counted and written as an index gives them.
use Rattle.web.proofs.Vocabulary.{◌≡◌, ◌≤◌, ◌^◌, ℕ, Bool, true, List, ◌++◌, length, take, drop, None, Result, Ok, Err, sym, ap, ◌∙◌, append_assoc, arith, take-append-drop, OnErr, OnOk, Vrp, csv_of, IsCsvLength, csv_line, csv_text, payload_header, payload_row, payload_rows, AppendsBeginning, Pieces, HasAdded, codes, Payloads, line_text, all_items, first_after, items_text}
use Rattle.payload.specs.VrpSet as set
use Rattle.csv_records.proofs.LineLemmas.{rows-split}
use Rattle.web.proofs.PieceLemmas.{AppendsBeginning-added}
use Rattle.web.proofs.ReplyLemmas.{AppendsBeginning-longer}

-- what follows in each case
pub on-ok-then : {T E : Type 0} (r : Result T E) (P Q : Type 0) → (P → Q) → OnOk r P → OnOk r Q
on-ok-then (Ok x) P Q f p = f p
on-ok-then (Err e) P Q f p = tt

pub on-err-then : {T E : Type 0} (r : Result T E) (P Q : Type 0) → (P → Q) → OnErr r P → OnErr r Q
on-err-then (Ok x) P Q f p = tt
on-err-then (Err e) P Q f p = f p

-- VRPs whose text a `u64` does not count
pub uncounted : (vrps : set.VrpSet) → IsCsvLength vrps None → 2 ^ 64 ≤ length (csv_of vrps)
uncounted vrps over = omega (arith, over)

-- ---- lines of a CSV

-- the lines after this beginning and the header
pub csv-after : (start : List ℕ) (vrps : List Vrp) → start ++ csv_text payload_header payload_row vrps ≡ (start ++ csv_line payload_header) ++ payload_rows vrps
csv-after start vrps = sym (append_assoc start (csv_line payload_header) (payload_rows vrps))

-- the visit stopped after some lines
pub lines-broken : {D : Type 0} (written : D → List ℕ) (fails : D → Bool) (a b : Pieces D) (old start : List ℕ) (vrps : List Vrp) (n : ℕ)
    → written a.drain.now ≡ old → a.piece.bytes ≡ start ++ csv_line payload_header → HasAdded written fails a (payload_rows (take n vrps)) b
    → AppendsBeginning old (written b.drain.now) (start ++ csv_text payload_header payload_row vrps)
lines-broken written fails a b old start vrps n was header added =
    let opening = start ++ csv_line payload_header in
    let some = payload_rows (take n vrps) in
    let rest = payload_rows (drop n vrps) in
    let whole : start ++ csv_text payload_header payload_row vrps ≡ (opening ++ some) ++ rest =
    csv-after start vrps ∙ ap (λ u. opening ++ u) (rows-split n vrps) ∙ sym (append_assoc opening some rest) in
    rw whole
    (AppendsBeginning-longer old (written b.drain.now) (opening ++ some) rest
    (AppendsBeginning-added written fails a b old opening some was header added))

-- ---- items of a JSON list

-- the visit stopped after some items
pub items-broken : {D : Type 0} (written : D → List ℕ) (fails : D → Bool) (a b : Pieces D) (old : List ℕ) (vrps : List Vrp) (n : ℕ)
    → written a.drain.now ≡ old → a.piece.bytes ≡ codes "{\"payloads\":[" → HasAdded written fails a (items_text true (take n vrps)) b
    → AppendsBeginning old (written b.drain.now) (line_text (Payloads vrps))
items-broken written fails a b old vrps n was head added =
    let opening = codes "{\"payloads\":[" in
    let some = items_text true (take n vrps) in
    let rest = items_text (first_after true (take n vrps)) (drop n vrps) in
    let split : opening ++ items_text true vrps ≡ (opening ++ some) ++ rest =
    ap (λ v. opening ++ items_text true v) (sym (take-append-drop n vrps)) ∙ ap (λ u. opening ++ u) (all_items true (take n vrps) (drop n vrps))
    ∙ sym (append_assoc opening some rest) in
    AppendsBeginning-longer old (written b.drain.now) (opening ++ items_text true vrps) (codes "]}\n")
    (rw split
    (AppendsBeginning-longer old (written b.drain.now) (opening ++ some) rest
    (AppendsBeginning-added written fails a b old opening some was head added)))
