-- Lemmas on the rows of VRPs.
use Rattle.csv_records.proofs.Vocabulary.{◌≡◌, ◌+◌, ℕ, List, ◌++◌, length, take, drop, sym, ap, ◌∙◌, length-append, take-append-drop, csv_line, payload_row, payload_rows}
use Rattle.std.proofs.lemmas.Grind.{flat_map-append}
use Rattle.addr.specs.declared.vrp.Vrp.{Vrp}

rows-append : (vs ws : List Vrp) → payload_rows (vs ++ ws) ≡ payload_rows vs ++ payload_rows ws
rows-append vs ws = flat_map-append (λ v. csv_line (payload_row v)) vs ws

pub length-rows : (vs ws : List Vrp)
    → length (payload_rows (vs ++ ws)) ≡ length (payload_rows vs) + length (payload_rows ws)
length-rows vs ws = ap length (rows-append vs ws) ∙ length-append (payload_rows vs) (payload_rows ws)

pub rows-split : (n : ℕ) (vrps : List Vrp) → payload_rows vrps ≡ payload_rows (take n vrps) ++ payload_rows (drop n vrps)
rows-split n vrps = ap payload_rows (sym (take-append-drop n vrps)) ∙ rows-append (take n vrps) (drop n vrps)
