-- The VRPs of an index, written as it gives them.
use Rattle.std.specs.Prelude.{◌≡◌, ℕ, Bool, true, false, List, [], ◌∷◌, ◌++◌, map}
use Rattle.std.proofs.Common.{sym, ap, refl, ◌∙◌, append_assoc}
use Rattle.std.proofs.lemmas.List.{append-nil}
use Rattle.std.proofs.lemmas.Grind.{flat_map-append}
use Rattle.addr.specs.declared.vrp.Vrp.{Vrp}
use Rattle.csv_records.specs.Lines.{csv_line, payload_row, payload_rows}
use Rattle.web.specs.ReplyText.{comma_joined, vrp_text}
use Rattle.web.specs.steps.ReplyItems.{after_commas, item_after, items_left}
use Rattle.web.specs.declared.pieces.Pieces.{Pieces}
use Rattle.web.specs.steps.PieceWriting.{added_none, added_then, HasAdded}

-- ---- lines of a CSV

pub lines_none : {D : Type 0} (written : D → List ℕ) (fails : D → Bool) (a : Pieces D) → HasAdded written fails a (payload_rows []) a
lines_none written fails a = added_none written fails a

pub lines_then : {D : Type 0} (written : D → List ℕ) (fails : D → Bool) (a b c : Pieces D) (vs ws : List Vrp)
    → HasAdded written fails a (payload_rows vs) b → HasAdded written fails b (payload_rows ws) c
    → HasAdded written fails a (payload_rows (vs ++ ws)) c
lines_then written fails a b c vs ws first second =
    rw (flat_map-append (λ v. csv_line (payload_row v)) vs ws)
    (added_then written fails a b c (payload_rows vs) (payload_rows ws) first second)

-- ---- items of a JSON list

-- whether the next item is the first of its list
abbrev pub first_after : Bool → List Vrp → Bool
first_after is_first [] = is_first
first_after is_first (v ∷ vs) = false

-- the VRPs, of which the first is or is not the first of its list
abbrev pub items_text : Bool → List Vrp → List ℕ
items_text is_first vrps = items_left is_first (map vrp_text vrps)

-- these VRPs were added as items
abbrev pub HasListed : {D : Type 0} → (D → List ℕ) → (D → Bool) → Pieces D → Bool → List Vrp → Pieces D → Bool → Type 0
HasListed written fails a was_first vrps b is_first =
    HasAdded written fails a (items_text was_first vrps) b × (is_first ≡ first_after was_first vrps)

no_items : (is_first : Bool) → items_text is_first [] ≡ []
no_items true = refl
no_items false = refl

later_items : (vs ws : List Vrp) → items_text false (vs ++ ws) ≡ items_text false vs ++ items_text false ws
later_items [] ws = refl
later_items (v ∷ vs) ws =
    ap (λ u. item_after false (vrp_text v) ++ u) (later_items vs ws)
    ∙ sym (append_assoc (item_after false (vrp_text v)) (items_text false vs) (items_text false ws))

joined_items : (text : List ℕ) (texts : List (List ℕ)) → comma_joined (text ∷ texts) ≡ text ++ after_commas texts
joined_items text [] = sym (append-nil text)
joined_items text (next ∷ texts) = ap (λ u. text ++ (44 ∷ u)) (joined_items next texts)

pub all_items : (is_first : Bool) (vs ws : List Vrp)
    → items_text is_first (vs ++ ws) ≡ items_text is_first vs ++ items_text (first_after is_first vs) ws
all_items is_first [] ws = ap (λ u. u ++ items_text is_first ws) (sym (no_items is_first))
all_items true (v ∷ vs) ws =
    joined_items (vrp_text v) (map vrp_text (vs ++ ws))
    ∙ ap (λ u. vrp_text v ++ u) (later_items vs ws)
    ∙ sym (append_assoc (vrp_text v) (items_text false vs) (items_text false ws))
    ∙ ap (λ u. u ++ items_text false ws) (sym (joined_items (vrp_text v) (map vrp_text vs)))
all_items false (v ∷ vs) ws = later_items (v ∷ vs) ws

pub items_none : {D : Type 0} (written : D → List ℕ) (fails : D → Bool) (a : Pieces D) (is_first : Bool)
    → HasListed written fails a is_first [] a is_first
items_none written fails a is_first = (rw (no_items is_first) (added_none written fails a), refl)

first_then : (is_first : Bool) (vs ws : List Vrp) → first_after (first_after is_first vs) ws ≡ first_after is_first (vs ++ ws)
first_then is_first [] ws = refl
first_then is_first (v ∷ vs) [] = refl
first_then is_first (v ∷ vs) (w ∷ ws) = refl

pub items_then : {D : Type 0} (written : D → List ℕ) (fails : D → Bool) (a b c : Pieces D) (one two three : Bool) (vs ws : List Vrp)
    → HasListed written fails a one vs b two → HasListed written fails b two ws c three
    → HasListed written fails a one (vs ++ ws) c three
items_then written fails a b c one two three vs ws first second =
    let texts : items_text one (vs ++ ws) ≡ items_text one vs ++ items_text two ws =
    all_items one vs ws ∙ ap (λ f. items_text one vs ++ items_text f ws) (sym first.1) in (
      rw texts (added_then written fails a b c (items_text one vs) (items_text two ws) first.0 second.0),
      second.1 ∙ ap (λ f. first_after f ws) first.1 ∙ first_then one vs ws,
    )
