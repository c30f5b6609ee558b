-- The lines that pieces of a script complete, one piece after the other, are the lines of the script.
use Rattle.web.proofs.Vocabulary.{◌≡◌, ℕ, ◌+◌, ◌<◌, ◌≤◌, ◌==◌, List, [], ◌∷◌, ◌++◌, Bool, true, false, cond, Some, None, nat_eq, nat_le, length, take, drop, get_or, refl, sym, ◌∙◌, ap, subst, append_assoc, arith, le_refl, eq-eqb, ne_eqb, append-nil, drop_more, get_or-take, length-take, take-append-drop, take_all, all_but_last, last_piece, pieces, whole_lines, script_lines, unless_empty, behind, completed_lines, unfinished_line}
use Rattle.std.proofs.lemmas.List.Elements.{All-from_get_or}
use Rattle.std.proofs.lemmas.List.Splits.{slice_split_at, slice_split_none}
use Rattle.std.specs.List.{All, onto_first}
use Rattle.memchr.specs.Find.{Nowhere, NoneBefore, Passes, is_byte}
use Rattle.web.specs.ScriptLines.{within_limit}
use Rattle.requests.specs.declared.request.TheConstants.{LINE_LENGTH_LIMIT}

-- ---- the first line feed

none_before : (bytes : List ℕ) (k : ℕ) → k ≤ length bytes → Nowhere (Passes (is_byte 10) bytes) 0 k
    → All (λ byte. (byte == 10) ≡ false) (take k bytes)
none_before bytes k within nowhere = All-from_get_or (λ byte. (byte == 10) ≡ false) (take k bytes) 0 (λ i l.
    let before : i < k = omega (arith, length-take k bytes) in
    rw (get_or-take k bytes i 0 before)
    (ne_eqb (get_or bytes i 0) 10 (λ is. nowhere i (omega arith) before (eq-eqb (get_or bytes i 0) 10 is))))

pub pieces-none : (bytes : List ℕ) → Nowhere (Passes (is_byte 10) bytes) 0 (length bytes) → pieces bytes ≡ bytes ∷ []
pieces-none bytes nowhere = slice_split_none (λ byte. byte == 10) bytes
    (subst (All (λ byte. (byte == 10) ≡ false)) (take_all (length bytes) bytes (le_refl (length bytes)))
    (none_before bytes (length bytes) (le_refl (length bytes)) nowhere))

pub pieces-first : (bytes : List ℕ) (k : ℕ) → NoneBefore (Passes (is_byte 10) bytes) 0 (length bytes) k
    → Passes (is_byte 10) bytes k → pieces bytes ≡ take k bytes ∷ pieces (drop (k + 1) bytes)
pieces-first bytes k none feed =
    ap pieces (sym (take-append-drop k bytes) ∙ ap (λ rest. take k bytes ++ rest) (drop_more bytes k 0 none.high))
    ∙ slice_split_at (λ byte. byte == 10) (take k bytes) (get_or bytes k 0) (drop (k + 1) bytes)
    (none_before bytes k (omega (arith, none.high)) none.before) feed

-- ---- the last piece and those before it

all_but_last-cons : (xs : List (List ℕ)) (y : List ℕ) (ys : List (List ℕ))
    → all_but_last (xs ++ y ∷ ys) ≡ xs ++ all_but_last (y ∷ ys)
all_but_last-cons [] y ys = refl
all_but_last-cons (x ∷ []) y ys = refl
all_but_last-cons (x ∷ x' ∷ xs) y ys = ap (λ ls. x ∷ ls) (all_but_last-cons (x' ∷ xs) y ys)

last_of-cons : (xs : List (List ℕ)) (y : List ℕ) (ys : List (List ℕ)) → last_piece (xs ++ y ∷ ys) ≡ last_piece (y ∷ ys)
last_of-cons [] y ys = refl
last_of-cons (x ∷ []) y ys = refl
last_of-cons (x ∷ x' ∷ xs) y ys = last_of-cons (x' ∷ xs) y ys

pub all_but_last-one : (xs : List (List ℕ)) (y : List ℕ) → all_but_last (xs ++ y ∷ []) ≡ xs
all_but_last-one xs y = all_but_last-cons xs y [] ∙ append-nil xs

pub last_of-one : (xs : List (List ℕ)) (y : List ℕ) → last_piece (xs ++ y ∷ []) ≡ y
last_of-one xs y = last_of-cons xs y []

-- bytes have a piece at least
pub all_but_last-append : (xs : List (List ℕ)) (front : List ℕ) (parts : List (List ℕ))
    → all_but_last (xs ++ behind front parts) ≡ xs ++ all_but_last (behind front parts)
all_but_last-append xs front [] = all_but_last-cons xs front []
all_but_last-append xs front (piece ∷ more) = all_but_last-cons xs (front ++ piece) more

last_of-append : (xs : List (List ℕ)) (front : List ℕ) (parts : List (List ℕ))
    → last_piece (xs ++ behind front parts) ≡ last_piece (behind front parts)
last_of-append xs front [] = last_of-cons xs front []
last_of-append xs front (piece ∷ more) = last_of-cons xs (front ++ piece) more

-- ---- a text behind an unfinished line

behind-onto_first : (front : List ℕ) (byte : ℕ) (parts : List (List ℕ))
    → behind front (onto_first byte parts) ≡ behind (front ++ byte ∷ []) parts
behind-onto_first front byte [] = refl
behind-onto_first front byte (piece ∷ more) = ap (λ p. p ∷ more) (sym (append_assoc front (byte ∷ []) piece))

pub behind-nil : (text : List ℕ) → behind [] (pieces text) ≡ pieces text
behind-nil [] = refl
behind-nil (byte ∷ bytes) =
    elim (nat_eq byte 10) as (λ (b : Bool).
    behind [] (cond b ([] ∷ pieces bytes) (onto_first byte (pieces bytes)))
    ≡ cond b ([] ∷ pieces bytes) (onto_first byte (pieces bytes))) [
      | true ↦ refl
      | false ↦ first byte (pieces bytes)
    ]
  where
    first : (byte : ℕ) (parts : List (List ℕ)) → behind [] (onto_first byte parts) ≡ onto_first byte parts
    first byte [] = refl
    first byte (piece ∷ more) = refl

-- the rest is cut at its first line feed
pub behind-cut : (unfinished bytes : List ℕ) (lines : List (List ℕ)) (kept rest line more : List ℕ)
    → behind unfinished (pieces bytes) ≡ lines ++ behind kept (pieces rest) → pieces rest ≡ line ∷ pieces more
    → behind unfinished (pieces bytes) ≡ (lines ++ (kept ++ line) ∷ []) ++ behind [] (pieces more)
behind-cut unfinished bytes lines kept rest line more all cut =
    all ∙ ap (λ ps. lines ++ behind kept ps) cut
    ∙ ap (λ ps. lines ++ (kept ++ line) ∷ ps) (sym (behind-nil more))
    ∙ sym (append_assoc lines ((kept ++ line) ∷ []) (behind [] (pieces more)))

-- the rest has no line feed
pub behind-rest : (unfinished bytes : List ℕ) (lines : List (List ℕ)) (kept rest : List ℕ)
    → behind unfinished (pieces bytes) ≡ lines ++ behind kept (pieces rest) → pieces rest ≡ rest ∷ []
    → behind unfinished (pieces bytes) ≡ lines ++ (kept ++ rest) ∷ []
behind-rest unfinished bytes lines kept rest all none = all ∙ ap (λ ps. lines ++ behind kept ps) none

behind-cons : (unfinished : List ℕ) (byte : ℕ) (bytes : List ℕ)
    → behind unfinished (pieces (byte ∷ bytes))
    ≡ cond (nat_eq byte 10) (unfinished ∷ behind [] (pieces bytes)) (behind (unfinished ++ byte ∷ []) (pieces bytes))
behind-cons unfinished byte bytes =
    elim (nat_eq byte 10) as (λ (b : Bool).
    behind unfinished (cond b ([] ∷ pieces bytes) (onto_first byte (pieces bytes)))
    ≡ cond b (unfinished ∷ behind [] (pieces bytes)) (behind (unfinished ++ byte ∷ []) (pieces bytes))) [
      | true ↦ ap (λ p. p ∷ pieces bytes) (append-nil unfinished) ∙ ap (λ ps. unfinished ∷ ps) (sym (behind-nil bytes))
      | false ↦ behind-onto_first unfinished byte (pieces bytes)
    ]

-- more bytes
behind-append : (unfinished xs ys : List ℕ)
    → behind unfinished (pieces (xs ++ ys))
    ≡ completed_lines unfinished xs ++ behind (unfinished_line unfinished xs) (pieces ys)
behind-append unfinished [] ys = ap (λ u. behind u (pieces ys)) (sym (append-nil unfinished))
behind-append unfinished (byte ∷ xs) ys =
    rw (behind-cons unfinished byte (xs ++ ys), behind-cons unfinished byte xs)
    (elim (nat_eq byte 10) as (λ (b : Bool).
    cond b (unfinished ∷ behind [] (pieces (xs ++ ys))) (behind (unfinished ++ byte ∷ []) (pieces (xs ++ ys)))
    ≡ all_but_last (cond b (unfinished ∷ behind [] (pieces xs)) (behind (unfinished ++ byte ∷ []) (pieces xs)))
    ++ behind (last_piece (cond b (unfinished ∷ behind [] (pieces xs)) (behind (unfinished ++ byte ∷ []) (pieces xs)))) (pieces ys)) [
      | true ↦ rw (all_but_last-append (unfinished ∷ []) [] (pieces xs), last_of-append (unfinished ∷ []) [] (pieces xs))
          (ap (λ ls. unfinished ∷ ls) (behind-append [] xs ys))
      | false ↦ behind-append (unfinished ++ byte ∷ []) xs ys
    ])

pub completed_lines-append : (unfinished xs ys : List ℕ)
    → completed_lines unfinished (xs ++ ys)
    ≡ completed_lines unfinished xs ++ completed_lines (unfinished_line unfinished xs) ys
completed_lines-append unfinished xs ys =
    ap all_but_last (behind-append unfinished xs ys)
    ∙ all_but_last-append (completed_lines unfinished xs) (unfinished_line unfinished xs) (pieces ys)

pub unfinished_line-append : (unfinished xs ys : List ℕ)
    → unfinished_line unfinished (xs ++ ys) ≡ unfinished_line (unfinished_line unfinished xs) ys
unfinished_line-append unfinished xs ys =
    ap last_piece (behind-append unfinished xs ys)
    ∙ last_of-append (completed_lines unfinished xs) (unfinished_line unfinished xs) (pieces ys)

-- ---- from the start

pub whole_lines-lem : (text : List ℕ) → whole_lines text ≡ completed_lines [] text
whole_lines-lem text = ap all_but_last (sym (behind-nil text))

pub script_lines-lem : (text : List ℕ) → script_lines text ≡ completed_lines [] text ++ unless_empty (unfinished_line [] text)
script_lines-lem text = ap (λ ps. all_but_last ps ++ unless_empty (last_piece ps)) (sym (behind-nil text))

-- an empty line is known from how it is held
pub within_limit-nil : (line : List ℕ) → within_limit line ≡ within_limit [] → line ≡ []
unfolding within_limit
within_limit-nil [] = λ e. refl
within_limit-nil (byte ∷ bytes) =
    elim (nat_le (length (byte ∷ bytes)) LINE_LENGTH_LIMIT) as (λ (b : Bool).
    cond b (Some (byte ∷ bytes)) None ≡ Some [] → byte ∷ bytes ≡ [])
    [ true ↦ λ e. cc | false ↦ λ e. cc ]

pub unless_empty-lem : (line : List ℕ) → (line ≡ [] → ⊥) → unless_empty line ≡ line ∷ []
unless_empty-lem [] is_not = absurd (is_not refl)
unless_empty-lem (byte ∷ bytes) is_not = refl
