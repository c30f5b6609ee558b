-- The fields of records.
use Rattle.csv_records.proofs.Vocabulary.{◌≡◌, ◌<◌, ◌+◌, inl, inr, ℕ, zero, suc, List, [], ◌∷◌, ◌++◌, append_assoc, length, drop, get_or, Bool, Some, None, true, false, refl, sym, ap, ◌∙◌, arith, ◌&&◌, cases_Bool, same_Some, get_or-map, length-map, RecordFields, field_in, two_of, three_of, fields_eq, rows_after, texts_of}
use Rattle.std.specs.Borrow.{Bor}
use Rattle.std.proofs.lemmas.Slice.Eq.{bytes_eq-Decides}
use Rattle.std.specs.Str.{bytes_eq}
use Rattle.csv.specs.Records.{field_at}

pub three_of-no_first : (xs : RecordFields) → None ≡ field_at xs 0 → None ≡ three_of xs
unfolding field_at
three_of-no_first [] e = refl
three_of-no_first (a ∷ xs) e = cc

pub three_of-no_second : (xs : RecordFields) → None ≡ field_at xs 1 → None ≡ three_of xs
unfolding field_at
three_of-no_second [] e = refl
three_of-no_second (a ∷ []) e = refl
three_of-no_second (a ∷ b ∷ xs) e = cc

pub three_of-no_third : (xs : RecordFields) → None ≡ field_at xs 2 → None ≡ three_of xs
unfolding field_at
three_of-no_third [] e = refl
three_of-no_third (a ∷ []) e = refl
three_of-no_third (a ∷ b ∷ []) e = refl
three_of-no_third (a ∷ b ∷ c ∷ xs) e = cc

pub three_of-all : (xs : RecordFields) (x y z : List ℕ) → length xs ≡ 3 → Some x ≡ field_at xs 0 → Some y ≡ field_at xs 1 → Some z ≡ field_at xs 2 → Some (x, (y, z)) ≡ three_of xs
unfolding field_at
three_of-all [] x y z n e f g = cc
three_of-all (a ∷ []) x y z n e f g = cc
three_of-all (a ∷ b ∷ []) x y z n e f g = cc
three_of-all (a ∷ b ∷ c ∷ []) x y z n e f g = cc
three_of-all (a ∷ b ∷ c ∷ d ∷ xs) x y z n e f g = absurd (omega arith)

pub two_of-no_first : (xs : RecordFields) → None ≡ field_at xs 0 → None ≡ two_of xs
unfolding field_at
two_of-no_first [] e = refl
two_of-no_first (a ∷ xs) e = cc

pub two_of-no_second : (xs : RecordFields) → None ≡ field_at xs 1 → None ≡ two_of xs
unfolding field_at
two_of-no_second [] e = refl
two_of-no_second (a ∷ []) e = refl
two_of-no_second (a ∷ b ∷ xs) e = cc

pub two_of-all : (xs : RecordFields) (x y : List ℕ) → length xs ≡ 2 → Some x ≡ field_at xs 0 → Some y ≡ field_at xs 1 → Some (x, y) ≡ two_of xs
unfolding field_at
two_of-all [] x y n e f = cc
two_of-all (a ∷ []) x y n e f = cc
two_of-all (a ∷ b ∷ []) x y n e f = cc
two_of-all (a ∷ b ∷ d ∷ xs) x y n e f = absurd (omega arith)

pub field_in-none : (xs : RecordFields) (i : ℕ) → None ≡ field_at xs i → [] ≡ field_in i xs
unfolding field_at
field_in-none [] i e = refl
field_in-none (a ∷ xs) zero e = cc
field_in-none (a ∷ xs) (suc i) e = field_in-none xs i e

pub same_fields : (xs ys : RecordFields) → fields_eq xs ys ≡ true → xs ≡ ys
same_fields [] [] e = refl
same_fields [] (b ∷ ys) e = cc
same_fields (a ∷ xs) [] e = cc
same_fields (a ∷ xs) (b ∷ ys) e = elim (cases_Bool (bytes_eq a b)) [
  | inl same ↦ rw ((bytes_eq-Decides a b).0 same, same_fields xs ys (rw same at e)) refl
  | inr other ↦ let h = rw other at e in cc
]

pub fields_eq-length : (xs ys : RecordFields) → (length xs ≡ length ys → ⊥) → false ≡ fields_eq xs ys
fields_eq-length xs ys other = elim (cases_Bool (fields_eq xs ys)) [
  | inl same ↦ absurd (other (ap (λ (t : RecordFields). length t) (same_fields xs ys same)))
  | inr apart ↦ sym apart
]

-- the fields from a place on are equal where the first of them is and the others are
pub fields_eq-drop : (xs ys : RecordFields) (i : ℕ) (x : List ℕ) → Some x ≡ field_at xs i → i < length ys
    → fields_eq (drop i xs) (drop i ys) ≡ (bytes_eq x (get_or ys i []) && fields_eq (drop (i + 1) xs) (drop (i + 1) ys))
unfolding field_at
fields_eq-drop [] ys i x e inside = cc
fields_eq-drop (a ∷ xs) [] i x e inside = absurd (omega arith)
fields_eq-drop (a ∷ xs) (b ∷ ys) zero x e inside = rw (same_Some x a e) refl
fields_eq-drop (a ∷ xs) (b ∷ ys) (suc i) x e inside =
    let next : suc i + 1 ≡ suc (i + 1) = omega arith in
    rw next (fields_eq-drop xs ys i x e (omega arith))

-- the same, where the other fields are texts and this one was compared with its text
pub texts-next : (xs : RecordFields) (ts : List (Bor (List ℕ))) (i : ℕ) (x y : List ℕ) (d : Bor (List ℕ)) (same : Bool)
    → Some x ≡ field_at xs i → i < length ts → y ≡ (get_or ts i d).now → bytes_eq x y ≡ same
    → fields_eq (drop i xs) (drop i (texts_of ts)) ≡ (same && fields_eq (drop (i + 1) xs) (drop (i + 1) (texts_of ts)))
texts-next xs ts i x y d same e inside is eq =
    fields_eq-drop xs (texts_of ts) i x e (rw (length-map ts (λ text. text.now)) inside)
    ∙ rw (get_or-map (λ (text : Bor (List ℕ)). text.now) ts i d [] inside, ← is, eq) refl

-- ---- lines

append-first : (b : ℕ) (xs ys : List ℕ) → (b ∷ xs) ++ ys ≡ b ∷ (xs ++ ys)
append-first b xs ys = refl

append-none : (ys : List ℕ) → [] ++ ys ≡ ys
append-none ys = refl

-- the parts of a line in the order in which they are written
pub line-parts : (number asn prefix max from until : List ℕ)
    → ((((((number ++ (44 ∷ [])) ++ (65 ∷ 83 ∷ (asn ++ (44 ∷ (prefix ++ (44 ∷ max)))))) ++ (44 ∷ [])) ++ from) ++ (44 ∷ [])) ++ until) ++ (10 ∷ [])
    ≡ (number ++ (44 ∷ 65 ∷ 83 ∷ (asn ++ (44 ∷ (prefix ++ (44 ∷ (max ++ (44 ∷ (from ++ (44 ∷ until)))))))))) ++ (10 ∷ [])
line-parts number asn prefix max from until = simp (append_assoc, append-first, append-none)

-- ---- headers

pub header-same : (header first : RecordFields) (all rest : List RecordFields) → all ≡ first ∷ rest → true ≡ fields_eq first header
    → rows_after header all ≡ Some rest
header-same header first all rest e same = rw (e, ← same) refl

pub header-other : (header first : RecordFields) (all rest : List RecordFields) → all ≡ first ∷ rest → false ≡ fields_eq first header
    → rows_after header all ≡ None
header-other header first all rest e other = rw (e, ← other) refl

-- then the header is the first record
pub header-there : (header : RecordFields) (all rest : List RecordFields) → rows_after header all ≡ Some rest → all ≡ header ∷ rest
header-there header [] rest is = cc
header-there header (first ∷ rows) rest is = elim (cases_Bool (fields_eq first header)) [
  | inl same ↦ let h = same_Some _ _ (rw same at is) in rw (same_fields first header same, h) refl
  | inr other ↦ let h = rw other at is in cc
]
