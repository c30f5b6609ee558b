-- The records of a text are its next record and those of the rest.
use Rattle.csv_records.proofs.Vocabulary.{◌≡◌, ◌≤◌, ◌<◌, ◌+◌, inl, inr, ℕ, zero, suc, List, [], ◌∷◌, length, Some, None, refl, sym, ap, arith, cases_Bool, same_Some, Read, step, is_end, fields_after, field_after, ends_at_end, State}
use Rattle.csv.specs.Machine.{next_record}
use Rattle.csv.specs.Reading.{records_from}
use Rattle.csv.specs.declared.parser.Config.{Config}
use Rattle.csv.specs.declared.parser.State.TheVariants as st
use Rattle.addr.proofs.PrefixTextLemmas.{option_cases}

-- the end of a text leaves no bytes
takes_last : (cfg : Config) (s : State) (fields : List (List ℕ)) (field : List ℕ) (r : Read)
    → next_record cfg s fields field [] ≡ Some r → (r.1 ≡ st.StartRecord) × (r.2 ≡ [])
unfolding next_record
takes_last cfg s fields field r e = elim (cases_Bool (ends_at_end s)) [
  | inl ends ↦ let h = same_Some _ _ (rw ends at e) in (sym (ap (λ (p : Read). p.1) h), sym (ap (λ (p : Read). p.2) h))
  | inr goes ↦ let h = rw goes at e in cc
]

-- a record that is read from some bytes takes one of them at least
takes_some : (cfg : Config) (s : State) (fields : List (List ℕ)) (field : List ℕ) (c : ℕ) (rest : List ℕ) (r : Read)
    → next_record cfg s fields field (c ∷ rest) ≡ Some r → length r.2 ≤ length rest
unfolding next_record
takes_some cfg s fields field c [] r e = elim (cases_Bool (is_end (step cfg s c).1)) [
  | inl ends ↦ let h = same_Some _ _ (rw ends at e) in let same = ap (λ (p : Read). length p.2) h in omega arith
  | inr goes ↦
      let last = takes_last cfg (step cfg s c).0 (fields_after (step cfg s c).1 fields field) (field_after (step cfg s c).1 c field) r (rw goes at e) in
      let same = ap (λ (t : List ℕ). length t) last.1 in
      omega arith
]
takes_some cfg s fields field c (d ∷ rest) r e = elim (cases_Bool (is_end (step cfg s c).1)) [
  | inl ends ↦ let h = same_Some _ _ (rw ends at e) in let same = ap (λ (p : Read). length p.2) h in omega arith
  | inr goes ↦
      let more = takes_some cfg (step cfg s c).0 (fields_after (step cfg s c).1 fields field) (field_after (step cfg s c).1 c field) d rest r (rw goes at e) in
      omega arith
]

-- there are no records at the end of a text
none_left : (cfg : Config) (n : ℕ) → records_from cfg n st.StartRecord [] ≡ []
unfolding records_from next_record
none_left cfg zero = refl
none_left cfg (suc n) = refl

-- the count that bounds the records says nothing where it is over the length
enough : (cfg : Config) (m n : ℕ) (s : State) (xs : List ℕ) → length xs < m → length xs < n → records_from cfg m s xs ≡ records_from cfg n s xs
unfolding records_from
enough cfg zero n s xs p q = absurd (omega arith)
enough cfg (suc m) zero s xs p q = absurd (omega arith)
enough cfg (suc m) (suc n) s [] p q = elim (option_cases (next_record cfg s [] [] [])) [
  | inl none ↦ rw none refl
  | inr some ↦
      let (r, e) = some in
      let last = takes_last cfg s [] [] r e in
      rw (e, last.0, last.1, none_left cfg m, none_left cfg n) refl
]
enough cfg (suc m) (suc n) s (c ∷ xs) p q = elim (option_cases (next_record cfg s [] [] (c ∷ xs))) [
  | inl none ↦ rw none refl
  | inr some ↦
      let (r, e) = some in
      let short = takes_some cfg s [] [] c xs r e in
      rw e (ap (λ (rows : List (List (List ℕ))). r.0 ∷ rows) (enough cfg m n r.1 r.2 (omega arith) (omega arith)))
]

-- the next record, and the records of the rest
pub records-next : (cfg : Config) (s : State) (xs : List ℕ) (r : Read) → next_record cfg s [] [] xs ≡ Some r
    → records_from cfg (length xs + 1) s xs ≡ r.0 ∷ records_from cfg (length r.2 + 1) r.1 r.2
unfolding records_from
records-next cfg s [] r e =
    let last = takes_last cfg s [] [] r e in
    rw (e, last.0, last.1, none_left cfg 1) refl
records-next cfg s (c ∷ xs) r e =
    let short = takes_some cfg s [] [] c xs r e in
    let count : length (c ∷ xs) + 1 ≡ suc (suc (length xs)) = omega arith in
    rw (count, e) (ap (λ (rows : List (List (List ℕ))). r.0 ∷ rows) (enough cfg (suc (length xs)) (length r.2 + 1) r.1 r.2 (omega arith) (omega arith)))

-- no next record: no records
pub records-end : (cfg : Config) (s : State) (xs : List ℕ) → next_record cfg s [] [] xs ≡ None → records_from cfg (length xs + 1) s xs ≡ []
unfolding records_from
records-end cfg s xs e =
    let count : length xs + 1 ≡ suc (length xs) = omega arith in
    rw (count, e) refl
