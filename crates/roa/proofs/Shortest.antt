-- The fewest octets of a number, by the grammar and as a function.
use Rattle.roa.proofs.Vocabulary.{◌≡◌, ℕ, zero, suc, ◌+◌, ◌*◌, ◌/◌, ◌%◌, ◌^◌, ◌<◌, ◌≤◌, ◌⊎◌, List, [], ◌∷◌, length, refl, sym, ap, ◌∙◌, inl, inr, arith, pow-le-pow_right, mul-le-mul_left, cases_lt, lt-ltb, le-ltb, AreOctets, be_value, IsLength, IsTwosComplement, be_octets, length_octets, integer_len}
use Rattle.roa.proofs.Octets.{be_octets-be_value, be_value-be_octets, AreOctets-be_octets, pow_step}

-- ---- numbers of many octets are large

pow_long : (n : ℕ) → 2 ≤ n → 2 ^ 16 ≤ 2 ^ (8 * n)
pow_long n long =
    let two : 0 < 2 = omega arith in
    let more : 16 ≤ 8 * n = omega arith in
    pow-le-pow_right two more

pow_longer : (n : ℕ) → 4 ≤ n → 2 ^ 32 ≤ 2 ^ (8 * n)
pow_longer n long =
    let two : 0 < 2 = omega arith in
    let more : 32 ≤ 8 * n = omega arith in
    pow-le-pow_right two more

-- a number that is not zero times a power is at least the power
times_some : (b p : ℕ) → 0 < b → p ≤ b * p
times_some zero p h = absurd (omega (arith, h))
times_some (suc b) p h = omega arith

-- ---- lengths

pub length_is : (n : ℕ) (octets : List ℕ) → n < 65536 → IsLength n octets → octets ≡ length_octets n
length_is n [] small is = absurd is
length_is n (first ∷ []) small (inl is) = rw (lt-ltb n 128 is.0, is.1) refl
length_is n (first ∷ b ∷ rest) small (inl is) = absurd (not_nil is.2)
  where
    not_nil : b ∷ rest ≡ [] → ⊥
    not_nil e = cc
length_is n (first ∷ []) small (inr is) = absurd is.2
length_is n (first ∷ b ∷ []) small (inr is) =
    let below : b < 256 = is.2.1.0 in
    let value : b ≡ n = omega (arith, is.2.2) in
    rw (le-ltb n 128 is.0, lt-ltb n 256 (omega (arith, below, value)), is.1, value) refl
length_is n (first ∷ b ∷ d ∷ []) small (inr is) =
    let low : d < 256 = is.2.1.1.0 in
    let value : 256 * b + d ≡ n = omega (arith, is.2.2) in
    let over : 256 ≤ n = omega (arith, is.2.0, value) in
    let high : n / 256 ≡ b = omega (arith, low, value) in
    let rest : n % 256 ≡ d = omega (arith, low, value) in
    rw (le-ltb n 128 is.0, le-ltb n 256 over, high, rest, is.1) refl
length_is n (first ∷ b ∷ d ∷ e ∷ rest) small (inr is) =
    let large : 2 ^ 16 ≤ 2 ^ (8 * length (d ∷ e ∷ rest)) = pow_long (length (d ∷ e ∷ rest)) (omega arith) in
    let times : 2 ^ (8 * length (d ∷ e ∷ rest)) ≤ b * 2 ^ (8 * length (d ∷ e ∷ rest)) = times_some b (2 ^ (8 * length (d ∷ e ∷ rest))) is.2.0 in
    absurd (omega (arith, large, times, is.2.2, small))

pub is_length_octets : (n : ℕ) → n < 65536 → IsLength n (length_octets n)
is_length_octets n small =
    elim (cases_lt n 128) [
      | inl lt ↦ rw (lt-ltb n 128 lt) (inl (lt, refl, refl))
      | inr ge ↦ elim (cases_lt n 256) [
        | inl lt ↦ rw (le-ltb n 128 ge, lt-ltb n 256 lt) (inr (ge, refl, (omega arith, (lt, tt), omega arith)))
        | inr ge2 ↦ rw (le-ltb n 128 ge, le-ltb n 256 ge2) (inr (ge, refl, (omega arith, (omega arith, (omega arith, tt)), omega arith)))
      ]
    ]

-- ---- two's complement

by_len : (n k : ℕ) (octets : List ℕ) → AreOctets octets → be_value octets ≡ n → length octets ≡ k → integer_len n ≡ k → octets ≡ be_octets (integer_len n) n
by_len n k octets are value len is =
    sym (be_octets-be_value octets are) ∙ ap (λ (m : ℕ). be_octets (length octets) m) value ∙ ap (λ (j : ℕ). be_octets j n) (len ∙ sym is)

len_1 : (n : ℕ) → n < 2 ^ 7 → integer_len n ≡ 1
len_1 n lt = rw (lt-ltb n (2 ^ 7) lt) refl

len_2 : (n : ℕ) → 2 ^ 7 ≤ n → n < 2 ^ 15 → integer_len n ≡ 2
len_2 n ge lt = rw (le-ltb n (2 ^ 7) ge, lt-ltb n (2 ^ 15) lt) refl

len_3 : (n : ℕ) → 2 ^ 15 ≤ n → n < 2 ^ 23 → integer_len n ≡ 3
len_3 n ge lt = let g1 : 2 ^ 7 ≤ n = omega arith in rw (le-ltb n (2 ^ 7) g1, le-ltb n (2 ^ 15) ge, lt-ltb n (2 ^ 23) lt) refl

len_4 : (n : ℕ) → 2 ^ 23 ≤ n → n < 2 ^ 31 → integer_len n ≡ 4
len_4 n ge lt =
    let g1 : 2 ^ 7 ≤ n = omega arith in
    let g2 : 2 ^ 15 ≤ n = omega arith in
    rw (le-ltb n (2 ^ 7) g1, le-ltb n (2 ^ 15) g2, le-ltb n (2 ^ 23) ge, lt-ltb n (2 ^ 31) lt) refl

len_5 : (n : ℕ) → 2 ^ 31 ≤ n → integer_len n ≡ 5
len_5 n ge =
    let g1 : 2 ^ 7 ≤ n = omega arith in
    let g2 : 2 ^ 15 ≤ n = omega arith in
    let g3 : 2 ^ 23 ≤ n = omega arith in
    rw (le-ltb n (2 ^ 7) g1, le-ltb n (2 ^ 15) g2, le-ltb n (2 ^ 23) g3, le-ltb n (2 ^ 31) ge) refl

-- the least of a number whose first two octets are not nine zero bits
first_bits : (a b p q : ℕ) → (0 < a) ⊎ (128 ≤ b) → p ≡ 256 * q → 128 * q ≤ a * p + b * q
first_bits a b p q (inl some) e = omega (arith, times_some a p some, e)
first_bits a b p q (inr some) e = omega (arith, mul-le-mul_left q some)

pub complement_is : (n : ℕ) (octets : List ℕ) → n < 2 ^ 32 → IsTwosComplement n octets → octets ≡ be_octets (integer_len n) n
complement_is n [] small is = absurd is
complement_is n (a ∷ []) small is =
    let below : a < 256 = omega (arith, is.0) in
    by_len n 1 (a ∷ []) (below, tt) (omega (arith, is.1)) refl (len_1 n (omega (arith, is.0, is.1)))
complement_is n (a ∷ b ∷ []) small is =
    let least = first_bits a b 256 1 is.1 refl in
    let ge : 2 ^ 7 ≤ n = omega (arith, least, is.3) in
    let lt : n < 2 ^ 15 = omega (arith, is.0, is.2.1.0, is.3) in
    by_len n 2 (a ∷ b ∷ []) is.2 is.3 refl (len_2 n ge lt)
complement_is n (a ∷ b ∷ d ∷ []) small is =
    let least = first_bits a b (2 ^ 16) (2 ^ 8) is.1 refl in
    let ge : 2 ^ 15 ≤ n = omega (arith, least, is.3) in
    let lt : n < 2 ^ 23 = omega (arith, is.0, is.2.1.0, is.2.1.1.0, is.3) in
    by_len n 3 (a ∷ b ∷ d ∷ []) is.2 is.3 refl (len_3 n ge lt)
complement_is n (a ∷ b ∷ d ∷ e ∷ []) small is =
    let least = first_bits a b (2 ^ 24) (2 ^ 16) is.1 refl in
    let ge : 2 ^ 23 ≤ n = omega (arith, least, is.3) in
    let lt : n < 2 ^ 31 = omega (arith, is.0, is.2.1.0, is.2.1.1.0, is.2.1.1.1.0, is.3) in
    by_len n 4 (a ∷ b ∷ d ∷ e ∷ []) is.2 is.3 refl (len_4 n ge lt)
complement_is n (a ∷ b ∷ d ∷ e ∷ f ∷ []) small is =
    let least = first_bits a b (2 ^ 32) (2 ^ 24) is.1 refl in
    let ge : 2 ^ 31 ≤ n = omega (arith, least, is.3) in
    by_len n 5 (a ∷ b ∷ d ∷ e ∷ f ∷ []) is.2 is.3 refl (len_5 n ge)
complement_is n (a ∷ b ∷ d ∷ e ∷ f ∷ g ∷ rest) small is =
    let tail : List ℕ = d ∷ e ∷ f ∷ g ∷ rest in
    let large : 2 ^ 32 ≤ 2 ^ (8 * length (d ∷ e ∷ f ∷ g ∷ rest)) = pow_longer (length (d ∷ e ∷ f ∷ g ∷ rest)) (omega arith) in
    let step : 2 ^ (8 * length (b ∷ d ∷ e ∷ f ∷ g ∷ rest)) ≡ 256 * 2 ^ (8 * length (d ∷ e ∷ f ∷ g ∷ rest)) = pow_step (length (d ∷ e ∷ f ∷ g ∷ rest)) in
    let least = first_bits a b (2 ^ (8 * length (b ∷ d ∷ e ∷ f ∷ g ∷ rest))) (2 ^ (8 * length (d ∷ e ∷ f ∷ g ∷ rest))) is.1 step in
    absurd (omega (arith, large, least, is.3, small))

nine_2 : (n : ℕ) → 2 ^ 7 ≤ n → (0 < n / 2 ^ 8) ⊎ (128 ≤ n % 2 ^ 8 / 2 ^ 0)
nine_2 n ge = elim (cases_lt 0 (n / 2 ^ 8)) [ inl some ↦ inl some | inr none ↦ inr (omega arith) ]

nine_3 : (n : ℕ) → 2 ^ 15 ≤ n → (0 < n / 2 ^ 16) ⊎ (128 ≤ n % 2 ^ 16 / 2 ^ 8)
nine_3 n ge = elim (cases_lt 0 (n / 2 ^ 16)) [ inl some ↦ inl some | inr none ↦ inr (omega arith) ]

nine_4 : (n : ℕ) → 2 ^ 23 ≤ n → (0 < n / 2 ^ 24) ⊎ (128 ≤ n % 2 ^ 24 / 2 ^ 16)
nine_4 n ge = elim (cases_lt 0 (n / 2 ^ 24)) [ inl some ↦ inl some | inr none ↦ inr (omega arith) ]

nine_5 : (n : ℕ) → 2 ^ 31 ≤ n → (0 < n / 2 ^ 32) ⊎ (128 ≤ n % 2 ^ 32 / 2 ^ 24)
nine_5 n ge = elim (cases_lt 0 (n / 2 ^ 32)) [ inl some ↦ inl some | inr none ↦ inr (omega arith) ]

pub is_complement : (n : ℕ) → n < 2 ^ 32 → IsTwosComplement n (be_octets (integer_len n) n)
is_complement n small =
    elim (cases_lt n (2 ^ 7)) [
      | inl lt ↦ rw (len_1 n lt) (omega arith, omega arith)
      | inr g1 ↦ elim (cases_lt n (2 ^ 15)) [
        | inl lt ↦ let fits : n < 2 ^ 16 = omega arith in rw (len_2 n g1 lt) (omega arith, nine_2 n g1, AreOctets-be_octets 2 n fits, be_value-be_octets 2 n fits)
        | inr g2 ↦ elim (cases_lt n (2 ^ 23)) [
          | inl lt ↦ let fits : n < 2 ^ 24 = omega arith in rw (len_3 n g2 lt) (omega arith, nine_3 n g2, AreOctets-be_octets 3 n fits, be_value-be_octets 3 n fits)
          | inr g3 ↦ elim (cases_lt n (2 ^ 31)) [
            | inl lt ↦ rw (len_4 n g3 lt) (omega arith, nine_4 n g3, AreOctets-be_octets 4 n small, be_value-be_octets 4 n small)
            | inr g4 ↦ let fits : n < 2 ^ 40 = omega arith in rw (len_5 n g4) (omega arith, nine_5 n g4, AreOctets-be_octets 5 n fits, be_value-be_octets 5 n fits)
          ]
        ]
      ]
    ]
