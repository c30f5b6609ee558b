-- INTEGER and BIT STRING: what is read is what is written.
use Rattle.roa.proofs.Vocabulary.{◌≡◌, ℕ, ◌+◌, ◌-◌, ◌*◌, ◌/◌, ◌%◌, ◌^◌, ◌<◌, ◌≤◌, true, false, ltb, eqb, ◌&&◌, List, [], ◌∷◌, ◌++◌, length, Option, Some, None, refl, sym, ap, subst, ◌∙◌, inl, inr, append_assoc, arith, ◌↔◌, IsSome, IfSome, unwrap_or, SomeIff, Prefix, false≢true, cases_lt, cases_eq, cases_Bool, lt-ltb, le-ltb, eq-eqb, ne_eqb, ltb-true, eqb-true, and_parts, and_from, same_Some, shl-shr, shr_split, shr_below, shl_below, width, IsPrefix, Family, V4, V6, below_widest, multiple-at_most, be_octets, integer_len, bit_octets, length_octets, bit_string, be_value, ReadsAs, AreOctets}
use Rattle.roa.specs.steps.Reading.{integer_of, prefix_of}
use Rattle.roa.proofs.Octets.{length-be_octets, be_value-be_octets, be_value_below, be_octets-be_value}

-- ---- INTEGER

pub integer_len_fits : (n : ℕ) → n < 2 ^ 32 → n < 2 ^ (8 * integer_len n)
integer_len_fits n h =
    elim (cases_lt n (2 ^ 7)) [
      | inl lt ↦ rw (lt-ltb n (2 ^ 7) lt) (omega arith)
      | inr ge ↦ elim (cases_lt n (2 ^ 15)) [
        | inl lt ↦ rw (le-ltb n (2 ^ 7) ge, lt-ltb n (2 ^ 15) lt) (omega arith)
        | inr ge2 ↦ elim (cases_lt n (2 ^ 23)) [
          | inl lt ↦ rw (le-ltb n (2 ^ 7) ge, le-ltb n (2 ^ 15) ge2, lt-ltb n (2 ^ 23) lt) (omega arith)
          | inr ge3 ↦ elim (cases_lt n (2 ^ 31)) [
            | inl lt ↦ rw (le-ltb n (2 ^ 7) ge, le-ltb n (2 ^ 15) ge2, le-ltb n (2 ^ 23) ge3, lt-ltb n (2 ^ 31) lt) (omega arith)
            | inr ge4 ↦ rw (le-ltb n (2 ^ 7) ge, le-ltb n (2 ^ 15) ge2, le-ltb n (2 ^ 23) ge3, le-ltb n (2 ^ 31) ge4) (omega arith)
          ]
        ]
      ]
    ]

pub integer_len_bound : (n : ℕ) → integer_len n ≤ 5
integer_len_bound n =
    elim (cases_lt n (2 ^ 7)) [
      | inl lt ↦ rw (lt-ltb n (2 ^ 7) lt) (omega arith)
      | inr ge ↦ elim (cases_lt n (2 ^ 15)) [
        | inl lt ↦ rw (le-ltb n (2 ^ 7) ge, lt-ltb n (2 ^ 15) lt) (omega arith)
        | inr ge2 ↦ elim (cases_lt n (2 ^ 23)) [
          | inl lt ↦ rw (le-ltb n (2 ^ 7) ge, le-ltb n (2 ^ 15) ge2, lt-ltb n (2 ^ 23) lt) (omega arith)
          | inr ge3 ↦ elim (cases_lt n (2 ^ 31)) [
            | inl lt ↦ rw (le-ltb n (2 ^ 7) ge, le-ltb n (2 ^ 15) ge2, le-ltb n (2 ^ 23) ge3, lt-ltb n (2 ^ 31) lt) (omega arith)
            | inr ge4 ↦ rw (le-ltb n (2 ^ 7) ge, le-ltb n (2 ^ 15) ge2, le-ltb n (2 ^ 23) ge3, le-ltb n (2 ^ 31) ge4) (omega arith)
          ]
        ]
      ]
    ]

pub integer_again : (n : ℕ) → n < 2 ^ 32 → integer_of (be_octets (integer_len n) n) ≡ Some n
unfolding integer_of
integer_again n h =
    let len : length (be_octets (integer_len n) n) ≡ integer_len n = length-be_octets (integer_len n) n in
    let value : be_value (be_octets (integer_len n) n) ≡ n = be_value-be_octets (integer_len n) n (integer_len_fits n h) in
    let short : ltb 5 (length (be_octets (integer_len n) n)) ≡ false = le-ltb _ _ (rw len (integer_len_bound n)) in
    let fits : (ltb (be_value (be_octets (integer_len n) n)) (2 ^ 32) && eqb (length (be_octets (integer_len n) n)) (integer_len (be_value (be_octets (integer_len n) n)))) ≡ true =
    and_from _ _ (lt-ltb _ _ (rw value h)) (eq-eqb _ _ (len ∙ ap integer_len (sym value))) in
    rw (short, fits) (ap (λ (m : ℕ). Some m) value)

pub integer_only : (c : List ℕ) (n : ℕ) → AreOctets c → integer_of c ≡ Some n → (c ≡ be_octets (integer_len n) n) × (n < 2 ^ 32)
unfolding integer_of
integer_only c n octets e =
    elim (cases_lt 5 (length c)) [
      | inl long ↦ let e' = rw (lt-ltb 5 (length c) long) at e in absurd cc
      | inr short ↦
          let e' = rw (le-ltb 5 (length c) short) at e in
          elim (cases_Bool (ltb (be_value c) (2 ^ 32) && eqb (length c) (integer_len (be_value c)))) [
            | inl yes' ↦
                let e2 = rw yes' at e' in
                let both = and_parts (ltb (be_value c) (2 ^ 32)) (eqb (length c) (integer_len (be_value c))) yes' in
                let parts : c ≡ be_octets (integer_len (be_value c)) (be_value c) = sym (be_octets-be_value c octets) ∙ ap (λ (k : ℕ). be_octets k (be_value c)) (eqb-true _ _ both.1) in
                subst (λ (m : ℕ). (c ≡ be_octets (integer_len m) m) × (m < 2 ^ 32)) (same_Some (be_value c) n e2) (parts, ltb-true _ _ both.0)
            | inr no' ↦ let e2 = rw no' at e' in absurd cc
          ]
    ]

-- ---- BIT STRING

pub octets_fit : (family : Family) (bits : ℕ) → bits ≤ width family → 8 * bit_octets bits ≤ width family
octets_fit V4 bits h = omega arith
octets_fit V6 bits h = omega arith

pub bit_octets_bound : (family : Family) (bits : ℕ) → bits ≤ width family → bit_octets bits ≤ 16
bit_octets_bound V4 bits h = omega arith
bit_octets_bound V6 bits h = omega arith

-- the contents of the BIT STRING of a prefix
abbrev pub bit_contents : Family → ℕ → ℕ → List ℕ
bit_contents family first length = (8 * bit_octets length - length) ∷ be_octets (bit_octets length) (first / 2 ^ (width family - 8 * bit_octets length))

-- an address that is aligned to the prefix is one to the whole octets
aligned_to_octets : (w n bits k : ℕ) → bits ≤ k → k ≤ w → n % 2 ^ (w - bits) ≡ 0 → n % 2 ^ (w - k) ≡ 0
aligned_to_octets w n bits k h g e = multiple-at_most n (w - bits) (w - k) (omega arith) e

shifted_back : (w n k : ℕ) → n % 2 ^ (w - k) ≡ 0 → n / 2 ^ (w - k) * 2 ^ (w - k) ≡ n
shifted_back w n k e = omega (arith, shr_split n (w - k), e)

first_octets_below : (w n k : ℕ) → k ≤ w → n < 2 ^ w → n / 2 ^ (w - k) < 2 ^ k
first_octets_below w n k h g =
    let split : w ≡ k + (w - k) = omega arith in
    shr_below n k (w - k) (subst (λ (m : ℕ). n < 2 ^ m) split g)

-- the first octets of a prefix's address, shifted back, are the address
pub octets_back : (family : Family) (first bits : ℕ) → IsPrefix family first bits → first / 2 ^ (width family - 8 * bit_octets bits) * 2 ^ (width family - 8 * bit_octets bits) ≡ first
octets_back family first bits is =
    let up : bits ≤ 8 * bit_octets bits = omega arith in
    shifted_back (width family) first (8 * bit_octets bits) (aligned_to_octets (width family) first bits (8 * bit_octets bits) up (octets_fit family bits is.0) is.2)

pub prefix_again : (family : Family) (first length : ℕ) → IsPrefix family first length → prefix_of family (bit_contents family first length) ≡ Some (first, length)
unfolding prefix_of
prefix_again family first bits is =
    let w : ℕ = width family in
    let k : ℕ = bit_octets bits in
    let q : ℕ = first / 2 ^ (w - 8 * k) in
    let fit : 8 * bit_octets bits ≤ width family = octets_fit family bits is.0 in
    let small : 8 * bit_octets bits - bits ≤ 7 = omega arith in
    let len : length (be_octets k q) ≡ k = length-be_octets k q in
    let value : be_value (be_octets k q) ≡ q = be_value-be_octets k q (first_octets_below (width family) first (8 * bit_octets bits) fit is.1) in
    let back : first / 2 ^ (width family - 8 * bit_octets bits) * 2 ^ (width family - 8 * bit_octets bits) ≡ first = octets_back family first bits is in
    let bits_back : 8 * bit_octets bits - (8 * bit_octets bits - bits) ≡ bits = omega arith in
    let t1 : ltb 7 (8 * bit_octets bits - bits) ≡ false = le-ltb _ _ small in
    let t2 : ltb (8 * bit_octets bits) (8 * bit_octets bits - bits) ≡ false = le-ltb _ _ (omega arith) in
    let t3 : ltb (width family / 8) (bit_octets bits) ≡ false = le-ltb _ _ (omega (arith, fit)) in
    let t4 : eqb (first % 2 ^ (width family - bits)) 0 ≡ true = eq-eqb _ _ is.2 in
    rw (t1, len, t3, t2, value, back, bits_back, t4) refl

-- the first address that the octets begin
abbrev pub first_of : Family → List ℕ → ℕ
first_of family bs = be_value bs * 2 ^ (width family - 8 * length bs)

first_below : (family : Family) (bs : List ℕ) → AreOctets bs → 8 * length bs ≤ width family → first_of family bs < 2 ^ width family
first_below family bs are fit =
    let whole_width : 8 * length bs + (width family - 8 * length bs) ≡ width family = omega arith in
    subst (λ (m : ℕ). first_of family bs < 2 ^ m) whole_width (shl_below (be_value bs) (8 * length bs) (width family - 8 * length bs) (be_value_below bs are))

nothing_read : (family : Family) (bs : List ℕ) → (width family - 8 * length bs < 128 → ⊥) → first_of family bs ≡ 0
nothing_read family [] h = omega arith
nothing_read V4 (b ∷ bs) h = absurd (h (omega arith))
nothing_read V6 (b ∷ bs) h = absurd (h (omega arith))

-- the octets shifted to the front of the address, in 128 bits
pub shifted_is : (family : Family) (bs : List ℕ) (r : Option ℕ) → AreOctets bs → 8 * length bs ≤ width family → SomeIff r (width family - 8 * length bs < 128) (first_of family bs % 2 ^ 128) → unwrap_or r 0 ≡ first_of family bs
shifted_is family bs (Some n) are fit h =
    let small : first_of family bs < 2 ^ 128 = below_widest family (first_of family bs) (first_below family bs are fit) in
    omega (arith, h.1, small)
shifted_is family bs None are fit h = sym (nothing_read family bs h)

pub prefix_only : (family : Family) (c : List ℕ) (p : ℕ × ℕ) → AreOctets c → prefix_of family c ≡ Some p → (c ≡ bit_contents family p.0 p.1) × IsPrefix family p.0 p.1
unfolding prefix_of
prefix_only family [] p octets e = absurd cc
prefix_only family (unused ∷ bs) p octets e =
    elim (cases_lt 7 unused) [
      | inl many ↦ let e' = rw (lt-ltb 7 unused many) at e in absurd cc
      | inr few ↦ elim (cases_lt (width family / 8) (length bs)) [
        | inl wide ↦ let e' = rw (le-ltb 7 unused few, lt-ltb (width family / 8) (length bs) wide) at e in absurd cc
        | inr narrow ↦ elim (cases_lt (8 * length bs) unused) [
          | inl short ↦ let e' = rw (le-ltb 7 unused few, le-ltb (width family / 8) (length bs) narrow, lt-ltb (8 * length bs) unused short) at e in absurd cc
          | inr long ↦
              let e1 = rw (le-ltb 7 unused few, le-ltb (width family / 8) (length bs) narrow, le-ltb (8 * length bs) unused long) at e in
              let fit : 8 * length bs ≤ width family = omega (arith, narrow) in
              elim (cases_eq (first_of family bs % 2 ^ (width family - (8 * length bs - unused))) 0) [
                | inr set' ↦ let e2 = rw (ne_eqb _ 0 set') at e1 in absurd cc
                | inl zeros ↦
                    let e2 = rw (eq-eqb _ 0 zeros) at e1 in
                    let count : bit_octets (8 * length bs - unused) ≡ length bs = omega arith in
                    let unused_is : 8 * length bs - (8 * length bs - unused) ≡ unused = omega arith in
                    let shifted : first_of family bs / 2 ^ (width family - 8 * length bs) ≡ be_value bs = shl-shr (be_value bs) (width family - 8 * length bs) in
                    let parts : unused ∷ bs ≡ bit_contents family (first_of family bs) (8 * length bs - unused) =
                    rw (count, unused_is, shifted, be_octets-be_value bs octets.1) refl in
                    subst (λ (q : ℕ × ℕ). (unused ∷ bs ≡ bit_contents family q.0 q.1) × IsPrefix family q.0 q.1) (same_Some (first_of family bs, 8 * length bs - unused) p e2)
                    (parts, (omega arith, first_below family bs octets.1 fit, zeros))
              ]
        ]
      ]
    ]

-- what a prefix made of the parts is, or that there is none
pub prefix_made : (family : Family) (unused : ℕ) (bs : List ℕ) (first bits : ℕ) (r : Option Prefix) → AreOctets bs → unused ≤ 7 → length bs ≤ width family / 8 → unused ≤ 8 * length bs
    → first ≡ first_of family bs → bits ≡ 8 * length bs - unused → (IsSome r ↔ IsPrefix family first bits) → IfSome r (λ p. (p.family ≡ family) × (p.first ≡ first) × (p.length ≡ bits))
    → ReadsAs (λ p. (p.first, p.length)) r (prefix_of family (unused ∷ bs))
unfolding prefix_of
prefix_made family unused bs first bits (Some p) are few narrow long first_is bits_is some parts =
    let is : IsPrefix family first bits = some.0 refl in
    let zeros : first_of family bs % 2 ^ (width family - (8 * length bs - unused)) ≡ 0 = rw (← first_is, ← bits_is) is.2 in
    rw (le-ltb 7 unused few, le-ltb (width family / 8) (length bs) narrow, le-ltb (8 * length bs) unused long, eq-eqb _ 0 zeros, ← first_is, ← bits_is, parts.1, parts.2) refl
prefix_made family unused bs first bits None are few narrow long first_is bits_is some parts =
    let fit : 8 * length bs ≤ width family = omega (arith, narrow) in
    let set' : first_of family bs % 2 ^ (width family - (8 * length bs - unused)) ≡ 0 → ⊥ = λ zeros.
    false≢true (some.1 (omega (arith, bits_is, fit), rw first_is (first_below family bs are fit), rw (first_is, bits_is) zeros)) in
    rw (le-ltb 7 unused few, le-ltb (width family / 8) (length bs) narrow, le-ltb (8 * length bs) unused long, ne_eqb _ 0 set') refl

-- ---- writing

nothing_left : (family : Family) (first k : ℕ) → first < 2 ^ width family → (width family - 8 * k < 128 → ⊥) → first / 2 ^ (width family - 8 * k) ≡ 0
nothing_left V4 first k below none = absurd (none (omega arith))
nothing_left V6 first k below none =
    let all : 128 - 8 * k ≡ 128 = omega (arith, λ (lt : 128 - 8 * k < 128). none lt) in
    rw all (omega (arith, below))

pub shifted_down : (family : Family) (first bits : ℕ) (r : Option ℕ) → first < 2 ^ width family
    → SomeIff r (width family - 8 * bit_octets bits < 128) (first / 2 ^ (width family - 8 * bit_octets bits)) → unwrap_or r 0 ≡ first / 2 ^ (width family - 8 * bit_octets bits)
shifted_down family first bits (Some n) below h = h.1
shifted_down family first bits None below h = sym (nothing_left family first (bit_octets bits) below h)

pub first_octets_fit : (family : Family) (first bits : ℕ) → bits ≤ width family → first < 2 ^ width family → first / 2 ^ (width family - 8 * bit_octets bits) < 2 ^ (8 * bit_octets bits)
first_octets_fit family first bits long below = first_octets_below (width family) first (8 * bit_octets bits) (octets_fit family bits long) below

-- the parts of a BIT STRING, one pushed after the other
pub bit_string_pushed : (out : List ℕ) (family : Family) (first bits : ℕ)
    → (((out ++ 3 ∷ []) ++ length_octets (1 + bit_octets bits)) ++ (8 * bit_octets bits - bits) ∷ []) ++ be_octets (bit_octets bits) (first / 2 ^ (width family - 8 * bit_octets bits)) ≡ out ++ bit_string family first bits
bit_string_pushed out family first bits =
    let len : length (bit_contents family first bits) ≡ 1 + bit_octets bits = omega (arith, length-be_octets (bit_octets bits) (first / 2 ^ (width family - 8 * bit_octets bits))) in
    rw len (simp append_assoc)
