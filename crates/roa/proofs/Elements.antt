-- Identifier, length and contents: what is read is what is written, and no element begins another.
use Rattle.roa.proofs.Vocabulary.{◌≡◌, ℕ, ◌+◌, ◌*◌, ◌/◌, ◌%◌, ◌<◌, ◌≤◌, false, cond, ltb, eqb, List, [], ◌∷◌, ◌++◌, length, take, drop, Some, None, refl, sym, ap, subst, ◌∙◌, inl, inr, append_assoc, arith, cases_lt, cases_eq, lt-ltb, le-ltb, eq-eqb, ne_eqb, same_Some, option_and_then_some, take_at, drop_at, take-append-drop, length-append, length-take, append-nil, nil_from_length, length_octets, element, AreOctets}
use Rattle.roa.specs.steps.Reading.{one_octet_at, two_octets_at, length_at, contents_at, element_at, sole_element}
use Rattle.roa.proofs.Octets.{AreOctets-take, AreOctets-drop}

-- what a reader took from the front
pub record Takes (bytes text rest : List ℕ) : Type 0 where
  pub parts : bytes ≡ text ++ rest
  pub rest_octets : AreOctets rest

pub Takes-then : (a x b y c : List ℕ) → Takes a x b → Takes b y c → Takes a (x ++ y) c
Takes-then a x b y c p q = record { parts = p.parts ∙ ap (λ (t : List ℕ). x ++ t) q.parts ∙ sym (append_assoc x y c); rest_octets = q.rest_octets }

-- ---- lengths

abbrev TakesLength : List ℕ → ℕ × List ℕ → Type 0
TakesLength bytes p = Takes bytes (length_octets p.0) p.1 × (p.0 < 65536)

pub length_again : (n : ℕ) (rest : List ℕ) → n < 65536 → length_at (length_octets n ++ rest) ≡ Some (n, rest)
unfolding length_at one_octet_at two_octets_at
length_again n rest h =
    elim (cases_lt n 128) [
      | inl lt ↦ let e = lt-ltb n 128 lt in rw (e, e) refl
      | inr ge ↦ elim (cases_lt n 256) [
        | inl lt ↦ rw (le-ltb n 128 ge, lt-ltb n 256 lt, le-ltb n 128 ge) refl
        | inr ge' ↦
            let high : n / 256 ≡ 0 → ⊥ = λ z. omega arith in
            let whole_again : 256 * (n / 256) + n % 256 ≡ n = omega arith in
            rw (le-ltb n 128 ge, le-ltb n 256 ge', ne_eqb (n / 256) 0 high, whole_again) refl
      ]
    ]

two_octets_only : (b : ℕ) (bs : List ℕ) (p : ℕ × List ℕ) → AreOctets bs → b ≡ 130 → two_octets_at bs ≡ Some p → TakesLength (b ∷ bs) p
unfolding two_octets_at
two_octets_only b [] p octets is e = absurd cc
two_octets_only b (x ∷ []) p octets is e = absurd cc
two_octets_only b (x ∷ y ∷ rest) p octets is e =
    elim (cases_eq x 0) [
      | inl z ↦ let e' = rw (eq-eqb x 0 z) at e in absurd cc
      | inr nz ↦
          let e' = rw (ne_eqb x 0 nz) at e in
          let high : (256 * x + y) / 256 ≡ x = omega (arith, octets.1.0) in
          let low : (256 * x + y) % 256 ≡ y = omega (arith, octets.1.0) in
          let small : 256 ≤ 256 * x + y = omega (arith, nz) in
          let bound : 256 * x + y < 65536 = omega (arith, octets.0, octets.1.0) in
          let parts : b ∷ x ∷ y ∷ rest ≡ length_octets (256 * x + y) ++ rest = rw (le-ltb (256 * x + y) 128 (omega (arith, small)), le-ltb (256 * x + y) 256 small, high, low, is) refl in
          subst (λ (q : ℕ × List ℕ). TakesLength (b ∷ x ∷ y ∷ rest) q) (same_Some (256 * x + y, rest) p e') (record { parts = parts; rest_octets = octets.1.1 }, bound)
    ]

one_octet_only : (b : ℕ) (bs : List ℕ) (p : ℕ × List ℕ) → AreOctets bs → b ≡ 129 → one_octet_at bs ≡ Some p → TakesLength (b ∷ bs) p
unfolding one_octet_at
one_octet_only b [] p octets is e = absurd cc
one_octet_only b (n ∷ rest) p octets is e =
    elim (cases_lt n 128) [
      | inl lt ↦ let e' = rw (lt-ltb n 128 lt) at e in absurd cc
      | inr ge ↦
          let e' = rw (le-ltb n 128 ge) at e in
          let parts : b ∷ n ∷ rest ≡ length_octets n ++ rest = rw (le-ltb n 128 ge, lt-ltb n 256 octets.0, is) refl in
          subst (λ (q : ℕ × List ℕ). TakesLength (b ∷ n ∷ rest) q) (same_Some (n, rest) p e') (record { parts = parts; rest_octets = octets.1 }, omega (arith, octets.0))
    ]

length_only : (bytes : List ℕ) (p : ℕ × List ℕ) → AreOctets bytes → length_at bytes ≡ Some p → TakesLength bytes p
unfolding length_at
length_only [] p octets e = absurd cc
length_only (b ∷ bs) p octets e =
    elim (cases_lt b 128) [
      | inl lt ↦
          let e' = rw (lt-ltb b 128 lt) at e in
          let parts : b ∷ bs ≡ length_octets b ++ bs = rw (lt-ltb b 128 lt) refl in
          subst (λ (q : ℕ × List ℕ). TakesLength (b ∷ bs) q) (same_Some (b, bs) p e') (record { parts = parts; rest_octets = octets.1 }, omega arith)
      | inr ge ↦ elim (cases_eq b 129) [
        | inl is ↦ one_octet_only b bs p octets.1 is (rw (le-ltb b 128 ge, eq-eqb b 129 is) at e)
        | inr not ↦ elim (cases_eq b 130) [
          | inl is ↦ two_octets_only b bs p octets.1 is (rw (le-ltb b 128 ge, ne_eqb b 129 not, eq-eqb b 130 is) at e)
          | inr not' ↦ let e' = rw (le-ltb b 128 ge, ne_eqb b 129 not, ne_eqb b 130 not') at e in absurd cc
        ]
      ]
    ]

-- ---- elements

pub element_again : (tag : ℕ) (contents rest : List ℕ) → length contents < 65536 → element_at tag (element tag contents ++ rest) ≡ Some (contents, rest)
unfolding element_at contents_at
element_again tag contents rest h =
    let regrouped : (length_octets (length contents) ++ contents) ++ rest ≡ length_octets (length contents) ++ (contents ++ rest) = append_assoc (length_octets (length contents)) contents rest in
    let long : ltb (length (contents ++ rest)) (length contents) ≡ false = le-ltb _ _ (omega (arith, length-append contents rest)) in
    rw (eq-eqb tag tag refl, regrouped, length_again (length contents) (contents ++ rest) h, long, take_at contents rest (length contents) refl, drop_at contents rest (length contents) refl) refl

-- what was taken, and how long its contents are
abbrev pub TakesElement : ℕ → List ℕ → List ℕ × List ℕ → Type 0
TakesElement tag bytes p = Takes bytes (element tag p.0) p.1 × AreOctets p.0 × (length p.0 < 65536)

contents_only : (bytes : List ℕ) (p : List ℕ × List ℕ) → AreOctets bytes → contents_at bytes ≡ Some p → Takes bytes (length_octets (length p.0) ++ p.0) p.1 × AreOctets p.0 × (length p.0 < 65536)
unfolding contents_at
contents_only bytes p octets e =
    option_and_then_some (λ (n : ℕ × List ℕ). cond (ltb (length n.1) n.0) None (Some (take n.0 n.1, drop n.0 n.1))) (length_at bytes) p e (λ n found e1.
    let l = length_only bytes n octets found in
    elim (cases_lt (length n.1) n.0) [
      | inl short ↦ let e' = rw (lt-ltb (length n.1) n.0 short) at e1 in absurd cc
      | inr long ↦
          let e' = rw (le-ltb (length n.1) n.0 long) at e1 in
          let len : length (take n.0 n.1) ≡ n.0 = omega (arith, length-take n.0 n.1) in
          let second : Takes n.1 (take n.0 n.1) (drop n.0 n.1) = record { parts = sym (take-append-drop n.0 n.1); rest_octets = AreOctets-drop n.0 n.1 l.0.rest_octets } in
          let both = Takes-then bytes (length_octets n.0) n.1 (take n.0 n.1) (drop n.0 n.1) l.0 second in
          let made : Takes bytes (length_octets (length (take n.0 n.1)) ++ take n.0 n.1) (drop n.0 n.1) = subst (λ (k : ℕ). Takes bytes (length_octets k ++ take n.0 n.1) (drop n.0 n.1)) (sym len) both in
          subst (λ (q : List ℕ × List ℕ). Takes bytes (length_octets (length q.0) ++ q.0) q.1 × AreOctets q.0 × (length q.0 < 65536)) (same_Some (take n.0 n.1, drop n.0 n.1) p e') (made, AreOctets-take n.0 n.1 l.0.rest_octets, omega (arith, len, l.1))
    ])

pub element_only : (tag : ℕ) (bytes : List ℕ) (p : List ℕ × List ℕ) → AreOctets bytes → element_at tag bytes ≡ Some p → TakesElement tag bytes p
unfolding element_at
element_only tag [] p octets e = absurd cc
element_only tag (t ∷ rest) p octets e =
    elim (cases_eq t tag) [
      | inl is ↦
          let c = contents_only rest p octets.1 (rw (eq-eqb t tag is) at e) in
          let parts : t ∷ rest ≡ element tag p.0 ++ p.1 = rw is (ap (λ (bs : List ℕ). tag ∷ bs) c.0.parts) in
          (record { parts = parts; rest_octets = c.0.rest_octets }, c.1, c.2)
      | inr not ↦ let e' = rw (ne_eqb t tag not) at e in absurd cc
    ]

-- an element that is all of the octets
pub whole_again : (tag : ℕ) (contents : List ℕ) → length contents < 65536 → sole_element tag (element tag contents) ≡ Some contents
unfolding sole_element
whole_again tag contents h =
    let one : element_at tag (element tag contents) ≡ Some (contents, []) = ap (element_at tag) (sym (append-nil (element tag contents))) ∙ element_again tag contents [] h in
    rw one refl

pub whole_only : (tag : ℕ) (bytes contents : List ℕ) → AreOctets bytes → sole_element tag bytes ≡ Some contents → (bytes ≡ element tag contents) × AreOctets contents × (length contents < 65536)
unfolding sole_element
whole_only tag bytes contents octets e =
    option_and_then_some (λ (p : List ℕ × List ℕ). cond (eqb (length p.1) 0) (Some p.0) None) (element_at tag bytes) contents e (λ p found e1.
    elim (cases_eq (length p.1) 0) [
      | inl none ↦
          let e' = rw (eq-eqb (length p.1) 0 none) at e1 in
          let t = element_only tag bytes p octets found in
          let nothing : p.1 ≡ [] = nil_from_length p.1 none in
          let parts : bytes ≡ element tag p.0 = t.0.parts ∙ ap (λ (r : List ℕ). element tag p.0 ++ r) nothing ∙ append-nil (element tag p.0) in
          subst (λ (c : List ℕ). (bytes ≡ element tag c) × AreOctets c × (length c < 65536)) (same_Some p.0 contents e') (parts, t.1, t.2)
      | inr some ↦ let e' = rw (ne_eqb (length p.1) 0 some) at e1 in absurd cc
    ])
