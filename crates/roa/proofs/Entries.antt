-- Entries: what is read is what is written.
use Rattle.roa.proofs.Vocabulary.{◌≡◌, ℕ, zero, suc, ◌*◌, ◌^◌, ◌<◌, ◌≤◌, false, cond, ltb, leb, eqb, ◌&&◌, List, [], ◌∷◌, ◌++◌, length, Some, None, refl, sym, ap, subst, ◌∙◌, inl, inr, arith, flat_map, AllByRecursion, cases_lt, cases_eq, cases_Bool, lt-ltb, le-ltb, le-leb, eq-eqb, ne_eqb, ltb-true, leb-true, and_parts, same_Some, option_and_then_some, length-append, nil_from_length, flat_map-cons, width, IsPrefix, Family, width_small, be_octets, integer_len, integer, element, bit_string, max_length, roa_ip_address, ◌>>=◌, Numbers, element_at, sole_element, integer_of, prefix_of, AreOctets}
use Rattle.roa.specs.steps.Reading.{max_of, entry_of, entry_at, entries_in_octets}
use Rattle.roa.proofs.Octets.{length-be_octets}
use Rattle.roa.proofs.Elements.{Takes, element_again, element_only, whole_again, whole_only}
use Rattle.roa.proofs.Primitives.{integer_len_bound, integer_again, integer_only, prefix_again, prefix_only, bit_contents}
use Rattle.roa.proofs.Sizes.{length-bit_contents, length-entry_contents, length-roa_ip_address}

-- the facts that an entry of a content keeps
pub record IsEntry (family : Family) (n : Numbers) : Type 0 where
  pub same : n.family ≡ family
  pub is_prefix : IsPrefix family n.first n.length
  pub long : n.length ≤ n.max
  pub fits : n.max ≤ width family

abbrev pub numbers_octets : Numbers → List ℕ
numbers_octets n = roa_ip_address n.family n.first n.length n.max

-- ---- maxLength

max_again : (family : Family) (bits max : ℕ) → bits ≤ max → max ≤ width family → max_of family bits (max_length bits max) ≡ Some max
unfolding max_of
max_again family bits max long fits =
    elim (cases_lt bits max) [
      | inr ge ↦ let same : max ≡ bits = omega arith in rw (le-ltb bits max ge, same) refl
      | inl lt ↦
          let below : max < 2 ^ 32 = omega (arith, width_small family) in
          let size : length (be_octets (integer_len max) max) < 65536 = omega (arith, length-be_octets (integer_len max) max, integer_len_bound max) in
          let read : sole_element 2 (integer max) ≡ Some (be_octets (integer_len max) max) = whole_again 2 (be_octets (integer_len max) max) size in
          let some : eqb (length (integer max)) 0 ≡ false = ne_eqb _ 0 (λ z. omega (arith, z)) in
          rw (lt-ltb bits max lt, some, read, integer_again max below, lt-ltb bits max lt, le-leb max (width family) fits) refl
    ]

max_only : (family : Family) (bits : ℕ) (octets : List ℕ) (max : ℕ) → AreOctets octets → bits ≤ width family → max_of family bits octets ≡ Some max → (octets ≡ max_length bits max) × (bits ≤ max) × (max ≤ width family)
unfolding max_of
max_only family bits octets max are small e =
    elim (cases_eq (length octets) 0) [
      | inl none ↦
          let e' = rw (eq-eqb (length octets) 0 none) at e in
          let nothing : octets ≡ [] = nil_from_length octets none in
          let parts : octets ≡ max_length bits bits = nothing ∙ rw (le-ltb bits bits (omega arith)) refl in
          subst (λ (m : ℕ). (octets ≡ max_length bits m) × (bits ≤ m) × (m ≤ width family)) (same_Some bits max e') (parts, omega arith, small)
      | inr some ↦
          let e' = rw (ne_eqb (length octets) 0 some) at e in
          option_and_then_some (λ (contents : List ℕ). integer_of contents >>= λ m. cond (ltb bits m && leb m (width family)) (Some m) None) (sole_element 2 octets) max e' (λ contents found e1.
          option_and_then_some (λ (m : ℕ). cond (ltb bits m && leb m (width family)) (Some m) None) (integer_of contents) max e1 (λ m found' e2.
          let w = whole_only 2 octets contents are found in
          let i = integer_only contents m w.1 found' in
          elim (cases_Bool (ltb bits m && leb m (width family))) [
            | inl yes' ↦
                let e3 = rw yes' at e2 in
                let both = and_parts (ltb bits m) (leb m (width family)) yes' in
                let more : bits < m = ltb-true bits m both.0 in
                let parts : octets ≡ max_length bits m = rw both.0 (w.0 ∙ ap (λ (c : List ℕ). element 2 c) i.0) in
                subst (λ (k : ℕ). (octets ≡ max_length bits k) × (bits ≤ k) × (k ≤ width family)) (same_Some m max e3) (parts, omega arith, leb-true m (width family) both.1)
            | inr no' ↦ let e3 = rw no' at e2 in absurd cc
          ]))
    ]

-- ---- one entry

entry_of_again : (family : Family) (n : Numbers) → IsEntry family n → entry_of family (bit_string family n.first n.length ++ max_length n.length n.max) ≡ Some n
unfolding entry_of
entry_of_again family n is =
    let size : length (bit_contents family n.first n.length) < 65536 = omega (arith, length-bit_contents family n.first n.length is.is_prefix.0) in
    let bits : element_at 3 (element 3 (bit_contents family n.first n.length) ++ max_length n.length n.max) ≡ Some (bit_contents family n.first n.length, max_length n.length n.max) =
    element_again 3 (bit_contents family n.first n.length) (max_length n.length n.max) size in
    let made : n ≡ record { family = family; first = n.first; length = n.length; max = n.max } = ap (λ (f : Family). record { family = f; first = n.first; length = n.length; max = n.max }) is.same in
    rw (bits, prefix_again family n.first n.length is.is_prefix, max_again family n.length n.max is.long is.fits) (ap (λ (m : Numbers). Some m) (sym made))

entry_of_only : (family : Family) (contents : List ℕ) (n : Numbers) → AreOctets contents → entry_of family contents ≡ Some n → (contents ≡ bit_string family n.first n.length ++ max_length n.length n.max) × IsEntry family n
unfolding entry_of
entry_of_only family contents n are e =
    option_and_then_some (λ (bits : List ℕ × List ℕ). prefix_of family bits.0 >>= λ p. max_of family p.1 bits.1 >>= λ max. Some (record { family = family; first = p.0; length = p.1; max = max })) (element_at 3 contents) n e (λ bits found e1.
    option_and_then_some (λ (p : ℕ × ℕ). max_of family p.1 bits.1 >>= λ max. Some (record { family = family; first = p.0; length = p.1; max = max })) (prefix_of family bits.0) n e1 (λ p found_p e2.
    option_and_then_some (λ (max : ℕ). Some (record { family = family; first = p.0; length = p.1; max = max })) (max_of family p.1 bits.1) n e2 (λ max found_max e3.
    let t = element_only 3 contents bits are found in
    let q = prefix_only family bits.0 p t.1 found_p in
    let m = max_only family p.1 bits.1 max t.0.rest_octets q.1.0 found_max in
    let made : Numbers = record { family = family; first = p.0; length = p.1; max = max } in
    let parts : contents ≡ bit_string family p.0 p.1 ++ max_length p.1 max = t.0.parts ∙ ap (λ (c : List ℕ). element 3 c ++ bits.1) q.0 ∙ ap (λ (c : List ℕ). bit_string family p.0 p.1 ++ c) m.0 in
    let is : IsEntry family made = record { same = refl; is_prefix = q.1; long = m.1; fits = m.2 } in
    subst (λ (k : Numbers). (contents ≡ bit_string family k.first k.length ++ max_length k.length k.max) × IsEntry family k) (same_Some made n e3) (parts, is))))

pub entry_again : (family : Family) (n : Numbers) (rest : List ℕ) → IsEntry family n → entry_at family (numbers_octets n ++ rest) ≡ Some (n, rest)
unfolding entry_at
entry_again family n rest is =
    let size : length (bit_string n.family n.first n.length ++ max_length n.length n.max) < 65536 =
    rw is.same (omega (arith, length-entry_contents family n.first n.length n.max is.is_prefix.0)) in
    let contents : element_at 48 (numbers_octets n ++ rest) ≡ Some (bit_string n.family n.first n.length ++ max_length n.length n.max, rest) =
    element_again 48 (bit_string n.family n.first n.length ++ max_length n.length n.max) rest size in
    let entry : entry_of family (bit_string n.family n.first n.length ++ max_length n.length n.max) ≡ Some n = ap (λ (f : Family). entry_of family (bit_string f n.first n.length ++ max_length n.length n.max)) is.same ∙ entry_of_again family n is in
    rw (contents, entry) refl

pub entry_only : (family : Family) (bytes : List ℕ) (p : Numbers × List ℕ) → AreOctets bytes → entry_at family bytes ≡ Some p → Takes bytes (numbers_octets p.0) p.1 × IsEntry family p.0
unfolding entry_at
entry_only family bytes p are e =
    option_and_then_some (λ (c : List ℕ × List ℕ). entry_of family c.0 >>= λ n. Some (n, c.1)) (element_at 48 bytes) p e (λ c found e1.
    option_and_then_some (λ (n : Numbers). Some (n, c.1)) (entry_of family c.0) p e1 (λ n found_n e2.
    let t = element_only 48 bytes c are found in
    let o = entry_of_only family c.0 n t.1 found_n in
    let parts : Takes bytes (numbers_octets n) c.1 = record { parts = t.0.parts ∙ ap (λ (x : List ℕ). element 48 x ++ c.1) o.0 ∙ ap (λ (f : Family). roa_ip_address f n.first n.length n.max ++ c.1) (sym o.1.same); rest_octets = t.0.rest_octets } in
    subst (λ (q : Numbers × List ℕ). Takes bytes (numbers_octets q.0) q.1 × IsEntry family q.0) (same_Some (n, c.1) p e2) (parts, o.1)))

-- ---- the entries of a family

pub length-entries : (family : Family) (ns : List Numbers) → AllByRecursion (IsEntry family) ns → length (flat_map numbers_octets ns) ≤ 34 * length ns
length-entries family [] all = omega arith
length-entries family (n ∷ ns) all =
    let head : length (numbers_octets n) ≤ 34 = length-roa_ip_address n.family n.first n.length n.max (rw all.0.same all.0.is_prefix.0) in
    omega (arith, ap length (flat_map-cons numbers_octets n ns), length-append (numbers_octets n) (flat_map numbers_octets ns), head, length-entries family ns all.1)

entry_some : (n : Numbers) (rest : List ℕ) → length (numbers_octets n ++ rest) ≡ 0 → ⊥
entry_some n rest e = omega (arith, e)

pub entries_again : (room : ℕ) (family : Family) (ns : List Numbers) → length ns ≤ room → AllByRecursion (IsEntry family) ns → entries_in_octets room family (flat_map numbers_octets ns) ≡ Some ns
unfolding entries_in_octets
entries_again zero family [] h all = refl
entries_again (suc room) family [] h all = refl
entries_again zero family (n ∷ ns) h all = absurd (omega (arith, h))
entries_again (suc room) family (n ∷ ns) h all =
    let some : eqb (length (numbers_octets n ++ flat_map numbers_octets ns)) 0 ≡ false = ne_eqb _ 0 (entry_some n (flat_map numbers_octets ns)) in
    rw (flat_map-cons numbers_octets n ns, some, entry_again family n (flat_map numbers_octets ns) all.0, entries_again room family ns (omega (arith, h)) all.1) refl

pub entries_only : (room : ℕ) (family : Family) (bytes : List ℕ) (ns : List Numbers) → AreOctets bytes → entries_in_octets room family bytes ≡ Some ns → (bytes ≡ flat_map numbers_octets ns) × AllByRecursion (IsEntry family) ns × (length ns ≤ room)
unfolding entries_in_octets
entries_only zero family bytes ns are e =
    elim (cases_eq (length bytes) 0) [
      | inl none ↦
          let e' = rw (eq-eqb (length bytes) 0 none) at e in
          subst (λ (ms : List Numbers). (bytes ≡ flat_map numbers_octets ms) × AllByRecursion (IsEntry family) ms × (length ms ≤ 0)) (same_Some [] ns e') (nil_from_length bytes none, tt, omega arith)
      | inr some ↦ let e' = rw (ne_eqb (length bytes) 0 some) at e in absurd cc
    ]
entries_only (suc room) family bytes ns are e =
    elim (cases_eq (length bytes) 0) [
      | inl none ↦
          let e' = rw (eq-eqb (length bytes) 0 none) at e in
          subst (λ (ms : List Numbers). (bytes ≡ flat_map numbers_octets ms) × AllByRecursion (IsEntry family) ms × (length ms ≤ suc room)) (same_Some [] ns e') (nil_from_length bytes none, tt, omega arith)
      | inr some ↦
          let e' = rw (ne_eqb (length bytes) 0 some) at e in
          option_and_then_some (λ (entry : Numbers × List ℕ). entries_in_octets room family entry.1 >>= λ others. Some (entry.0 ∷ others)) (entry_at family bytes) ns e' (λ entry found e1.
          option_and_then_some (λ (others : List Numbers). Some (entry.0 ∷ others)) (entries_in_octets room family entry.1) ns e1 (λ others found_others e2.
          let t = entry_only family bytes entry are found in
          let o = entries_only room family entry.1 others t.0.rest_octets found_others in
          let parts : bytes ≡ flat_map numbers_octets (entry.0 ∷ others) = t.0.parts ∙ ap (λ (r : List ℕ). numbers_octets entry.0 ++ r) o.0 ∙ sym (flat_map-cons numbers_octets entry.0 others) in
          subst (λ (ms : List Numbers). (bytes ≡ flat_map numbers_octets ms) × AllByRecursion (IsEntry family) ms × (length ms ≤ suc room)) (same_Some (entry.0 ∷ others) ns e2) (parts, (t.1, o.1), omega (arith, o.2))))
    ]
