-- The blocks of both families and the whole content: what is read is what is written.
use Rattle.roa.proofs.Vocabulary.{◌≡◌, ℕ, ◌+◌, ◌-◌, ◌*◌, ◌^◌, ◌<◌, ◌≤◌, false, cond, eqb, List, [], ◌∷◌, ◌++◌, length, Option, Some, None, refl, sym, ap, subst, ◌∙◌, inl, inr, arith, nat_eq, flat_map, AllByRecursion, cases_eq, cases_Bool, eq-eqb, ne_eqb, same_Some, option_and_then_some, length-append, append-nil, nil_from_length, flat_map-cons, Family, V4, V6, family_octets, be_octets, integer_len, integer, element, sequence, octet_string, ◌>>=◌, Numbers, sole_element, integer_of, entries_in_octets, entries_after, AreOctets}
use Rattle.std.specs.Cmp.Lexicographic.{pointwise, bytes_decides}
use Rattle.roa.specs.steps.Reading.{element_at, block_at, family_at, blocks_of, fields_of, content_of}
use Rattle.roa.proofs.Octets.{length-be_octets}
use Rattle.roa.proofs.Elements.{Takes, element_again, element_only, whole_again, whole_only}
use Rattle.roa.proofs.Primitives.{integer_len_bound, integer_again, integer_only}
use Rattle.roa.proofs.Sizes.{length-element, length-integer, length-family_octets}
use Rattle.roa.proofs.Entries.{IsEntry, numbers_octets, length-entries, entries_again, entries_only}

-- the block of a family, where there are entries of it
abbrev pub block_octets : Family → List Numbers → List ℕ
block_octets family [] = []
block_octets family (n ∷ ns) = sequence (octet_string (family_octets family) ++ sequence (flat_map numbers_octets (n ∷ ns)))

abbrev pub blocks_octets : List Numbers → List Numbers → List ℕ
blocks_octets four six = block_octets V4 four ++ block_octets V6 six

-- the entries of both families
pub record AreBlocks (four six : List Numbers) : Type 0 where
  pub four_are : AllByRecursion (IsEntry V4) four
  pub six_are : AllByRecursion (IsEntry V6) six
  pub few : length four + length six ≤ 64

abbrev pub spelled : ℕ → List Numbers → List Numbers → List ℕ
spelled number four six = sequence (integer number ++ sequence (blocks_octets four six))

-- ---- one block

block_again : (family : Family) (n : Numbers) (ns : List Numbers) (rest : List ℕ) → AllByRecursion (IsEntry family) (n ∷ ns) → length (n ∷ ns) ≤ 64 → block_at family (block_octets family (n ∷ ns) ++ rest) ≡ Some (flat_map numbers_octets (n ∷ ns), rest)
unfolding block_at
block_again family n ns rest all few =
    let addresses : List ℕ = flat_map numbers_octets (n ∷ ns) in
    let size : length (flat_map numbers_octets (n ∷ ns)) ≤ 2176 = omega (arith, length-entries family (n ∷ ns) all, few) in
    let size2 : length (sequence (flat_map numbers_octets (n ∷ ns))) ≤ 2180 = omega (arith, length-element 48 (flat_map numbers_octets (n ∷ ns)), size) in
    let size3 : length (octet_string (family_octets family) ++ sequence (flat_map numbers_octets (n ∷ ns))) < 65536 = omega (arith, size2, length-append (octet_string (family_octets family)) (sequence (flat_map numbers_octets (n ∷ ns))), length-element 4 (family_octets family), length-family_octets family) in
    let first : element_at 48 (block_octets family (n ∷ ns) ++ rest) ≡ Some (octet_string (family_octets family) ++ sequence (flat_map numbers_octets (n ∷ ns)), rest) =
    element_again 48 (octet_string (family_octets family) ++ sequence (flat_map numbers_octets (n ∷ ns))) rest size3 in
    let second : element_at 4 (octet_string (family_octets family) ++ sequence (flat_map numbers_octets (n ∷ ns))) ≡ Some (family_octets family, sequence (flat_map numbers_octets (n ∷ ns))) =
    element_again 4 (family_octets family) (sequence (flat_map numbers_octets (n ∷ ns))) (omega (arith, length-family_octets family)) in
    let third : sole_element 48 (sequence (flat_map numbers_octets (n ∷ ns))) ≡ Some (flat_map numbers_octets (n ∷ ns)) = whole_again 48 (flat_map numbers_octets (n ∷ ns)) (omega (arith, size)) in
    let some : eqb (length (flat_map numbers_octets (n ∷ ns))) 0 ≡ false = ne_eqb _ 0 (λ z. omega (arith, ap length (flat_map-cons numbers_octets n ns), z)) in
    rw (first, second, (bytes_decides (family_octets family) (family_octets family)).1 refl, third, some) refl

-- a block of IPv6 is none of IPv4
block_other : (n : Numbers) (ns : List Numbers) → AllByRecursion (IsEntry V6) (n ∷ ns) → length (n ∷ ns) ≤ 64 → block_at V4 (block_octets V6 (n ∷ ns)) ≡ None
unfolding block_at
block_other n ns all few =
    let size : length (flat_map numbers_octets (n ∷ ns)) ≤ 2176 = omega (arith, length-entries V6 (n ∷ ns) all, few) in
    let size2 : length (sequence (flat_map numbers_octets (n ∷ ns))) ≤ 2180 = omega (arith, length-element 48 (flat_map numbers_octets (n ∷ ns)), size) in
    let size3 : length (octet_string (family_octets V6) ++ sequence (flat_map numbers_octets (n ∷ ns))) < 65536 = omega (arith, size2, length-append (octet_string (family_octets V6)) (sequence (flat_map numbers_octets (n ∷ ns))), length-element 4 (family_octets V6), length-family_octets V6) in
    let first : element_at 48 (block_octets V6 (n ∷ ns)) ≡ Some (octet_string (family_octets V6) ++ sequence (flat_map numbers_octets (n ∷ ns)), []) =
    ap (element_at 48) (sym (append-nil (block_octets V6 (n ∷ ns)))) ∙ element_again 48 (octet_string (family_octets V6) ++ sequence (flat_map numbers_octets (n ∷ ns))) [] size3 in
    let second : element_at 4 (octet_string (family_octets V6) ++ sequence (flat_map numbers_octets (n ∷ ns))) ≡ Some (family_octets V6, sequence (flat_map numbers_octets (n ∷ ns))) =
    element_again 4 (family_octets V6) (sequence (flat_map numbers_octets (n ∷ ns))) (omega arith) in
    rw (first, second) refl

block_none : (family : Family) → block_at family [] ≡ None
unfolding block_at element_at
block_none family = refl

abbrev TakesBlock : Family → List ℕ → List ℕ × List ℕ → Type 0
TakesBlock family bytes p = Takes bytes (sequence (octet_string (family_octets family) ++ sequence p.0)) p.1 × AreOctets p.0 × (length p.0 ≡ 0 → ⊥)

block_only : (family : Family) (bytes : List ℕ) (p : List ℕ × List ℕ) → AreOctets bytes → block_at family bytes ≡ Some p → TakesBlock family bytes p
unfolding block_at
block_only family bytes p are e =
    option_and_then_some (λ (b : List ℕ × List ℕ). element_at 4 b.0 >>= λ octets. cond (pointwise nat_eq octets.0 (family_octets family)) (sole_element 48 octets.1 >>= λ addresses. cond (eqb (length addresses) 0) None (Some (addresses, b.1))) None) (element_at 48 bytes) p e (λ b found e1.
    option_and_then_some (λ (octets : List ℕ × List ℕ). cond (pointwise nat_eq octets.0 (family_octets family)) (sole_element 48 octets.1 >>= λ addresses. cond (eqb (length addresses) 0) None (Some (addresses, b.1))) None) (element_at 4 b.0) p e1 (λ octets found2 e2.
    let t = element_only 48 bytes b are found in
    let f = element_only 4 b.0 octets t.1 found2 in
    elim (cases_Bool (pointwise nat_eq octets.0 (family_octets family))) [
      | inr other ↦ let e3 = rw other at e2 in absurd cc
      | inl same ↦
          let e3 = rw same at e2 in
          option_and_then_some (λ (addresses : List ℕ). cond (eqb (length addresses) 0) None (Some (addresses, b.1))) (sole_element 48 octets.1) p e3 (λ addresses found3 e4.
          let w = whole_only 48 octets.1 addresses f.0.rest_octets found3 in
          elim (cases_eq (length addresses) 0) [
            | inl none ↦ let e5 = rw (eq-eqb (length addresses) 0 none) at e4 in absurd cc
            | inr some ↦
                let e5 = rw (ne_eqb (length addresses) 0 some) at e4 in
                let inner : b.0 ≡ octet_string (family_octets family) ++ sequence addresses =
                f.0.parts ∙ ap (λ (x : List ℕ). element 4 x ++ octets.1) ((bytes_decides octets.0 (family_octets family)).0 same) ∙ ap (λ (x : List ℕ). octet_string (family_octets family) ++ x) w.0 in
                let parts : Takes bytes (sequence (octet_string (family_octets family) ++ sequence addresses)) b.1 =
                record { parts = t.0.parts ∙ ap (λ (x : List ℕ). element 48 x ++ b.1) inner; rest_octets = t.0.rest_octets } in
                subst (λ (q : List ℕ × List ℕ). TakesBlock family bytes q) (same_Some (addresses, b.1) p e5) (parts, w.1, some)
          ])
    ]))

-- ---- a family

family_some_again : (room : ℕ) (family : Family) (n : Numbers) (ns : List Numbers) (rest : List ℕ) → AllByRecursion (IsEntry family) (n ∷ ns) → length (n ∷ ns) ≤ room → room ≤ 64 → family_at room family (block_octets family (n ∷ ns) ++ rest) ≡ Some (n ∷ ns, rest)
unfolding family_at
family_some_again room family n ns rest all few small =
    rw (block_again family n ns rest all (omega (arith, few, small)), entries_again room family (n ∷ ns) few all) refl

family_none_again : (room : ℕ) (family : Family) (bytes : List ℕ) → block_at family bytes ≡ None → family_at room family bytes ≡ Some ([], bytes)
unfolding family_at
family_none_again room family bytes none = rw none refl

four_again : (four six : List Numbers) → AreBlocks four six → family_at 64 V4 (blocks_octets four six) ≡ Some (four, block_octets V6 six)
four_again (n ∷ ns) six are = family_some_again 64 V4 n ns (block_octets V6 six) are.four_are (omega (arith, are.few)) (omega arith)
four_again [] [] are = family_none_again 64 V4 [] (block_none V4)
four_again [] (n ∷ ns) are = family_none_again 64 V4 (block_octets V6 (n ∷ ns)) (block_other n ns are.six_are (omega (arith, are.few)))

six_again : (room : ℕ) (six : List Numbers) → AllByRecursion (IsEntry V6) six → length six ≤ room → room ≤ 64 → family_at room V6 (block_octets V6 six) ≡ Some (six, [])
six_again room [] all few small = family_none_again room V6 [] (block_none V6)
six_again room (n ∷ ns) all few small = ap (family_at room V6) (sym (append-nil (block_octets V6 (n ∷ ns)))) ∙ family_some_again room V6 n ns [] all few small

abbrev TakesFamily : ℕ → Family → List ℕ → List Numbers × List ℕ → Type 0
TakesFamily room family bytes p = Takes bytes (block_octets family p.0) p.1 × AllByRecursion (IsEntry family) p.0 × (length p.0 ≤ room)

block_of_entries : (family : Family) (ns : List Numbers) → (length (flat_map numbers_octets ns) ≡ 0 → ⊥) → sequence (octet_string (family_octets family) ++ sequence (flat_map numbers_octets ns)) ≡ block_octets family ns
block_of_entries family [] some = absurd (some refl)
block_of_entries family (n ∷ ns) some = refl

after_only : (room : ℕ) (family : Family) (bytes : List ℕ) (block : Option (List ℕ × List ℕ)) (p : List Numbers × List ℕ) → AreOctets bytes → block_at family bytes ≡ block → entries_after room family bytes block ≡ Some p → TakesFamily room family bytes p
after_only room family bytes None p are found e = subst (λ (q : List Numbers × List ℕ). TakesFamily room family bytes q) (same_Some ([], bytes) p e) (record { parts = refl; rest_octets = are }, tt, omega arith)
after_only room family bytes (Some b) p are found e =
    option_and_then_some (λ (entries : List Numbers). Some (entries, b.1)) (entries_in_octets room family b.0) p e (λ ns found2 e1.
    let t = block_only family bytes b are found in
    let o = entries_only room family b.0 ns t.1 found2 in
    let some : length (flat_map numbers_octets ns) ≡ 0 → ⊥ = λ z. t.2 (ap length o.0 ∙ z) in
    let same : sequence (octet_string (family_octets family) ++ sequence b.0) ≡ block_octets family ns =
    ap (λ (x : List ℕ). sequence (octet_string (family_octets family) ++ sequence x)) o.0 ∙ block_of_entries family ns some in
    let parts : Takes bytes (block_octets family ns) b.1 = record { parts = t.0.parts ∙ ap (λ (x : List ℕ). x ++ b.1) same; rest_octets = t.0.rest_octets } in
    subst (λ (q : List Numbers × List ℕ). TakesFamily room family bytes q) (same_Some (ns, b.1) p e1) (parts, o.1, o.2))

family_only : (room : ℕ) (family : Family) (bytes : List ℕ) (p : List Numbers × List ℕ) → AreOctets bytes → family_at room family bytes ≡ Some p → TakesFamily room family bytes p
unfolding family_at
family_only room family bytes p are e = after_only room family bytes (block_at family bytes) p are refl e

-- ---- both families

pub blocks_again : (four six : List Numbers) → AreBlocks four six → blocks_of (blocks_octets four six) ≡ Some (four ++ six)
unfolding blocks_of
blocks_again four six are =
    rw (four_again four six are, six_again (64 - length four) six are.six_are (omega (arith, are.few)) (omega arith)) refl

-- what a list of octets says, by its parts
pub record ReadsBlocks (bytes : List ℕ) (ns : List Numbers) : Type 0 where
  pub four : List Numbers
  pub six : List Numbers
  pub are : AreBlocks four six
  pub all_of : ns ≡ four ++ six
  pub parts : bytes ≡ blocks_octets four six

pub blocks_only : (bytes : List ℕ) (ns : List Numbers) → AreOctets bytes → blocks_of bytes ≡ Some ns → ReadsBlocks bytes ns
unfolding blocks_of
blocks_only bytes ns octets e =
    option_and_then_some (λ (four : List Numbers × List ℕ). family_at (64 - length four.0) V6 four.1 >>= λ six. cond (eqb (length six.1) 0) (Some (four.0 ++ six.0)) None) (family_at 64 V4 bytes) ns e (λ four found e1.
    option_and_then_some (λ (six : List Numbers × List ℕ). cond (eqb (length six.1) 0) (Some (four.0 ++ six.0)) None) (family_at (64 - length four.0) V6 four.1) ns e1 (λ six found2 e2.
    let f = family_only 64 V4 bytes four octets found in
    let s = family_only (64 - length four.0) V6 four.1 six f.0.rest_octets found2 in
    elim (cases_eq (length six.1) 0) [
      | inr more ↦ let e3 = rw (ne_eqb (length six.1) 0 more) at e2 in absurd cc
      | inl none ↦
          let e3 = rw (eq-eqb (length six.1) 0 none) at e2 in
          let nothing : six.1 ≡ [] = nil_from_length six.1 none in
          let second : four.1 ≡ block_octets V6 six.0 = s.0.parts ∙ ap (λ (r : List ℕ). block_octets V6 six.0 ++ r) nothing ∙ append-nil (block_octets V6 six.0) in
          let whole_of : bytes ≡ blocks_octets four.0 six.0 = f.0.parts ∙ ap (λ (r : List ℕ). block_octets V4 four.0 ++ r) second in
          record { four = four.0; six = six.0; are = record { four_are = f.1; six_are = s.1; few = omega (arith, f.2, s.2) }; all_of = sym (same_Some (four.0 ++ six.0) ns e3); parts = whole_of }
    ]))

-- ---- the content

length-block : (family : Family) (ns : List Numbers) → AllByRecursion (IsEntry family) ns → length (block_octets family ns) ≤ 34 * length ns + 14
length-block family [] all = omega arith
length-block family (n ∷ ns) all =
    let size : length (flat_map numbers_octets (n ∷ ns)) ≤ 34 * length (n ∷ ns) = length-entries family (n ∷ ns) all in
    let size2 : length (sequence (flat_map numbers_octets (n ∷ ns))) ≤ length (flat_map numbers_octets (n ∷ ns)) + 4 = length-element 48 (flat_map numbers_octets (n ∷ ns)) in
    let size3 : length (octet_string (family_octets family) ++ sequence (flat_map numbers_octets (n ∷ ns))) ≡ length (octet_string (family_octets family)) + length (sequence (flat_map numbers_octets (n ∷ ns))) = length-append (octet_string (family_octets family)) (sequence (flat_map numbers_octets (n ∷ ns))) in
    let size4 : length (octet_string (family_octets family)) ≤ 6 = omega (arith, length-element 4 (family_octets family), length-family_octets family) in
    omega (arith, size, size2, size3, size4, length-element 48 (octet_string (family_octets family) ++ sequence (flat_map numbers_octets (n ∷ ns))))

pub length-blocks : (four six : List Numbers) → AreBlocks four six → length (blocks_octets four six) ≤ 2204
length-blocks four six are = omega (arith, length-append (block_octets V4 four) (block_octets V6 six), length-block V4 four are.four_are, length-block V6 six are.six_are, are.few)

pub length-fields : (number : ℕ) (four six : List Numbers) → AreBlocks four six → length (integer number ++ sequence (blocks_octets four six)) < 65536
length-fields number four six are = omega (arith, length-append (integer number) (sequence (blocks_octets four six)), length-integer number, length-element 48 (blocks_octets four six), length-blocks four six are)

pub content_again : (number : ℕ) (four six : List Numbers) → number < 2 ^ 32 → AreBlocks four six → content_of (spelled number four six) ≡ Some (number, four ++ six)
unfolding content_of fields_of
content_again number four six small are =
    let fields : sole_element 48 (spelled number four six) ≡ Some (integer number ++ sequence (blocks_octets four six)) = whole_again 48 (integer number ++ sequence (blocks_octets four six)) (length-fields number four six are) in
    let asn : element_at 2 (integer number ++ sequence (blocks_octets four six)) ≡ Some (be_octets (integer_len number) number, sequence (blocks_octets four six)) =
    element_again 2 (be_octets (integer_len number) number) (sequence (blocks_octets four six)) (omega (arith, length-be_octets (integer_len number) number, integer_len_bound number)) in
    let blocks : sole_element 48 (sequence (blocks_octets four six)) ≡ Some (blocks_octets four six) = whole_again 48 (blocks_octets four six) (omega (arith, length-blocks four six are)) in
    rw (fields, asn, integer_again number small, blocks, blocks_again four six are) refl

pub record ReadsContent (bytes : List ℕ) (number : ℕ) (ns : List Numbers) : Type 0 where
  pub four : List Numbers
  pub six : List Numbers
  pub are : AreBlocks four six
  pub all_of : ns ≡ four ++ six
  pub small : number < 2 ^ 32
  pub parts : bytes ≡ spelled number four six

fields_only : (bytes : List ℕ) (p : ℕ × List ℕ) → AreOctets bytes → fields_of bytes ≡ Some p → (bytes ≡ sequence (integer p.0 ++ sequence p.1)) × (p.0 < 2 ^ 32) × AreOctets p.1
unfolding fields_of
fields_only bytes p octets e =
    option_and_then_some (λ (fields : List ℕ). element_at 2 fields >>= λ asn. integer_of asn.0 >>= λ number. sole_element 48 asn.1 >>= λ blocks. Some (number, blocks)) (sole_element 48 bytes) p e (λ fields found e1.
    option_and_then_some (λ (asn : List ℕ × List ℕ). integer_of asn.0 >>= λ number. sole_element 48 asn.1 >>= λ blocks. Some (number, blocks)) (element_at 2 fields) p e1 (λ asn found2 e2.
    option_and_then_some (λ (number : ℕ). sole_element 48 asn.1 >>= λ blocks. Some (number, blocks)) (integer_of asn.0) p e2 (λ number found3 e3.
    option_and_then_some (λ (blocks : List ℕ). Some (number, blocks)) (sole_element 48 asn.1) p e3 (λ blocks found4 e4.
    let w = whole_only 48 bytes fields octets found in
    let a = element_only 2 fields asn w.1 found2 in
    let i = integer_only asn.0 number a.1 found3 in
    let x = whole_only 48 asn.1 blocks a.0.rest_octets found4 in
    let inner : fields ≡ integer number ++ sequence blocks =
    a.0.parts ∙ ap (λ (c : List ℕ). element 2 c ++ asn.1) i.0 ∙ ap (λ (c : List ℕ). integer number ++ c) x.0 in
    subst (λ (q : ℕ × List ℕ). (bytes ≡ sequence (integer q.0 ++ sequence q.1)) × (q.0 < 2 ^ 32) × AreOctets q.1) (same_Some (number, blocks) p e4)
    (w.0 ∙ ap (λ (c : List ℕ). sequence c) inner, i.1, x.1)))))

pub content_only : (bytes : List ℕ) (p : ℕ × List Numbers) → AreOctets bytes → content_of bytes ≡ Some p → ReadsContent bytes p.0 p.1
unfolding content_of
content_only bytes p octets e =
    option_and_then_some (λ (fields : ℕ × List ℕ). blocks_of fields.1 >>= λ entries. Some (fields.0, entries)) (fields_of bytes) p e (λ fields found e1.
    option_and_then_some (λ (entries : List Numbers). Some (fields.0, entries)) (blocks_of fields.1) p e1 (λ entries found2 e2.
    let f = fields_only bytes fields octets found in
    let b = blocks_only fields.1 entries f.2 found2 in
    subst (λ (q : ℕ × List Numbers). ReadsContent bytes q.0 q.1) (same_Some (fields.0, entries) p e2)
    (record { four = b.four; six = b.six; are = b.are; all_of = b.all_of; small = f.1; parts = f.0 ∙ ap (λ (c : List ℕ). sequence (integer fields.0 ++ sequence c)) b.parts })))
