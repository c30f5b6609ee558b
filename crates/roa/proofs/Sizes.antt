-- How long the parts of a content are: no length comes near 2 ^ 16.
use Rattle.roa.proofs.Vocabulary.{◌≡◌, ℕ, ◌+◌, ◌-◌, ◌*◌, ◌/◌, ◌^◌, ◌<◌, ◌≤◌, not, List, [], ◌∷◌, ◌++◌, length, refl, ap, inl, inr, arith, flat_map, cases_lt, lt-ltb, le-ltb, length-append, flat_map-cons, width, family_eq, Family, V4, V6, family_octets, of_family, length_octets, element, be_octets, integer_len, integer, bit_octets, bit_string, max_length, roa_ip_address, entry_octets, roa_ip_address_family}
use Rattle.std.proofs.lemmas.List.Filters.{length-filter_both}
use Rattle.addr.specs.declared.roa_prefix.RoaPrefix.{RoaPrefix as Entry}
use Rattle.roa.proofs.Octets.{length-be_octets}
use Rattle.roa.proofs.Primitives.{integer_len_bound, bit_octets_bound, bit_contents}

length-length_octets : (n : ℕ) → length (length_octets n) ≤ 3
length-length_octets n =
    elim (cases_lt n 128) [
      | inl lt ↦ rw (lt-ltb n 128 lt) (omega arith)
      | inr ge ↦ elim (cases_lt n 256) [
        | inl lt ↦ rw (le-ltb n 128 ge, lt-ltb n 256 lt) (omega arith)
        | inr ge2 ↦ rw (le-ltb n 128 ge, le-ltb n 256 ge2) (omega arith)
      ]
    ]

pub length-element : (tag : ℕ) (contents : List ℕ) → length (element tag contents) ≤ length contents + 4
length-element tag contents = omega (arith, length-append (length_octets (length contents)) contents, length-length_octets (length contents))

pub length-integer : (n : ℕ) → length (integer n) ≤ 9
length-integer n = omega (arith, length-element 2 (be_octets (integer_len n) n), length-be_octets (integer_len n) n, integer_len_bound n)

pub length-bit_contents : (family : Family) (first bits : ℕ) → bits ≤ width family → length (bit_contents family first bits) ≤ 17
length-bit_contents family first bits h = omega (arith, length-be_octets (bit_octets bits) (first / 2 ^ (width family - 8 * bit_octets bits)), bit_octets_bound family bits h)

length-max_length : (bits max : ℕ) → length (max_length bits max) ≤ 9
length-max_length bits max =
    elim (cases_lt bits max) [
      | inl lt ↦ rw (lt-ltb bits max lt) (length-integer max)
      | inr ge ↦ rw (le-ltb bits max ge) (omega arith)
    ]

pub length-entry_contents : (family : Family) (first bits max : ℕ) → bits ≤ width family → length (bit_string family first bits ++ max_length bits max) ≤ 30
length-entry_contents family first bits max h =
    omega (arith, length-append (bit_string family first bits) (max_length bits max), length-element 3 (bit_contents family first bits), length-bit_contents family first bits h, length-max_length bits max)

pub length-roa_ip_address : (family : Family) (first bits max : ℕ) → bits ≤ width family → length (roa_ip_address family first bits max) ≤ 34
length-roa_ip_address family first bits max h =
    omega (arith, length-element 48 (bit_string family first bits ++ max_length bits max), length-entry_contents family first bits max h)

pub length-addresses : (es : List Entry) → length (flat_map entry_octets es) ≤ 34 * length es
length-addresses [] = omega arith
length-addresses (e ∷ es) =
    let head : length (entry_octets e) ≤ 34 = length-roa_ip_address e.prefix.family e.prefix.first e.prefix.length e.max e.prefix.length_fits in
    omega (arith, ap length (flat_map-cons entry_octets e es), length-append (entry_octets e) (flat_map entry_octets es), head, length-addresses es)

pub length-of_family : (family : Family) (es : List Entry) → length (of_family family es) ≤ length es
length-of_family family es = omega (arith, length-filter_both (λ (e : Entry). family_eq family e.prefix.family) (λ (e : Entry). not (family_eq family e.prefix.family)) (λ e. refl) es)

pub length-family_octets : (family : Family) → length (family_octets family) ≡ 2
length-family_octets V4 = refl
length-family_octets V6 = refl

-- ---- what is written for at most 64 entries

pub addresses_short : (family : Family) (es : List Entry) → length es ≤ 64 → length (flat_map entry_octets (of_family family es)) ≤ 2176
addresses_short family es few = omega (arith, few, length-of_family family es, length-addresses (of_family family es))

pub block_short : (octets addresses : List ℕ) → length octets ≡ 2 → length addresses ≤ 2176 → length (element 4 octets ++ element 48 addresses) ≤ 2200
block_short octets addresses two short = omega (arith, length-append (element 4 octets) (element 48 addresses), length-element 4 octets, length-element 48 addresses, two, short)

family_short : (family : Family) (es : List Entry) → length (flat_map entry_octets es) ≤ 2176 → length (roa_ip_address_family family es) ≤ 2204
family_short family [] short = omega arith
family_short family (e ∷ es) short =
    let block = block_short (family_octets family) (flat_map entry_octets (e ∷ es)) (length-family_octets family) short in
    omega (arith, block, length-element 48 (element 4 (family_octets family) ++ element 48 (flat_map entry_octets (e ∷ es))))

pub blocks_short : (es : List Entry) → length es ≤ 64 → length (roa_ip_address_family V4 (of_family V4 es) ++ roa_ip_address_family V6 (of_family V6 es)) ≤ 4408
blocks_short es few =
    let four = family_short V4 (of_family V4 es) (addresses_short V4 es few) in
    let six = family_short V6 (of_family V6 es) (addresses_short V6 es few) in
    omega (arith, length-append (roa_ip_address_family V4 (of_family V4 es)) (roa_ip_address_family V6 (of_family V6 es)), four, six)

pub fields_short : (number : ℕ) (blocks : List ℕ) → length blocks ≤ 4408 → length (integer number ++ element 48 blocks) < 65536
fields_short number blocks short = omega (arith, length-append (integer number) (element 48 blocks), length-integer number, length-element 48 blocks, short)
