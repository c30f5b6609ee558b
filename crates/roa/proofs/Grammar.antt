-- The grammar relates a content to the octets that the function gives, and to no others.
use Rattle.roa.proofs.Vocabulary.{◌≡◌, ℕ, ◌-◌, ◌*◌, ◌/◌, ◌^◌, ◌<◌, ◌≤◌, Bool, true, false, cond, List, [], ◌∷◌, ◌++◌, length, refl, sym, ap, subst, ◌∙◌, inl, inr, arith, flat_map, list_all, cases_lt, lt-ltb, le-ltb, and_parts, and_from, shl-shr, flat_map-cons, width, family_eq, IsPrefix, Family, V4, V6, width_small, RouteOriginAttestation, IsContent, is_in_range, be_value, IsElement, IsInteger, AreFirstBits, IsBitString, IsMaxLength, IsRoaIpAddress, AreRoaIpAddresses, family_octets, IsBlock, of_family, Encodes, be_octets, length_octets, element, sequence, integer_len, integer, octet_string, bit_octets, bit_string, max_length, entry_octets, roa_ip_address_family, AreOctetsOf}
use Rattle.addr.specs.declared.roa_prefix.RoaPrefix.{RoaPrefix as Entry}
use Rattle.roa.specs.ContentOctets.{content_octets}
use Rattle.roa.proofs.Octets.{length-be_octets, be_octets-be_value, be_value-be_octets, AreOctets-be_octets}
use Rattle.roa.proofs.Primitives.{integer_len_bound, bit_contents, first_octets_fit, octets_back}
use Rattle.roa.proofs.Sizes.{length-bit_contents, length-entry_contents, length-family_octets, addresses_short, block_short, blocks_short, fields_short}
use Rattle.roa.proofs.Shortest.{length_is, is_length_octets, complement_is, is_complement}
use Rattle.roa.proofs.Contents.{entry_is}

-- ---- elements

element_is : (tag : ℕ) (contents octets : List ℕ) → length contents < 65536 → IsElement tag contents octets → octets ≡ element tag contents
element_is tag contents octets short is = is.parts ∙ ap (λ (len : List ℕ). tag ∷ len ++ contents) (length_is (length contents) is.len short is.is_length)

is_element : (tag : ℕ) (contents : List ℕ) → length contents < 65536 → IsElement tag contents (element tag contents)
is_element tag contents short = record { len = length_octets (length contents); is_length = is_length_octets (length contents) short; parts = refl }

-- an element whose contents are known
known_element : (tag : ℕ) (contents known octets : List ℕ) → contents ≡ known → length known < 65536 → IsElement tag contents octets → octets ≡ element tag known
known_element tag contents known octets same short is = element_is tag known octets short (subst (λ (c : List ℕ). IsElement tag c octets) same is)

-- ---- INTEGER

integer_short : (n : ℕ) → length (be_octets (integer_len n) n) < 65536
integer_short n = omega (arith, length-be_octets (integer_len n) n, integer_len_bound n)

integer_is : (n : ℕ) (octets : List ℕ) → n < 2 ^ 32 → IsInteger n octets → octets ≡ integer n
integer_is n octets small is = known_element 2 is.contents (be_octets (integer_len n) n) octets (complement_is n is.contents small is.is) (integer_short n) is.element

is_integer : (n : ℕ) → n < 2 ^ 32 → IsInteger n (integer n)
is_integer n small = record { contents = be_octets (integer_len n) n; is = is_complement n small; element = is_element 2 (be_octets (integer_len n) n) (integer_short n) }

-- ---- BIT STRING

bits_are : (family : Family) (first bits : ℕ) (contents : List ℕ) → AreFirstBits family first bits contents → contents ≡ bit_contents family first bits
bits_are family first bits [] are = absurd are
bits_are family first bits (unused ∷ octets) are =
    let count : bit_octets bits ≡ length octets = omega arith in
    let unused_is : 8 * length octets - bits ≡ unused = omega arith in
    let shifted : first / 2 ^ (width family - 8 * length octets) ≡ be_value octets = ap (λ (a : ℕ). a / 2 ^ (width family - 8 * length octets)) (sym are.3) ∙ shl-shr (be_value octets) (width family - 8 * length octets) in
    rw (count, unused_is, shifted, be_octets-be_value octets are.2) refl

are_bits : (family : Family) (first bits : ℕ) → IsPrefix family first bits → AreFirstBits family first bits (bit_contents family first bits)
are_bits family first bits is =
    let below = first_octets_fit family first bits is.0 is.1 in
    let len : length (be_octets (bit_octets bits) (first / 2 ^ (width family - 8 * bit_octets bits))) ≡ bit_octets bits = length-be_octets (bit_octets bits) (first / 2 ^ (width family - 8 * bit_octets bits)) in
    let value : be_value (be_octets (bit_octets bits) (first / 2 ^ (width family - 8 * bit_octets bits))) ≡ first / 2 ^ (width family - 8 * bit_octets bits) = be_value-be_octets (bit_octets bits) (first / 2 ^ (width family - 8 * bit_octets bits)) below in
    let back : be_value (be_octets (bit_octets bits) (first / 2 ^ (width family - 8 * bit_octets bits))) * 2 ^ (width family - 8 * length (be_octets (bit_octets bits) (first / 2 ^ (width family - 8 * bit_octets bits)))) ≡ first =
    rw (len, value) (octets_back family first bits is) in
    (omega arith, rw len (omega arith), AreOctets-be_octets (bit_octets bits) (first / 2 ^ (width family - 8 * bit_octets bits)) below, back)

bit_short : (family : Family) (first bits : ℕ) → bits ≤ width family → length (bit_contents family first bits) < 65536
bit_short family first bits long = omega (arith, length-bit_contents family first bits long)

bit_string_is : (family : Family) (first bits : ℕ) (octets : List ℕ) → bits ≤ width family → IsBitString family first bits octets → octets ≡ bit_string family first bits
bit_string_is family first bits octets long is = known_element 3 is.contents (bit_contents family first bits) octets (bits_are family first bits is.contents is.are) (bit_short family first bits long) is.element

is_bit_string : (family : Family) (first bits : ℕ) → IsPrefix family first bits → IsBitString family first bits (bit_string family first bits)
is_bit_string family first bits is = record { contents = bit_contents family first bits; are = are_bits family first bits is; element = is_element 3 (bit_contents family first bits) (bit_short family first bits is.0) }

-- ---- maxLength

max_length_is : (bits max : ℕ) (octets : List ℕ) → max < 2 ^ 32 → IsMaxLength bits max octets → octets ≡ max_length bits max
max_length_is bits max octets small (inl is) = rw (le-ltb bits max is.0) is.1
max_length_is bits max octets small (inr is) = rw (lt-ltb bits max is.0) (integer_is max octets small is.1)

is_max_length : (bits max : ℕ) → max < 2 ^ 32 → IsMaxLength bits max (max_length bits max)
is_max_length bits max small =
    elim (cases_lt bits max) [
      | inl lt ↦ rw (lt-ltb bits max lt) (inr (lt, is_integer max small))
      | inr ge ↦ rw (le-ltb bits max ge) (inl (ge, refl))
    ]

-- ---- ROAIPAddress

max_small : (e : Entry) → is_in_range e ≡ true → e.max < 2 ^ 32
max_small e h = omega (arith, (entry_is e h).fits, width_small e.prefix.family)

entry_short : (e : Entry) → length (bit_string e.prefix.family e.prefix.first e.prefix.length ++ max_length e.prefix.length e.max) < 65536
entry_short e = omega (arith, length-entry_contents e.prefix.family e.prefix.first e.prefix.length e.max e.prefix.length_fits)

address_is : (e : Entry) (octets : List ℕ) → is_in_range e ≡ true → IsRoaIpAddress e octets → octets ≡ entry_octets e
address_is e octets h is =
    let parts : is.address ++ is.max_length ≡ bit_string e.prefix.family e.prefix.first e.prefix.length ++ max_length e.prefix.length e.max =
    ap (λ (x : List ℕ). x ++ is.max_length) (bit_string_is e.prefix.family e.prefix.first e.prefix.length is.address e.prefix.length_fits is.is_address)
    ∙ ap (λ (x : List ℕ). bit_string e.prefix.family e.prefix.first e.prefix.length ++ x) (max_length_is e.prefix.length e.max is.max_length (max_small e h) is.is_max_length) in
    known_element 48 (is.address ++ is.max_length) (bit_string e.prefix.family e.prefix.first e.prefix.length ++ max_length e.prefix.length e.max) octets parts (entry_short e) is.sequence

is_address : (e : Entry) → is_in_range e ≡ true → IsRoaIpAddress e (entry_octets e)
is_address e h = record {
  address = bit_string e.prefix.family e.prefix.first e.prefix.length;
  max_length = max_length e.prefix.length e.max;
  is_address = is_bit_string e.prefix.family e.prefix.first e.prefix.length (entry_is e h).is_prefix;
  is_max_length = is_max_length e.prefix.length e.max (max_small e h);
  sequence = is_element 48 (bit_string e.prefix.family e.prefix.first e.prefix.length ++ max_length e.prefix.length e.max) (entry_short e);
}

addresses_are : (es : List Entry) (octets : List ℕ) → list_all is_in_range es ≡ true → AreRoaIpAddresses es octets → octets ≡ flat_map entry_octets es
addresses_are [] octets all are = are
addresses_are (e ∷ es) octets all are =
    let both = and_parts (is_in_range e) (list_all is_in_range es) all in
    are.4 ∙ ap (λ (x : List ℕ). x ++ are.1) (address_is e are.0 both.0 are.2) ∙ ap (λ (x : List ℕ). entry_octets e ++ x) (addresses_are es are.1 both.1 are.3) ∙ sym (flat_map-cons entry_octets e es)

are_addresses : (es : List Entry) → list_all is_in_range es ≡ true → AreRoaIpAddresses es (flat_map entry_octets es)
are_addresses [] all = refl
are_addresses (e ∷ es) all =
    let both = and_parts (is_in_range e) (list_all is_in_range es) all in
    (entry_octets e, flat_map entry_octets es, is_address e both.0, are_addresses es both.1, flat_map-cons entry_octets e es)

-- ---- ROAIPAddressFamily

octet_string_is : (family : Family) (octets : List ℕ) → IsElement 4 (family_octets family) octets → octets ≡ octet_string (family_octets family)
octet_string_is family octets is = element_is 4 (family_octets family) octets (omega (arith, length-family_octets family)) is

block_is : (family : Family) (es : List Entry) (octets : List ℕ) → list_all is_in_range es ≡ true → length (flat_map entry_octets es) ≤ 2176 → IsBlock family es octets → octets ≡ roa_ip_address_family family es
block_is family [] octets all short is = is
block_is family (e ∷ es) octets all short is =
    let family_is = octet_string_is family is.address_family is.is_address_family in
    let contents_are = addresses_are (e ∷ es) is.addresses_contents all is.are_addresses in
    let sequence_is = known_element 48 is.addresses_contents (flat_map entry_octets (e ∷ es)) is.addresses contents_are (omega (arith, short)) is.addresses_sequence in
    let parts : is.address_family ++ is.addresses ≡ octet_string (family_octets family) ++ sequence (flat_map entry_octets (e ∷ es)) =
    ap (λ (x : List ℕ). x ++ is.addresses) family_is ∙ ap (λ (x : List ℕ). octet_string (family_octets family) ++ x) sequence_is in
    known_element 48 (is.address_family ++ is.addresses) (octet_string (family_octets family) ++ sequence (flat_map entry_octets (e ∷ es))) octets parts
    (omega (arith, block_short (family_octets family) (flat_map entry_octets (e ∷ es)) (length-family_octets family) short)) is.sequence

is_block : (family : Family) (es : List Entry) → list_all is_in_range es ≡ true → length (flat_map entry_octets es) ≤ 2176 → IsBlock family es (roa_ip_address_family family es)
is_block family [] all short = refl
is_block family (e ∷ es) all short = record {
  address_family = octet_string (family_octets family);
  addresses_contents = flat_map entry_octets (e ∷ es);
  addresses = sequence (flat_map entry_octets (e ∷ es));
  is_address_family = is_element 4 (family_octets family) (omega (arith, length-family_octets family));
  are_addresses = are_addresses (e ∷ es) all;
  addresses_sequence = is_element 48 (flat_map entry_octets (e ∷ es)) (omega (arith, short));
  sequence = is_element 48 (octet_string (family_octets family) ++ sequence (flat_map entry_octets (e ∷ es)))
      (omega (arith, block_short (family_octets family) (flat_map entry_octets (e ∷ es)) (length-family_octets family) short));
}

-- ---- RouteOriginAttestation

in_range_of : (family : Family) (es : List Entry) → list_all is_in_range es ≡ true → list_all is_in_range (of_family family es) ≡ true
in_range_of family [] all = refl
in_range_of family (e ∷ es) all =
    let both = and_parts (is_in_range e) (list_all is_in_range es) all in
    let rest = in_range_of family es both.1 in
    kept (family_eq family e.prefix.family) both.0 rest
  where
    kept : (b : Bool) → is_in_range e ≡ true → list_all is_in_range (of_family family es) ≡ true → list_all is_in_range (cond b (e ∷ of_family family es) (of_family family es)) ≡ true
    kept true one rest = and_from (is_in_range e) (list_all is_in_range (of_family family es)) one rest
    kept false one rest = rest

-- the octets that the grammar relates to a content are those that the function gives
pub encodes_is : (content : RouteOriginAttestation) (octets : List ℕ) → IsContent content → Encodes content octets → AreOctetsOf content octets
unfolding content_octets
encodes_is content octets is e =
    let few : length content.entries ≤ 64 = is.entries.count.few in
    let number = integer_is content.asn.0 e.as_id is.asn e.is_as_id in
    let four = block_is V4 (of_family V4 content.entries) e.four (in_range_of V4 content.entries is.entries.in_range) (addresses_short V4 content.entries few) e.is_four in
    let six = block_is V6 (of_family V6 content.entries) e.six (in_range_of V6 content.entries is.entries.in_range) (addresses_short V6 content.entries few) e.is_six in
    let both : e.four ++ e.six ≡ roa_ip_address_family V4 (of_family V4 content.entries) ++ roa_ip_address_family V6 (of_family V6 content.entries) =
    ap (λ (x : List ℕ). x ++ e.six) four ∙ ap (λ (x : List ℕ). roa_ip_address_family V4 (of_family V4 content.entries) ++ x) six in
    let short = blocks_short content.entries few in
    let blocks = known_element 48 (e.four ++ e.six) (roa_ip_address_family V4 (of_family V4 content.entries) ++ roa_ip_address_family V6 (of_family V6 content.entries)) e.ip_addr_blocks both (omega (arith, short)) e.are_blocks in
    let parts : e.as_id ++ e.ip_addr_blocks ≡ integer content.asn.0 ++ sequence (roa_ip_address_family V4 (of_family V4 content.entries) ++ roa_ip_address_family V6 (of_family V6 content.entries)) =
    ap (λ (x : List ℕ). x ++ e.ip_addr_blocks) number ∙ ap (λ (x : List ℕ). integer content.asn.0 ++ x) blocks in
    known_element 48 (e.as_id ++ e.ip_addr_blocks) (integer content.asn.0 ++ sequence (roa_ip_address_family V4 (of_family V4 content.entries) ++ roa_ip_address_family V6 (of_family V6 content.entries))) octets parts
    (fields_short content.asn.0 (roa_ip_address_family V4 (of_family V4 content.entries) ++ roa_ip_address_family V6 (of_family V6 content.entries)) short) e.sequence

is_encoded_by : (content : RouteOriginAttestation) → IsContent content → Encodes content (content_octets content)
unfolding content_octets
is_encoded_by content is =
    let few : length content.entries ≤ 64 = is.entries.count.few in
    let short = blocks_short content.entries few in
    record {
      as_id = integer content.asn.0;
      four = roa_ip_address_family V4 (of_family V4 content.entries);
      six = roa_ip_address_family V6 (of_family V6 content.entries);
      ip_addr_blocks = sequence (roa_ip_address_family V4 (of_family V4 content.entries) ++ roa_ip_address_family V6 (of_family V6 content.entries));
      is_as_id = is_integer content.asn.0 is.asn;
      is_four = is_block V4 (of_family V4 content.entries) (in_range_of V4 content.entries is.entries.in_range) (addresses_short V4 content.entries few);
      is_six = is_block V6 (of_family V6 content.entries) (in_range_of V6 content.entries is.entries.in_range) (addresses_short V6 content.entries few);
      are_blocks = is_element 48 (roa_ip_address_family V4 (of_family V4 content.entries) ++ roa_ip_address_family V6 (of_family V6 content.entries)) (omega (arith, short));
      sequence = is_element 48 (integer content.asn.0 ++ sequence (roa_ip_address_family V4 (of_family V4 content.entries) ++ roa_ip_address_family V6 (of_family V6 content.entries)))
          (fields_short content.asn.0 (roa_ip_address_family V4 (of_family V4 content.entries) ++ roa_ip_address_family V6 (of_family V6 content.entries)) short);
    }

-- the grammar relates a content to the octets that the function gives
pub encodes_from : (content : RouteOriginAttestation) (octets : List ℕ) → IsContent content → AreOctetsOf content octets → Encodes content octets
encodes_from content octets is e = subst (λ (o : List ℕ). Encodes content o) (sym e) (is_encoded_by content is)
