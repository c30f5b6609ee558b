-- The content of a route origin authorization (RFC 9582 section 4), and which octets are its own by
-- the distinguished encoding rules (X.690).
use Rattle.std.specs.Prelude.{◌≡◌, ℕ, ◌+◌, ◌-◌, ◌*◌, ◌^◌, ◌<◌, ◌≤◌, ◌⊎◌, Bool, true, false, ◌&&◌, ◌==◌, List, [], ◌∷◌, ◌++◌, length, filter, count_by}
use Rattle.std.specs.declared.cmp.Ordering.{Ordering}
use Rattle.std.specs.declared.cmp.Ordering.TheVariants.{Less}
use Rattle.std.specs.Ordering.{ordering_then, nat_cmp}
use Rattle.std.specs.List.{list_all}
use Rattle.addr.specs.Family.{width, family_eq}
use Rattle.addr.specs.Address.{prefix_eq, fits_max_length}
use Rattle.addr.specs.Order.{prefix_cmp}
use Rattle.addr.specs.declared.asn.Asn.{Asn}
use Rattle.addr.specs.declared.family.Family.{Family}
use Rattle.addr.specs.declared.family.Family.TheVariants.{V4, V6}
use Rattle.addr.specs.declared.roa_prefix.RoaPrefix.{RoaPrefix as Entry}
use Rattle.roa.specs.declared.content.TheConstants.Content.{MAX_ENTRIES}
use Rattle.roa.specs.declared.content.ContentFault.{ContentFault}
use Rattle.roa.specs.declared.content.ContentFault.TheVariants.{Empty, TooMany, MaxLength, Repeated}

-- asID, and the entries of ipAddrBlocks with their families (RFC 9582 section 4)
pub record RouteOriginAttestation : Type 0 where
  pub asn : Asn
  pub entries : List Entry

-- ---- which contents there are

-- entries rise by prefix (family, first address and length) and then by maxLength
abbrev pub entry_order : Entry → Entry → Ordering
entry_order a b = ordering_then (prefix_cmp a.prefix b.prefix) (nat_cmp a.max b.max)

-- one prefix and one maxLength
abbrev pub entry_eq : Entry → Entry → Bool
entry_eq a b = prefix_eq a.prefix b.prefix && (a.max == b.max)

-- the maxLength is neither below the prefix's length nor over the family's width
abbrev pub is_in_range : Entry → Bool
is_in_range e = fits_max_length e.prefix e.max

-- each entry is before the next one
abbrev pub Rises : List Entry → Type 0
Rises [] = Unit {0}
Rises (a ∷ []) = Unit {0}
Rises (a ∷ b ∷ rest) = (entry_order a b ≡ Less) × Rises (b ∷ rest)

-- 1 to MAX_ENTRIES entries
pub record AreInCount (entries : List Entry) : Type 0 where
  pub some : 0 < length entries
  pub few : length entries ≤ MAX_ENTRIES

-- the entries of a content
pub record AreCanonical (entries : List Entry) : Type 0 where
  pub count : AreInCount entries
  pub in_range : list_all is_in_range entries ≡ true
  pub rising : Rises entries

-- the AS number has 32 bits, and the entries are those of a content
pub record IsContent (content : RouteOriginAttestation) : Type 0 where
  pub asn : content.asn.0 < 2 ^ 32
  pub entries : AreCanonical content.entries

-- the fault is the lowest one of the entries, over all of them
abbrev pub IsLowestFault : List Entry → ContentFault → Type 0
IsLowestFault entries Empty = entries ≡ []
IsLowestFault entries TooMany = MAX_ENTRIES < length entries
IsLowestFault entries MaxLength = AreInCount entries × (list_all is_in_range entries ≡ false)
IsLowestFault entries Repeated = AreInCount entries × (list_all is_in_range entries ≡ true) × (e : Entry) × (2 ≤ count_by (entry_eq e) entries)

-- the number of a fault, from 1, the lowest first
abbrev pub content_fault_number : ContentFault → ℕ
content_fault_number Empty = 1
content_fault_number TooMany = 2
content_fault_number MaxLength = 3
content_fault_number Repeated = 4

-- ---- DER (X.690)

abbrev pub AreOctets : List ℕ → Type 0
AreOctets [] = Unit {0}
AreOctets (b ∷ bs) = (b < 256) × AreOctets bs

-- the number that the octets spell, the most significant one first
abbrev pub be_value : List ℕ → ℕ
be_value [] = 0
be_value (b ∷ bs) = b * 2 ^ (8 * length bs) + be_value bs

-- The octets spell the number, and the first of them is not zero.
abbrev pub SpellsShortest : ℕ → List ℕ → Type 0
SpellsShortest n [] = ⊥
SpellsShortest n (b ∷ bs) = (0 < b) × AreOctets (b ∷ bs) × (be_value (b ∷ bs) ≡ n)

-- A definite length in the fewest octets (sections 8.1.3.4, 8.1.3.5 and 10.1): a length below 128 is
-- one octet. Of a greater one the first octet is 128 and the count of those after it, which spell it.
abbrev pub IsLength : ℕ → List ℕ → Type 0
IsLength n [] = ⊥
IsLength n (first ∷ rest) = ((n < 128) × (first ≡ n) × (rest ≡ [])) ⊎ ((128 ≤ n) × (first ≡ 128 + length rest) × SpellsShortest n rest)

-- identifier, length and contents (section 8.1.1)
pub record IsElement (tag : ℕ) (contents octets : List ℕ) : Type 0 where
  pub len : List ℕ
  pub is_length : IsLength (length contents) len
  pub parts : octets ≡ tag ∷ len ++ contents

-- SEQUENCE (section 8.9)
abbrev pub IsSequence : List ℕ → List ℕ → Type 0
IsSequence contents octets = IsElement 48 contents octets

-- OCTET STRING (section 8.7)
abbrev pub IsOctetString : List ℕ → List ℕ → Type 0
IsOctetString contents octets = IsElement 4 contents octets

-- The contents are the two's complement of the number, which is not negative: the first bit is 0. The
-- first nine bits are not all 0 (sections 8.3.2 and 8.3.3).
abbrev pub IsTwosComplement : ℕ → List ℕ → Type 0
IsTwosComplement n [] = ⊥
IsTwosComplement n (a ∷ []) = (a < 128) × (n ≡ a)
IsTwosComplement n (a ∷ b ∷ rest) = (a < 128) × ((0 < a) ⊎ (128 ≤ b)) × AreOctets (a ∷ b ∷ rest) × (be_value (a ∷ b ∷ rest) ≡ n)

-- INTEGER (section 8.3)
pub record IsInteger (n : ℕ) (octets : List ℕ) : Type 0 where
  pub contents : List ℕ
  pub is : IsTwosComplement n contents
  pub element : IsElement 2 contents octets

-- The contents count the unused bits at the end of the last octet, at most 7, and then have so many of
-- the address's first bits. The other bits of the address are 0, and so are the unused ones (sections
-- 8.6.2 and 11.2.1).
abbrev pub AreFirstBits : Family → ℕ → ℕ → List ℕ → Type 0
AreFirstBits family address bits [] = ⊥
AreFirstBits family address bits (unused ∷ octets) =
    (unused < 8) × (8 * length octets ≡ bits + unused) × AreOctets octets × (be_value octets * 2 ^ (width family - 8 * length octets) ≡ address)

-- BIT STRING (section 8.6)
pub record IsBitString (family : Family) (address bits : ℕ) (octets : List ℕ) : Type 0 where
  pub contents : List ℕ
  pub are : AreFirstBits family address bits contents
  pub element : IsElement 3 contents octets

-- ---- RFC 9582 section 4

-- maxLength is there exactly where it is over the prefix's length
abbrev pub IsMaxLength : ℕ → ℕ → List ℕ → Type 0
IsMaxLength length max octets = ((max ≤ length) × (octets ≡ [])) ⊎ ((length < max) × IsInteger max octets)

-- ROAIPAddress
pub record IsRoaIpAddress (e : Entry) (octets : List ℕ) : Type 0 where
  pub address : List ℕ
  pub max_length : List ℕ
  pub is_address : IsBitString e.prefix.family e.prefix.first e.prefix.length address
  pub is_max_length : IsMaxLength e.prefix.length e.max max_length
  pub sequence : IsSequence (address ++ max_length) octets

abbrev pub AreRoaIpAddresses : List Entry → List ℕ → Type 0
AreRoaIpAddresses [] octets = octets ≡ []
AreRoaIpAddresses (e ∷ es) octets = (first : List ℕ) × (rest : List ℕ) × IsRoaIpAddress e first × AreRoaIpAddresses es rest × (octets ≡ first ++ rest)

-- addressFamily: the number of IPv4 is 1, and that of IPv6 is 2
abbrev pub family_octets : Family → List ℕ
family_octets V4 = 0 ∷ 1 ∷ []
family_octets V6 = 0 ∷ 2 ∷ []

-- ROAIPAddressFamily
pub record IsRoaIpAddressFamily (family : Family) (entries : List Entry) (octets : List ℕ) : Type 0 where
  pub address_family : List ℕ
  pub addresses_contents : List ℕ
  pub addresses : List ℕ
  pub is_address_family : IsOctetString (family_octets family) address_family
  pub are_addresses : AreRoaIpAddresses entries addresses_contents
  pub addresses_sequence : IsSequence addresses_contents addresses
  pub sequence : IsSequence (address_family ++ addresses) octets

-- the block of a family, which is there exactly where there are entries of it
abbrev pub IsBlock : Family → List Entry → List ℕ → Type 0
IsBlock family [] octets = octets ≡ []
IsBlock family (e ∷ es) octets = IsRoaIpAddressFamily family (e ∷ es) octets

abbrev pub of_family : Family → List Entry → List Entry
of_family family entries = filter (λ e. family_eq family e.prefix.family) entries

-- RouteOriginAttestation: asID and ipAddrBlocks, for DER leaves the version out, which is the default
pub record Encodes (content : RouteOriginAttestation) (octets : List ℕ) : Type 0 where
  pub as_id : List ℕ
  pub four : List ℕ
  pub six : List ℕ
  pub ip_addr_blocks : List ℕ
  pub is_as_id : IsInteger content.asn.0 as_id
  pub is_four : IsBlock V4 (of_family V4 content.entries) four
  pub is_six : IsBlock V6 (of_family V6 content.entries) six
  pub are_blocks : IsSequence (four ++ six) ip_addr_blocks
  pub sequence : IsSequence (as_id ++ ip_addr_blocks) octets
