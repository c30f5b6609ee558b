-- The one list of octets of a content, as a function of it.
use Rattle.std.specs.Prelude.{◌≡◌, ℕ, zero, suc, ◌+◌, ◌-◌, ◌*◌, ◌/◌, ◌%◌, ◌^◌, nat_lt, if◌then◌else◌, List, [], ◌∷◌, ◌++◌, length}
use Rattle.std.specs.List.{flat_map}
use Rattle.addr.specs.Family.{width}
use Rattle.addr.specs.declared.family.Family.{Family}
use Rattle.addr.specs.declared.family.Family.TheVariants.{V4, V6}
use Rattle.addr.specs.declared.prefix.Prefix.{Prefix}
use Rattle.addr.specs.declared.roa_prefix.RoaPrefix.{RoaPrefix as Entry}
use Rattle.roa.specs.RoaContent.{RouteOriginAttestation, of_family, family_octets}

-- ---- DER

-- a number in so many octets, the most significant one first
abbrev pub be_octets : ℕ → ℕ → List ℕ
be_octets zero n = []
be_octets (suc k) n = n / 2 ^ (8 * k) ∷ be_octets k (n % 2 ^ (8 * k))

-- a definite length in the fewest octets (X.690 sections 8.1.3 and 10.1), below 2 ^ 16
abbrev pub length_octets : ℕ → List ℕ
length_octets n =
    if nat_lt n 128 then n ∷ []
    else (if nat_lt n 256 then 129 ∷ n ∷ [] else 130 ∷ n / 256 ∷ n % 256 ∷ [])

-- identifier, length and contents (X.690 section 8.1.1)
abbrev pub element : ℕ → List ℕ → List ℕ
element tag contents = tag ∷ length_octets (length contents) ++ contents

-- SEQUENCE (X.690 section 8.9)
abbrev pub sequence : List ℕ → List ℕ
sequence contents = element 48 contents

-- how many octets the two's complement of a number takes at least, below 2 ^ 39: the first bit is
-- the sign (X.690 section 8.3.2)
abbrev pub integer_len : ℕ → ℕ
integer_len n =
    if nat_lt n (2 ^ 7) then 1
    else (if nat_lt n (2 ^ 15) then 2
    else (if nat_lt n (2 ^ 23) then 3
    else (if nat_lt n (2 ^ 31) then 4 else 5)))

-- INTEGER (X.690 section 8.3)
abbrev pub integer : ℕ → List ℕ
integer n = element 2 (be_octets (integer_len n) n)

-- OCTET STRING (X.690 section 8.7)
abbrev pub octet_string : List ℕ → List ℕ
octet_string octets = element 4 octets

-- how many octets so many bits take at least
abbrev pub bit_octets : ℕ → ℕ
bit_octets bits = (bits + 7) / 8

-- BIT STRING (X.690 sections 8.6 and 11.2): the count of unused bits, then the address's first bits
-- in the fewest octets. Those of a prefix are zero from its length on.
abbrev pub bit_string : Family → ℕ → ℕ → List ℕ
bit_string family first length =
    element 3 ((8 * bit_octets length - length) ∷ be_octets (bit_octets length) (first / 2 ^ (width family - 8 * bit_octets length)))

-- ---- RFC 9582 section 4

-- maxLength, where it is over the prefix's length
abbrev pub max_length : ℕ → ℕ → List ℕ
max_length length max = if nat_lt length max then integer max else []

-- ROAIPAddress
abbrev pub roa_ip_address : Family → ℕ → ℕ → ℕ → List ℕ
roa_ip_address family first length max = sequence (bit_string family first length ++ max_length length max)

abbrev pub prefix_octets : Prefix → List ℕ
prefix_octets p = bit_string p.family p.first p.length

abbrev pub entry_contents : Entry → List ℕ
entry_contents e = prefix_octets e.prefix ++ max_length e.prefix.length e.max

abbrev pub entry_octets : Entry → List ℕ
entry_octets e = roa_ip_address e.prefix.family e.prefix.first e.prefix.length e.max

-- ROAIPAddressFamily, where there are entries of the family
abbrev pub roa_ip_address_family : Family → List Entry → List ℕ
roa_ip_address_family family [] = []
roa_ip_address_family family (e ∷ rest) =
    sequence (octet_string (family_octets family) ++ sequence (flat_map entry_octets (e ∷ rest)))

-- ipAddrBlocks
abbrev pub ip_addr_blocks : List Entry → List ℕ
ip_addr_blocks entries = sequence (roa_ip_address_family V4 (of_family V4 entries) ++ roa_ip_address_family V6 (of_family V6 entries))

-- RouteOriginAttestation
unfoldable pub content_octets : RouteOriginAttestation → List ℕ
content_octets content = sequence (integer content.asn.0 ++ ip_addr_blocks content.entries)

abbrev pub AreOctetsOf : RouteOriginAttestation → List ℕ → Type 0
AreOctetsOf content octets = octets ≡ content_octets content
