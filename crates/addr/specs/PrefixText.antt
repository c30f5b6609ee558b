-- The text of a prefix: the text of its address, `/` and its length (RFC 4632 section 3.1, RFC 4291 section 2.3).
use Rattle.std.specs.Prelude.{ℕ, zero, suc, ◌+◌, ◌-◌, ◌/◌, ◌%◌, ◌^◌, ◌≡◌, ◌<◌, ◌≤◌, ◌↔◌, Bool, not, ◌&&◌, List, [], ◌∷◌, ◌++◌, length, take, drop, replicate, slice_index, decimal, nat_le, nat_lt, ◌==◌, if◌then◌else◌, Option, Some, None, option_map, option_and_then}
use Rattle.std.specs.Char.{is_digit}
use Rattle.std.specs.List.{list_all, slice_split}
use Rattle.std.specs.Str.{bytes_eq}
use Rattle.std.specs.Str.Parse.{digits_value}
use Rattle.std.specs.Int.Digits.{number_from_digits}
use Rattle.std.specs.Net.Text.{ipv4_text, hex_groups_text, longest_zero_run}
use Rattle.std.proofs.Math.Decide.{dec_le, ℕ_discrete}
use Rattle.addr.specs.Family.{width}
use Rattle.addr.specs.declared.family.Family.{Family}
use Rattle.addr.specs.declared.family.Family.TheVariants.{V4, V6}
use Rattle.addr.specs.declared.prefix.Prefix.{Prefix}
use Rattle.addr.specs.declared.text.PrefixParts.{PrefixParts}
use Rattle.addr.specs.declared.text.PrefixFault.{PrefixFault}
use Rattle.addr.specs.declared.text.PrefixFault.TheVariants.{Shape, Spelling, Length, HostBits}

-- ---- the one spelling

-- the last `count` digits of a number in a base, the highest first
unfoldable pub digits_in : ℕ → ℕ → ℕ → List ℕ
digits_in base zero number = []
digits_in base (suc count) number = digits_in base count (number / base) ++ number % base ∷ []

-- the four octets of an IPv4 address
abbrev pub octets_of : ℕ → List ℕ
octets_of address = digits_in 0x100 4 address

-- the eight groups of 16 bits of an IPv6 address
abbrev pub groups_of : ℕ → List ℕ
groups_of address = digits_in 0x10000 8 address

-- IPv4: the octets in decimal with a dot between them. IPv6 (RFC 5952 section 4): the groups in lower-case hexadecimal
-- without leading zeros (4.1, 4.3) and a colon between them, and `::` in place of the longest run of at least two zero
-- groups, of equally long runs the first (4.2). No part is ever written in dotted decimal.
abbrev pub address_text : Family → ℕ → List ℕ
address_text V4 address = ipv4_text (octets_of address)
address_text V6 address = hex_groups_text (groups_of address)

-- the one spelling of the prefix of this family, first address and length
unfoldable pub spelling : Family → ℕ → ℕ → List ℕ
spelling family address len = address_text family address ++ 47 ∷ decimal len

-- ---- the loose shape

infixl 10 ◌>>=◌
abbrev pub ◌>>=◌ : {A B : Type 0} → Option A → (A → Option B) → Option B
found >>= next = option_and_then next found

-- the texts before and after the first separator
unfoldable pub cut_at : ℕ → List ℕ → Option (List ℕ × List ℕ)
cut_at separator [] = None
cut_at separator (c ∷ rest) =
    if c == separator then Some ([], rest)
    else option_map {T = List ℕ × List ℕ} (λ cut. (c ∷ cut.0, cut.1)) (cut_at separator rest)

-- `.`, `/` and `:`
abbrev pub dot : ℕ
dot = 46

abbrev pub slash : ℕ
slash = 47

abbrev pub colon : ℕ
colon = 58

-- the number that a text of one to `most` digits of the base writes
unfoldable pub short_number : ℕ → ℕ → List ℕ → Option ℕ
short_number base most text =
    if nat_le 1 (length text) && (nat_le (length text) most && list_all (λ c. is_digit c base) text)
    then Some (digits_value base text) else None

-- one to three decimal digits of at most 255
abbrev pub octet : List ℕ → Option ℕ
octet text = do
  number ← short_number 10 3 text
  if nat_le number 255 then Some number else None

-- four octets with a dot between them, as the number of their address
unfoldable pub dotted_address : List ℕ → Option ℕ
dotted_address text = do
  a ← cut_at dot text
  b ← cut_at dot a.1
  c ← cut_at dot b.1
  first ← octet a.0
  second ← octet b.0
  third ← octet c.0
  fourth ← octet c.1
  Some (number_from_digits 0x100 (first ∷ second ∷ third ∷ fourth ∷ []))

-- one to four hexadecimal digits of either case (RFC 4291 section 2.2)
abbrev pub group : List ℕ → Option ℕ
group text = short_number 16 4 text

-- each part read as a group
abbrev pub all_groups : List (List ℕ) → Option (List ℕ)
all_groups [] = Some []
all_groups (part ∷ parts) = do
  here ← group part
  others ← all_groups parts
  Some (here ∷ others)

-- groups with a colon between them; no text is no group
unfoldable pub colon_groups : List ℕ → Option (List ℕ)
colon_groups [] = Some []
colon_groups (c ∷ rest) = all_groups (slice_split (λ b. b == colon) (c ∷ rest))

-- the texts before and after the first `::`
unfoldable pub cut_at_gap : List ℕ → Option (List ℕ × List ℕ)
cut_at_gap [] = None
cut_at_gap (c ∷ rest) =
    if c == colon && (slice_index rest 0 == colon) then Some ([], drop 1 rest)
    else option_map {T = List ℕ × List ℕ} (λ cut. (c ∷ cut.0, cut.1)) (cut_at_gap rest)

-- eight groups
abbrev pub whole_groups : List ℕ → Option (List ℕ)
whole_groups text = do
  groups ← colon_groups text
  if length groups == 8 then Some groups else None

-- fewer than eight groups, on both sides of a `::` for the zero groups that are left out, at least one
abbrev pub gapped_groups : List ℕ → List ℕ → Option (List ℕ)
gapped_groups before after = do
  front ← colon_groups before
  back ← colon_groups after
  if nat_lt (length front + length back) 8
      then Some (front ++ replicate (8 - length front - length back) 0 ++ back) else None

-- the eight groups of an IPv6 address (RFC 4291 section 2.2, forms 1 and 2)
abbrev pub groups_at : List ℕ → Option (List ℕ × List ℕ) → Option (List ℕ)
groups_at text None = whole_groups text
groups_at text (Some cut) = gapped_groups cut.0 cut.1

unfoldable pub loose_groups : List ℕ → Option (List ℕ)
loose_groups text = groups_at text (cut_at_gap text)

-- an address of either family
abbrev pub address_or : Option ℕ → List ℕ → Option (Family × ℕ)
address_or (Some address) text = Some (V4, address)
address_or None text = option_map {T = List ℕ} (λ groups. (V6, number_from_digits 0x10000 groups)) (loose_groups text)

unfoldable pub loose_address : List ℕ → Option (Family × ℕ)
loose_address text = address_or (dotted_address text) text

-- an address, `/` and one to three decimal digits, in any spelling
unfoldable pub loose : List ℕ → Option PrefixParts
loose text = do
  cut ← cut_at slash text
  address ← loose_address cut.0
  len ← short_number 10 3 cut.1
  Some (record { family = address.0; address = address.1; length = len })

-- ---- faults

-- no bit past the length is set
abbrev pub is_aligned : PrefixParts → Bool
is_aligned parts = parts.address % 2 ^ (width parts.family - parts.length) == 0

-- the first fault, in this order, of a text that was read as these parts
abbrev pub fault_of : List ℕ → Option PrefixParts → Option PrefixFault
fault_of text None = Some Shape
fault_of text (Some parts) =
    if not (bytes_eq (spelling parts.family parts.address parts.length) text) then Some Spelling
    else (if nat_lt (width parts.family) parts.length then Some Length
    else (if not (is_aligned parts) then Some HostBits else None))

unfoldable pub prefix_text_fault : List ℕ → Option PrefixFault
prefix_text_fault text = fault_of text (loose text)

-- the number of a fault, from 1 in the order in which they are looked for
abbrev pub prefix_fault_number : PrefixFault → ℕ
prefix_fault_number Shape = 1
prefix_fault_number Spelling = 2
prefix_fault_number Length = 3
prefix_fault_number HostBits = 4

-- the text is the one spelling of the prefix
abbrev pub Spells : Prefix → List ℕ → Type 0
Spells prefix text = text ≡ spelling prefix.family prefix.first prefix.length

-- ---- the prefix that a text spells

abbrev pub prefix_if : (family : Family) (first len : ℕ) → Dec (len ≤ width family)
    → Dec (first % 2 ^ (width family - len) ≡ 0) → Dec (first + 2 ^ (width family - len) ≤ 2 ^ width family) → Option Prefix
prefix_if family first len (yes fits) (yes aligned) (yes inside) =
    Some (record { family = family; first = first; length = len; length_fits = fits; aligned = aligned; in_family = inside })
prefix_if family first len _ _ _ = None

-- the prefix of these parts, if there is one
abbrev pub prefix_with : PrefixParts → Option Prefix
prefix_with parts =
    prefix_if parts.family parts.address parts.length (dec_le parts.length (width parts.family))
    (ℕ_discrete (parts.address % 2 ^ (width parts.family - parts.length)) 0)
    (dec_le (parts.address + 2 ^ (width parts.family - parts.length)) (2 ^ width parts.family))

abbrev pub prefix_unless : Option PrefixFault → Option PrefixParts → Option Prefix
prefix_unless (Some fault) parts = None
prefix_unless None parts = option_and_then prefix_with parts

-- the prefix of the parts that the text gives, where the text has no fault
unfoldable pub spelled_prefix : List ℕ → Option Prefix
spelled_prefix text = prefix_unless (prefix_text_fault text) (loose text)

-- ---- the law of prefix texts

-- a run of `len` zero groups begins at `start`
pub record IsZeroRun (groups : List ℕ) (start len : ℕ) : Type 0 where
  pub within : start + len ≤ length groups
  pub zeros : take len (drop start groups) ≡ replicate len 0

-- `::` takes the place of a run of zero groups that is longest, and of equally long ones the first (RFC 5952 section 4.2)
pub record IsFirstLongestRun (groups : List ℕ) (start len : ℕ) : Type 0 where
  pub run : IsZeroRun groups start len
  pub longest : (from count : ℕ) → IsZeroRun groups from count → count ≤ len
  pub first : (from : ℕ) → IsZeroRun groups from len → start ≤ from

-- A spelling is read back as what it was made of; the texts with no fault are those that spell a prefix, and a text
-- spells one prefix only.
pub record PrefixTextLaw : Type 0 where
  pub read_back : (family : Family) (address len : ℕ) → address < 2 ^ width family → len < 1000
      → loose (spelling family address len) ≡ Some (record { family = family; address = address; length = len })
  pub faultless : (text : List ℕ) → (prefix_text_fault text ≡ None) ↔ ((prefix : Prefix) × Spells prefix text)
  pub unique : (p q : Prefix) (text : List ℕ) → Spells p text → Spells q text → p ≡ q
  pub elided : (groups : List ℕ) → IsFirstLongestRun groups (longest_zero_run groups).0 (longest_zero_run groups).1
