-- Reading octets from left to right, as the reader's functions do. None: no content begins so.
use Rattle.std.specs.Prelude.{◌≡◌, ℕ, zero, suc, ◌+◌, ◌-◌, ◌*◌, ◌/◌, ◌%◌, ◌^◌, ◌&&◌, ◌==◌, nat_eq, nat_lt, nat_le, if◌then◌else◌, List, [], ◌∷◌, ◌++◌, length, take, drop, map, Option, Some, None, Result, Ok, Err}
use Rattle.std.specs.Option.{option_map}
use denote.Ref.{Bor}
use Rattle.roa.specs.declared.fault.DecodeFault.{DecodeFault}
use Rattle.roa.specs.declared.fault.DecodeFault.TheVariants.{NotContent, Memory}
use Rattle.std.specs.Cmp.Lexicographic.{pointwise}
use Rattle.addr.specs.Family.{width}
use Rattle.addr.specs.PrefixText.{◌>>=◌}
use Rattle.addr.specs.declared.family.Family.{Family}
use Rattle.addr.specs.declared.family.Family.TheVariants.{V4, V6}
use Rattle.addr.specs.declared.roa_prefix.RoaPrefix.{RoaPrefix as Entry}
use Rattle.roa.specs.declared.content.TheConstants.Content.{MAX_ENTRIES}
use Rattle.roa.specs.RoaContent.{be_value, family_octets}
use Rattle.roa.specs.ContentOctets.{integer_len}

-- an entry without the facts that its type keeps
pub record Numbers : Type 0 where
  pub family : Family
  pub first : ℕ
  pub length : ℕ
  pub max : ℕ

abbrev pub numbers : Entry → Numbers
numbers e = record { family = e.prefix.family; first = e.prefix.first; length = e.prefix.length; max = e.max }

-- a length, and the octets after it
unfoldable pub one_octet_at : List ℕ → Option (ℕ × List ℕ)
one_octet_at [] = None
one_octet_at (n ∷ rest) = if nat_lt n 128 then None else Some (n, rest)

unfoldable pub two_octets_at : List ℕ → Option (ℕ × List ℕ)
two_octets_at (a ∷ b ∷ rest) = if a == 0 then None else Some (256 * a + b, rest)
two_octets_at _ = None

unfoldable pub length_at : List ℕ → Option (ℕ × List ℕ)
length_at [] = None
length_at (n ∷ rest) =
    if nat_lt n 128 then Some (n, rest)
    else (if n == 129 then one_octet_at rest else (if n == 130 then two_octets_at rest else None))

-- the contents of an element, and the octets after it
unfoldable pub contents_at : List ℕ → Option (List ℕ × List ℕ)
contents_at bytes = length_at bytes >>= λ n. if nat_lt (length n.1) n.0 then None else Some (take n.0 n.1, drop n.0 n.1)

unfoldable pub element_at : ℕ → List ℕ → Option (List ℕ × List ℕ)
element_at tag [] = None
element_at tag (t ∷ rest) = if t == tag then contents_at rest else None

-- the contents of an element that is all of the octets
unfoldable pub sole_element : ℕ → List ℕ → Option (List ℕ)
sole_element tag bytes = element_at tag bytes >>= λ e. if length e.1 == 0 then Some e.0 else None

-- a number of at most 32 bits, by the contents of an INTEGER
unfoldable pub integer_of : List ℕ → Option ℕ
integer_of contents =
    if nat_lt 5 (length contents) then None
    else (if nat_lt (be_value contents) (2 ^ 32) && (length contents == integer_len (be_value contents)) then Some (be_value contents) else None)

-- the first address and the length of a prefix, by the contents of a BIT STRING
unfoldable pub prefix_of : Family → List ℕ → Option (ℕ × ℕ)
prefix_of family [] = None
prefix_of family (unused ∷ octets) =
    if nat_lt 7 unused then None
    else (if nat_lt (width family / 8) (length octets) then None
    else (if nat_lt (8 * length octets) unused then None
    else (let first : ℕ = be_value octets * 2 ^ (width family - 8 * length octets) in
    let bits : ℕ = 8 * length octets - unused in
    if first % 2 ^ (width family - bits) == 0 then Some (first, bits) else None)))

-- maxLength, by what follows the BIT STRING: where nothing does, the prefix's length
unfoldable pub max_of : Family → ℕ → List ℕ → Option ℕ
max_of family bits octets =
    if length octets == 0 then Some bits
    else (sole_element 2 octets >>= λ contents. integer_of contents >>= λ max.
    if nat_lt bits max && nat_le max (width family) then Some max else None)

-- an entry, by the contents of its SEQUENCE
unfoldable pub entry_of : Family → List ℕ → Option Numbers
entry_of family contents = do
  bits ← element_at 3 contents
  prefix ← prefix_of family bits.0
  max ← max_of family prefix.1 bits.1
  Some (record { family = family; first = prefix.0; length = prefix.1; max = max })

unfoldable pub entry_at : Family → List ℕ → Option (Numbers × List ℕ)
entry_at family bytes = do
  contents ← element_at 48 bytes
  entry ← entry_of family contents.0
  Some (entry, contents.1)

-- the entries of a family, at most so many, that are all of the octets
unfoldable pub entries_in_octets : ℕ → Family → List ℕ → Option (List Numbers)
entries_in_octets zero family bytes = if length bytes == 0 then Some [] else None
entries_in_octets (suc room) family bytes =
    if length bytes == 0 then Some []
    else (entry_at family bytes >>= λ entry. entries_in_octets room family entry.1 >>= λ others. Some (entry.0 ∷ others))

-- the addresses of a block of the family, and the octets after the block
unfoldable pub block_at : Family → List ℕ → Option (List ℕ × List ℕ)
block_at family bytes = do
  block ← element_at 48 bytes
  octets ← element_at 4 block.0
  if pointwise nat_eq octets.0 (family_octets family) then (sole_element 48 octets.1 >>= λ addresses.
      if length addresses == 0 then None else Some (addresses, block.1)) else None

abbrev pub entries_after : ℕ → Family → List ℕ → Option (List ℕ × List ℕ) → Option (List Numbers × List ℕ)
entries_after room family bytes None = Some ([], bytes)
entries_after room family bytes (Some block) = entries_in_octets room family block.0 >>= λ entries. Some (entries, block.1)

-- the entries of a family, none where no block of it begins here, and the octets after them
unfoldable pub family_at : ℕ → Family → List ℕ → Option (List Numbers × List ℕ)
family_at room family bytes = entries_after room family bytes (block_at family bytes)

-- the entries of both families, that are all of the octets
unfoldable pub blocks_of : List ℕ → Option (List Numbers)
blocks_of bytes = do
  four ← family_at MAX_ENTRIES V4 bytes
  six ← family_at (MAX_ENTRIES - length four.0) V6 four.1
  if length six.1 == 0 then Some (four.0 ++ six.0) else None

-- the AS number, and the octets of the blocks
unfoldable pub fields_of : List ℕ → Option (ℕ × List ℕ)
fields_of bytes = do
  fields ← sole_element 48 bytes
  asn ← element_at 2 fields
  number ← integer_of asn.0
  blocks ← sole_element 48 asn.1
  Some (number, blocks)

-- the AS number and the entries
unfoldable pub content_of : List ℕ → Option (ℕ × List Numbers)
content_of bytes = do
  fields ← fields_of bytes
  entries ← blocks_of fields.1
  Some (fields.0, entries)

-- ---- what a reader answers

-- a reader's answer, seen by view, is what reading gives
abbrev pub ReadsAs : {X Y : Type 0} → (X → Y) → Option X → Option Y → Type 0
ReadsAs view None read = read ≡ None
ReadsAs view (Some x) read = read ≡ Some (view x)

-- a reader that adds the entries that it reads: their list before and after
abbrev pub Adds : {X : Type 0} → Result X DecodeFault → List Entry → List Entry → Option (List Numbers) → Type 0
Adds (Ok x) old new read = option_map (λ ns. map numbers old ++ ns) read ≡ Some (map numbers new)
Adds (Err NotContent) old new read = read ≡ None
Adds (Err Memory) old new read = Unit {0}

-- the same, with the octets that are left
abbrev pub AddsThen : Result (Bor (List ℕ)) DecodeFault → List Entry → List Entry → Option (List Numbers × List ℕ) → Type 0
AddsThen (Ok rest) old new read = option_map {T = List Numbers × List ℕ} {U = List Numbers × List ℕ} (λ x. (map numbers old ++ x.0, x.1)) read ≡ Some (map numbers new, rest.now)
AddsThen (Err NotContent) old new read = read ≡ None
AddsThen (Err Memory) old new read = Unit {0}

-- what was read is the view of it, unless memory ran out
abbrev pub IsReadAs : {X Y : Type 0} → (X → Y) → Result X DecodeFault → Option Y → Type 0
IsReadAs view (Ok x) read = read ≡ Some (view x)
IsReadAs view (Err NotContent) read = read ≡ None
IsReadAs view (Err Memory) read = Unit {0}
