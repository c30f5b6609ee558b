-- Addresses and prefixes. An address is a number below two to the width of its family. A prefix of
-- length n is the set of all addresses of a family that share their first n bits: the closed
-- interval of 2 ^ (width - n) addresses whose first is a multiple of that size (RFC 4291 section
-- 2.3, RFC 4632 section 3.1).
use Rattle.std.specs.Prelude.{◌≡◌, ℕ, ◌+◌, ◌-◌, ◌^◌, ◌/◌, ◌%◌, ◌<◌, ◌≤◌, Bool, true, ◌&&◌, ◌==◌, nat_le}
use Rattle.std.specs.Coded.{le_prop}
use mathlib.Core.HLevel.{is_prop→PathP}
use native.Mathlib.Nat.{ℕ_set}
use Rattle.addr.specs.Family.{width, family_eq}
use Rattle.addr.specs.declared.family.Family.{Family}
use Rattle.addr.specs.declared.prefix.Prefix.{Prefix}

pub record Address : Type 0 where
  pub family : Family
  pub number : ℕ

-- the last address of the prefix, as a number
abbrev pub last_of : Prefix → ℕ
last_of p = p.first + 2 ^ (width p.family - p.length) - 1

-- the first address and the length are those of a prefix of the family
abbrev pub IsPrefix : Family → ℕ → ℕ → Type 0
IsPrefix family first length =
    (length ≤ width family) × (first < 2 ^ width family) × (first % 2 ^ (width family - length) ≡ 0)

-- bit i of the prefix, counted from 0 at the most significant one
abbrev pub bit_of : Prefix → ℕ → ℕ
bit_of p i = p.first / 2 ^ (width p.family - 1 - i) % 2

-- the address lies in the closed interval of the family
abbrev pub is_between : Family → ℕ → ℕ → Address → Bool
is_between family low high a = family_eq family a.family && (nat_le low a.number && nat_le a.number high)

-- the address lies in the prefix
abbrev pub has_address : Prefix → Address → Bool
has_address p a = is_between p.family p.first (last_of p) a

-- the prefix lies in the closed interval of the family
abbrev pub interval_contains : Family → ℕ → ℕ → Prefix → Bool
interval_contains family low high p = family_eq family p.family && (nat_le low p.first && nat_le (last_of p) high)

-- the prefix shares an address with the closed interval of the family
abbrev pub interval_overlaps : Family → ℕ → ℕ → Prefix → Bool
interval_overlaps family low high p = family_eq family p.family && (nat_le low (last_of p) && nat_le p.first high)

-- the interval of q lies in that of p
abbrev pub contains : Prefix → Prefix → Bool
contains p q = interval_contains p.family p.first (last_of p) q

-- the intervals of p and q share an address
abbrev pub overlaps : Prefix → Prefix → Bool
overlaps p q = interval_overlaps p.family p.first (last_of p) q

-- one family, one first address, one length
abbrev pub prefix_eq : Prefix → Prefix → Bool
prefix_eq p q = family_eq p.family q.family && ((p.first == q.first) && (p.length == q.length))

-- the maxLength is neither below the prefix's length nor over its family's width (RFC 6811 section 2)
abbrev pub FitsMaxLength : Prefix → ℕ → Type 0
FitsMaxLength p max = (p.length ≤ max) × (max ≤ width p.family)

-- whether it is so
abbrev pub fits_max_length : Prefix → ℕ → Bool
fits_max_length p max = nat_le p.length max && nat_le max (width p.family)

-- p contains q: each address of q is one of p
abbrev pub Contains : Prefix → Prefix → Type 0
Contains p q = (a : Address) → has_address q a ≡ true → has_address p a ≡ true

-- p and q share an address
abbrev pub Overlaps : Prefix → Prefix → Type 0
Overlaps p q = (a : Address) × (has_address p a ≡ true) × (has_address q a ≡ true)

-- prefixes of one family, first address and length are equal
pub same_prefix : (p q : Prefix) → p.family ≡ q.family → p.first ≡ q.first → p.length ≡ q.length → p ≡ q
same_prefix p q family first length = λ i. record {
  family = family i;
  first = first i;
  length = length i;
  length_fits = is_prop→PathP (λ j. length j ≤ width (family j)) (λ j. le_prop) p.length_fits q.length_fits i;
  aligned = is_prop→PathP (λ j. first j % 2 ^ (width (family j) - length j) ≡ 0) (λ j. ℕ_set _ _) p.aligned q.aligned i;
  in_family = is_prop→PathP (λ j. first j + 2 ^ (width (family j) - length j) ≤ 2 ^ width (family j)) (λ j. le_prop) p.in_family q.in_family i;
}
