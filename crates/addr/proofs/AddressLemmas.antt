-- Intervals of addresses: what contains and overlaps say of each address.
use Rattle.addr.proofs.Vocabulary.{◌≡◌, ℕ, ◌+◌, ◌-◌, ◌*◌, ◌/◌, ◌%◌, ◌^◌, ◌≤◌, ◌<◌, true, lit≤, ◌&&◌, nat_le, arith, ◌↔◌, IsTrue, inl, inr, ap, ◌∙◌, suc, cases_lt, nat_tests, pow_pos, pow-add, div-add-mod', div_below, mod-pow-add, mul-le-mul_right, suc-mul, width, family_eq, Address, is_between, last_of, contains, overlaps, Contains, Overlaps, Family, V4, V6, Prefix}
use Rattle.addr.proofs.Equality.{family_tells}

pub width_small : (f : Family) → width f ≤ 128
width_small V4 = lit≤ tt
width_small V6 = lit≤ tt

-- every address of a family is below 2 ^ 128
pub below_widest : (f : Family) (n : ℕ) → n < 2 ^ width f → n < 2 ^ 128
below_widest V4 n below = omega arith
below_widest V6 n below = below

pub first_below : (p : Prefix) → p.first < 2 ^ width p.family
first_below p = omega (arith, p.in_family, pow_pos (width p.family - p.length))

-- an interval within another has only addresses of it
pub between_within : (f g h : Family) (low high from to n : ℕ) → family_eq f g && (nat_le low from && nat_le to high) ≡ true → is_between g from to (record { family = h; number = n }) ≡ true → is_between f low high (record { family = h; number = n }) ≡ true
between_within f g h low high from to n inside there = grind (arith, nat_tests, family_tells)

-- an address of an interval lies in it
pub between_at : (f : Family) (low high n : ℕ) → low ≤ n → n ≤ high → is_between f low high (record { family = f; number = n }) ≡ true
between_at f low high n above below = grind (arith, nat_tests, family_tells)

-- an interval whose two ends lie in another lies within it
pub within_by_ends : (f g : Family) (low high from to : ℕ) → is_between f low high (record { family = g; number = from }) ≡ true → is_between f low high (record { family = g; number = to }) ≡ true → family_eq f g && (nat_le low from && nat_le to high) ≡ true
within_by_ends f g low high from to one other = grind (arith, nat_tests, family_tells)

-- two intervals that share an address overlap
pub overlap_by_shared : (f g h : Family) (low high from to n : ℕ) → is_between f low high (record { family = h; number = n }) ≡ true → is_between g from to (record { family = h; number = n }) ≡ true → family_eq f g && (nat_le low to && nat_le from high) ≡ true
overlap_by_shared f g h low high from to n one other = grind (arith, nat_tests, family_tells)

-- what the test of an overlap says of the ends
pub overlap_ends : (f g : Family) (low high from to : ℕ) → family_eq f g && (nat_le low to && nat_le from high) ≡ true → (low ≤ to) × (from ≤ high)
overlap_ends f g low high from to meet = (grind (arith, nat_tests), grind (arith, nat_tests))

-- a prefix has an address
pub first-last : (p : Prefix) → p.first ≤ last_of p
first-last p = omega (arith, pow_pos (width p.family - p.length))

pub contains_each : (p q : Prefix) → IsTrue (contains p q) ↔ Contains p q
contains_each p q = (
  λ inside a there. between_within p.family q.family a.family p.first (last_of p) q.first (last_of q) a.number inside there,
  λ each. within_by_ends p.family q.family p.first (last_of p) q.first (last_of q)
      (each (record { family = q.family; number = q.first }) (between_at q.family q.first (last_of q) q.first (omega arith) (first-last q)))
      (each (record { family = q.family; number = last_of q }) (between_at q.family q.first (last_of q) (last_of q) (first-last q) (omega arith))),
)

-- the first address of one of two overlapping intervals lies in the other
pub shared : (f g : Family) (low high from to : ℕ) → low ≤ high → from ≤ to → family_eq f g && (nat_le low to && nat_le from high) ≡ true → (a : Address) × (is_between f low high a ≡ true) × (is_between g from to a ≡ true)
shared f g low high from to some other meet =
    elim (cases_lt low from) [
      | inl before ↦ at from (omega arith) (omega arith) ends.1 other
      | inr after ↦ at low (omega arith) (omega arith) some ends.0
    ]
  where
    ends : (low ≤ to) × (from ≤ high)
    ends = overlap_ends f g low high from to meet

    at : (n : ℕ) → low ≤ n → from ≤ n → n ≤ high → n ≤ to → (a : Address) × (is_between f low high a ≡ true) × (is_between g from to a ≡ true)
    at n a b c d = (record { family = f; number = n }, grind (arith, nat_tests, family_tells), grind (arith, nat_tests, family_tells))

pub overlaps_some : (p q : Prefix) → IsTrue (overlaps p q) ↔ Overlaps p q
overlaps_some p q = (
  shared p.family q.family p.first (last_of p) q.first (last_of q) (first-last p) (first-last q),
  λ shared. overlap_by_shared p.family q.family shared.0.family p.first (last_of p) q.first (last_of q) shared.0.number shared.1 shared.2,
)

-- a multiple of a power of two is one of each smaller power
pub multiple-at_most : (n j k : ℕ) → k ≤ j → n % 2 ^ j ≡ 0 → n % 2 ^ k ≡ 0
multiple-at_most n j k le multiple =
    let parts : n % 2 ^ (j - k + k) ≡ 0 = ap (λ e. n % 2 ^ e) (omega arith) ∙ multiple in
    omega (arith, mod-pow-add n (j - k) k, parts)

-- a multiple of a power of two below a greater one leaves room for one more
pub multiple-fits : (n k w : ℕ) → k ≤ w → n < 2 ^ w → n % 2 ^ k ≡ 0 → n + 2 ^ k ≤ 2 ^ w
multiple-fits n k w fits below multiple =
    let whole : n / 2 ^ k * 2 ^ k ≡ n = omega (arith, div-add-mod' n (2 ^ k)) in
    let parts : 2 ^ w ≡ 2 ^ (w - k) * 2 ^ k = ap (λ e. 2 ^ e) (omega arith) ∙ pow-add 2 (w - k) k in
    let quotient : n / 2 ^ k < 2 ^ (w - k) = div_below n (2 ^ k) (2 ^ (w - k)) (pow_pos k) (rw (← parts) below) in
    let more : suc (n / 2 ^ k) * 2 ^ k ≤ 2 ^ (w - k) * 2 ^ k = mul-le-mul_right (2 ^ k) (omega arith) in
    let split : suc (n / 2 ^ k) * 2 ^ k ≡ n / 2 ^ k * 2 ^ k + 2 ^ k = suc-mul (n / 2 ^ k) (2 ^ k) in
    omega arith
