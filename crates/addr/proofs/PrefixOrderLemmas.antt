-- Prefixes in their order: what sorts at or before what, and which prefixes lie between two.
use Rattle.addr.proofs.Vocabulary.{◌≡◌, ℕ, suc, ◌+◌, ◌-◌, ◌*◌, ◌/◌, ◌%◌, ◌^◌, ◌≤◌, ◌<◌, true, nat_le, refl, sym, arith, inl, inr, ◌⊎◌, ap, ◌∙◌, Ordering, nat_cmp, ordering_then, is_le, Less, Equal, Greater, and_parts, leb-true, le-leb, cases_lt, lt-ltb, le-ltb, eq-eqb, ne_eqb, nat_tests, pow_pos, pow-add, div-add-mod', pow_below, mul-le-mul_right, suc-mul, add-mul-mod_self_right, width, family_eq, last_of, contains, family_cmp, prefix_cmp, Family, V4, V6, Prefix}
use Rattle.addr.proofs.AddressLemmas.{multiple-at_most}
use Rattle.addr.proofs.Equality.{same_family, equal_family}

-- of two multiples the greater is at least one step on
next-multiple : (a b m : ℕ) → 0 < m → a % m ≡ 0 → b % m ≡ 0 → a < b → a + m ≤ b
next-multiple a b m pos ma mb lt =
    elim (cases_lt (a / m) (b / m)) [
      | inl less ↦
          let more : suc (a / m) * m ≤ b / m * m = mul-le-mul_right m (omega arith) in
          omega (arith, div-add-mod' a m, div-add-mod' b m, suc-mul (a / m) m)
      | inr most ↦
          let fewer : b / m * m ≤ a / m * m = mul-le-mul_right m most in
          absurd (omega (arith, div-add-mod' a m, div-add-mod' b m))
    ]

multiple-more : (x i j : ℕ) → j ≤ i → x % 2 ^ j ≡ 0 → (x + 2 ^ i) % 2 ^ j ≡ 0
multiple-more x i j le h =
    let parts : 2 ^ i ≡ 2 ^ (i - j) * 2 ^ j = ap (λ e. 2 ^ e) (omega arith) ∙ pow-add 2 (i - j) j in
    rw parts (add-mul-mod_self_right x (2 ^ (i - j)) (2 ^ j) ∙ h)

-- an aligned block that begins in another, not after z, and not before x where both begin together, lies in it
pub block-within : (x y z i j : ℕ) → x % 2 ^ i ≡ 0 → y % 2 ^ j ≡ 0 → x ≤ y → y ≤ z → z < x + 2 ^ i → (x ≡ y → j ≤ i) → y + 2 ^ j ≤ x + 2 ^ i
block-within x y z i j mx my le most within tie =
    elim (cases_lt i j) [
      | inl greater ↦
          let aligned : y % 2 ^ i ≡ 0 = multiple-at_most y j i (omega arith) my in
          elim (cases_lt x y) [
            | inl less ↦ absurd (omega (arith, next-multiple x y (2 ^ i) (pow_pos i) mx aligned less))
            | inr same ↦ let e : x ≡ y = omega arith in let le' : j ≤ i = tie e in absurd (omega arith)
          ]
      | inr smaller ↦
          let whole : (x + 2 ^ i) % 2 ^ j ≡ 0 = multiple-more x i j smaller (multiple-at_most x i j smaller mx) in
          next-multiple y (x + 2 ^ i) (2 ^ j) (pow_pos j) my whole (omega arith)
    ]

pub cmp-less : (a b : ℕ) → a < b → nat_cmp a b ≡ Less
cmp-less a b h = rw (lt-ltb a b h)

pub cmp-equal : (a b : ℕ) → a ≡ b → nat_cmp a b ≡ Equal
cmp-equal a b h = rw (le-ltb a b (omega arith), eq-eqb a b h)

pub cmp-greater : (a b : ℕ) → b < a → nat_cmp a b ≡ Greater
cmp-greater a b h = rw (le-ltb a b (omega arith), ne_eqb a b (omega arith))

-- of prefixes in order the families are one, or IPv4 and IPv6
pub order-families : (f g : Family) (o : Ordering) → is_le (ordering_then (family_cmp f g) o) ≡ true → ((f ≡ g) × (is_le o ≡ true)) ⊎ ((f ≡ V4) × (g ≡ V6))
order-families V4 V4 o h = inl (refl, h)
order-families V6 V6 o h = inl (refl, h)
order-families V4 V6 o h = inr (refl, refl)
order-families V6 V4 o h = cc

pub order-one_family : (f g : Family) (o : Ordering) → f ≡ g → is_le o ≡ true → is_le (ordering_then (family_cmp f g) o) ≡ true
order-one_family V4 V4 o e h = h
order-one_family V6 V6 o e h = h
order-one_family V4 V6 o e h = cc
order-one_family V6 V4 o e h = cc

order-numbers : (a b l m : ℕ) → is_le (ordering_then (nat_cmp a b) (nat_cmp l m)) ≡ true → (a < b) ⊎ ((a ≡ b) × (l ≤ m))
order-numbers a b l m h = grind (arith, nat_tests)

pub numbers-order : (a b l m : ℕ) → (a < b) ⊎ ((a ≡ b) × (l ≤ m)) → is_le (ordering_then (nat_cmp a b) (nat_cmp l m)) ≡ true
numbers-order a b l m h = grind (arith, nat_tests)

-- p sorts at or before q of its family
pub at_most-ends : (p q : Prefix) → p.family ≡ q.family → is_le (prefix_cmp p q) ≡ true → (p.first < q.first) ⊎ ((p.first ≡ q.first) × (p.length ≤ q.length))
at_most-ends p q e h =
    elim (order-families p.family q.family _ h) [
      | inl one ↦ order-numbers _ _ _ _ one.1
      | inr two ↦ cc
    ]

pub ends-at_most : (p q : Prefix) → p.family ≡ q.family → (p.first < q.first) ⊎ ((p.first ≡ q.first) × (p.length ≤ q.length)) → is_le (prefix_cmp p q) ≡ true
ends-at_most p q e h = order-one_family p.family q.family _ e (numbers-order _ _ _ _ h)

at_most-first : (p q : Prefix) → p.family ≡ q.family → is_le (prefix_cmp p q) ≡ true → p.first ≤ q.first
at_most-first p q e h = elim (at_most-ends p q e h) [ inl less ↦ omega arith | inr tie ↦ omega (arith, tie.0) ]

pub record HasEndsOf (p q : Prefix) : Type 0 where
  pub family : p.family ≡ q.family
  pub first : p.first ≤ q.first
  pub last : last_of q ≤ last_of p

pub contains-ends : (p q : Prefix) → contains p q ≡ true → HasEndsOf p q
contains-ends p q h =
    let parts = and_parts (family_eq p.family q.family) _ h in
    let numbers = and_parts (nat_le p.first q.first) _ parts.1 in
    record {
      family = same_family _ _ parts.0;
      first = leb-true _ _ numbers.0;
      last = leb-true _ _ numbers.1;
    }

pub ends-contains : (p q : Prefix) → p.family ≡ q.family → p.first ≤ q.first → last_of q ≤ last_of p → contains p q ≡ true
ends-contains p q family first last = rw (equal_family p.family q.family family, le-leb p.first q.first first, le-leb (last_of q) (last_of p) last)

-- how many addresses the prefix has
abbrev pub size : Prefix → ℕ
size p = 2 ^ (width p.family - p.length)

pub first-size : (p : Prefix) → p.first + size p ≡ suc (last_of p)
first-size p = omega (arith, pow_pos (width p.family - p.length))

-- where two prefixes of one family begin together, the one that is no larger is no shorter
longer : (w a b : ℕ) → a ≤ w → b ≤ w → 2 ^ (w - b) ≤ 2 ^ (w - a) → a ≤ b
longer w a b fa fb le =
    elim (cases_lt b a) [
      | inl less ↦ absurd (omega (arith, pow_below (w - a) (w - b) (omega arith)))
      | inr most ↦ most
    ]

-- a prefix sorts at or before each that it contains
pub contains-at_most : (p q : Prefix) → contains p q ≡ true → is_le (prefix_cmp p q) ≡ true
contains-at_most p q h =
    let ends = contains-ends p q h in
    let widths : width p.family ≡ width q.family = ap width ends.family in
    ends-at_most p q ends.family (elim (cases_lt p.first q.first) [
      | inl less ↦ inl less
      | inr most ↦
          let same : p.first ≡ q.first = omega (arith, ends.first) in
          let sizes : size q ≤ size p = omega (arith, ends.last, first-size p, first-size q) in
          inr (same, longer (width p.family) p.length q.length p.length_fits (rw widths q.length_fits) (rw (sym widths) at sizes))
    ])

-- between a prefix that contains another and that other lie, in order, only prefixes that the first contains
pub contains-between : (p low high : Prefix) → contains p high ≡ true → is_le (prefix_cmp p low) ≡ true → is_le (prefix_cmp low high) ≡ true → contains p low ≡ true
contains-between p low high h from to =
    let ends = contains-ends p high h in
    let family : p.family ≡ low.family = one-family p.family low.family high.family _ _ ends.family from to in
    let above : p.first ≤ low.first = at_most-first p low family from in
    let below : low.first ≤ high.first = at_most-first low high (sym family ∙ ends.family) to in
    let room : high.first < p.first + size p = omega (arith, ends.last, first-size p, first-size high, pow_pos (width high.family - high.length)) in
    let widths : width p.family ≡ width low.family = ap width family in
    let shorter : p.first ≡ low.first → width low.family - low.length ≤ width p.family - p.length = λ same.
    elim (at_most-ends p low family from) [ inl less ↦ absurd (omega arith) | inr tie ↦ omega (arith, tie.1, widths) ] in
    let within = block-within p.first low.first high.first (width p.family - p.length) (width low.family - low.length) p.aligned low.aligned above below room shorter in
    ends-contains p low family above (omega (arith, within, first-size p, first-size low))
  where
    one-family : (f g h : Family) (o r : Ordering) → f ≡ h → is_le (ordering_then (family_cmp f g) o) ≡ true → is_le (ordering_then (family_cmp g h) r) ≡ true → f ≡ g
    one-family f g h o r e from to =
        elim (order-families f g o from) [
          | inl one ↦ one.0
          | inr two ↦ elim (order-families g h r to) [ inl one ↦ cc | inr both ↦ cc ]
        ]
