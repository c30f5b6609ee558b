-- Prefixes round two others: how many host bits they have, and where they begin.
use Rattle.payload.proofs.Vocabulary.{lit<, mod-eq_of_lt, bit_and, ◌≡◌, ℕ, ◌+◌, ◌-◌, ◌*◌, ◌/◌, ◌%◌, ◌^◌, ◌≤◌, ◌<◌, true, false, sym, arith, inl, inr, ap, ◌∙◌, nat_cmp, ordering_then, is_le, both_ways, cases_lt, pow_pos, div-add-mod', le-div, one_shl, and_mask, mul-le-mul_right, mul-mod_left, pow-le-pow_right, width, contains, family_cmp, Family, Prefix, multiple-at_most, multiple-fits, at_most-ends, contains-ends, ends-contains, first-size, numbers-order, order-one_family, size, is_at_most}

-- the greatest multiple up to x
pub multiple-below : (a x m : ℕ) → 0 < m → a % m ≡ 0 → a ≤ x → a ≤ x - x % m
multiple-below a x m pos ma le =
    let quotients : a / m ≤ x / m = le-div (a / m) x m pos (omega (arith, div-add-mod' a m)) in
    let whole : a / m * m ≤ x / m * m = mul-le-mul_right m quotients in
    omega (arith, div-add-mod' a m, div-add-mod' x m)

pub rounded-aligned : (n m : ℕ) → (n - n % m) % m ≡ 0
rounded-aligned n m =
    let whole : n - n % m ≡ n / m * m = omega (arith, div-add-mod' n m) in
    rw whole (mul-mod_left (n / m) m)

-- the number of host bits that a distance below 2 ^ w takes
pub host_bits-fit : (gap top w : ℕ) → 2 ^ top ≤ gap → gap < 2 ^ w → top < w
host_bits-fit gap top w low high =
    elim (cases_lt top w) [
      | inl less ↦ less
      | inr most ↦ absurd (omega (arith, pow-le-pow_right {n = 2} (omega arith) most))
    ]

-- a prefix round both of two at this distance has more host bits than the distance's top bit
round-bits : (p low high : Prefix) (top : ℕ) → contains p low ≡ true → contains p high ≡ true → low.first < high.first → 2 ^ top ≤ high.first - low.first → top < width low.family - p.length
round-bits p low high top in-low in-high less far =
    let ends = contains-ends p low in-low in
    let ends' = contains-ends p high in-high in
    let widths : width p.family ≡ width low.family = ap width ends.family in
    let room : high.first < p.first + size p = omega (arith, ends'.last, first-size p, first-size high, pow_pos (width high.family - high.length)) in
    rw (sym widths) (host_bits-fit (high.first - low.first) top (width p.family - p.length) far (omega (arith, ends.first)))

pub round-length : (p low high : Prefix) (length top : ℕ) → contains p low ≡ true → contains p high ≡ true → low.first < high.first → 2 ^ top ≤ high.first - low.first → length ≡ width low.family - (top + 1) → p.length ≤ length
round-length p low high length top in-low in-high less far short = omega (arith, round-bits p low high top in-low in-high less far)

pub round-both : (p low high : Prefix) (f : Family) (first length top : ℕ) → contains p low ≡ true → contains p high ≡ true → low.first < high.first → 2 ^ top ≤ high.first - low.first → f ≡ low.family → first ≡ low.first - low.first % 2 ^ (top + 1) → length ≡ width low.family - (top + 1) → is_le (ordering_then (family_cmp p.family f) (ordering_then (nat_cmp p.first first) (nat_cmp p.length length))) ≡ true
round-both p low high f first length top in-low in-high less far family cut short =
    let ends = contains-ends p low in-low in
    let widths : width p.family ≡ width low.family = ap width ends.family in
    let more : top < width low.family - p.length = round-bits p low high top in-low in-high less far in
    let aligned : p.first % 2 ^ (top + 1) ≡ 0 = multiple-at_most p.first (width p.family - p.length) (top + 1) (omega arith) p.aligned in
    let before : p.first ≤ first = rw cut (multiple-below p.first low.first (2 ^ (top + 1)) (pow_pos (top + 1)) aligned ends.first) in
    order-one_family p.family f _ (ends.family ∙ sym family) (numbers-order p.first first p.length length (elim (cases_lt p.first first) [
      | inl less' ↦ inl less'
      | inr most ↦ inr (omega (arith, before), omega (arith, widths, short))
    ]))

-- the distance of two prefixes of one family takes no more bits than an address has
pub top-fits : (low high : Prefix) (top : ℕ) → low.family ≡ high.family → 2 ^ top ≤ high.first - low.first → top < width low.family
top-fits low high top family far =
    let widths : width low.family ≡ width high.family = ap width family in
    let fits : high.first - low.first < 2 ^ width low.family = rw widths (omega (arith, high.in_family, pow_pos (width high.family - high.length))) in
    host_bits-fit (high.first - low.first) top (width low.family) far fits

pub cut-aligned : (n r h w v : ℕ) → r ≡ n - n % 2 ^ h → v ≡ w → h ≤ w → r % 2 ^ (w - (v - h)) ≡ 0
cut-aligned n r h w v cut width fits =
    let host : w - (v - h) ≡ h = omega arith in
    rw (host, cut) (rounded-aligned n (2 ^ h))

pub cut-fits : (n r h w v : ℕ) → r ≡ n - n % 2 ^ h → v ≡ w → h ≤ w → n < 2 ^ w → r + 2 ^ (w - (v - h)) ≤ 2 ^ w
cut-fits n r h w v cut width fits below =
    let host : w - (v - h) ≡ h = omega arith in
    rw host (multiple-fits r h w fits (omega arith) (rw cut (rounded-aligned n (2 ^ h))))

-- where a prefix sorts before another of its family that it does not contain, it begins before it
pub apart-before : (low high : Prefix) → low.family ≡ high.family → is_at_most low high ≡ true → contains low high ≡ false → low.first < high.first
apart-before low high family order apart =
    elim (at_most-ends low high family order) [
      | inl less ↦ less
      | inr tie ↦
          let widths : width low.family ≡ width high.family = ap width family in
          let sizes : size high ≤ size low = rw (sym widths) (pow-le-pow_right (lit< tt) (omega (arith, tie.1))) in
          absurd (both_ways _ apart (ends-contains low high family (omega (arith, tie.0)) (omega (arith, sizes, tie.0, first-size low, first-size high))))
    ]

-- the number with its lowest bits cleared
pub cleared : (n bits : ℕ) → n < 2 ^ 128 → 128 ≤ bits → 0 ≡ n - n % 2 ^ bits
cleared n bits fits many =
    let whole : n < 2 ^ bits = omega (arith, pow-le-pow_right {n = 2} (lit< tt) many) in
    omega (arith, mod-eq_of_lt whole)

pub masked : (n bits shift size : ℕ) → shift ≡ bits → shift < 128 → size ≡ (1 * 2 ^ shift) % 2 ^ 128 → n - bit_and n (size - 1) ≡ n - n % 2 ^ bits
masked n bits shift size same fits is =
    let power : size ≡ 2 ^ bits = is ∙ one_shl shift 128 fits ∙ ap (λ k. 2 ^ k) same in
    ap (λ k. n - k) (ap (λ s. bit_and n (s - 1)) power ∙ and_mask n bits)

pub not_below : (bits shift : ℕ) → shift ≡ bits → (shift < 128 → ⊥) → 128 ≤ bits
not_below bits shift same over =
    elim (cases_lt shift 128) [ inl less ↦ absurd (over less) | inr most ↦ omega arith ]
