-- The two halves of a prefix, by the bit after its last.
use Rattle.payload.proofs.Vocabulary.{◌≡◌, ℕ, suc, ◌+◌, ◌-◌, ◌*◌, ◌/◌, ◌%◌, ◌^◌, ◌≤◌, ◌<◌, Bool, true, false, ◌==◌, List, [], ◌∷◌, length, refl, sym, ap, ◌∙◌, subst, arith, inl, inr, cases_lt, eq-eqb, ne_eqb, append-nil, pow_pos, pow-add, pow_below, div-add-mod', div-mul-add, mul-add, add-mul, add-mul-mod_self_right, width, bit_of, contains, same_prefix, Prefix, below_widest, multiple-at_most, block-within, contains-ends, ends-contains, first-size, number_of, Top, Tree, above, grown, tree, half_first, half_vrps, vrps_at, vrps_below}
use Rattle.std.proofs.Math.Nat.{mod-eq_of_lt}

-- how many addresses half of the prefix has
abbrev pub half_size : Prefix → ℕ
half_size p = 2 ^ (width p.family - (p.length + 1))

pub doubled : (w l : ℕ) → l < w → 2 ^ (w - l) ≡ 2 ^ (w - (l + 1)) + 2 ^ (w - (l + 1))
doubled w l room =
    let more : w - l ≡ (w - (l + 1)) + 1 = omega arith in
    omega (arith, ap (λ e. 2 ^ e) more, pow-add 2 (w - (l + 1)) 1)

pub multiple-next : (n m : ℕ) → n % m ≡ 0 → (n + m) % m ≡ 0
multiple-next n m h =
    let one : n + 1 * m ≡ n + m = omega arith in
    ap (λ k. k % m) (sym one) ∙ add-mul-mod_self_right n 1 m ∙ h

pub half-aligned : (bit : Bool) (p : Prefix) → p.length < width p.family → half_first bit p % half_size p ≡ 0
half-aligned false p room = multiple-at_most p.first (width p.family - p.length) (width p.family - (p.length + 1)) (omega arith) p.aligned
half-aligned true p room = multiple-next p.first (half_size p) (multiple-at_most p.first (width p.family - p.length) (width p.family - (p.length + 1)) (omega arith) p.aligned)

pub half-in_family : (bit : Bool) (p : Prefix) → p.length < width p.family → half_first bit p + half_size p ≤ 2 ^ width p.family
half-in_family false p room = omega (arith, doubled (width p.family) p.length room, p.in_family)
half-in_family true p room = omega (arith, doubled (width p.family) p.length room, p.in_family)

-- the half whose next bit is this one
abbrev pub half : (bit : Bool) (p : Prefix) → p.length < width p.family → Prefix
half bit p room = record {
  family = p.family;
  first = half_first bit p;
  length = p.length + 1;
  length_fits = omega arith;
  aligned = half-aligned bit p room;
  in_family = half-in_family bit p room;
}

-- ---- which half a bit leads to

abbrev number : Bool → ℕ
number false = 0
number true = 1

quotient : (a m y : ℕ) → a * m ≤ y → y < a * m + m → y / m ≡ a
quotient a m y low high =
    let place : a * m + (y - a * m) ≡ y = omega arith in
    ap (λ n. n / m) (sym place) ∙ div-mul-add a m (y - a * m) (omega arith)

odd : (bit : Bool) (a : ℕ) → ((a + a + number bit) % 2 == 1) ≡ bit
odd false a = ne_eqb _ _ (λ is. absurd (omega (arith, is)))
odd true a = eq-eqb _ _ (omega arith)

-- a half begins at a multiple of its size
half-multiple : (bit : Bool) (p : Prefix) (a : ℕ) → a ≡ p.first / 2 ^ (width p.family - p.length) → p.length < width p.family → (a + a + number bit) * half_size p ≡ half_first bit p
half-multiple bit p a is room =
    let size = 2 ^ (width p.family - p.length) in
    let whole : a * size ≡ p.first = rw is (omega (arith, div-add-mod' p.first size, p.aligned)) in
    let twice : a * (half_size p + half_size p) ≡ p.first = ap (λ n. a * n) (sym (doubled (width p.family) p.length room)) ∙ whole in
    omega (arith, twice, mul-add a (half_size p) (half_size p), add-mul (a + a) (number bit) (half_size p), add-mul a a (half_size p), begins bit)
  where
    begins : (bit : Bool) → half_first bit p ≡ p.first + number bit * half_size p
    begins false = omega arith
    begins true = omega arith

-- the first address of a prefix in p lies in p
pub within-first : (p q : Prefix) → contains p q ≡ true → q.first < p.first + 2 ^ (width p.family - p.length)
within-first p q inside =
    let ends = contains-ends p q inside in
    omega (arith, ends.last, first-size p, first-size q, pow_pos (width q.family - q.length))

-- the bit of what lies in a half
pub half-bit : (bit : Bool) (p q : Prefix) (room : p.length < width p.family) → contains (half bit p room) q ≡ true → (bit_of q p.length == 1) ≡ bit
half-bit bit p q room inside =
    let ends = contains-ends (half bit p room) q inside in
    let place : width q.family - 1 - p.length ≡ width p.family - (p.length + 1) = omega (arith, ap width ends.family) in
    let a = p.first / 2 ^ (width p.family - p.length) in
    let begin = half-multiple bit p a refl room in
    let is = quotient (a + a + number bit) (half_size p) q.first (omega (arith, begin, ends.first)) (omega (arith, begin, within-first (half bit p room) q inside)) in
    rw (place, is) (odd bit a)

-- ---- what the halves contain

-- a half lies in p
pub contains-half : (bit : Bool) (p : Prefix) (room : p.length < width p.family) → contains p (half bit p room) ≡ true
contains-half false p room = ends-contains p (half false p room) refl (omega arith) (omega (arith, first-size p, first-size (half false p room), doubled (width p.family) p.length room))
contains-half true p room = ends-contains p (half true p room) refl (omega arith) (omega (arith, first-size p, first-size (half true p room), doubled (width p.family) p.length room))

-- a longer prefix in p lies in the half to which its next bit leads
pub half-contains : (bit : Bool) (p q : Prefix) (room : p.length < width p.family) → contains p q ≡ true → p.length < q.length → (bit_of q p.length == 1) ≡ bit → contains (half bit p room) q ≡ true
half-contains bit p q room inside longer is =
    let ends = contains-ends p q inside in
    let widths : width p.family ≡ width q.family = ap width ends.family in
    elim (cases_lt q.first (p.first + half_size p)) [
      | inl low ↦
          let within = block-within p.first q.first q.first (width p.family - (p.length + 1)) (width q.family - q.length) (half false p room).aligned q.aligned ends.first (omega arith) low (λ same. omega (arith, widths, longer)) in
          there false (ends-contains (half false p room) q ends.family ends.first (omega (arith, within, first-size (half false p room), first-size q)))
      | inr high ↦ there true (ends-contains (half true p room) q ends.family high (omega (arith, ends.last, first-size p, first-size (half true p room), first-size q, doubled (width p.family) p.length room)))
    ]
  where
    there : (side : Bool) → contains (half side p room) q ≡ true → contains (half bit p room) q ≡ true
    there side within = subst (λ b. contains (half b p room) q ≡ true) (sym (half-bit side p q room within) ∙ is) within

pub contains-trans : (p q r : Prefix) → contains p q ≡ true → contains q r ≡ true → contains p r ≡ true
contains-trans p q r one other =
    let a = contains-ends p q one in
    let b = contains-ends q r other in
    ends-contains p r (a.family ∙ b.family) (omega (arith, a.first, b.first)) (omega (arith, a.last, b.last))

-- what lies in p is no shorter
pub contains-longer : (p q : Prefix) → contains p q ≡ true → p.length ≤ q.length
contains-longer p q inside =
    let ends = contains-ends p q inside in
    let widths : width p.family ≡ width q.family = ap width ends.family in
    elim (cases_lt q.length p.length) [
      | inl shorter ↦
          let more : 2 ^ (width p.family - p.length) < 2 ^ (width q.family - q.length) = pow_below _ _ (omega (arith, p.length_fits, widths)) in
          absurd (omega (arith, ends.first, ends.last, first-size p, first-size q))
      | inr longer ↦ longer
    ]

-- what lies in p and is as long is p
pub contains-same : (p q : Prefix) → contains p q ≡ true → q.length ≤ p.length → p ≡ q
contains-same p q inside short =
    let ends = contains-ends p q inside in
    let longer = contains-longer p q inside in
    let lengths : p.length ≡ q.length = omega arith in
    let sizes : 2 ^ (width p.family - p.length) ≡ 2 ^ (width q.family - q.length) = ap (λ e. 2 ^ e) (omega (arith, ap width ends.family)) in
    same_prefix p q ends.family (omega (arith, ends.first, ends.last, first-size p, first-size q)) lengths

-- ---- the prefix to which a path of bits leads

-- this first address and length are its
pub record IsPast (p : Prefix) (path : List Bool) (first len : ℕ) : Type 0 where
  pub aligned : first % 2 ^ (width p.family - len) ≡ 0
  pub in_family : first + 2 ^ (width p.family - len) ≤ 2 ^ width p.family
  pub vrps : (t : Top) → vrps_below p.family first len (tree t) ≡ vrps_at p (tree (grown path t))

pub above-half : (bit : Bool) (p : Prefix) (t : Tree) → vrps_at p (tree (above bit t)) ≡ half_vrps bit p t
above-half false p t = append-nil _
above-half true p t = refl

half-number : (bit : Bool) (p : Prefix) (path : List Bool) (len : ℕ) → len ≡ p.length + suc (length path) → len ≤ width p.family → p.first + number_of (bit ∷ path) * 2 ^ (width p.family - len) ≡ half_first bit p + number_of path * 2 ^ (width p.family - len)
half-number false p path len long fits = refl
half-number true p path len long fits =
    let rest = width p.family - len in
    let more : width p.family - (p.length + 1) ≡ length path + rest = omega arith in
    omega (arith, ap (λ e. 2 ^ e) more, pow-add 2 (length path) rest, add-mul (2 ^ length path) (number_of path) (2 ^ rest))

is-past : (path : List Bool) (p : Prefix) (first len : ℕ) → len ≡ p.length + length path → len ≤ width p.family → first ≡ p.first + number_of path * 2 ^ (width p.family - len) → IsPast p path first len
is-past [] p first len long fits is =
    let same : first ≡ p.first = omega (arith, is) in
    let short : len ≡ p.length = omega arith in
    rw (same, short) (record { aligned = p.aligned; in_family = p.in_family; vrps = λ t. refl })
is-past (bit ∷ path) p first len long fits is =
    let below = is-past path (half bit p (omega arith)) first len (omega arith) fits (is ∙ half-number bit p path len long fits) in
    record { aligned = below.aligned; in_family = below.in_family; vrps = λ t. below.vrps t ∙ sym (above-half bit p (tree (grown path t))) }

-- it is an address
pub past-small : (p : Prefix) (path : List Bool) (first len : ℕ) → IsPast p path first len → first < 2 ^ 128
past-small p path first len there = below_widest p.family first (omega (arith, there.in_family, pow_pos (width p.family - len)))

-- as a shift gives it
pub past-shifted : (p : Prefix) (path : List Bool) (number w len : ℕ) → number ≡ number_of path → w ≡ width p.family → len ≡ p.length + length path → len ≤ width p.family → IsPast p path (p.first + (number * 2 ^ (w - len)) % 2 ^ 128) len
past-shifted p path number w len is wide long fits =
    let there = is-past path p _ len long fits refl in
    let shift : (number_of path * 2 ^ (width p.family - len)) % 2 ^ 128 ≡ number_of path * 2 ^ (width p.family - len) = mod-eq_of_lt (omega (arith, past-small p path _ len there)) in
    rw (is, wide, shift) there
