-- The 16 bytes of an address: how a loop over them goes on, and that they are those of one number.
use Rattle.store_tables.proofs.Vocabulary.{◌≡◌, ℕ, zero, suc, ◌+◌, ◌*◌, ◌/◌, ◌%◌, ◌^◌, ◌<◌, ◌≤◌, List, [], ◌∷◌, ◌++◌, length, take, arith, ap, sym, ◌∙◌, refl, subst, byte_at, bytes_high_first, mod-mul, div-div-eq-div-mul, pow-succ', pow-le-pow_right, zero-lt-suc, take_all, ◌-◌, Ordering, Less, Equal, Greater, nat_cmp, ap₂, mod-lt, mod-eq_of_lt, ranks, nat_cmp_is, slice_cmp, ordering_then, MatchOrdering}
use Rattle.std.proofs.Math.Nat.{mod-eq_of_lt}
use Rattle.std.proofs.lemmas.Nat.{div-mul-add, mod-mul-add}
use Rattle.store_tables.specs.Cells.{address_bytes}

pub powers_positive : (k : ℕ) → 0 < 256 ^ k
powers_positive zero = omega arith
powers_positive (suc k) = let more : 256 ^ suc k ≡ 256 * 256 ^ k = pow-succ' 256 k in omega (arith, powers_positive k, more)

-- the byte at place k, whatever k is
pub byte_is : (k n : ℕ) → byte_at k n ≡ n / 256 ^ k % 256
byte_is zero n = grind arith
byte_is (suc k) n = refl

byte_below : (i n b : ℕ) → b < 256 → byte_at (suc i) (n * 256 + b) ≡ byte_at i n
byte_below i n b small =
    let over : (n * 256 + b) / 256 ^ suc i ≡ (n * 256 + b) / 256 / 256 ^ i = ap (λ p. (n * 256 + b) / p) (pow-succ' 256 i) ∙ sym (div-div-eq-div-mul (n * 256 + b) 256 (256 ^ i)) in
    ap (λ q. q % 256) (over ∙ ap (λ q. q / 256 ^ i) (div-mul-add n 256 b small)) ∙ sym (byte_is i n)

-- a byte more at the end
bytes_more : (i n b : ℕ) → b < 256 → bytes_high_first (suc i) (n * 256 + b) ≡ bytes_high_first i n ++ b ∷ []
bytes_more zero n b small = ap (λ x. x ∷ []) (mod-mul-add n 256 b small)
bytes_more (suc i) n b small = λ t. byte_below i n b small t ∷ bytes_more i n b small t

-- bytes are those of one number below the power
same_bytes : (k m n : ℕ) → bytes_high_first k m ≡ bytes_high_first k n → m % 256 ^ k ≡ n % 256 ^ k
same_bytes zero m n same = grind arith
same_bytes (suc k) m n same =
    let high : m / 256 ^ k % 256 ≡ n / 256 ^ k % 256 = let b : byte_at k m ≡ byte_at k n = cc in sym (byte_is k m) ∙ b ∙ byte_is k n in
    let low : m % 256 ^ k ≡ n % 256 ^ k = same_bytes k m n (cc) in
    let parts : (x : ℕ) → x % 256 ^ suc k ≡ (x / 256 ^ k % 256) * 256 ^ k + x % 256 ^ k = λ x. ap (λ p. x % p) (pow-succ' 256 k) ∙ mod-mul x (zero-lt-suc 255) (powers_positive k) in
    parts m ∙ (λ i. high i * 256 ^ k + low i) ∙ sym (parts n)

pub address_once : (m n : ℕ) → m < 2 ^ 128 → n < 2 ^ 128 → address_bytes m ≡ address_bytes n → m ≡ n
unfolding address_bytes
address_once m n below_m below_n same =
    sym (mod-eq_of_lt {m = 2 ^ 128} below_m) ∙ same_bytes 16 m n same ∙ mod-eq_of_lt {m = 2 ^ 128} below_n

pub length-address_bytes : (n : ℕ) → length (address_bytes n) ≡ 16
unfolding address_bytes
length-address_bytes n = refl

-- what a loop over the bytes keeps, from none to one more
pub below_more : (i n b : ℕ) → n < 256 ^ i → b < 256 → n * 256 + b < 256 ^ (i + 1)
below_more i n b below small =
    let more : 256 ^ suc i ≡ 256 * 256 ^ i = pow-succ' 256 i in
    let next : 256 ^ (i + 1) ≡ 256 ^ suc i = ap (λ k. 256 ^ k) (omega arith) in
    omega arith

pub room : (i n b : ℕ) → i < 16 → n < 256 ^ i → b < 256 → n * 256 + b < 2 ^ 128
room i n b within below small =
    let top : 256 ^ i ≤ 256 ^ 15 = pow-le-pow_right {n = 256} (zero-lt-suc 255) {i = i} {j = 15} (omega arith) in omega arith

pub bytes_next : (i n b : ℕ) → b < 256 → bytes_high_first (i + 1) (n * 256 + b) ≡ bytes_high_first i n ++ b ∷ []
bytes_next i n b small = let e : i + 1 ≡ suc i = omega arith in ap (λ k. bytes_high_first k (n * 256 + b)) e ∙ bytes_more i n b small

-- the number that a loop has read at the end of 16 bytes
pub address_read : (bytes : List ℕ) (i n : ℕ) → length bytes ≡ 16 → i ≡ 16 → bytes_high_first i n ≡ take i bytes → bytes ≡ address_bytes n
unfolding address_bytes
address_read bytes i n whole ends read =
    sym (take_all 16 bytes (omega arith)) ∙ sym (subst (λ k. bytes_high_first k n ≡ take k bytes) ends read)

-- ---- the order of addresses as bytes is that of their numbers

below_next : (p d c x y : ℕ) → x < c → p * c + x < (p + 1 + d) * c + y
below_next p d c x y below = grind arith

below_far : (p q c x y : ℕ) → p < q → x < c → p * c + x < q * c + y
below_far p q c x y less below = let is : q ≡ p + 1 + (q - p - 1) = omega (arith, less) in rw is (below_next p (q - p - 1) c x y below)

-- numbers of two digits are ordered by the first, and then by the second
two_digits : (c p q x y : ℕ) → x < c → y < c → ordering_then (nat_cmp p q) (nat_cmp x y) ≡ nat_cmp (p * c + x) (q * c + y)
two_digits c p q x y below_x below_y = nat_cmp_is (p * c + x) (q * c + y) _ (go (nat_cmp p q) (ranks p q))
  where
    later : p ≡ q → (o : Ordering) → MatchOrdering o (x < y) (x ≡ y) (y < x) → MatchOrdering o (p * c + x < q * c + y) (p * c + x ≡ q * c + y) (q * c + y < p * c + x)
    later same Less h = rw same (omega (arith, h))
    later same Equal h = rw (same, h) refl
    later same Greater h = rw same (omega (arith, h))

    go : (o : Ordering) → MatchOrdering o (p < q) (p ≡ q) (q < p) → MatchOrdering (ordering_then o (nat_cmp x y)) (p * c + x < q * c + y) (p * c + x ≡ q * c + y) (q * c + y < p * c + x)
    go Less less = below_far p q c x y less below_x
    go Equal same = later same (nat_cmp x y) (ranks x y)
    go Greater more = below_far q p c y x more below_y

none : (n : ℕ) → n % 1 ≡ 0
none n = let low : n % 1 < 1 = mod-lt n (omega arith) in omega (arith, low)

bytes_in_order : (k a b : ℕ) → slice_cmp nat_cmp (bytes_high_first k a) (bytes_high_first k b) ≡ nat_cmp (a % 256 ^ k) (b % 256 ^ k)
bytes_in_order zero a b = nat_cmp_is (a % 256 ^ 0) (b % 256 ^ 0) Equal (none a ∙ sym (none b))
bytes_in_order (suc k) a b =
    let c = 256 ^ k in
    let some : 0 < c = powers_positive k in
    let digits : (n : ℕ) → n % 256 ^ suc k ≡ byte_at k n * c + n % c = λ n. ap (λ m. n % m) (pow-succ' 256 k) ∙ mod-mul n (omega arith) some ∙ ap (λ d. d * c + n % c) (sym (byte_is k n)) in
    ap (ordering_then (nat_cmp (byte_at k a) (byte_at k b))) (bytes_in_order k a b) ∙ two_digits c (byte_at k a) (byte_at k b) (a % c) (b % c) (mod-lt a some) (mod-lt b some) ∙ sym (ap₂ nat_cmp (digits a) (digits b))

pub addresses_in_order : (a b : ℕ) → a < 2 ^ 128 → b < 2 ^ 128 → slice_cmp nat_cmp (address_bytes a) (address_bytes b) ≡ nat_cmp a b
unfolding address_bytes
addresses_in_order a b low high = bytes_in_order 16 a b ∙ ap₂ nat_cmp (mod-eq_of_lt low) (mod-eq_of_lt high)
