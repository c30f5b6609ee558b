-- The lowest bits of a number as a path.
use Rattle.payload.proofs.Vocabulary.{◌≡◌, ℕ, zero, suc, ◌+◌, ◌-◌, ◌*◌, ◌/◌, ◌%◌, ◌^◌, ◌≤◌, ◌<◌, Bool, ◌==◌, List, ◌∷◌, ◌++◌, length, take, drop, refl, sym, ap, ◌∙◌, arith, div-div-eq-div-mul, mod-lt, take_all, mod-pow-add, pow-add, width, Prefix, common, low_bits, number_of, bits_from, last_bits}
use Rattle.payload.proofs.Bits.{length-bits_from}
use Rattle.payload.proofs.Grown.{common-front, common-most}

pub length-low_bits : (n number : ℕ) → length (low_bits n number) ≡ n
length-low_bits zero number = refl
length-low_bits (suc n) number = ap suc (length-low_bits n number)

pub size_of : (n number : ℕ) (path : List Bool) → low_bits n number ≡ path → length path ≡ n
size_of n number path is = ap length (sym is) ∙ length-low_bits n number

pub drop-low_bits : (k m n number : ℕ) → m ≡ k + n → drop k (low_bits m number) ≡ low_bits n number
drop-low_bits zero m n number is = let same : m ≡ n = omega arith in ap (λ k. low_bits k number) same
drop-low_bits (suc k) zero n number is = absurd (omega arith)
drop-low_bits (suc k) (suc m) n number is = drop-low_bits k m n number (omega arith)

pub low_bits-next : (i m number : ℕ) → i < m → drop i (low_bits m number) ≡ (number / 2 ^ (m - 1 - i) % 2 == 1) ∷ drop (i + 1) (low_bits m number)
low_bits-next i m number within =
    drop-low_bits i m (suc (m - 1 - i)) number (omega arith)
    ∙ ap (λ rest. (number / 2 ^ (m - 1 - i) % 2 == 1) ∷ rest) (sym (drop-low_bits (i + 1) m (m - 1 - i) number (omega arith)))

pub number-low_bits : (n number : ℕ) → number_of (low_bits n number) ≡ number % 2 ^ n
number-low_bits zero number = omega arith
number-low_bits (suc n) number =
    let digit = number / 2 ^ n % 2 in
    let more : suc n ≡ 1 + n = omega arith in
    by (low_bits n number) digit (mod-lt (number / 2 ^ n) (omega arith))
    ∙ (λ i. digit * 2 ^ length-low_bits n number i + number-low_bits n number i)
    ∙ sym (ap (λ m. number % 2 ^ m) more ∙ mod-pow-add number 1 n)
  where
    by : (path : List Bool) (digit : ℕ) → digit < 2 → number_of ((digit == 1) ∷ path) ≡ digit * 2 ^ length path + number_of path
    by path zero bit = omega arith
    by path (suc zero) bit = omega arith
    by path (suc (suc n)) bit = absurd (omega arith)

-- a number's bits from bit k + n on are those of its quotient from bit n on
shifted : (number k n e : ℕ) → e ≡ k + n → number / 2 ^ k / 2 ^ n ≡ number / 2 ^ e
shifted number k n e is =
    div-div-eq-div-mul number (2 ^ k) (2 ^ n) ∙ ap (λ d. number / d) (sym (pow-add 2 k n)) ∙ ap (λ m. number / 2 ^ m) (sym is)

pub take-low_bits : (n k m number : ℕ) → m ≡ n + k → low_bits n (number / 2 ^ k) ≡ take n (low_bits m number)
take-low_bits zero k m number is = refl
take-low_bits (suc n) k zero number is = absurd (omega arith)
take-low_bits (suc n) k (suc m) number is = λ i. (shifted number k n m (omega arith) i % 2 == 1) ∷ take-low_bits n k m number (omega arith) i

-- the last bits of a prefix are the lowest of its first address without its host bits
pub last-low_bits : (p : Prefix) (n : ℕ) → n ≤ p.length → low_bits n (p.first / 2 ^ (width p.family - p.length)) ≡ last_bits p n
last-low_bits p zero within = refl
last-low_bits p (suc n) within =
    let fits = p.length_fits in
    λ i. (shifted p.first (width p.family - p.length) n (width p.family - 1 - (p.length - suc n)) (omega (arith, fits, within)) i % 2 == 1) ∷ last-low_bits p n (omega (arith, within)) i

-- ---- bits in common with those of a prefix

drop-last_bits : (p : Prefix) (k m n : ℕ) → m ≡ k + n → drop k (last_bits p m) ≡ last_bits p n
drop-last_bits p zero m n is = let same : m ≡ n = omega arith in ap (last_bits p) same
drop-last_bits p (suc k) zero n is = absurd (omega arith)
drop-last_bits p (suc k) (suc m) n is = drop-last_bits p k m n (omega arith)

pub common-within : (p : Prefix) (at : ℕ) (path : List Bool) → at ≤ p.length → at + common path (bits_from p at) ≤ p.length
common-within p at path within = omega (arith, common-most path (bits_from p at), length-bits_from p at)

-- the bits of the prefix begin with the first ones of the path that are in common
pub common-some : (p : Prefix) (at n : ℕ) (path : List Bool) → at ≤ p.length → common path (bits_from p at) ≡ n → bits_from p at ≡ take n path ++ bits_from p (at + n)
common-some p at n path within all =
    let most = common-within p at path within in
    sym (common-front path (bits_from p at))
    ∙ ap (λ n. take n path ++ drop n (bits_from p at)) all
    ∙ ap (λ rest. take n path ++ rest) (drop-last_bits p n (p.length - at) (p.length - (at + n)) (omega (arith, most, all)))

pub common-all : (p : Prefix) (at n : ℕ) (path : List Bool) → at ≤ p.length → common path (bits_from p at) ≡ n → length path ≤ n → bits_from p at ≡ path ++ bits_from p (at + n)
common-all p at n path within is all =
    common-some p at n path within is ∙ ap (λ front. front ++ bits_from p (at + n)) (take_all n path (omega arith))
