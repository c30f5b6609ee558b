-- The digits of a number in a base, texts that are cut at a byte, and short numbers.
use Rattle.addr.proofs.Vocabulary.{◌≡◌, ◌⊎◌, ℕ, zero, suc, ◌+◌, ◌*◌, ◌/◌, ◌%◌, ◌^◌, ◌<◌, ◌≤◌, true, false, ◌==◌, List, [], ◌∷◌, ◌++◌, length, get_or, take, drop, set, Option, Some, None, lit≤, lit<, refl, sym, ap, ◌∙◌, inl, inr, arith, add-one, one-add, cond, nat_le, append_assoc, length-append, ne_eqb, eq-eqb, le-leb, lt-ltb, option_map, pow-zero, pow-suc, pow-le-pow_right, div-lt_iff_lt-mul, cases_Bool, cases_lt, or_parts, or_from, le-ltb, lt-leb, and_parts, leb-true, ltb-true, cond_some, list_any-append, number_push, digits_value-lt, length_push, drop-set, decimal_digit, decimal_step, length-decimal-le, digit_value, is_digit, list_all, list_any, position, position_or_len, AllDigits, digits_value, number_from_digits, AllBelowBase, dotted_text, in_three_digits}
use Rattle.std.proofs.Common.{decimal}
use Rattle.addr.specs.PrefixText.{digits_in, cut_at, short_number}

-- ---- digits in a base

pub length_digits_in : (base count number : ℕ) → length (digits_in base count number) ≡ count
unfolding digits_in
length_digits_in base zero number = refl
length_digits_in base (suc count) number =
    let front = length_digits_in base count (number / base) in
    omega (arith, length_push (digits_in base count (number / base)) (number % base))

pub digits_in-zero : (base number : ℕ) → digits_in base 0 number ≡ []
unfolding digits_in
digits_in-zero base number = refl

below_push : (base : ℕ) (ds : List ℕ) (d : ℕ) → AllBelowBase base ds → d < base → AllBelowBase base (ds ++ d ∷ [])
below_push base [] d all here = (here, tt)
below_push base (e ∷ ds) d all here = (all.0, below_push base ds d all.1 here)

pub below-digits_in : (base count number : ℕ) → 0 < base → AllBelowBase base (digits_in base count number)
unfolding digits_in
below-digits_in base zero number some = tt
below-digits_in base (suc count) number some =
    below_push base (digits_in base count (number / base)) (number % base) (below-digits_in base count (number / base) some) (omega arith)

-- a number of so many digits is the one that they write
pub number-digits_in : (base count number : ℕ) → 0 < base → number < base ^ count → number_from_digits base (digits_in base count number) ≡ number
unfolding digits_in
number-digits_in base zero number some fits =
    let one : number < 1 = rw pow-zero at fits in
    omega arith
number-digits_in base (suc count) number some fits =
    let front : number / base < base ^ count = (div-lt_iff_lt-mul some).1 (rw pow-suc at fits) in
    let rest = number-digits_in base count (number / base) some front in
    let push = number_push base (digits_in base count (number / base)) (number % base) in
    rw push (rw rest (omega arith))

pub at_below : (base : ℕ) (ds : List ℕ) (k : ℕ) → 0 < base → AllBelowBase base ds → get_or ds k 0 < base
at_below base [] k some all = some
at_below base (d ∷ ds) zero some all = all.0
at_below base (d ∷ ds) (suc k) some all = at_below base ds k some all.1

-- one turn of the loop that writes the digits from the last to the first
pub digits_in_turn : (base i j number : ℕ) (digits whole : List ℕ) → i ≡ suc j → j < length digits → whole ≡ digits_in base i number ++ drop i digits → whole ≡ digits_in base j (number / base) ++ drop j (set digits j (number % base))
unfolding digits_in
digits_in_turn base i j number digits whole next within h =
    let split = rw (next, append_assoc (digits_in base j (number / base)) (number % base ∷ []) (drop (suc j) digits)) at h in
    rw (drop-set digits j (number % base) within, add-one) split

-- an octet has at most three decimal digits
pub octet_small : (number k : ℕ) → get_or (digits_in 0x100 4 number) k 0 < 1000
octet_small number k = omega (arith, at_below 0x100 (digits_in 0x100 4 number) k (lit< tt) (below-digits_in 0x100 4 number (lit< tt)))

-- a group fits behind a number of fewer than eight groups
pub group_fits : (number i : ℕ) → number < 0x10000 ^ i → i < 8 → number * 0x10000 + 0x10000 ≤ 2 ^ 128
group_fits number i below few =
    let most : 0x10000 ^ i ≤ 0x10000 ^ 7 = pow-le-pow_right (lit≤ tt) {i = i} {j = 7} (omega arith) in
    omega arith

pub more_groups_fit : (number group i : ℕ) → number < 0x10000 ^ i → group < 0x10000 → number * 0x10000 + group < 0x10000 ^ (i + 1)
more_groups_fit number group i below small = rw (add-one, pow-suc) (omega arith)

-- ---- decimal numbers of up to three digits

pub decimal_one : (n : ℕ) → n < 10 → decimal n ≡ (48 + n % 10) ∷ []
decimal_one n h = let same : n % 10 ≡ n = omega arith in rw same (decimal_digit n h)

pub decimal_two : (n : ℕ) → 10 ≤ n → n < 100 → decimal n ≡ (48 + n / 10 % 10) ∷ (48 + n % 10) ∷ []
decimal_two n low high = rw (decimal_step n low (omega arith), decimal_one (n / 10) (omega arith))

pub decimal_three : (n : ℕ) → 100 ≤ n → n < 1000 → decimal n ≡ (48 + n / 100) ∷ (48 + n / 10 % 10) ∷ (48 + n % 10) ∷ []
decimal_three n low high =
    let first : n / 10 / 10 % 10 ≡ n / 100 = omega arith in
    rw (decimal_step n (omega arith) (omega arith), decimal_two (n / 10) (omega arith) (omega arith), first)

-- below 1000, by what is left of the hundreds
pub decimal_short_one : (n : ℕ) → n < 10 → decimal n ≡ cond (nat_le 100 n) ((48 + n / 100) ∷ []) [] ++ (48 + n % 100 % 10) ∷ []
decimal_short_one n small =
    let below : n < 100 = omega arith in
    let ones : n % 100 % 10 ≡ n % 10 = omega arith in
    rw (lt-leb 100 n below, ones, decimal_one n small)

pub decimal_short_more :
    (n : ℕ) → 10 ≤ n → n < 1000 → decimal n
    ≡ cond (nat_le 100 n) ((48 + n / 100) ∷ []) [] ++ (48 + n % 100 / 10) ∷ (48 + n % 100 % 10) ∷ []
decimal_short_more n more small =
    let tens : n % 100 / 10 ≡ n / 10 % 10 = omega arith in
    let ones : n % 100 % 10 ≡ n % 10 = omega arith in
    elim (cases_lt n 100) [
      | inl below ↦ rw (lt-leb 100 n below, tens, ones, decimal_two n more below)
      | inr above ↦ rw (le-leb 100 n above, tens, ones, decimal_three n above small)
    ]

pub decimal_thousands : (n : ℕ) → 1000 ≤ n → n < 2 ^ 64 → decimal n ≡ decimal (n / 1000) ++ in_three_digits (n % 1000)
decimal_thousands n low high =
    let hundreds : 10 ≤ n / 10 = omega arith in
    let thousands : 10 ≤ n / 10 / 10 = omega arith in
    let front : n / 10 / 10 / 10 ≡ n / 1000 = omega arith in
    let first : n / 10 / 10 % 10 ≡ n % 1000 / 100 = omega arith in
    let second : n / 10 % 10 ≡ n % 1000 % 100 / 10 = omega arith in
    let third : n % 10 ≡ n % 1000 % 100 % 10 = omega arith in
    rw (
      decimal_step n (omega arith) high,
      decimal_step (n / 10) hundreds (omega arith),
      decimal_step (n / 10 / 10) thousands (omega arith),
      front,
      first,
      second,
      third,
    ) (simp append_assoc)

pub length_by_thousands : (n : ℕ) → 1000 ≤ n → n < 2 ^ 64 → length (decimal n) ≡ length (decimal (n / 1000)) + 3
length_by_thousands n low high = rw (decimal_thousands n low high) (length-append (decimal (n / 1000)) (in_three_digits (n % 1000)))

pub length_decimal : (n : ℕ) → n < 2 ^ 64 → length (decimal n) ≤ 20
length_decimal n high = length-decimal-le 20 n (lit< tt) (omega arith) high

pub length_thousands : (n : ℕ) → n < 2 ^ 64 → length (decimal (n / 1000)) ≤ 17
length_thousands n high = length-decimal-le 17 (n / 1000) (lit< tt) (omega arith) (omega arith)

-- ---- cutting at a byte

-- the byte is nowhere in the text
abbrev pub Lacks : ℕ → List ℕ → Type 0
Lacks byte text = list_any (λ b. b == byte) text ≡ false

pub Lacks-append : (byte : ℕ) (xs ys : List ℕ) → Lacks byte xs → Lacks byte ys → Lacks byte (xs ++ ys)
Lacks-append byte xs ys hx hy = list_any-append (λ b. b == byte) xs ys ∙ or_from _ _ hx hy

pub Lacks_parts : (byte : ℕ) (xs ys : List ℕ) → Lacks byte (xs ++ ys) → Lacks byte xs × Lacks byte ys
Lacks_parts byte xs ys h = or_parts _ _ (sym (list_any-append (λ b. b == byte) xs ys) ∙ h)

-- no digit of the base is the byte
pub Lacks-digits : (base byte : ℕ) (ds : List ℕ) → base ≤ digit_value byte → AllDigits base ds → Lacks byte ds
Lacks-digits base byte [] other all = refl
Lacks-digits base byte (d ∷ ds) other all =
    or_from _ _ (ne_eqb d byte λ same. let value = ap digit_value same in omega (arith, all.0)) (Lacks-digits base byte ds other all.1)

pub cut_at_here : (separator : ℕ) (front back : List ℕ) → Lacks separator front → cut_at separator (front ++ separator ∷ back) ≡ Some (front, back)
unfolding cut_at
cut_at_here separator [] back none = rw (eq-eqb separator separator refl)
cut_at_here separator (c ∷ front) back none =
    let (here, others) = or_parts (c == separator) (list_any (λ b. b == separator) front) none in
    rw (here, cut_at_here separator front back others)

pub cut_at_none : (separator : ℕ) (text : List ℕ) → Lacks separator text → cut_at separator text ≡ None
unfolding cut_at
cut_at_none separator [] none = refl
cut_at_none separator (c ∷ rest) none =
    let (here, others) = or_parts (c == separator) (list_any (λ b. b == separator) rest) none in
    rw (here, cut_at_none separator rest others)

-- by the place of the first separator
pub cut_at-position : (separator : ℕ) (text : List ℕ) → cut_at separator text ≡ option_map (λ at. (take at text, drop (at + 1) text)) (position (λ byte. byte == separator) text)
unfolding cut_at
cut_at-position separator [] = refl
cut_at-position separator (c ∷ rest) =
    let later = cut_at-position separator rest in
    let at = position_or_len (λ byte. byte == separator) rest in
    elim (cases_Bool (c == separator)) [
      | inl here ↦ rw (here, lt-ltb 0 (length (c ∷ rest)) (omega arith))
      | inr other ↦ elim (cases_lt at (length rest)) [
        | inl within ↦ rw (other, later, lt-ltb (1 + at) (length (c ∷ rest)) (omega arith), lt-ltb at (length rest) within, one-add, add-one, add-one)
        | inr past ↦ rw (other, later, le-ltb (1 + at) (length (c ∷ rest)) (omega arith), le-ltb at (length rest) past)
      ]
    ]

-- ---- short numbers

pub option_cases : {A : Type 0} (found : Option A) → (found ≡ None) ⊎ ((x : A) × (found ≡ Some x))
option_cases None = inl refl
option_cases (Some x) = inr (x, refl)

all_digits_pass : (base : ℕ) (text : List ℕ) → AllDigits base text → list_all (λ c. is_digit c base) text ≡ true
all_digits_pass base [] all = refl
all_digits_pass base (c ∷ text) all = rw (lt-ltb (digit_value c) base all.0, all_digits_pass base text all.1)

pass_all_digits : (base : ℕ) (text : List ℕ) → list_all (λ c. is_digit c base) text ≡ true → AllDigits base text
pass_all_digits base [] pass = tt
pass_all_digits base (c ∷ text) pass =
    let (here, others) = and_parts _ _ pass in
    (ltb-true (digit_value c) base here, pass_all_digits base text others)

-- the text is one to `most` digits of the base that write the number
pub record IsShortNumber (base most : ℕ) (text : List ℕ) (number : ℕ) : Type 0 where
  pub some : 1 ≤ length text
  pub few : length text ≤ most
  pub digits : AllDigits base text
  pub value : digits_value base text ≡ number

pub short_number_from : (base most : ℕ) (text : List ℕ) (number : ℕ) → IsShortNumber base most text number → short_number base most text ≡ Some number
unfolding short_number
short_number_from base most text number h =
    rw (le-leb 1 (length text) h.some, le-leb (length text) most h.few, all_digits_pass base text h.digits, h.value)

pub short_number_is : (base most : ℕ) (text : List ℕ) (number : ℕ) → short_number base most text ≡ Some number → IsShortNumber base most text number
unfolding short_number
short_number_is base most text number e =
    let (test, same) = cond_some _ _ _ e in
    let (some, rest) = and_parts _ _ test in
    let (few, pass) = and_parts _ _ rest in
    record { some = leb-true 1 (length text) some; few = leb-true (length text) most few; digits = pass_all_digits base text pass; value = same }

pub short_number_none : (base most : ℕ) (text : List ℕ) → ((number : ℕ) → IsShortNumber base most text number → ⊥) → short_number base most text ≡ None
short_number_none base most text never =
    elim (option_cases (short_number base most text)) [
      | inl none ↦ none
      | inr some ↦ absurd (never some.0 (short_number_is base most text some.0 some.1))
    ]

pub digit_of_all : (base : ℕ) (text : List ℕ) (i : ℕ) → AllDigits base text → i < length text → digit_value (get_or text i 0) < base
digit_of_all base [] i all within = absurd (omega arith)
digit_of_all base (c ∷ text) zero all within = all.0
digit_of_all base (c ∷ text) (suc i) all within = digit_of_all base text i all.1 (omega arith)

-- a number of up to three decimal digits
pub short_number_below : (text : List ℕ) (number : ℕ) → short_number 10 3 text ≡ Some number → number < 1000
short_number_below text number e =
    let h = short_number_is 10 3 text number e in
    let below = digits_value-lt 10 text h.digits in
    let most : 10 ^ length text ≤ 10 ^ 3 = pow-le-pow_right (lit≤ tt) {i = length text} {j = 3} h.few in
    let value = h.value in
    omega arith

-- the dots of an IPv4 address from the first on
pub dotted_parts : (a b c d : ℕ) → dotted_text a b c d ≡ decimal a ++ 46 ∷ (decimal b ++ 46 ∷ (decimal c ++ 46 ∷ decimal d))
dotted_parts a b c d = simp append_assoc

pub length_dotted : (a b c d : ℕ) → length (dotted_text a b c d) ≡ length (decimal a) + length (decimal b) + (length (decimal c) + length (decimal d)) + 3
length_dotted a b c d = simp length-append (omega arith)
