use Rattle.addr.proofs.Vocabulary.{take_all, ◌≡◌, ℕ, ◌-◌, ◌^◌, ◌<◌, ◌≤◌, ◌∷◌, length, take, drop, arith, List, true, Some, None, Option, ap, subst, ◌∙◌, sym, refl, inl, inr, cond, nat_eq, false, true≢false, decimal, IsUtf8, digits_value, pointwise, bytes_decides, decimal_is_IsNumeral, IsAscii-decimal, IsUtf8-from_ascii, none-some, same_Some, and_parts, and_from, cases_Bool, ltb-true, lt-ltb, writes}
use Rattle.addr.specs.Digits.{number_in}

pub utf8_decimal : (text : List ℕ) (n : ℕ) → n < 2 ^ 64 → text ≡ decimal n → IsUtf8 text
utf8_decimal text n h e = subst IsUtf8 (sym e) (IsUtf8-from_ascii (decimal n) (IsAscii-decimal n h))

written : (n : ℕ) (text : List ℕ) → writes n text ≡ true → (n < 2 ^ 64) × (text ≡ decimal n)
written n text t =
    let parts = and_parts _ _ t in
    (ltb-true _ _ parts.0, sym ((bytes_decides (decimal n) text).0 parts.1))

-- what `number_in` reads is the number that has these digits, and it reads each
pub number_in-decimal : (n : ℕ) → n < 2 ^ 64 → number_in (decimal n) ≡ Some n
unfolding number_in
number_in-decimal n h =
    let P : ℕ → Type 0 = λ k. cond (writes k (decimal n)) (Some k) None ≡ Some n in
    let itself : writes n (decimal n) ≡ true =
    and_from _ _ (lt-ltb n (2 ^ 64) h) ((bytes_decides (decimal n) (decimal n)).1 refl)
    in
    subst P (sym (decimal_is_IsNumeral n h).1) (ap (λ b. cond b (Some n) None) itself)

pub number_in-none : (text : List ℕ) → ((n : ℕ) → n < 2 ^ 64 → ¬ (text ≡ decimal n)) → number_in text ≡ None
unfolding number_in
number_in-none text never =
    elim (cases_Bool (writes (digits_value 10 text) text)) [
      | inl t ↦ let w = written (digits_value 10 text) text t in absurd (never (digits_value 10 text) w.0 w.1)
      | inr f ↦ ap (λ b. cond b (Some (digits_value 10 text)) None) f
    ]

-- a reading that finds each number below 2^64 by its digits, and maybe reads other texts too
abbrev pub ReadsNumber : List ℕ → Option ℕ → Type 0
ReadsNumber text read = (n : ℕ) → n < 2 ^ 64 → text ≡ decimal n → read ≡ Some n

pub number_in-unread : (text : List ℕ) (read : Option ℕ) → ReadsNumber text read → read ≡ None → number_in text ≡ None
number_in-unread text read reads none =
    number_in-none text (λ n h e. none-some n (sym none ∙ reads n h e))

pub number_in-rewritten :
    (text written : List ℕ) (read : Option ℕ) (number : ℕ) → ReadsNumber text read → read ≡ Some number
    → written ≡ decimal number → pointwise nat_eq written text ≡ false → number_in text ≡ None
number_in-rewritten text written read number reads some digits differs =
    number_in-none text (λ n h e.
    let same : number ≡ n = same_Some number n (sym some ∙ reads n h e) in
    let equal : pointwise nat_eq written text ≡ true =
    (bytes_decides written text).1 (digits ∙ ap decimal same ∙ sym e)
    in
    true≢false (sym equal ∙ differs))

-- the slice behind the two letters
pub behind_letters :
    (text rest : List ℕ) (a b : ℕ) → text ≡ a ∷ b ∷ rest → take (length text - 2) (drop 2 text) ≡ rest
behind_letters text rest a b e =
    let all : length rest ≤ length (a ∷ b ∷ rest) - 2 = omega arith in
    ap (λ t. take (length t - 2) (drop 2 t)) e ∙ take_all _ rest all
