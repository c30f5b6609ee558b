-- Where a head can end.
use Rattle.std.proofs.Common.{◌≡◌, ◌≢◌, ℕ, ◌+◌, ◌-◌, ◌<◌, ◌≤◌, true, false, true≢false, List, [], ◌∷◌, ◌++◌, length, take, min, nat_eq, sym, refl, ◌∙◌, ap, arith, append_assoc, length-append, inl, inr}
use Rattle.std.proofs.Math.Seq.{take-append_seam, take-append-add}
use Rattle.std.proofs.lemmas.List.{take-append-le, take_all, length-take, length-take-le}
use Rattle.std.proofs.lemmas.Bool.{cases_lt, false_from_ne_true}
use Rattle.std.proofs.lemmas.Slice.Eq.{ends_is}
use Rattle.std.proofs.lemmas.Bool.Decides.{Decides-eqb}
use Rattle.std.specs.List.{ends_with}
use Rattle.http_messages.specs.HeadEnd.{has_end, IsWholeHead, LacksEnd}
use Rattle.http_messages.specs.declared.head.TheConstants.{HEAD_LIMIT}

-- two lists that begin alike for as long
begins-alike : (a b x y : List ℕ) → a ++ x ≡ b ++ y → length a ≡ length b → a ≡ b
begins-alike a b x y same lengths =
    sym (take-append_seam a x) ∙ ap (take (length a)) same ∙ ap (λ n. take n (b ++ y)) lengths ∙ take-append_seam b y

-- where more bytes complete the end, what came before them ends with the beginning of it
ends_with-before : (bytes more p q : List ℕ) → length more ≡ length q
    → ends_with nat_eq (bytes ++ more) (p ++ q) ≡ true → ends_with nat_eq bytes p ≡ true
ends_with-before bytes more p q lengths ends =
    let front : List ℕ = take (length (bytes ++ more) - length (p ++ q)) (bytes ++ more) in
    let whole : bytes ++ more ≡ (front ++ p) ++ q =
    (ends_is {E = nat_eq} Decides-eqb (bytes ++ more) (p ++ q) _ refl).0 ends ∙ sym (append_assoc front p q) in
    let long : length bytes ≡ length (front ++ p) =
    omega (arith, ap length whole, length-append bytes more, length-append (front ++ p) q, lengths) in
    (ends_is {E = nat_eq} Decides-eqb bytes p _ refl).1 front (begins-alike bytes (front ++ p) more q whole long)

-- no beginning of the end leaves as many bytes of it to come
lacks : (bytes more p q : List ℕ) → ends_with nat_eq bytes p ≡ false
    → ends_with nat_eq (bytes ++ more) (p ++ q) ≡ true → length more ≢ length q
lacks bytes more p q test ends lengths = true≢false (sym (ends_with-before bytes more p q lengths ends) ∙ test)

-- beginnings of the end
abbrev pub three : List ℕ
three = 13 ∷ 10 ∷ 13 ∷ []

abbrev pub two : List ℕ
two = 13 ∷ 10 ∷ []

abbrev pub one : List ℕ
one = 13 ∷ []

pub missing-two : (bytes : List ℕ) → ends_with nat_eq bytes three ≡ false
    → (more : List ℕ) → 0 < length more → has_end (bytes ++ more) ≡ true → 2 ≤ length more
missing-two bytes no_three more some ends =
    let not_one : length more ≢ 1 = lacks bytes more three (10 ∷ []) no_three ends in
    omega (arith, not_one, some)

pub missing-three : (bytes : List ℕ) → ends_with nat_eq bytes three ≡ false → ends_with nat_eq bytes two ≡ false
    → (more : List ℕ) → 0 < length more → has_end (bytes ++ more) ≡ true → 3 ≤ length more
missing-three bytes no_three no_two more some ends =
    let not_one : length more ≢ 1 = lacks bytes more three (10 ∷ []) no_three ends in
    let not_two : length more ≢ 2 = lacks bytes more two two no_two ends in
    omega (arith, not_one, not_two, some)

pub missing-four : (bytes : List ℕ) → ends_with nat_eq bytes three ≡ false → ends_with nat_eq bytes two ≡ false
    → ends_with nat_eq bytes one ≡ false
    → (more : List ℕ) → 0 < length more → has_end (bytes ++ more) ≡ true → 4 ≤ length more
missing-four bytes no_three no_two no_one more some ends =
    let not_one : length more ≢ 1 = lacks bytes more three (10 ∷ []) no_three ends in
    let not_two : length more ≢ 2 = lacks bytes more two two no_two ends in
    let not_three : length more ≢ 3 = lacks bytes more one (10 ∷ 13 ∷ 10 ∷ []) no_one ends in
    omega (arith, not_one, not_two, not_three, some)

-- the end comes only after this many bytes more
abbrev pub EndsAfter : ℕ → List ℕ → Type 0
EndsAfter room bytes = (more : List ℕ) → 0 < length more → has_end (bytes ++ more) ≡ true → room ≤ length more

-- so it is not where j more bytes have come, fewer than that
not-yet : (bytes more : List ℕ) (room j : ℕ) → EndsAfter room bytes → length more ≤ room → 0 < j → j < length more
    → has_end (bytes ++ take j more) ≡ false
not-yet bytes more room j after few some short =
    let long : length (take j more) ≡ j = length-take-le j more (omega (arith, short)) in
    false_from_ne_true _ (λ ends.
    let far : room ≤ length (take j more) = after (take j more) (omega (arith, long, some)) ends in
    omega (arith, far, long, short, few))

-- nor before the last of so many more bytes
pub ends-late : (bytes more : List ℕ) (room : ℕ) → LacksEnd bytes → EndsAfter room bytes → length more ≤ room
    → (k : ℕ) → k < length (bytes ++ more) → has_end (take k (bytes ++ more)) ≡ false
ends-late bytes more room before after few k within =
    elim (cases_lt (length bytes) k) [
      | inl past ↦
          let is : k ≡ length bytes + (k - length bytes) = omega (arith, past) in
          ap (λ n. has_end (take n (bytes ++ more))) is
          ∙ ap has_end (take-append-add bytes more (k - length bytes))
          ∙ not-yet bytes more room (k - length bytes) after few (omega (arith, past))
          (omega (arith, past, within, length-append bytes more))
      | inr low ↦ ap has_end (take-append-le k bytes more low) ∙ before k
    ]

-- the end is nowhere in all of the bytes either, where they do not end with it
pub LacksEnd-more : (bytes more : List ℕ) (room : ℕ) → LacksEnd bytes → EndsAfter room bytes → length more ≤ room
    → has_end (bytes ++ more) ≡ false → LacksEnd (bytes ++ more)
LacksEnd-more bytes more room before after few test k =
    elim (cases_lt k (length (bytes ++ more))) [
      | inl within ↦ ends-late bytes more room before after few k within
      | inr past ↦ ap has_end (take_all k (bytes ++ more) past) ∙ test
    ]

-- and where they do, they are a whole head
pub IsWholeHead-more : (bytes more : List ℕ) (room : ℕ) → LacksEnd bytes → EndsAfter room bytes → length more ≤ room
    → has_end (bytes ++ more) ≡ true → length (bytes ++ more) ≤ HEAD_LIMIT → IsWholeHead (bytes ++ more)
IsWholeHead-more bytes more room before after few test within_limit = record {
  ends = test;
  first = ends-late bytes more room before after few;
  within_limit = within_limit;
}

-- a read of no more than may come gives no more
pub few-read : (count room missing left : ℕ) (buffer piece : List ℕ) → count ≤ length buffer
    → length buffer ≡ length (take room piece) → room ≡ min missing left
    → (length (take count buffer) ≤ missing) × (length (take count buffer) ≤ left)
few-read count room missing left buffer piece within sizes is =
    let size : length (take count buffer) ≡ count = length-take-le count buffer within in
    let most : length (take room piece) ≡ min room (length piece) = length-take room piece in
    (omega (arith, size, most, within, sizes, is), omega (arith, size, most, within, sizes, is))

-- what was read is put at the head's end
pub handed-on : (old middle new head longer buffer tail : List ℕ) (count : ℕ) → middle ≡ old ++ head
    → new ≡ middle ++ take count buffer → longer ≡ head ++ take count (buffer ++ tail) → count ≤ length buffer
    → (longer ≡ head ++ take count buffer) × (new ≡ old ++ longer)
handed-on old middle new head longer buffer tail count before after put within =
    let grown : longer ≡ head ++ take count buffer =
    put ∙ ap (λ more. head ++ more) (take-append-le count buffer tail within) in (
      grown,
      after ∙ ap (λ u. u ++ take count buffer) before ∙ append_assoc old head (take count buffer)
          ∙ ap (λ u. old ++ u) (sym grown),
    )
