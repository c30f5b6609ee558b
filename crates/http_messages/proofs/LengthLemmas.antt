-- Lengths of bodies, read digit by digit.
use Rattle.std.proofs.Common.{◌≡◌, ℕ, zero, suc, ◌+◌, ◌*◌, ◌<◌, Bool, true, List, [], ◌∷◌, length, get_or, min, arith}
use Rattle.std.specs.List.{list_all}
use Rattle.std.proofs.lemmas.Bool.{and_parts}

-- a test that each element passes, at one of them
pub all-at : (test : ℕ → Bool) (xs : List ℕ) (i : ℕ) → i < length xs → list_all test xs ≡ true → test (get_or xs i 0) ≡ true
all-at test [] i within all = absurd (omega (arith, within))
all-at test (x ∷ xs) zero within all = (and_parts _ _ all).0
all-at test (x ∷ xs) (suc i) within all = all-at test xs i (omega (arith, within)) (and_parts _ _ all).1

-- a digit more of a number that is capped
pub capped-more : (number value read digit longer : ℕ) → number ≡ min value 1048577 → read ≡ digit
    → longer ≡ value * 10 + digit → min (number * 10 + read) 1048577 ≡ min longer 1048577
capped-more number value read digit longer capped same is = omega (arith, capped, same, is)
