-- Items of a list that pass a test.
use Rattle.slurm.proofs.Vocabulary.{◌≡◌, Bool, true, false, List, [], ◌∷◌, refl, ap, ◌∙◌, inl, inr, ◌⊎◌, list_any, AllByRecursion, or_cases, or_left, or_right}

abbrev pub In : {T : Type 0} → T → List T → Type 0
In x [] = ⊥
In x (y ∷ ys) = (y ≡ x) ⊎ In x ys

pub in_any : {T : Type 0} (test : T → Bool) (xs : List T) → list_any test xs ≡ true → (x : T) × In x xs × (test x ≡ true)
in_any test [] h = absurd cc
in_any test (x ∷ xs) h =
    elim (or_cases (test x) (list_any test xs) h) [
      | inl here ↦ (x, inl refl, here)
      | inr later ↦ let one = in_any test xs later in (one.0, inr one.1, one.2)
    ]

pub any_in : {T : Type 0} (test : T → Bool) (xs : List T) (x : T) → In x xs → test x ≡ true → list_any test xs ≡ true
any_in test [] x none h = absurd none
any_in test (y ∷ ys) x (inl is) h = or_left (test y) (list_any test ys) (ap test is ∙ h)
any_in test (y ∷ ys) x (inr later) h = or_right (test y) (list_any test ys) (any_in test ys x later h)

pub all_in : {T : Type 0} (P : T → Type 0) (xs : List T) (x : T) → In x xs → AllByRecursion P xs → P x
all_in P [] x none all = absurd none
all_in P (y ∷ ys) x (inl is) all = rw (← is) all.0
all_in P (y ∷ ys) x (inr later) all = all_in P ys x later all.1

pub same_tests : (a b : Bool) → (a ≡ true → b ≡ true) → (b ≡ true → a ≡ true) → a ≡ b
same_tests true true to from = refl
same_tests true false to from = absurd (let off : false ≡ true = to refl in cc)
same_tests false true to from = absurd (let off : false ≡ true = from refl in cc)
same_tests false false to from = refl
