-- A walk over a list from its front.
use Rattle.requests.proofs.Vocabulary.{◌≡◌, ◌∙◌, ◌<◌, ◌+◌, ℕ, Bool, false, refl, sym, ap, List, ◌∷◌, length, drop, drop-cons, get_or, Option, suc, add-one, find, fold, map}

-- past an item that fails the test the rest is searched
pub find-past : {X : Type 0} (test : X → Bool) (xs : List X) (i : ℕ) (d : X) (found : Option X) → i < length xs
    → false ≡ test (get_or xs i d) → find test (drop i xs) ≡ found → find test (drop (i + 1) xs) ≡ found
find-past test xs i d found lt fails before =
    let step : find test (get_or xs i d ∷ drop (suc i) xs) ≡ find test (drop (suc i) xs) = rw (← fails) refl in
    rw add-one (sym step ∙ ap (find test) (sym (drop-cons xs i d lt)) ∙ before)

-- with the first of the rest taken, the other items are taken
pub fold-past : {X Y Z : Type 0} (take_one : Z → Y → Z) (plain : X → Y) (xs : List X) (i : ℕ) (d : X) (so_far all : Z)
    → i < length xs → fold take_one so_far (map plain (drop i xs)) ≡ all
    → fold take_one (take_one so_far (plain (get_or xs i d))) (map plain (drop (i + 1) xs)) ≡ all
fold-past take_one plain xs i d so_far all lt before =
    rw add-one (sym (ap (λ rest. fold take_one so_far (map plain rest)) (drop-cons xs i d lt)) ∙ before)
