-- A loop that adds to a list what each item of another gives.
use Rattle.slurm.proofs.Vocabulary.{◌≡◌, ℕ, ◌+◌, ◌<◌, List, [], ◌∷◌, ◌++◌, length, get_or, take, sym, ap, ◌∙◌, append_assoc, take_more}

pub pushed_more : {X Y : Type 0} (gives : List X → List Y) → ((xs ys : List X) → gives (xs ++ ys) ≡ gives xs ++ gives ys) → (old before after : List Y) (xs : List X) (i : ℕ) (x : X) → i < length xs → x ≡ get_or xs i x
    → before ≡ old ++ gives (take i xs) → after ≡ before ++ gives (x ∷ []) → after ≡ old ++ gives (take (i + 1) xs)
pushed_more {X} {Y} gives splits old before after xs i x within is so_far added =
    added
    ∙ ap (λ (out : List Y). out ++ gives (x ∷ [])) so_far
    ∙ append_assoc old (gives (take i xs)) (gives (x ∷ []))
    ∙ ap (λ (given : List Y). old ++ given) (sym (splits (take i xs) (x ∷ [])))
    ∙ ap (λ (y : X). old ++ gives (take i xs ++ y ∷ [])) is
    ∙ ap (λ (read : List X). old ++ gives read) (sym (take_more xs i x within))
