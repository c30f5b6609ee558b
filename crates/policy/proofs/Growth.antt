-- Requests of several parts: one more part after those that were judged.
use Rattle.policy.proofs.Vocabulary.{◌≡◌, ℕ, ◌+◌, ◌<◌, zero, suc, List, [], ◌∷◌, ◌++◌, length, take, get_or, inl, inr, Option, Result, Ok, Err, refl, sym, ap, ◌∙◌, subst, arith, take_more, Command, Rule, History}
use Rattle.registry.specs.GrowingHistory.{grown_by, Grows, IsDeniedAt}

abbrev Judges : Type 0 → Type 1
Judges X = History → X → Result (Option Command) Rule → Type 0

Grows-append : {X : Type 0} (judges : Judges X) (day : ℕ) (caller : List ℕ) (before : History) (xs : List X) (x : X) (mid : History) (made : Option Command)
    → Grows judges day caller before xs mid → judges mid x (Ok made)
    → Grows judges day caller before (xs ++ x ∷ []) (grown_by day caller made mid)
Grows-append judges day caller before [] x mid made grows is =
    (made, subst (λ (h : History). judges h x (Ok made)) grows is, ap (grown_by day caller made) grows)
Grows-append judges day caller before (y ∷ ys) x mid made grows is =
    (grows.0, grows.1, Grows-append judges day caller (grown_by day caller grows.0 before) ys x mid made grows.2 is)

-- the part in place i is not denied either
pub Grows-more : {X : Type 0} (judges : Judges X) (day : ℕ) (caller : List ℕ) (before : History) (xs : List X) (i : ℕ) (x : X) (mid : History) (made : Option Command)
    → i < length xs → x ≡ get_or xs i x → Grows judges day caller before (take i xs) mid → judges mid x (Ok made)
    → Grows judges day caller before (take (i + 1) xs) (grown_by day caller made mid)
Grows-more judges day caller before xs i x mid made within here grows is =
    let parts : take i xs ++ x ∷ [] ≡ take (i + 1) xs = ap (λ y. take i xs ++ y ∷ []) here ∙ sym (take_more xs i x within) in
    subst (λ ys. Grows judges day caller before ys (grown_by day caller made mid)) parts
    (Grows-append judges day caller before (take i xs) x mid made grows is)

-- the part in place i is the first that is denied
pub Grows-denied : {X : Type 0} (judges : Judges X) (day : ℕ) (caller : List ℕ) (before : History) (xs : List X) (i : ℕ) (x : X) (mid : History) (rule : Rule)
    → i < length xs → x ≡ get_or xs i x → Grows judges day caller before (take i xs) mid → judges mid x (Err rule)
    → IsDeniedAt judges day caller before xs rule (i + 1)
Grows-denied judges day caller before [] i x mid rule within here grows is = absurd (omega arith)
Grows-denied judges day caller before (y ∷ ys) zero x mid rule within here grows is =
    let at_start = subst (λ (h : History). judges h x (Err rule)) grows is in
    inl (subst (λ z. judges before z (Err rule)) here at_start, refl)
Grows-denied judges day caller before (y ∷ ys) (suc i) x mid rule within here grows is =
    inr (grows.0, grows.1, i + 1, omega arith, Grows-denied judges day caller (grown_by day caller grows.0 before) ys i x mid rule (omega arith) here grows.2 is)
