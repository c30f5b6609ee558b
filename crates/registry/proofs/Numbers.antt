-- Authorizations whose numbers rise, and lie above one number and up to another.
use Rattle.registry.proofs.Vocabulary.{◌≡◌, ℕ, ◌<◌, ◌≤◌, Bool, true, false, cond, List, [], ◌∷◌, ◌++◌, sym, subst, arith, map, filter, Auth}

abbrev pub Numbered : ℕ → List Auth → ℕ → Type 0
Numbered low [] high = low ≤ high
Numbered low (x ∷ xs) high = (low < x.number) × Numbered x.number xs high

pub Numbered-high : (low : ℕ) (xs : List Auth) (high : ℕ) → Numbered low xs high → low ≤ high
Numbered-high low [] high n = n
Numbered-high low (x ∷ xs) high n = let rest = Numbered-high x.number xs high n.1 in let first : low < x.number = n.0 in omega arith

pub later : {a b c : ℕ} → a < b → b < c → a < c
later {a} {b} {c} p q = omega arith

pub Numbered-low : (low low' : ℕ) (xs : List Auth) (high : ℕ) → low' ≤ low → Numbered low xs high → Numbered low' xs high
Numbered-low low low' [] high p n = omega arith
Numbered-low low low' (x ∷ xs) high p n = (let first : low < x.number = n.0 in omega arith, n.1)

pub Numbered-append : (low : ℕ) (xs : List Auth) (high : ℕ) (y : Auth) → high < y.number → Numbered low xs high → Numbered low (xs ++ y ∷ []) y.number
Numbered-append low [] high y p n = (omega arith, omega arith)
Numbered-append low (x ∷ xs) high y p n = (n.0, Numbered-append x.number xs high y p n.1)

pub Numbered-filter : (keep : Auth → Bool) (low : ℕ) (xs : List Auth) (high : ℕ) → Numbered low xs high → Numbered low (filter keep xs) high
Numbered-filter keep low [] high n = n
Numbered-filter keep low (x ∷ xs) high n =
    let rest = Numbered-filter keep x.number xs high n.1 in
    let first : low < x.number = n.0 in
    let G : Bool → Type 0 = λ b. Numbered low (cond b (x ∷ filter keep xs) (filter keep xs)) high in
    elim (keep x) as G [ true ↦ (n.0, rest) | false ↦ Numbered-low x.number low (filter keep xs) high (omega arith) rest ]

pub Numbered-map : (f : Auth → Auth) → ((x : Auth) → (f x).number ≡ x.number) → (low : ℕ) (xs : List Auth) (high : ℕ) → Numbered low xs high → Numbered low (map f xs) high
Numbered-map f same low [] high n = n
Numbered-map f same low (x ∷ xs) high n =
    let rest = Numbered-map f same x.number xs high n.1 in
    let P : ℕ → Type 0 = λ k. (low < k) × Numbered k (map f xs) high in
    subst P (sym (same x)) (n.0, rest)
