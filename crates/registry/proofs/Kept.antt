-- A list that keeps those of another for which a fact holds.
use Rattle.registry.proofs.Vocabulary.{◌≡◌, ℕ, ◌<◌, ◌≤◌, Bool, true, false, not, cond, List, [], ◌∷◌, ◌++◌, ◌↔◌, inl, inr, refl, sym, ap, ◌∙◌, subst, arith, map, filter, All-nil, All-cons, All-head, All-tail, Auth, Keeps, cases_Bool, false≢true}
use Rattle.std.specs.List.{All}
use Rattle.registry.proofs.Numbers.{Numbered, Numbered-high, Numbered-low, later}

-- there is one such list
pub Keeps-unique : (P : Auth → Type 0) (xs ys zs : List Auth) → Keeps P xs ys → Keeps P xs zs → ys ≡ zs
Keeps-unique P [] [] [] k l = refl
Keeps-unique P [] [] (z ∷ zs) k l = absurd l
Keeps-unique P [] (y ∷ ys) zs k l = absurd k
Keeps-unique P (x ∷ xs) [] [] k l = refl
Keeps-unique P (x ∷ xs) [] (z ∷ zs) k (inl l) = absurd (k.0 l.0)
Keeps-unique P (x ∷ xs) [] (z ∷ zs) k (inr l) = Keeps-unique P xs [] (z ∷ zs) k.1 l.1
Keeps-unique P (x ∷ xs) (y ∷ ys) [] (inl k) l = absurd (l.0 k.0)
Keeps-unique P (x ∷ xs) (y ∷ ys) [] (inr k) l = Keeps-unique P xs (y ∷ ys) [] k.1 l.1
Keeps-unique P (x ∷ xs) (y ∷ ys) (z ∷ zs) (inl k) (inl l) =
    let rest = Keeps-unique P xs ys zs k.2 l.2 in let same : y ≡ z = k.1 ∙ sym l.1 in cc
Keeps-unique P (x ∷ xs) (y ∷ ys) (z ∷ zs) (inl k) (inr l) = absurd (l.0 k.0)
Keeps-unique P (x ∷ xs) (y ∷ ys) (z ∷ zs) (inr k) (inl l) = absurd (k.0 l.0)
Keeps-unique P (x ∷ xs) (y ∷ ys) (z ∷ zs) (inr k) (inr l) = Keeps-unique P xs (y ∷ ys) (z ∷ zs) k.1 l.1

-- one more, kept
pub Keeps-append : (P : Auth → Type 0) (xs ys : List Auth) (z : Auth) → P z → Keeps P xs ys → Keeps P (xs ++ z ∷ []) (ys ++ z ∷ [])
Keeps-append P [] [] z is k = inl (is, refl, tt)
Keeps-append P [] (y ∷ ys) z is k = absurd k
Keeps-append P (x ∷ xs) [] z is k = inr (k.0, Keeps-append P xs [] z is k.1)
Keeps-append P (x ∷ xs) (y ∷ ys) z is (inl k) = inl (k.0, k.1, Keeps-append P xs ys z is k.2)
Keeps-append P (x ∷ xs) (y ∷ ys) z is (inr k) = inr (k.0, Keeps-append P xs (y ∷ ys) z is k.1)

-- the first is not kept
pub Keeps-skip : (P : Auth → Type 0) (x : Auth) (xs ys : List Auth) → (P x → ⊥) → Keeps P xs ys → Keeps P (x ∷ xs) ys
Keeps-skip P x xs [] n k = (n, k)
Keeps-skip P x xs (y ∷ ys) n k = inr (n, k)

-- a test applied to both
pub Keeps-filtered : (P : Auth → Type 0) (keep : Auth → Bool) (xs ys : List Auth) → Keeps P xs ys → Keeps P (filter keep xs) (filter keep ys)
Keeps-filtered P keep [] [] k = tt
Keeps-filtered P keep [] (y ∷ ys) k = absurd k
Keeps-filtered P keep (x ∷ xs) [] k =
    let rest = Keeps-filtered P keep xs [] k.1 in
    let G : Bool → Type 0 = λ b. Keeps P (cond b (x ∷ filter keep xs) (filter keep xs)) [] in
    elim (keep x) as G [ true ↦ (k.0, rest) | false ↦ rest ]
Keeps-filtered P keep (x ∷ xs) (y ∷ ys) (inl k) =
    let rest = Keeps-filtered P keep xs ys k.2 in
    let G : Bool → Type 0 = λ b. Keeps P (cond b (x ∷ filter keep xs) (filter keep xs)) (cond b (y ∷ filter keep ys) (filter keep ys)) in
    let H : Auth → Type 0 = λ z. Keeps P (filter keep (x ∷ xs)) (cond (keep z) (y ∷ filter keep ys) (filter keep ys)) in
    subst H (sym k.1) (elim (keep x) as G [ true ↦ inl (k.0, k.1, rest) | false ↦ rest ])
Keeps-filtered P keep (x ∷ xs) (y ∷ ys) (inr k) =
    let rest = Keeps-filtered P keep xs (y ∷ ys) k.1 in
    let G : Bool → Type 0 = λ b. Keeps P (cond b (x ∷ filter keep xs) (filter keep xs)) (filter keep (y ∷ ys)) in
    elim (keep x) as G [ true ↦ Keeps-skip P x (filter keep xs) (filter keep (y ∷ ys)) k.0 rest | false ↦ rest ]

-- each rewritten, where the fact stays
pub Keeps-map : (P : Auth → Type 0) (f : Auth → Auth) → ((x : Auth) → P x → P (f x)) → ((x : Auth) → P (f x) → P x)
    → (xs ys : List Auth) → Keeps P xs ys → Keeps P (map f xs) (map f ys)
Keeps-map P f to from [] [] k = tt
Keeps-map P f to from [] (y ∷ ys) k = absurd k
Keeps-map P f to from (x ∷ xs) [] k = (λ q. k.0 (from x q), Keeps-map P f to from xs [] k.1)
Keeps-map P f to from (x ∷ xs) (y ∷ ys) (inl k) = inl (to x k.0, ap f k.1, Keeps-map P f to from xs ys k.2)
Keeps-map P f to from (x ∷ xs) (y ∷ ys) (inr k) = inr (λ q. k.0 (from x q), Keeps-map P f to from xs (y ∷ ys) k.1)

-- what holds of each that has the fact holds of all that are kept
pub Keeps-all : (P F : Auth → Type 0) (xs ys : List Auth) → Keeps P xs ys → All (λ x. P x → F x) xs → All F ys
Keeps-all P F xs [] k all = All-nil F
Keeps-all P F [] (y ∷ ys) k all = absurd k
Keeps-all P F (x ∷ xs) (y ∷ ys) (inl k) all =
    All-cons F y ys (subst F (sym k.1) (All-head (λ z. P z → F z) x xs all k.0)) (Keeps-all P F xs ys k.2 (All-tail (λ z. P z → F z) x xs all))
Keeps-all P F (x ∷ xs) (y ∷ ys) (inr k) all = Keeps-all P F xs (y ∷ ys) k.1 (All-tail (λ z. P z → F z) x xs all)

-- the numbers still rise
pub Keeps-numbered : (P : Auth → Type 0) (low : ℕ) (xs ys : List Auth) (high : ℕ) → Keeps P xs ys → Numbered low xs high → Numbered low ys high
Keeps-numbered P low [] [] high k n = n
Keeps-numbered P low [] (y ∷ ys) high k n = absurd k
Keeps-numbered P low (x ∷ xs) [] high k n = Numbered-high low (x ∷ xs) high n
Keeps-numbered P low (x ∷ xs) (y ∷ ys) high (inl k) n =
    let H : Auth → Type 0 = λ z. (low < z.number) × Numbered z.number ys high in
    subst H (sym k.1) (n.0, Keeps-numbered P x.number xs ys high k.2 n.1)
Keeps-numbered P low (x ∷ xs) (y ∷ ys) high (inr k) n =
    let first : low < x.number = n.0 in
    Numbered-low x.number low (y ∷ ys) high (omega arith) (Keeps-numbered P x.number xs (y ∷ ys) high k.1 n.1)

-- another fact that holds of the same ones, where the numbers lie from above low up to high
pub Keeps-same : (P Q : Auth → Type 0) (low : ℕ) (xs ys : List Auth) (high : ℕ) → Numbered low xs high
    → ((x : Auth) → low < x.number → x.number ≤ high → P x ↔ Q x)
    → Keeps P xs ys → Keeps Q xs ys
Keeps-same P Q low [] [] high n same k = tt
Keeps-same P Q low [] (y ∷ ys) high n same k = absurd k
Keeps-same P Q low (x ∷ xs) [] high n same k =
    (λ q. k.0 ((same x n.0 (Numbered-high x.number xs high n.1)).1 q), Keeps-same P Q x.number xs [] high n.1 (λ y above. same y (later n.0 above)) k.1)
Keeps-same P Q low (x ∷ xs) (y ∷ ys) high n same (inl k) =
    inl ((same x n.0 (Numbered-high x.number xs high n.1)).0 k.0, k.1, Keeps-same P Q x.number xs ys high n.1 (λ z above. same z (later n.0 above)) k.2)
Keeps-same P Q low (x ∷ xs) (y ∷ ys) high n same (inr k) =
    inr (λ q. k.0 ((same x n.0 (Numbered-high x.number xs high n.1)).1 q), Keeps-same P Q x.number xs (y ∷ ys) high n.1 (λ z above. same z (later n.0 above)) k.1)

-- a fact that holds of those for which the first did and which are not dropped
pub Keeps-filter : (P Q : Auth → Type 0) (drop : Auth → Bool) (low : ℕ) (xs ys : List Auth) (high : ℕ) → Numbered low xs high
    → ((x : Auth) → low < x.number → x.number ≤ high → P x → drop x ≡ false → Q x)
    → ((x : Auth) → low < x.number → x.number ≤ high → Q x → P x × (drop x ≡ false))
    → Keeps P xs ys → Keeps Q xs (filter (λ x. not (drop x)) ys)
Keeps-filter P Q drop low [] [] high n to from k = tt
Keeps-filter P Q drop low [] (y ∷ ys) high n to from k = absurd k
Keeps-filter P Q drop low (x ∷ xs) [] high n to from k = (
  λ q. k.0 (from x n.0 (Numbered-high x.number xs high n.1) q).0,
  Keeps-filter P Q drop x.number xs [] high n.1 (λ y above. to y (later n.0 above)) (λ y above. from y (later n.0 above)) k.1,
)
Keeps-filter P Q drop low (x ∷ xs) (y ∷ ys) high n to from (inl k) =
    let rest = Keeps-filter P Q drop x.number xs ys high n.1 (λ z above. to z (later n.0 above)) (λ z above. from z (later n.0 above)) k.2 in
    let up = Numbered-high x.number xs high n.1 in
    let G : Bool → Type 0 = λ b. Keeps Q (x ∷ xs) (cond (not b) (y ∷ filter (λ x. not (drop x)) ys) (filter (λ x. not (drop x)) ys)) in
    elim (cases_Bool (drop y)) [
      | inl t ↦ subst G (sym t) (Keeps-skip Q x xs _ (λ q. false≢true (sym (from x n.0 up q).1 ∙ ap drop (sym k.1) ∙ t)) rest)
      | inr f ↦ subst G (sym f) (inl (to x n.0 up k.0 (ap drop (sym k.1) ∙ f), k.1, rest))
    ]
Keeps-filter P Q drop low (x ∷ xs) (y ∷ ys) high n to from (inr k) =
    let rest = Keeps-filter P Q drop x.number xs (y ∷ ys) high n.1 (λ z above. to z (later n.0 above)) (λ z above. from z (later n.0 above)) k.1 in
    Keeps-skip Q x xs _ (λ q. k.0 (from x n.0 (Numbered-high x.number xs high n.1) q).0) rest
