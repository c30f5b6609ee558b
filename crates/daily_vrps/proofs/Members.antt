-- Members of lists.
use Rattle.daily_vrps.proofs.Vocabulary.{◌≡◌, zero, suc, ◌<◌, Bool, true, false, ◌↔◌, ◌⊎◌, inl, inr, List, [], ◌∷◌, ◌++◌, refl, sym, ap, ◌∙◌, subst, length, get_or, Contains, filter, map, cond, arith, list_any, true≢false, Contains-append_left, Contains-append_right, Contains-append_cases}
use Rattle.std.proofs.lemmas.List.Folds.{Any-from_list_any, list_any-from_Any}

pub at_head : {X : Type 0} (x : X) (xs : List X) → Contains (x ∷ xs) x
at_head x xs = (0, omega arith, refl)

pub in_tail : {X : Type 0} (x : X) (xs : List X) (y : X) → Contains xs y → Contains (x ∷ xs) y
in_tail x xs y there = (suc there.0, omega (arith, there.1), there.2)

pub head_or_tail : {X : Type 0} (x : X) (xs : List X) (y : X) → Contains (x ∷ xs) y → (x ≡ y) ⊎ Contains xs y
head_or_tail x xs y there = at there.0 there.1 there.2
  where
    at : (k : _) → k < length (x ∷ xs) → get_or (x ∷ xs) k y ≡ y → (x ≡ y) ⊎ Contains xs y
    at zero below is = inl is
    at (suc k) below is = inr (k, omega (arith, below), is)

pub none_in_nil : {X : Type 0} (x : X) → Contains [] x → ⊥
none_in_nil x there = absurd (omega (arith, there.1))

-- an element passes where one that is there does, and the other way round
pub any_among : {X : Type 0} (p : X → Bool) (xs : List X) (x : X) → Contains xs x → p x ≡ true → list_any p xs ≡ true
any_among p xs x there passes = list_any-from_Any p xs (there.0, x, there.1, there.2, passes)

pub among_any : {X : Type 0} (p : X → Bool) (xs : List X) → list_any p xs ≡ true → (x : X) × Contains xs x × (p x ≡ true)
among_any p xs any =
    let some = Any-from_list_any p xs any in
    (some.1, (some.0, some.2, some.3), some.4)

module _ {X : Type 0} (p : X → Bool) where
  -- what a filter keeps was there and passes
  passed : (xs : List X) (x : X) → Contains (filter p xs) x → Contains xs x × (p x ≡ true)
  passed [] x there = absurd (none_in_nil x there)
  passed (y ∷ ys) x there = go (passed ys x) (p y) refl there
    where
      go : (Contains (filter p ys) x → Contains ys x × (p x ≡ true)) → (is : Bool) → p y ≡ is
          → Contains (cond is (y ∷ filter p ys) (filter p ys)) x → Contains (y ∷ ys) x × (p x ≡ true)
      go rest true is there = elim (head_or_tail y (filter p ys) x there) [
        | inl same ↦ (subst (Contains (y ∷ ys)) same (at_head y ys), subst (λ (z : X). p z ≡ true) same is)
        | inr later ↦ (in_tail y ys x (rest later).0, (rest later).1)
      ]
      go rest false is there = (in_tail y ys x (rest there).0, (rest there).1)

  -- and what is there and passes is kept
  passes_on : (xs : List X) (x : X) → Contains xs x → p x ≡ true → Contains (filter p xs) x
  passes_on [] x there passes = absurd (none_in_nil x there)
  passes_on (y ∷ ys) x there passes = go (λ later. passes_on ys x later passes) (p y) refl (head_or_tail y ys x there)
    where
      go : (Contains ys x → Contains (filter p ys) x) → (is : Bool) → p y ≡ is
          → (y ≡ x) ⊎ Contains ys x → Contains (cond is (y ∷ filter p ys) (filter p ys)) x
      go rest true is (inl same) = subst (Contains (y ∷ filter p ys)) same (at_head y (filter p ys))
      go rest true is (inr later) = in_tail y (filter p ys) x (rest later)
      go rest false is (inl same) = absurd (true≢false (sym passes ∙ ap p (sym same) ∙ is))
      go rest false is (inr later) = rest later

-- what a filter keeps is what was there and passes
pub in_filter : {X : Type 0} (p : X → Bool) (xs : List X) (x : X) → Contains (filter p xs) x ↔ (Contains xs x × (p x ≡ true))
in_filter p xs x = (passed p xs x, λ is. passes_on p xs x is.0 is.1)

-- what is in two lists together is in the one or the other
pub in_both : {X : Type 0} (xs ys : List X) (x : X) → Contains (xs ++ ys) x ↔ (Contains xs x ⊎ Contains ys x)
in_both xs ys x = (
  Contains-append_cases xs ys x,
  λ is. elim is [ inl one ↦ Contains-append_left xs ys x one | inr other ↦ Contains-append_right xs ys x other ],
)

module _ {X Y : Type 0} (f : X → Y) where
  -- what a map makes is of what was there
  pub in_map : (xs : List X) (y : Y) → Contains (map f xs) y → (x : X) × Contains xs x × (y ≡ f x)
  in_map [] y there = absurd (none_in_nil y there)
  in_map (x ∷ xs) y there = elim (head_or_tail (f x) (map f xs) y there) [
    | inl is ↦ (x, at_head x xs, sym is)
    | inr later ↦ let it = in_map xs y later in (it.0, in_tail x xs it.0 it.1, it.2)
  ]

  -- and of what is there it is made
  pub mapped_in : (xs : List X) (x : X) → Contains xs x → Contains (map f xs) (f x)
  mapped_in [] x there = absurd (none_in_nil x there)
  mapped_in (z ∷ zs) x there = elim (head_or_tail z zs x there) [
    | inl is ↦ subst (λ (w : X). Contains (map f (z ∷ zs)) (f w)) is (at_head (f z) (map f zs))
    | inr later ↦ in_tail (f z) (map f zs) (f x) (mapped_in zs x later)
  ]

-- ---- one such that a fact holds

pub none_such : {X : Type 0} (P : X → Type 0) → ¬ ((x : X) × Contains [] x × P x)
none_such P some = none_in_nil some.0 some.1

-- among more there is one where there was one before or the last is one
pub such_among_more : {X : Type 0} (P : X → Type 0) (xs ys : List X) (x : X) → ys ≡ xs ++ x ∷ []
    → ((y : X) × Contains ys y × P y) ↔ (((y : X) × Contains xs y × P y) ⊎ P x)
such_among_more P xs ys x grown = rw grown (
  λ some. elim (Contains-append_cases xs (x ∷ []) some.0 some.1) [
    | inl before ↦ inl (some.0, before, some.2)
    | inr last ↦ elim (head_or_tail x [] some.0 last) [
      | inl same ↦ inr (subst P (sym same) some.2)
      | inr none ↦ absurd (none_in_nil some.0 none)
    ]
  ],
  λ some. elim some [
    | inl before ↦ (before.0, Contains-append_left xs (x ∷ []) before.0 before.1, before.2)
    | inr last ↦ (x, Contains-append_right xs (x ∷ []) x (at_head x []), last)
  ],
)
