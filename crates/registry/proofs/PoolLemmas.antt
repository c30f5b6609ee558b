-- A prefix is in the pool where a walk along the pool's prefixes reaches its end.
use Rattle.registry.proofs.Vocabulary.{◌≡◌, ℕ, ◌<◌, ◌≤◌, Bool, true, false, ◌||◌, List, [], ◌∷◌, inl, inr, Option, Some, None, Bor, option_copied, MatchOption, IsSomeAnd, IfNone, IfSome, refl, sym, ap, ◌∙◌, subst, arith, list_any, find, cases_Bool, cases_lt, cond-true, cond-false, false≢true, or-true, nat_tests, is_between, has_address, last_of, Family, V4, V6, Prefix, between_at, pool_has, IsInPool, HasFromTo}
use Rattle.std.proofs.lemmas.Option.{none-some, same_Some}

find_none : (test : Prefix → Bool) (pool : List Prefix) → find test pool ≡ None → list_any test pool ≡ false
find_none test [] is = refl
find_none test (q ∷ pool) is =
    elim (cases_Bool (test q)) [
      | inl t ↦ absurd (none-some q (sym is ∙ cond-true _ _ _ t))
      | inr f ↦ ap (λ b. b || list_any test pool) f ∙ find_none test pool (sym (cond-false _ _ _ f) ∙ is)
    ]

find_some : (test : Prefix → Bool) (pool : List Prefix) (p : Prefix) → find test pool ≡ Some p → test p ≡ true
find_some test [] p is = absurd (none-some p is)
find_some test (q ∷ pool) p is =
    elim (cases_Bool (test q)) [
      | inl t ↦ ap test (sym (same_Some q p (sym (cond-true _ _ _ t) ∙ is))) ∙ t
      | inr f ↦ find_some test pool p (sym (cond-false _ _ _ f) ∙ is)
    ]

-- what is found is in the pool
found_has : (test other : Prefix → Bool) (pool : List Prefix) (p : Prefix) → find test pool ≡ Some p → other p ≡ true → list_any other pool ≡ true
found_has test other [] p is has = absurd (none-some p is)
found_has test other (q ∷ pool) p is has =
    elim (cases_Bool (test q)) [
      | inl t ↦ ap (λ b. b || list_any other pool) (ap other (same_Some q p (sym (cond-true _ _ _ t) ∙ is)) ∙ has)
      | inr f ↦ ap (λ b. other q || b) (found_has test other pool p (sym (cond-false _ _ _ f) ∙ is) has) ∙ or-true (other q)
    ]

between_end : (f g : Family) (low high m : ℕ) → is_between f low high (record { family = g; number = m }) ≡ true → m ≤ high
between_end V4 V4 low high m is = grind (arith, nat_tests)
between_end V6 V6 low high m is = grind (arith, nat_tests)
between_end V4 V6 low high m is = absurd (false≢true is)
between_end V6 V4 low high m is = absurd (false≢true is)

between_more : (f g : Family) (low high m n : ℕ) → is_between f low high (record { family = g; number = m }) ≡ true → m ≤ n → n ≤ high
    → is_between f low high (record { family = g; number = n }) ≡ true
between_more V4 V4 low high m n is from to = grind (arith, nat_tests)
between_more V6 V6 low high m n is from to = grind (arith, nat_tests)
between_more V4 V6 low high m n is from to = absurd (false≢true is)
between_more V6 V4 low high m n is from to = absurd (false≢true is)

pool-none : (pool : List Prefix) (family : Family) (m : ℕ) → find (λ p. has_address p (record { family = family; number = m })) pool ≡ None
    → pool_has pool (record { family = family; number = m }) ≡ false
pool-none pool family m is = find_none (λ p. has_address p (record { family = family; number = m })) pool is

pool-end : (pool : List Prefix) (family : Family) (m : ℕ) (p : Prefix) → find (λ p. has_address p (record { family = family; number = m })) pool ≡ Some p
    → m ≤ last_of p
pool-end pool family m p is =
    between_end p.family family p.first (last_of p) m (find_some (λ p. has_address p (record { family = family; number = m })) pool p is)

pool-some : (pool : List Prefix) (family : Family) (m : ℕ) (p : Prefix) → find (λ p. has_address p (record { family = family; number = m })) pool ≡ Some p
    → HasFromTo pool family m (last_of p)
pool-some pool family m p is n from to =
    let has = find_some (λ p. has_address p (record { family = family; number = m })) pool p is in
    found_has (λ p. has_address p (record { family = family; number = m })) (λ p. has_address p (record { family = family; number = n })) pool p is
    (between_more p.family family p.first (last_of p) m n has from to)

-- the end of the prefix that was found, if any
pub end-none : (pool : List Prefix) (family : Family) (m : ℕ) (found : Option (Bor Prefix)) (end : Option ℕ)
    → option_copied found ≡ find (λ p. has_address p (record { family = family; number = m })) pool
    → MatchOption found (end ≡ None) (λ p. IsSomeAnd end (λ k. k ≡ last_of p.now))
    → IfNone end (pool_has pool (record { family = family; number = m }) ≡ false)
end-none pool family m None None is made = pool-none pool family m (sym is)
end-none pool family m None (Some k) is made = tt
end-none pool family m (Some p) None is made = absurd made
end-none pool family m (Some p) (Some k) is made = tt

pub end-some : (pool : List Prefix) (family : Family) (m : ℕ) (found : Option (Bor Prefix)) (end : Option ℕ)
    → option_copied found ≡ find (λ p. has_address p (record { family = family; number = m })) pool
    → MatchOption found (end ≡ None) (λ p. IsSomeAnd end (λ k. k ≡ last_of p.now))
    → IfSome end (λ k. (m ≤ k) × HasFromTo pool family m k)
end-some pool family m None None is made = tt
end-some pool family m None (Some k) is made = absurd (none-some k (sym made))
end-some pool family m (Some p) None is made = tt
end-some pool family m (Some p) (Some k) is made =
    subst (λ (n : ℕ). (m ≤ n) × HasFromTo pool family m n) (sym made) (pool-end pool family m p.now (sym is), pool-some pool family m p.now (sym is))

between_parts : (f g : Family) (low high n : ℕ) → is_between f low high (record { family = g; number = n }) ≡ true → (f ≡ g) × (low ≤ n) × (n ≤ high)
between_parts V4 V4 low high n is = (refl, grind (arith, nat_tests), grind (arith, nat_tests))
between_parts V6 V6 low high n is = (refl, grind (arith, nat_tests), grind (arith, nat_tests))
between_parts V4 V6 low high n is = absurd (false≢true is)
between_parts V6 V4 low high n is = absurd (false≢true is)

-- the walk has passed every address below next, and the pool has the others up to the end
pub pool-whole : (pool : List Prefix) (p : Prefix) (next end : ℕ) → last_of p ≤ end
    → ((n : ℕ) → p.first ≤ n → n < next → pool_has pool (record { family = p.family; number = n }) ≡ true)
    → HasFromTo pool p.family next end → IsInPool pool p
pool-whole pool p next end reached passed rest a has =
    let parts = between_parts p.family a.family p.first (last_of p) a.number has in
    let above : p.first ≤ a.number = parts.1 in
    let below : a.number ≤ last_of p = parts.2 in
    let there : pool_has pool (record { family = p.family; number = a.number }) ≡ true =
    elim (cases_lt a.number next) [ inl before ↦ passed a.number above before | inr after ↦ rest a.number after (omega arith) ] in
    subst (λ (f : Family). pool_has pool (record { family = f; number = a.number }) ≡ true) parts.0 there

-- an address of the prefix is in no prefix of the pool
pub pool-hole : (pool : List Prefix) (p : Prefix) (next : ℕ) → p.first ≤ next → next ≤ last_of p
    → pool_has pool (record { family = p.family; number = next }) ≡ false → IsInPool pool p → ⊥
pool-hole pool p next from to hole whole =
    false≢true (sym hole ∙ whole (record { family = p.family; number = next }) (between_at p.family p.first (last_of p) next from to))
