-- Authorizations that end where a prefix of their terms shares an address with a prefix that moves.
use Rattle.registry.proofs.Vocabulary.{◌≡◌, ℕ, ◌<◌, ◌≤◌, Bool, true, false, not, ◌||◌, cond, eqb, List, [], ◌∷◌, ◌↔◌, inl, inr, Some, refl, sym, ap, ◌∙◌, subst, arith, map, filter, list_any, cases_Bool, false≢true, or_parts, or-true, nat_tests, Address, has_address, overlaps, Prefix, overlaps_some, Auth, RoaPrefix, Entry, History, resource_holder, entries_have, terms_overlap, authorizations_made, authorization_terms, HeldSinceMade, Keeps, AreActive}
use Rattle.registry.proofs.Numbers.{Numbered}
use Rattle.registry.proofs.Kept.{Keeps-filter}
use Rattle.registry.proofs.Held.{authorization_terms-numbered, held_now}

-- prefixes that do not overlap share no address
pub apart : (p q : Prefix) (a : Address) → overlaps p q ≡ false → has_address p a ≡ true → has_address q a ≡ false
apart p q a none has =
    elim (cases_Bool (has_address q a)) [
      | inl t ↦ absurd (false≢true (sym none ∙ (overlaps_some p q).1 (a, has, t)))
      | inr f ↦ f
    ]

-- entries of which one overlaps p share an address with it
pub shared_entry : (p : Prefix) (es : List RoaPrefix) → list_any (λ e. overlaps e.prefix p) es ≡ true
    → (a : Address) × (entries_have es a ≡ true) × (has_address p a ≡ true)
shared_entry p [] some = absurd (false≢true some)
shared_entry p (e ∷ es) some =
    elim (cases_Bool (overlaps e.prefix p)) [
      | inl t ↦
          let shared = (overlaps_some e.prefix p).0 t in
          (shared.0, ap (λ b. b || entries_have es shared.0) shared.1, shared.2)
      | inr f ↦
          let rest = shared_entry p es (sym (ap (λ b. b || list_any (λ d. overlaps d.prefix p) es) f) ∙ some) in
          (rest.0, ap (λ b. has_address e.prefix rest.0 || b) rest.1 ∙ or-true (has_address e.prefix rest.0), rest.2)
    ]

-- entries of which none overlaps p share no address with it
pub apart_entries : (p : Prefix) (es : List RoaPrefix) (a : Address) → list_any (λ e. overlaps e.prefix p) es ≡ false
    → entries_have es a ≡ true → has_address p a ≡ false
apart_entries p [] a none has = absurd (false≢true has)
apart_entries p (e ∷ es) a none has =
    let parts = or_parts (overlaps e.prefix p) (list_any (λ d. overlaps d.prefix p) es) none in
    elim (cases_Bool (has_address e.prefix a)) [
      | inl t ↦ apart e.prefix p a parts.0 t
      | inr f ↦ apart_entries p es a parts.1 (sym (ap (λ b. b || entries_have es a) f) ∙ has)
    ]

-- the holder loses the addresses of p, which somebody else or nobody holds then, and no others
pub record LosesPrefix (e : Entry) (before : History) (h : List ℕ) (p : Prefix) : Type 0 where
  pub lost : (a : Address) → has_address p a ≡ true → resource_holder (e ∷ before) a ≡ Some h → ⊥
  pub others : (a : Address) → has_address p a ≡ false → resource_holder (e ∷ before) a ≡ resource_holder before a

-- what its holder had since it was made, it has where it shares no address with the prefix
pub since_ended : (e : Entry) (before : History) (h : List ℕ) (p : Prefix) (x : Auth) → LosesPrefix e before h p
    → authorizations_made (e ∷ before) h ≡ authorizations_made before h → 0 < x.number → x.number ≤ authorizations_made before h
    → HeldSinceMade (e ∷ before) h x ↔ (HeldSinceMade before h x × (terms_overlap x p ≡ false))
since_ended e before h p x loses made positive bound = (
  λ since. (
    since.1,
    elim (cases_Bool (terms_overlap x p)) [
      | inl t ↦
          let shared = shared_entry p x.entries t in
          absurd (loses.lost shared.0 shared.2 (since.0 (subst (λ (k : ℕ). x.number ≤ k) (sym made) bound) shared.0 shared.1))
      | inr f ↦ f
    ],
  ),
  λ kept. (
    λ _. λ a has. loses.others a (apart_entries p x.entries a kept.1 has) ∙ held_now before h x positive bound kept.0 a has,
    kept.0,
  ),
)

-- exactly those that overlap p are over
pub active-ended : (e : Entry) (before : History) (h : List ℕ) (p : Prefix) (active : List Auth) → LosesPrefix e before h p
    → authorizations_made (e ∷ before) h ≡ authorizations_made before h
    → AreActive before h active → Keeps (HeldSinceMade (e ∷ before) h) (authorization_terms before h) (filter (λ x. not (terms_overlap x p)) active)
active-ended e before h p active loses made are =
    Keeps-filter (HeldSinceMade before h) (HeldSinceMade (e ∷ before) h) (λ x. terms_overlap x p) 0 (authorization_terms before h) active (authorizations_made before h)
    (authorization_terms-numbered before h)
    (λ x positive bound since apart_from. (since_ended e before h p x loses made positive bound).1 (since, apart_from))
    (λ x positive bound. (since_ended e before h p x loses made positive bound).0)
    are

-- the numbers of those that pass a test
abbrev pub numbers_where : (Auth → Bool) → List Auth → List ℕ
numbers_where test xs = map (λ x. x.number) (filter test xs)

abbrev pub among : List ℕ → Auth → Bool
among numbers x = list_any (λ n. eqb x.number n) numbers

-- no number up to the lowest is among them
pub not_among : (test : Auth → Bool) (low : ℕ) (xs : List Auth) (high : ℕ) (x : Auth) → Numbered low xs high → x.number ≤ low → among (numbers_where test xs) x ≡ false
not_among test low [] high x n below = refl
not_among test low (y ∷ ys) high x n below =
    let first : low < y.number = n.0 in
    let rest = not_among test y.number ys high x n.1 (omega arith) in
    let differ : eqb x.number y.number ≡ false = grind (arith, nat_tests) in
    elim (test y) as (λ b. among (map (λ z. z.number) (cond b (y ∷ filter test ys) (filter test ys))) x ≡ false)
    [ true ↦ ap (λ b. b || among (numbers_where test ys) x) differ ∙ rest | false ↦ rest ]

-- a number of the list is among them exactly where its authorization passes
pub filter_among : (test : Auth → Bool) (low : ℕ) (xs : List Auth) (high : ℕ) → Numbered low xs high → (numbers : List ℕ)
    → ((x : Auth) → low < x.number → among numbers x ≡ among (numbers_where test xs) x)
    → filter (λ x. not (among numbers x)) xs ≡ filter (λ x. not (test x)) xs
filter_among test low [] high n numbers same = refl
filter_among test low (y ∷ ys) high n numbers same =
    let first : low < y.number = n.0 in
    let beyond = not_among test y.number ys high y n.1 (omega arith) in
    let itself : eqb y.number y.number ≡ true = grind (arith, nat_tests) in
    let here : among (numbers_where test (y ∷ ys)) y ≡ test y =
    elim (test y) as (λ b. among (map (λ z. z.number) (cond b (y ∷ filter test ys) (filter test ys))) y ≡ b)
    [ true ↦ ap (λ b. b || among (numbers_where test ys) y) itself | false ↦ beyond ] in
    let after = λ (x : Auth) (above : y.number < x.number).
    let differ : eqb x.number y.number ≡ false = grind (arith, nat_tests) in
    let there : among (numbers_where test (y ∷ ys)) x ≡ among (numbers_where test ys) x =
    elim (test y) as (λ b. among (map (λ z. z.number) (cond b (y ∷ filter test ys) (filter test ys))) x ≡ among (numbers_where test ys) x)
    [ true ↦ ap (λ b. b || among (numbers_where test ys) x) differ | false ↦ refl ] in
    same x (omega arith) ∙ there in
    let rest = filter_among test y.number ys high n.1 numbers after in
    let head : not (among numbers y) ≡ not (test y) = ap not (same y first ∙ here) in
    ap (λ b. cond b (y ∷ filter (λ x. not (among numbers x)) ys) (filter (λ x. not (among numbers x)) ys)) head
    ∙ ap (λ zs. cond (not (test y)) (y ∷ zs) zs) rest

-- taking away the numbers of those that pass takes away those that pass
pub filter-numbers : (test : Auth → Bool) (xs : List Auth) (high : ℕ) → Numbered 0 xs high
    → filter (λ x. not (among (numbers_where test xs) x)) xs ≡ filter (λ x. not (test x)) xs
filter-numbers test xs high n = filter_among test 0 xs high n (numbers_where test xs) (λ x above. refl)
