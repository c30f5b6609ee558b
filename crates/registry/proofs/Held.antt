-- The active authorizations after a command, from those before it.
use Rattle.registry.proofs.Vocabulary.{◌≡◌, ℕ, ◌+◌, ◌<◌, ◌≤◌, true, false, not, ◌||◌, cond, eqb, List, [], ◌∷◌, ◌++◌, Some, refl, sym, ap, ◌∙◌, subst, arith, map, filter, All-nil, All-cons, All-contains, Address, has_address, Auth, RoaPrefix, Command, Create, Amend, Withdraw, Entry, History, same_name, resource_holder, with_maxes, with_terms, entries_have, numbered_terms, HoldsTerms, created_after, terms_after, authorizations_made, authorization_terms, amended, HeldSinceMade, Keeps, AreActive}
use Rattle.std.specs.List.{All, Contains}
use Rattle.registry.proofs.Numbers.{Numbered, Numbered-high, Numbered-append, Numbered-filter, Numbered-map}
use Rattle.registry.proofs.Kept.{Keeps-numbered, Keeps-same}

-- a command takes nothing back
pub created_after-more : (c : Command) (h : List ℕ) (made : ℕ) → made ≤ created_after c h made
created_after-more (Create holder terms) h made =
    elim (same_name holder h) as (λ b. made ≤ cond b (made + 1) made) [ true ↦ omega arith | false ↦ omega arith ]
created_after-more _ h made = omega arith

pub amended-number : (n : ℕ) (maxes : List ℕ) (until : ℕ) (x : Auth) → (amended n maxes until x).number ≡ x.number
amended-number n maxes until x =
    elim (eqb x.number n) as (λ b. (cond b (with_terms maxes until x) x).number ≡ x.number) [ true ↦ refl | false ↦ refl ]

-- other maxLengths keep the addresses,
with_maxes-addresses : (ms : List ℕ) (es : List RoaPrefix) (a : Address) → entries_have (with_maxes ms es) a ≡ entries_have es a
with_maxes-addresses ms [] a = refl
with_maxes-addresses [] (e ∷ es) a = refl
with_maxes-addresses (m ∷ ms) (e ∷ es) a = ap (λ b. has_address e.prefix a || b) (with_maxes-addresses ms es a)

-- and so does an amendment
pub amended-addresses : (n : ℕ) (maxes : List ℕ) (until : ℕ) (x : Auth) (a : Address) → entries_have (amended n maxes until x).entries a ≡ entries_have x.entries a
amended-addresses n maxes until x a =
    elim (eqb x.number n) as (λ b. entries_have (cond b (with_terms maxes until x) x).entries a ≡ entries_have x.entries a)
    [ true ↦ with_maxes-addresses maxes x.entries a | false ↦ refl ]

-- the numbers rise from 1, up to how many were made
pub terms_after-numbered : (c : Command) (h : List ℕ) (made : ℕ) (xs : List Auth) → Numbered 0 xs made → Numbered 0 (terms_after c h made xs) (created_after c h made)
terms_after-numbered (Create holder terms) h made xs n =
    let x = numbered_terms terms (made + 1) in
    elim (same_name holder h) as (λ b. Numbered 0 (cond b (xs ++ x ∷ []) xs) (cond b (made + 1) made))
    [ true ↦ Numbered-append 0 xs made x (omega arith) n | false ↦ n ]
terms_after-numbered (Amend holder m maxes until) h made xs n =
    elim (same_name holder h) as (λ b. Numbered 0 (cond b (map (amended m maxes.items until) xs) xs) made)
    [ true ↦ Numbered-map (amended m maxes.items until) (amended-number m maxes.items until) 0 xs made n | false ↦ n ]
terms_after-numbered (Withdraw holder m) h made xs n =
    elim (same_name holder h) as (λ b. Numbered 0 (cond b (filter (λ x. not (eqb x.number m)) xs) xs) made)
    [ true ↦ Numbered-filter (λ x. not (eqb x.number m)) 0 xs made n | false ↦ n ]
terms_after-numbered _ h made xs n = n

pub authorization_terms-numbered : (history : History) (h : List ℕ) → Numbered 0 (authorization_terms history h) (authorizations_made history h)
authorization_terms-numbered [] h = omega arith
authorization_terms-numbered (e ∷ before) h =
    terms_after-numbered e.command h (authorizations_made before h) (authorization_terms before h) (authorization_terms-numbered before h)

pub active-numbered : (history : History) (h : List ℕ) (active : List Auth) → AreActive history h active → Numbered 0 active (authorizations_made history h)
active-numbered history h active are =
    Keeps-numbered (HeldSinceMade history h) 0 (authorization_terms history h) active (authorizations_made history h) are (authorization_terms-numbered history h)

-- the number lies above one number and up to another
abbrev IsWithin : ℕ → ℕ → Auth → Type 0
IsWithin floor high x = (floor < x.number) × (x.number ≤ high)

-- numbers that rise lie above the lowest, and up to the highest
numbers_within : (floor low : ℕ) (xs : List Auth) (high : ℕ) → floor ≤ low → Numbered low xs high → All (IsWithin floor high) xs
numbers_within floor low [] high above n = All-nil (IsWithin floor high)
numbers_within floor low (x ∷ xs) high above n =
    let first : low < x.number = n.0 in
    let here : IsWithin floor high x = (omega (arith, above), Numbered-high x.number xs high n.1) in
    All-cons (IsWithin floor high) x xs here (numbers_within floor x.number xs high (omega (arith, above)) n.1)

-- so do those of the authorizations that were made
pub within : (history : History) (h : List ℕ) (x : Auth) → Contains (authorization_terms history h) x → IsWithin 0 (authorizations_made history h) x
within history h x there =
    let terms = authorization_terms history h in
    let made = authorizations_made history h in
    All-contains (IsWithin 0 made) terms x (numbers_within 0 0 terms made (omega arith) (authorization_terms-numbered history h)) there

-- what is held since its making is held now
pub held_now : (history : History) (h : List ℕ) (x : Auth) → 0 < x.number → x.number ≤ authorizations_made history h → HeldSinceMade history h x → HoldsTerms history h x
held_now [] h x positive made since = absurd (omega arith)
held_now (e ∷ before) h x positive made since = since.0 made

-- what was not made yet is so without a condition
pub not_yet_made : (history : History) (h : List ℕ) (x : Auth) → authorizations_made history h < x.number → HeldSinceMade history h x
not_yet_made [] h x above = tt
not_yet_made (e ∷ before) h x above =
    let more = created_after-more e.command h (authorizations_made before h) in
    (λ made. absurd (omega arith), not_yet_made before h x (omega arith))

-- the holder loses no address
abbrev pub LosesNothing : Entry → History → List ℕ → Type 0
LosesNothing e before h = (a : Address) → resource_holder before a ≡ Some h → resource_holder (e ∷ before) a ≡ Some h

pub since_more : (e : Entry) (before : History) (h : List ℕ) → LosesNothing e before h → (x : Auth) → 0 < x.number → x.number ≤ authorizations_made before h
    → HeldSinceMade before h x → HeldSinceMade (e ∷ before) h x
since_more e before h keeps x positive made since =
    (λ _. λ a has. keeps a (held_now before h x positive made since a has), since)

-- where the holder loses nothing, those that were active stay so
pub active-kept : (e : Entry) (before : History) (h : List ℕ) (active : List Auth) → LosesNothing e before h
    → AreActive before h active → Keeps (HeldSinceMade (e ∷ before) h) (authorization_terms before h) active
active-kept e before h active keeps are =
    Keeps-same (HeldSinceMade before h) (HeldSinceMade (e ∷ before) h) 0 (authorization_terms before h) active (authorizations_made before h)
    (authorization_terms-numbered before h) (λ x positive made. (since_more e before h keeps x positive made, λ since. since.1)) are

-- equal addresses and numbers, equally held
pub since_same : (history : History) (h : List ℕ) (x y : Auth) → y.number ≡ x.number
    → ((a : Address) → entries_have y.entries a ≡ entries_have x.entries a) → HeldSinceMade history h x → HeldSinceMade history h y
since_same [] h x y n same since = tt
since_same (e ∷ before) h x y n same since = (
  λ made. λ a has. since.0 (subst (λ (k : ℕ). k ≤ authorizations_made (e ∷ before) h) n made) a (sym (same a) ∙ has),
  since_same before h x y n same since.1,
)
