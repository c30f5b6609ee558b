-- No two active authorizations share a VRP.
use Rattle.registry_laws.proofs.Vocabulary.{◌≡◌, ℕ, ◌+◌, ◌<◌, ◌≤◌, Bool, true, false, not, ◌&&◌, ◌||◌, cond, eqb, nat_le, List, [], ◌∷◌, ◌++◌, inl, inr, Option, Some, None, IsSomeAnd, refl, sym, ap, ◌∙◌, subst, arith, map, filter, list_any, cases_Bool, cond-true, cond-false, false≢true, and_parts, or_parts, or_cases, or_left, or_right, same_Some, nat_tests, Address, has_address, last_of, Overlaps, prefix_eq, Prefix, overlaps_some, first-last, Auth, RoaPrefix, Charter, Command, Create, Amend, Withdraw, Import, Entry, History, same_name, is_entry, entries_have, are_shared, numbered_terms, gives_some, share_vrp, with_terms, authorizations_made, authorization_terms, amended, HeldSinceMade, HoldsTerms, Keeps, AreActive, Verdict, IsLegal, auth_of_number, same_name-same, same_name-true, authorization_terms-numbered, held_now, since_same, amended-number, amended-addresses, are_shared-flips}
use Rattle.addr.specs.Family.{family_eq}
use Rattle.addr.specs.declared.family.Family.{Family}
use Rattle.addr.specs.declared.family.Family.TheVariants.{V4, V6}
use Rattle.registry.specs.Repeats.{has_repeat}
use Rattle.registry_laws.specs.SharedVrps.{share_none, NoSharedVrp}
use Rattle.registry.proofs.Numbers.{Numbered, Numbered-high, later}
use Rattle.registry.proofs.Repeats.{eqb-flips}
use Rattle.registry.proofs.Amended.{shares_with_other}

abbrev pub Each : (Auth → Type 0) → List Auth → Type 0
Each P [] = Unit {0}
Each P (x ∷ xs) = P x × Each P xs

overlap_of_equal : (f g : Family) (a b k l m n : ℕ) → family_eq f g && (eqb a b && eqb k l) ≡ true → a ≤ m → b ≤ n
    → family_eq f g && (nat_le a n && nat_le b m) ≡ true
overlap_of_equal V4 V4 a b k l m n same p q = grind (arith, nat_tests)
overlap_of_equal V6 V6 a b k l m n same p q = grind (arith, nat_tests)
overlap_of_equal V4 V6 a b k l m n same p q = absurd (false≢true same)
overlap_of_equal V6 V4 a b k l m n same p q = absurd (false≢true same)

-- equal prefixes share an address
shared_address : (p q : Prefix) → prefix_eq p q ≡ true → Overlaps p q
shared_address p q same =
    (overlaps_some p q).0 (overlap_of_equal p.family q.family p.first q.first p.length q.length (last_of p) (last_of q) same (first-last p) (first-last q))

pub share_vrp-flips : (x y : Auth) → share_vrp x y ≡ share_vrp y x
share_vrp-flips x y =
    ap (λ b. b && are_shared x.entries y.entries) (eqb-flips x.asn.0 y.asn.0)
    ∙ ap (λ b. eqb y.asn.0 x.asn.0 && b) (are_shared-flips x.entries y.entries)

-- a list that has an entry shares an address with it
shared_with_one : (d : RoaPrefix) (es : List RoaPrefix) → list_any (is_entry d.prefix d.max) es ≡ true
    → (a : Address) × (entries_have es a ≡ true) × (has_address d.prefix a ≡ true)
shared_with_one d [] some = absurd (false≢true some)
shared_with_one d (e ∷ es) some =
    elim (or_cases (is_entry d.prefix d.max e) (list_any (is_entry d.prefix d.max) es) some) [
      | inl here ↦
          let shared = shared_address e.prefix d.prefix (and_parts (prefix_eq e.prefix d.prefix) (eqb e.max d.max) here).0 in
          (shared.0, or_left (has_address e.prefix shared.0) (entries_have es shared.0) shared.1, shared.2)
      | inr later ↦
          let rest = shared_with_one d es later in
          (rest.0, or_right (has_address e.prefix rest.0) (entries_have es rest.0) rest.1, rest.2)
    ]

-- lists that share an entry have a common address
shared_entries : (es ds : List RoaPrefix) → are_shared es ds ≡ true → (a : Address) × (entries_have es a ≡ true) × (entries_have ds a ≡ true)
shared_entries es [] some = absurd (false≢true some)
shared_entries es (d ∷ ds) some =
    elim (or_cases (list_any (is_entry d.prefix d.max) es) (are_shared es ds) some) [
      | inl here ↦
          let shared = shared_with_one d es here in
          (shared.0, shared.1, or_left (has_address d.prefix shared.0) (entries_have ds shared.0) shared.2)
      | inr later ↦
          let rest = shared_entries es ds later in
          (rest.0, rest.1, or_right (has_address d.prefix rest.0) (entries_have ds rest.0) rest.2)
    ]

-- two holders do not hold one address
two_holders : (history : History) (g h : List ℕ) (x y : Auth) → same_name g h ≡ false → HoldsTerms history g x → HoldsTerms history h y → share_vrp x y ≡ false
two_holders history g h x y differ holds_x holds_y =
    elim (cases_Bool (share_vrp x y)) [
      | inl t ↦
          let a = shared_entries x.entries y.entries (and_parts (eqb x.asn.0 y.asn.0) (are_shared x.entries y.entries) t).1 in
          let one : g ≡ h = same_Some g h (sym (holds_x a.0 a.1) ∙ holds_y a.0 a.2) in
          absurd (false≢true (sym differ ∙ ap (same_name g) (sym one) ∙ same_name-same g))
      | inr f ↦ f
    ]

-- numbers above a greater one are above the lesser
Each-low : (P : Auth → Type 0) (low low' : ℕ) (ys : List Auth) (high : ℕ) → low < low' → Each (λ y. P y × (low' < y.number) × (y.number ≤ high)) ys
    → Each (λ y. P y × (low < y.number) × (y.number ≤ high)) ys
Each-low P low low' [] high p each = tt
Each-low P low low' (z ∷ zs) high p each = ((each.0.0, later p each.0.1, each.0.2), Each-low P low low' zs high p each.1)

-- what is kept has the fact and lies within the numbers
Keeps-each : (P : Auth → Type 0) (low : ℕ) (xs ys : List Auth) (high : ℕ) → Numbered low xs high → Keeps P xs ys
    → Each (λ y. P y × (low < y.number) × (y.number ≤ high)) ys
Keeps-each P low [] [] high n k = tt
Keeps-each P low [] (y ∷ ys) high n k = absurd k
Keeps-each P low (x ∷ xs) [] high n k = tt
Keeps-each P low (x ∷ xs) (y ∷ ys) high n (inl k) =
    let Q : Auth → Type 0 = λ z. P z × (low < z.number) × (z.number ≤ high) in
    (subst Q (sym k.1) (k.0, n.0, Numbered-high x.number xs high n.1), Each-low P low x.number ys high n.0 (Keeps-each P x.number xs ys high n.1 k.2))
Keeps-each P low (x ∷ xs) (y ∷ ys) high n (inr k) = Each-low P low x.number (y ∷ ys) high n.0 (Keeps-each P x.number xs (y ∷ ys) high n.1 k.1)

active-each : (history : History) (h : List ℕ) (xs : List Auth) → AreActive history h xs → Each (HoldsTerms history h) xs
active-each history h xs are =
    now xs (Keeps-each (HeldSinceMade history h) 0 (authorization_terms history h) xs (authorizations_made history h) (authorization_terms-numbered history h) are)
  where
    now : (ys : List Auth) → Each (λ y. HeldSinceMade history h y × (0 < y.number) × (y.number ≤ authorizations_made history h)) ys → Each (HoldsTerms history h) ys
    now [] each = tt
    now (y ∷ ys) each = (held_now history h y each.0.1 each.0.2 each.0.0, now ys each.1)

none_of : (history : History) (g h : List ℕ) (x : Auth) (ys : List Auth) → same_name g h ≡ false → HoldsTerms history g x → Each (HoldsTerms history h) ys
    → list_any (λ y. share_vrp x y) ys ≡ false
none_of history g h x [] differ holds each = refl
none_of history g h x (y ∷ ys) differ holds each =
    ap (λ b. b || list_any (λ y. share_vrp x y) ys) (two_holders history g h x y differ holds each.0) ∙ none_of history g h x ys differ holds each.1

pub two-share_none : (history : History) (g h : List ℕ) (xs ys : List Auth) → same_name g h ≡ false → AreActive history g xs → AreActive history h ys
    → share_none xs ys ≡ true
two-share_none history g h xs ys differ are_xs are_ys = all xs (active-each history g xs are_xs)
  where
    all : (zs : List Auth) → Each (HoldsTerms history g) zs → share_none zs ys ≡ true
    all [] each = refl
    all (z ∷ zs) each =
        ap (λ b. not b && share_none zs ys) (none_of history g h z ys differ each.0 (active-each history h ys are_ys)) ∙ all zs each.1

-- where a test fails of all that is kept, it fails of each that has the fact, and the other way round
each_of_kept : (P : Auth → Type 0) (test : Auth → Bool) (xs ys : List Auth) → Keeps P xs ys → list_any test ys ≡ false → Each (λ x. P x → test x ≡ false) xs
each_of_kept P test [] ys k none = tt
each_of_kept P test (x ∷ xs) [] k none = (λ p. absurd (k.0 p), each_of_kept P test xs [] k.1 none)
each_of_kept P test (x ∷ xs) (y ∷ ys) (inl k) none =
    let both = or_parts (test y) (list_any test ys) none in
    (λ p. ap test (sym k.1) ∙ both.0, each_of_kept P test xs ys k.2 both.1)
each_of_kept P test (x ∷ xs) (y ∷ ys) (inr k) none = (λ p. absurd (k.0 p), each_of_kept P test xs (y ∷ ys) k.1 none)

none_of_kept : (P : Auth → Type 0) (test : Auth → Bool) (xs ys : List Auth) → Keeps P xs ys → Each (λ x. P x → test x ≡ false) xs → list_any test ys ≡ false
none_of_kept P test [] [] k each = refl
none_of_kept P test [] (y ∷ ys) k each = absurd k
none_of_kept P test (x ∷ xs) [] k each = refl
none_of_kept P test (x ∷ xs) (y ∷ ys) (inl k) each =
    ap (λ b. b || list_any test ys) (ap test k.1 ∙ each.0 k.0) ∙ none_of_kept P test xs ys k.2 each.1
none_of_kept P test (x ∷ xs) (y ∷ ys) (inr k) each = none_of_kept P test xs (y ∷ ys) k.1 each.1

-- no two of the list that have the fact share a VRP
abbrev pub PairsApart : (Auth → Type 0) → List Auth → Type 0
PairsApart P [] = Unit {0}
PairsApart P (x ∷ xs) = (P x → Each (λ y. P y → share_vrp x y ≡ false) xs) × PairsApart P xs

-- so no two that are kept do
kept-apart : (P : Auth → Type 0) (xs ys : List Auth) → Keeps P xs ys → PairsApart P xs → has_repeat share_vrp ys ≡ false
kept-apart P [] [] k pairs = refl
kept-apart P [] (y ∷ ys) k pairs = absurd k
kept-apart P (x ∷ xs) [] k pairs = refl
kept-apart P (x ∷ xs) (y ∷ ys) (inl k) pairs =
    let alone : list_any (λ z. share_vrp x z) ys ≡ false = none_of_kept P (λ z. share_vrp x z) xs ys k.2 (pairs.0 k.0) in
    ap (λ b. b || has_repeat share_vrp ys) (ap (λ a. list_any (λ z. share_vrp a z) ys) k.1 ∙ alone) ∙ kept-apart P xs ys k.2 pairs.1
kept-apart P (x ∷ xs) (y ∷ ys) (inr k) pairs = kept-apart P xs (y ∷ ys) k.1 pairs.1

Each-weaker : (P Q : Auth → Type 0) (test : Auth → Bool) (xs : List Auth) → ((x : Auth) → Q x → P x) → Each (λ x. P x → test x ≡ false) xs → Each (λ x. Q x → test x ≡ false) xs
Each-weaker P Q test [] to each = tt
Each-weaker P Q test (x ∷ xs) to each = (λ q. each.0 (to x q), Each-weaker P Q test xs to each.1)

-- a stronger fact
PairsApart-weaker : (P Q : Auth → Type 0) (xs : List Auth) → ((x : Auth) → Q x → P x) → PairsApart P xs → PairsApart Q xs
PairsApart-weaker P Q [] to pairs = tt
PairsApart-weaker P Q (x ∷ xs) to pairs =
    (λ q. Each-weaker P Q (λ y. share_vrp x y) xs to (pairs.0 (to x q)), PairsApart-weaker P Q xs to pairs.1)

Each-filter : (P : Auth → Type 0) (keep : Auth → Bool) (xs : List Auth) → Each P xs → Each P (filter keep xs)
Each-filter P keep [] each = tt
Each-filter P keep (x ∷ xs) each =
    let rest = Each-filter P keep xs each.1 in
    elim (keep x) as (λ b. Each P (cond b (x ∷ filter keep xs) (filter keep xs))) [ true ↦ (each.0, rest) | false ↦ rest ]

PairsApart-filter : (P : Auth → Type 0) (keep : Auth → Bool) (xs : List Auth) → PairsApart P xs → PairsApart P (filter keep xs)
PairsApart-filter P keep [] pairs = tt
PairsApart-filter P keep (x ∷ xs) pairs =
    let rest = PairsApart-filter P keep xs pairs.1 in
    elim (keep x) as (λ b. PairsApart P (cond b (x ∷ filter keep xs) (filter keep xs)))
    [ true ↦ (λ p. Each-filter (λ y. P y → share_vrp x y ≡ false) keep xs (pairs.0 p), rest) | false ↦ rest ]

Each-append : (P : Auth → Type 0) (xs : List Auth) (z : Auth) → P z → Each P xs → Each P (xs ++ z ∷ [])
Each-append P [] z is each = (is, tt)
Each-append P (x ∷ xs) z is each = (each.0, Each-append P xs z is each.1)

-- one more that shares none with those before it
PairsApart-append : (P : Auth → Type 0) (xs : List Auth) (z : Auth) → Each (λ x. P x → share_vrp x z ≡ false) xs → PairsApart P xs → PairsApart P (xs ++ z ∷ [])
PairsApart-append P [] z none pairs = (λ p. tt, tt)
PairsApart-append P (x ∷ xs) z none pairs =
    (λ p. Each-append (λ y. P y → share_vrp x y ≡ false) xs z (λ q. none.0 p) (pairs.0 p), PairsApart-append P xs z none.1 pairs.1)

pub amended-other : (n : ℕ) (maxes : List ℕ) (until : ℕ) (x : Auth) → eqb x.number n ≡ false → amended n maxes until x ≡ x
amended-other n maxes until x differ = cond-false _ _ _ differ

pub amended-it : (n : ℕ) (maxes : List ℕ) (until : ℕ) (x z : Auth) → eqb x.number n ≡ true → x ≡ z → amended n maxes until x ≡ with_terms maxes until z
amended-it n maxes until x z same is = cond-true _ _ _ same ∙ ap (with_terms maxes until) is

-- what follows from a list of rising numbers for one that is amended: it is the one found, and shares none of the new terms with another
record Amends (P : Auth → Type 0) (n : ℕ) (maxes : List ℕ) (until : ℕ) (z x : Auth) : Type 0 where
  pub found : P x → eqb x.number n ≡ true → x ≡ z
  pub apart : P x → eqb x.number n ≡ false → share_vrp (with_terms maxes until z) x ≡ false

numbered_later : (n low : ℕ) (xs : List Auth) (high : ℕ) (P : Auth → Type 0) (z : Auth) → n ≤ low → Numbered low xs high → Each (λ x. P x → eqb x.number n ≡ true → x ≡ z) xs
numbered_later n low [] high P z below numbers = tt
numbered_later n low (x ∷ xs) high P z below numbers =
    let first : low < x.number = numbers.0 in
    let differ : eqb x.number n ≡ false = grind (arith, nat_tests) in
    (λ p same. absurd (false≢true (sym differ ∙ same)), numbered_later n x.number xs high P z (omega arith) numbers.1)

-- of those that have the fact, the one of the number is the one found
pub found_one : (P : Auth → Type 0) (n low : ℕ) (xs ys : List Auth) (high : ℕ) (z : Auth) → Numbered low xs high → Keeps P xs ys → auth_of_number n ys ≡ Some z
    → Each (λ x. P x → eqb x.number n ≡ true → x ≡ z) xs
found_one P n low [] ys high z numbers k found = tt
found_one P n low (x ∷ xs) [] high z numbers k found =
    (λ p. absurd (k.0 p), found_one P n x.number xs [] high z numbers.1 k.1 found)
found_one P n low (x ∷ xs) (y ∷ ys) high z numbers (inl k) found =
    elim (cases_Bool (eqb y.number n)) [
      | inl t ↦
          let same : y ≡ z = same_Some y z (sym (cond-true _ _ _ t) ∙ found) in
          let number_x : x.number ≡ y.number = ap (λ a. a.number) (sym k.1) in
          let bound : n ≤ x.number = grind (arith, nat_tests) in
          (λ p is. sym k.1 ∙ same, numbered_later n x.number xs high P z bound numbers.1)
      | inr f ↦ (
        λ p is. absurd (false≢true (sym f ∙ ap (λ a. eqb a.number n) k.1 ∙ is)),
        found_one P n x.number xs ys high z numbers.1 k.2 (sym (cond-false _ _ _ f) ∙ found),
      )
    ]
found_one P n low (x ∷ xs) (y ∷ ys) high z numbers (inr k) found =
    (λ p. absurd (k.0 p), found_one P n x.number xs (y ∷ ys) high z numbers.1 k.1 found)

both-amends : (P : Auth → Type 0) (n : ℕ) (maxes : List ℕ) (until : ℕ) (z : Auth) (xs : List Auth) → Each (λ x. P x → eqb x.number n ≡ true → x ≡ z) xs
    → Each (λ x. P x → (not (eqb x.number n) && share_vrp (with_terms maxes until z) x) ≡ false) xs → Each (Amends P n maxes until z) xs
both-amends P n maxes until z [] founds aparts = tt
both-amends P n maxes until z (x ∷ xs) founds aparts = (
  record { found = founds.0; apart = λ p differ. sym (ap (λ b. not b && share_vrp (with_terms maxes until z) x) differ) ∙ aparts.0 p },
  both-amends P n maxes until z xs founds.1 aparts.1,
)

-- one and a later one, after an amend
amended_pair : (P : Auth → Type 0) (n : ℕ) (maxes : List ℕ) (until : ℕ) (z x y : Auth) → x.number < y.number → Amends P n maxes until z x → Amends P n maxes until z y
    → P x → P y → share_vrp x y ≡ false → share_vrp (amended n maxes until x) (amended n maxes until y) ≡ false
amended_pair P n maxes until z x y less at_x at_y p q apart =
    elim (cases_Bool (eqb x.number n)) [
      | inl tx ↦ elim (cases_Bool (eqb y.number n)) [
        | inl ty ↦ absurd (grind (arith, nat_tests))
        | inr fy ↦
            ap (λ a. share_vrp a (amended n maxes until y)) (amended-it n maxes until x z tx (at_x.found p tx))
            ∙ ap (share_vrp (with_terms maxes until z)) (amended-other n maxes until y fy) ∙ at_y.apart q fy
      ]
      | inr fx ↦ elim (cases_Bool (eqb y.number n)) [
        | inl ty ↦
            ap (λ a. share_vrp a (amended n maxes until y)) (amended-other n maxes until x fx)
            ∙ ap (share_vrp x) (amended-it n maxes until y z ty (at_y.found q ty)) ∙ share_vrp-flips x (with_terms maxes until z) ∙ at_x.apart p fx
        | inr fy ↦
            ap (λ a. share_vrp a (amended n maxes until y)) (amended-other n maxes until x fx)
            ∙ ap (share_vrp x) (amended-other n maxes until y fy) ∙ apart
      ]
    ]

amended_each : (P Q : Auth → Type 0) (n : ℕ) (maxes : List ℕ) (until : ℕ) (z x : Auth) (low : ℕ) (xs : List Auth) (high : ℕ) → ((y : Auth) → Q (amended n maxes until y) → P y)
    → x.number ≤ low → Numbered low xs high → Amends P n maxes until z x → P x → Each (Amends P n maxes until z) xs → Each (λ y. P y → share_vrp x y ≡ false) xs
    → Each (λ y. Q y → share_vrp (amended n maxes until x) y ≡ false) (map (amended n maxes until) xs)
amended_each P Q n maxes until z x low [] high to below numbers at_x p amends each = tt
amended_each P Q n maxes until z x low (y ∷ ys) high to below numbers at_x p amends each =
    let first : low < y.number = numbers.0 in (
      λ q. amended_pair P n maxes until z x y (omega arith) at_x amends.0 p (to y q) (each.0 (to y q)),
      amended_each P Q n maxes until z x y.number ys high to (omega arith) numbers.1 at_x p amends.1 each.1,
    )

PairsApart-amended : (P Q : Auth → Type 0) (n : ℕ) (maxes : List ℕ) (until : ℕ) (z : Auth) (low : ℕ) (xs : List Auth) (high : ℕ) → ((y : Auth) → Q (amended n maxes until y) → P y)
    → Numbered low xs high → Each (Amends P n maxes until z) xs → PairsApart P xs → PairsApart Q (map (amended n maxes until) xs)
PairsApart-amended P Q n maxes until z low [] high to numbers amends pairs = tt
PairsApart-amended P Q n maxes until z low (x ∷ xs) high to numbers amends pairs = (
  λ q. amended_each P Q n maxes until z x x.number xs high to (omega arith) numbers.1 amends.0 (to x q) amends.1 (pairs.0 (to x q)),
  PairsApart-amended P Q n maxes until z x.number xs high to numbers.1 amends.1 pairs.1,
)

-- the one that an accepted amend finds
amended_found : (before : History) (h : List ℕ) (n : ℕ) (maxes : List ℕ) (until : ℕ) (active : List Auth) → AreActive before h active
    → IsSomeAnd (auth_of_number n active) (λ z. shares_with_other n (with_terms maxes until z) active ≡ false)
    → (z : Auth) × Each (Amends (HeldSinceMade before h) n maxes until z) (authorization_terms before h)
amended_found before h n maxes until active are found = by_case (auth_of_number n active) refl found
  where
    by_case : (o : Option Auth) → auth_of_number n active ≡ o
        → IsSomeAnd o (λ z. shares_with_other n (with_terms maxes until z) active ≡ false)
        → (z : Auth) × Each (Amends (HeldSinceMade before h) n maxes until z) (authorization_terms before h)
    by_case None is none = absurd none
    by_case (Some z) is alone = (
      z,
      both-amends (HeldSinceMade before h) n maxes until z (authorization_terms before h)
          (found_one (HeldSinceMade before h) n 0 (authorization_terms before h) active (authorizations_made before h) z (authorization_terms-numbered before h) are is)
          (each_of_kept (HeldSinceMade before h) (λ y. not (eqb y.number n) && share_vrp (with_terms maxes until z) y) (authorization_terms before h) active are alone),
    )

-- after a command that was accepted
apart-after : (charter : Charter) (before : History) (day : ℕ) (caller : List ℕ) (c : Command) (h : List ℕ) → Verdict charter before day caller c None
    → PairsApart (HeldSinceMade before h) (authorization_terms before h)
    → PairsApart (HeldSinceMade (record { day = day; caller = caller; command = c } ∷ before) h)
    (authorization_terms (record { day = day; caller = caller; command = c } ∷ before) h)
apart-after charter before day caller (Import holder rows) h accepted pairs = absurd accepted
apart-after charter before day caller (Withdraw holder n) h accepted pairs =
    let e : Entry = record { day = day; caller = caller; command = Withdraw holder n } in
    let keep = λ (x : Auth). not (eqb x.number n) in
    let same = PairsApart-weaker (HeldSinceMade before h) (HeldSinceMade (e ∷ before) h) (authorization_terms before h) (λ x since. since.1) pairs in
    elim (same_name holder h) as (λ b. PairsApart (HeldSinceMade (e ∷ before) h) (cond b (filter keep (authorization_terms before h)) (authorization_terms before h)))
    [ true ↦ PairsApart-filter (HeldSinceMade (e ∷ before) h) keep (authorization_terms before h) same | false ↦ same ]
apart-after charter before day caller (Create holder terms) h accepted pairs =
    let e : Entry = record { day = day; caller = caller; command = Create holder terms } in
    let x = numbered_terms terms (authorizations_made before h + 1) in
    let old = PairsApart-weaker (HeldSinceMade before h) (HeldSinceMade (e ∷ before) h) (authorization_terms before h) (λ y since. since.1) pairs in
    let G : Bool → Type 0 = λ b. PairsApart (HeldSinceMade (e ∷ before) h) (cond b (authorization_terms before h ++ x ∷ []) (authorization_terms before h)) in
    elim (cases_Bool (same_name holder h)) [
      | inl t ↦
          let of = accepted.1.1.1.1.1.0 in
          let at_holder = each_of_kept (HeldSinceMade before holder) (λ y. gives_some y terms.asn terms.entries) (authorization_terms before holder) of.0 of.1 of.2 in
          let Q : List ℕ → Type 0 = λ g. Each (λ y. HeldSinceMade before g y → gives_some y terms.asn terms.entries ≡ false) (authorization_terms before g) in
          let none = subst Q (same_name-true holder h t) at_holder in
          let later_on = Each-weaker (HeldSinceMade before h) (HeldSinceMade (e ∷ before) h) (λ y. gives_some y terms.asn terms.entries) (authorization_terms before h) (λ y since. since.1) none in
          subst G (sym t) (PairsApart-append (HeldSinceMade (e ∷ before) h) (authorization_terms before h) x later_on old)
      | inr f ↦ subst G (sym f) old
    ]
apart-after charter before day caller (Amend holder n maxes until) h accepted pairs =
    let e : Entry = record { day = day; caller = caller; command = Amend holder n maxes until } in
    let f = amended n maxes.items until in
    let old = PairsApart-weaker (HeldSinceMade before h) (HeldSinceMade (e ∷ before) h) (authorization_terms before h) (λ y since. since.1) pairs in
    let G : Bool → Type 0 = λ b. PairsApart (HeldSinceMade (e ∷ before) h) (cond b (map f (authorization_terms before h)) (authorization_terms before h)) in
    let back = λ (y : Auth) (since : HeldSinceMade (e ∷ before) h (f y)). since_same before h (f y) y (sym (amended-number n maxes.items until y)) (λ a. sym (amended-addresses n maxes.items until y a)) since.1 in
    elim (cases_Bool (same_name holder h)) [
      | inl t ↦
          let of = accepted.1.1.1.1.0 in
          let found = amended_found before holder n maxes.items until of.0 of.1 of.2 in
          let Q : List ℕ → Type 0 = λ g. (z : Auth) × Each (Amends (HeldSinceMade before g) n maxes.items until z) (authorization_terms before g) in
          let here = subst Q (same_name-true holder h t) found in
          subst G (sym t) (PairsApart-amended (HeldSinceMade before h) (HeldSinceMade (e ∷ before) h) n maxes.items until here.0 0 (authorization_terms before h) (authorizations_made before h)
          back (authorization_terms-numbered before h) here.1 pairs)
      | inr f ↦ subst G (sym f) old
    ]
apart-after charter before day caller _ h accepted pairs =
    PairsApart-weaker _ _ (authorization_terms before h) (λ x since. since.1) pairs

pub pairs-apart : (charter : Charter) (history : History) (h : List ℕ) → IsLegal charter history → PairsApart (HeldSinceMade history h) (authorization_terms history h)
pairs-apart charter [] h legal = tt
pairs-apart charter (e ∷ before) h legal =
    apart-after charter before e.day e.caller e.command h legal.0 (pairs-apart charter before h legal.1)

pub no_shared_vrp : NoSharedVrp
no_shared_vrp charter history legal = (
  λ h xs are. kept-apart (HeldSinceMade history h) (authorization_terms history h) xs are (pairs-apart charter history h legal),
  λ g h xs ys differ are_xs are_ys. two-share_none history g h xs ys differ are_xs are_ys,
)
