-- A part of the rows of a holder that is enough for changes: what it says, and that a create and a withdrawal keep it.
use Rattle.policy.proofs.Vocabulary.{◌≡◌, ℕ, ◌+◌, ◌<◌, Bool, true, false, not, ◌==◌, ◌||◌, cond, List, [], ◌∷◌, ◌++◌, length, get_or, ◌↔◌, inl, inr, Option, Some, None, refl, sym, ap, ◌∙◌, subst, arith, filter, find, Contains, append-nil, length-append, list_any, nat_le, cases_Bool, and_from, eq-eqb, nat_tests, filter-append, Auth, AuthTerms, RoaPrefix, Proposed, Create, MOST_AUTHORIZATIONS, IsOfTerms, Rows, edited, AreInNumber, is_entry, gives_some, auth_of_number, both_share, IsPartFor, IsPartIfAny, looks_for, not_kept}
use Rattle.std.proofs.lemmas.List.Filters.{length-filter_both}
use Rattle.std.proofs.lemmas.Map.Views.{any-filter_same}
use Rattle.addr.proofs.Equality.{prefix_itself}
use Rattle.registry.specs.declared.change.Edit.TheVariants.{Create as CreateEdit, Withdraw as WithdrawEdit}
use Rattle.registry.specs.declared.command.Proposed.TheVariants.{Withdraw}

-- ---- filters

module _ {X : Type 0} (keep : X → Bool) where
  -- a test that keeps all keeps the list
  keep_all : ((x : X) → keep x ≡ true) → (xs : List X) → filter keep xs ≡ xs
  keep_all all [] = refl
  keep_all all (x ∷ xs) = rw (all x) (ap (λ ys. x ∷ ys) (keep_all all xs))

  drop_all : ((x : X) → keep x ≡ false) → (xs : List X) → filter keep xs ≡ []
  drop_all none [] = refl
  drop_all none (x ∷ xs) = rw (none x) (drop_all none xs)

  keeps_last : (xs : List X) (x : X) → keep x ≡ true → filter keep (xs ++ x ∷ []) ≡ filter keep xs ++ x ∷ []
  keeps_last xs x is = filter-append keep xs (x ∷ []) ∙ ap (λ b. filter keep xs ++ cond b (x ∷ []) []) is

  drops_last : (xs : List X) (x : X) → keep x ≡ false → filter keep (xs ++ x ∷ []) ≡ filter keep xs
  drops_last xs x is =
      filter-append keep xs (x ∷ []) ∙ ap (λ b. filter keep xs ++ cond b (x ∷ []) []) is ∙ append-nil (filter keep xs)

  filters_swap : (test : X → Bool) (xs : List X) → filter keep (filter test xs) ≡ filter test (filter keep xs)
  filters_swap test [] = refl
  filters_swap test (x ∷ xs) = elim (cases_Bool (keep x)) [
    | inl a ↦ elim (cases_Bool (test x)) [ inl b ↦ rw (b, a, b) (ap (λ ys. x ∷ ys) (filters_swap test xs)) | inr b ↦ rw (b, a, b) (filters_swap test xs) ]
    | inr a ↦ elim (cases_Bool (test x)) [ inl b ↦ rw (b, a) (filters_swap test xs) | inr b ↦ rw (b, a) (filters_swap test xs) ]
  ]

  -- what is found among all is found among those that are kept, if they have all that pass
  find_kept : (test : X → Bool) → ((x : X) → test x ≡ true → keep x ≡ true) → (xs : List X) → find test (filter keep xs) ≡ find test xs
  find_kept test all [] = refl
  find_kept test all (x ∷ xs) =
      let rest = find_kept test all xs in
      elim (cases_Bool (test x)) [
        | inl a ↦ rw (all x a, a)
        | inr a ↦ elim (cases_Bool (keep x)) [ inl b ↦ rw (b, a) rest | inr b ↦ rw (b, a) rest ]
      ]

  -- and the others stay where only such are taken away
  others_stay : (test : X → Bool) → ((x : X) → test x ≡ true → keep x ≡ true) → (xs : List X)
      → filter (λ x. not (keep x)) (filter (λ x. not (test x)) xs) ≡ filter (λ x. not (keep x)) xs
  others_stay test all [] = refl
  others_stay test all (x ∷ xs) =
      let rest = others_stay test all xs in
      elim (cases_Bool (test x)) [
        | inl a ↦ rw (a, all x a) rest
        | inr a ↦ elim (cases_Bool (keep x)) [ inl b ↦ rw (a, b) rest | inr b ↦ rw (a, b) (ap (λ ys. x ∷ ys) rest) ]
      ]

  length-kept : (xs : List X) → length (filter keep xs) + length (filter (λ x. not (keep x)) xs) ≡ length xs
  length-kept xs = length-filter_both keep (λ x. not (keep x)) (λ x. refl) xs

-- ---- the whole, and single changes

-- all rows are a part of themselves that leaves nothing out, for any changes
pub whole-part : (changes : List Proposed) (more : ℕ) (rows : Rows) → IsPartFor changes more 0 (λ _. true) rows rows
whole-part changes more rows = record {
  grants = refl;
  created = refl;
  auths = sym (keep_all (λ _. true) (λ x. refl) rows.auths);
  kept = λ change x has looks. refl;
  left = inl (sym (ap length (drop_all (λ _. false) (λ x. refl) rows.auths)));
  held = λ a is. is;
  holds = λ terms has within. within;
}

only : {X : Type 0} (x y : X) → Contains (x ∷ []) y → x ≡ y
only x y has =
    let within = has.1 in
    let first : has.0 ≡ 0 = omega (arith, within) in
    subst (λ (k : ℕ). get_or (x ∷ []) k y ≡ y) first has.2

module _ (changes : List Proposed) (more left_out : ℕ) (keep : Auth → Bool) (whole part : Rows) where
  -- a part for all changes is one for each of them
  pub part-one : (change : Proposed) → Contains changes change → IsPartFor changes more left_out keep whole part
      → IsPartFor (change ∷ []) 0 left_out keep whole part
  part-one change has is = record {
    grants = is.grants;
    created = is.created;
    auths = is.auths;
    kept = λ c x one. is.kept c x (subst (Contains changes) (only change c one) has);
    left = elim is.left [ inl all ↦ inl all | inr few ↦ inr (few.0, (let below = few.1 in omega (arith, below))) ];
    held = is.held;
    holds = λ terms one. is.holds terms (subst (Contains changes) (only change (Create terms) one) has);
  }

  -- with the part's authorizations and those left out, the holder has as many as it may have exactly where it has
  pub part-full : IsPartFor changes more left_out keep whole part
      → (nat_le MOST_AUTHORIZATIONS (length part.auths + left_out) ≡ false) ↔ (length whole.auths < MOST_AUTHORIZATIONS)
  part-full is =
      let kept = ap length is.auths in
      let both = length-kept keep whole.auths in
      elim is.left [
        | inl all ↦ (λ f. grind (arith, nat_tests, f, kept, both, all), λ few. grind (arith, nat_tests, few, kept, both, all))
        | inr none ↦
            let zero = none.0 in
            let few = none.1 in (λ _. omega (arith, few), λ _. grind (arith, nat_tests, zero, few, kept, both))
      ]

-- the authorization of a number is found in the part
pub part-found : (n more left_out : ℕ) (keep : Auth → Bool) (whole part : Rows) → IsPartFor (Withdraw n ∷ []) more left_out keep whole part
    → auth_of_number n part.auths ≡ auth_of_number n whole.auths
part-found n more left_out keep whole part is =
    ap (auth_of_number n) is.auths ∙ find_kept keep (λ x. x.number == n) (λ x. is.kept (Withdraw n) x (0, omega arith, refl)) whole.auths

-- and some authorization of it gives the AS with an entry exactly where one of the whole does
pub part-gives : (terms : AuthTerms) (more left_out : ℕ) (keep : Auth → Bool) (whole part : Rows) → IsPartFor (Create terms ∷ []) more left_out keep whole part
    → list_any (λ y. gives_some y terms.asn terms.entries) part.auths ≡ list_any (λ y. gives_some y terms.asn terms.entries) whole.auths
part-gives terms more left_out keep whole part is =
    let gives = λ (y : Auth). gives_some y terms.asn terms.entries in
    ap (list_any gives) is.auths ∙ any-filter_same gives keep true (λ x. is.kept (Create terms) x (0, omega arith, refl)) whole.auths

-- ---- what a change leaves

-- what an edit leaves of the part is a part, for one change fewer; and what is not kept stays
pub record StaysPart (changes : List Proposed) (more left_out : ℕ) (keep : Auth → Bool) (whole rows part : Rows) : Type 0 where
  pub is_part : IsPartFor changes more left_out keep rows part
  pub others : not_kept keep rows.auths ≡ not_kept keep whole.auths

-- terms with an entry give it
gives-itself : (x : Auth) (e : RoaPrefix) (es : List RoaPrefix) → x.entries ≡ e ∷ es → gives_some x x.asn x.entries ≡ true
gives-itself x e es is =
    let here : is_entry e.prefix e.max e ≡ true = and_from _ _ (prefix_itself e.prefix) (eq-eqb _ _ refl) in
    let among : list_any (is_entry e.prefix e.max) x.entries ≡ true =
    ap (list_any (is_entry e.prefix e.max)) is ∙ ap (λ b. b || list_any (is_entry e.prefix e.max) es) here in
    and_from _ _ (eq-eqb _ _ refl) (both_share e.prefix e.max x.entries x.entries among among)

looks_for-made : (terms : AuthTerms) (x : Auth) → IsOfTerms terms x → AreInNumber terms.entries → looks_for (Create terms) x ≡ true
looks_for-made terms x of number = go x.entries refl
  where
    go : (es : List RoaPrefix) → x.entries ≡ es → gives_some x terms.asn terms.entries ≡ true
    go [] none = absurd (let some = number.0 in let long : length terms.entries ≡ 0 = ap (λ y. length y.entries) (sym of) ∙ ap length none in omega (arith, some, long))
    go (e ∷ es) is = subst (λ (y : Auth). gives_some x y.asn y.entries ≡ true) of (gives-itself x e es is)

module _ (changes : List Proposed) (more left_out : ℕ) (keep : Auth → Bool) (whole part : Rows)
    (is : IsPartFor changes (more + 1) left_out keep whole part) where
  pub part-create : (terms : AuthTerms) (x : Auth) → Contains changes (Create terms) → IsOfTerms terms x → AreInNumber terms.entries
      → StaysPart changes more left_out keep whole (edited (CreateEdit x) whole) (edited (CreateEdit x) part)
  part-create terms x has of number =
      let kept = is.kept (Create terms) x has (looks_for-made terms x of number) in
      let others = drops_last (λ y. not (keep y)) whole.auths x (ap not kept) in
      let longer = length-append whole.auths (x ∷ []) in record {
        is_part = record {
          grants = is.grants;
          created = refl;
          auths = ap (λ ys. ys ++ x ∷ []) is.auths ∙ sym (keeps_last keep whole.auths x kept);
          kept = is.kept;
          left = elim is.left [ inl all ↦ inl (all ∙ ap length (sym others)) | inr few ↦ inr (few.0, (let below = few.1 in omega (arith, below, longer))) ];
          held = is.held;
          holds = is.holds;
        };
        others = others;
      }

  pub part-withdraw : (n : ℕ) → Contains changes (Withdraw n)
      → StaysPart changes more left_out keep whole (edited (WithdrawEdit n) whole) (edited (WithdrawEdit n) part)
  part-withdraw n has =
      let others = others_stay keep (λ x. x.number == n) (λ x. is.kept (Withdraw n) x has) whole.auths in
      let fewer = length-kept (λ x. x.number == n) whole.auths in record {
        is_part = record {
          grants = is.grants;
          created = is.created;
          auths = ap (filter (λ x. not (x.number == n))) is.auths ∙ filters_swap (λ x. not (x.number == n)) keep whole.auths;
          kept = is.kept;
          left = elim is.left [ inl all ↦ inl (all ∙ ap length (sym others)) | inr few ↦ inr (few.0, (let below = few.1 in omega (arith, below, fewer))) ];
          held = is.held;
          holds = is.holds;
        };
        others = others;
      }

-- ---- where the holder may not be registered

pub no-part : (changes : List Proposed) (left_out : ℕ) (keep : Auth → Bool) (whole : Option Rows) → IsPartIfAny changes left_out keep whole None → whole ≡ None
no-part changes left_out keep None is = refl
no-part changes left_out keep (Some whole) is = absurd is

pub some-part : (changes : List Proposed) (left_out : ℕ) (keep : Auth → Bool) (whole : Option Rows) (part : Rows) → IsPartIfAny changes left_out keep whole (Some part)
    → (rows : Rows) × (whole ≡ Some rows) × IsPartFor changes (length changes) left_out keep rows part
some-part changes left_out keep None part is = absurd is
some-part changes left_out keep (Some whole) part is = (whole, refl, is)
