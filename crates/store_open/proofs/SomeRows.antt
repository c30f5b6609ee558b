-- The rows of every holder that tables hold whose rows show values.
use Rattle.store_open.proofs.Vocabulary.{◌≡◌, ◌≢◌, ℕ, ◌<◌, Bool, true, false, cond, List, [], ◌∷◌, ◌++◌, map, flat_map, filter, length, Option, Some, None, refl, inl, sym, ap, subst, ◌∙◌, arith, IsPermutation, AllByRecursion, filter-append, length_permutation, Text, Row, column, all_of, all_weaker, all-filter, all-map, all-flat_map, all-permutation, filter_all, filter_none, IsPermutation-filter, IsPermutation-same, Has, all_has, has_filtered, has_kept, Span, Auth, Granted, AreEntries, OfHolder, EachHasEntries, HaveEntries, claim_of, entry_rows_of, holder_row, holding_row, granted_row, claim_row, entry_row, Part, HoldsPart, part_rows, is_name_of, is_text, holder_part, holding_part, granted_part, claim_part, entry_part, names, name_of-true, name_of_itself, row_of_claim, rows_of_entries, ⊤, GrantFits}
use Rattle.registry.specs.Rows.{Rows}

-- ---- the rows of one name

-- the values of the rows that have the name
pub values_named : {X : Type 0} (place : ℕ) (h : List ℕ) (row : X → Row) (P : Row → Type 0)
    → ((c : Row) → P c → column c place ≡ Text h → (x : X) × (c ≡ row x)) → (table : List Row) → AllByRecursion P table
    → (xs : List X) × (map row xs ≡ filter (names place h) table)
values_named place h row P shown [] all = ([], refl)
values_named {X} place h row P shown (c ∷ table) all = go (names place h c) refl (values_named place h row P shown table all.1)
  where
    go : (b : Bool) → names place h c ≡ b → (xs : List X) × (map row xs ≡ filter (names place h) table)
        → (xs : List X) × (map row xs ≡ cond b (c ∷ filter (names place h) table) (filter (names place h) table))
    go false is more = more
    go true is more =
        let one = shown c all.0 (name_of-true h (column c place) is) in
        (one.0 ∷ more.0, λ i. sym one.1 i ∷ more.1 i)

-- a row of this name is among them
named_in : (place : ℕ) (h : List ℕ) (table : List Row) (c : Row) → Has table c → column c place ≡ Text h → filter (names place h) table ≢ []
named_in place h table c has is none = subst (λ l. Has l c) none (has_kept (names place h) table c has (name_of_itself h (column c place) is))

-- no row has the name
none_named : (place : ℕ) (h : List ℕ) (table : List Row) → ((c : Row) → Has table c → column c place ≢ Text h) → filter (names place h) table ≡ []
none_named place h table none = go (filter (names place h) table) (has_filtered (names place h) table)
  where
    go : (l : List Row) → ((c : Row) → Has l c → Has table c × (names place h c ≡ true)) → l ≡ []
    go [] from = refl
    go (c ∷ l) from = let it = from c (inl refl) in absurd (none c it.0 (name_of-true h (column c place) it.1))

-- ---- rows that show the values of their holder

-- what is known of a row of a part: it shows a value in its range beside the name of a registered holder
pub record IsPartRow (X : Type 0) (fits : X → Type 0) (row : List ℕ → X → Row) (holders : List Row) (c : Row) : Type 0 where
  pub name : List ℕ
  pub value : X
  pub in_range : fits value
  pub is : c ≡ row name value
  pub registered : (p : Row) × Has holders p × (column p 0 ≡ Text name)

-- ---- the authorizations of one name

-- the authorization is of the holder
abbrev is_of : List ℕ → OfHolder Auth → Bool
is_of h x = is_name_of h (Text x.holder)

abbrev auths_of : List ℕ → List (OfHolder Auth) → List Auth
auths_of h xs = map (λ (x : OfHolder Auth). x.row) (filter (is_of h) xs)

same_holder : (h : List ℕ) (x : OfHolder Auth) → is_of h x ≡ true → x.holder ≡ h
same_holder h x is = let texts : Text x.holder ≡ Text h = name_of-true h (Text x.holder) is in cc

claims_of : (h : List ℕ) (xs : List (OfHolder Auth)) → map (λ x. claim_row h (claim_of x)) (auths_of h xs) ≡ filter (names 0 h) (map row_of_claim xs)
claims_of h [] = refl
claims_of h (x ∷ xs) = go (is_of h x) refl (claims_of h xs)
  where
    go : (b : Bool) → is_of h x ≡ b
        → map (λ x. claim_row h (claim_of x)) (auths_of h xs) ≡ filter (names 0 h) (map row_of_claim xs)
        → map (λ x. claim_row h (claim_of x)) (map (λ (x : OfHolder Auth). x.row) (cond b (x ∷ filter (is_of h) xs) (filter (is_of h) xs)))
        ≡ cond b (row_of_claim x ∷ filter (names 0 h) (map row_of_claim xs)) (filter (names 0 h) (map row_of_claim xs))
    go false other more = more
    go true mine more = let name = same_holder h x mine in λ i. claim_row (sym name i) (claim_of x.row) ∷ more i

entries_named : (h : List ℕ) (x : OfHolder Auth) (b : Bool) → is_of h x ≡ b → AllByRecursion (λ c. names 0 h c ≡ b) (rows_of_entries x)
entries_named h x b is = all-map (λ c. names 0 h c ≡ b) (entry_row x.holder) (entry_rows_of x.row) (all_of (λ r. names 0 h (entry_row x.holder r) ≡ b) (λ r. is) (entry_rows_of x.row))

abbrev entries_in : List ℕ → List Auth → List Row
entries_in h xs = flat_map (λ x. map (entry_row h) (entry_rows_of x)) xs

entries_of_holder : (h : List ℕ) (xs : List (OfHolder Auth)) → entries_in h (auths_of h xs) ≡ filter (names 0 h) (flat_map rows_of_entries xs)
entries_of_holder h [] = refl
entries_of_holder h (x ∷ xs) = go (is_of h x) refl (entries_of_holder h xs) ∙ sym (filter-append (names 0 h) (rows_of_entries x) (flat_map rows_of_entries xs))
  where
    go : (b : Bool) → is_of h x ≡ b → entries_in h (auths_of h xs) ≡ filter (names 0 h) (flat_map rows_of_entries xs)
        → entries_in h (map (λ (x : OfHolder Auth). x.row) (cond b (x ∷ filter (is_of h) xs) (filter (is_of h) xs)))
        ≡ filter (names 0 h) (rows_of_entries x) ++ filter (names 0 h) (flat_map rows_of_entries xs)
    go false other more = more ∙ ap (λ l. l ++ filter (names 0 h) (flat_map rows_of_entries xs)) (sym (filter_none (names 0 h) (rows_of_entries x) (entries_named h x false other)))
    go true mine more =
        let name = same_holder h x mine in
        (λ i. map (entry_row (sym name i)) (entry_rows_of x.row) ++ more i)
        ∙ ap (λ l. l ++ filter (names 0 h) (flat_map rows_of_entries xs)) (sym (filter_all (names 0 h) (rows_of_entries x) (entries_named h x true mine)))

abbrev auths_if_any : Option Rows → List Auth
auths_if_any None = []
auths_if_any (Some r) = r.auths

module _ (holders : List Row) (made : AllByRecursion (λ c. (h : List ℕ) × (n : ℕ × ℕ) × (c ≡ holder_row h n.0 n.1)) holders)
    (once : (h : List ℕ) (xs : List (ℕ × ℕ)) → map (λ (n : ℕ × ℕ). holder_row h n.0 n.1) xs ≡ filter (names 0 h) holders → length xs < 2) where
  abbrev counters : (h : List ℕ) → (xs : List (ℕ × ℕ)) × (map (λ (n : ℕ × ℕ). holder_row h n.0 n.1) xs ≡ filter (names 0 h) holders)
  counters h =
      values_named 0 h (λ n. holder_row h n.0 n.1) _
      (λ c it is. let same : Text it.0 ≡ Text h = ap (λ r. column r 0) (sym it.2) ∙ is in let name : it.0 ≡ h = cc in (it.1, it.2 ∙ ap (λ k. holder_row k it.1.0 it.1.1) name)) holders made

  module _ {X : Type 0} (place : ℕ) (fits : X → Type 0) (row : List ℕ → X → Row) (named : (h : List ℕ) (x : X) → column (row h x) place ≡ Text h) (table : List Row) (all : AllByRecursion (IsPartRow X fits row holders) table) where
    pub of_holder : (h : List ℕ) → (xs : List X) × (map (row h) xs ≡ filter (names place h) table)
    of_holder h =
        values_named place h (row h) (IsPartRow X fits row holders)
        (λ c it is.
        let same : Text it.name ≡ Text h = sym (named it.name it.value) ∙ ap (λ r. column r place) (sym it.is) ∙ is in
        let name : it.name ≡ h = cc in
        (it.value, it.is ∙ ap (λ k. row k it.value) name)) table all

    -- where nobody of the name is registered there is no row of it
    of_nobody : (h : List ℕ) → filter (names 0 h) holders ≡ [] → filter (names place h) table ≡ []
    of_nobody h none =
        none_named place h table (λ c has is.
        let it = all_has (IsPartRow X fits row holders) table c all has in
        let same : Text it.name ≡ Text h = sym (named it.name it.value) ∙ ap (λ r. column r place) (sym it.is) ∙ is in
        named_in 0 h holders it.registered.0 it.registered.1 (it.registered.2 ∙ same) none)

    all_named : AllByRecursion (λ c. is_text (column c place) ≡ true) table
    all_named = all_weaker _ _ (λ c it. ap is_text (ap (λ r. column r place) it.is ∙ named it.name it.value)) table all

  module _ (holdings grants claims entries : List Row)
      (held : AllByRecursion (IsPartRow Span (λ _. ⊤) holding_row holders) holdings)
      (granted : AllByRecursion (IsPartRow Granted GrantFits granted_row holders) grants)
      (auths : List (OfHolder Auth)) (registered : AllByRecursion (λ (x : OfHolder Auth). (p : Row) × Has holders p × (column p 0 ≡ Text x.holder)) auths)
      (claims_shown : IsPermutation (map row_of_claim auths) claims) (entries_shown : IsPermutation (flat_map rows_of_entries auths) entries) where
    abbrev spans : (h : List ℕ) → (xs : List Span) × (map (holding_row h) xs ≡ filter (names 3 h) holdings)
    spans = of_holder 3 (λ _. ⊤) holding_row (λ h s. refl) holdings held

    abbrev given : (h : List ℕ) → (xs : List Granted) × (map (granted_row h) xs ≡ filter (names 0 h) grants)
    given = of_holder 0 GrantFits granted_row (λ h g. refl) grants granted

    abbrev rows_with : List ℕ → List (ℕ × ℕ) → Option Rows
    rows_with h [] = None
    rows_with h (n ∷ more) = Some (record { holdings = (spans h).0; grants = (given h).0; auths = auths_of h auths; granted = n.0; created = n.1 })

    -- the rows of a holder, from those of the tables that have its name
    abbrev rows_in : List ℕ → Option Rows
    rows_in h = rows_with h (counters h).0

    holds_holders : HoldsPart holder_part rows_in holders
    holds_holders = record {
      each = λ h. go h (counters h).0 (counters h).1 (once h (counters h).0 (counters h).1);
      named = all_weaker _ _ (λ c it. ap is_text (ap (λ r. column r 0) it.2)) holders made;
    }
      where
        go : (h : List ℕ) (xs : List (ℕ × ℕ)) → map (λ (n : ℕ × ℕ). holder_row h n.0 n.1) xs ≡ filter (names 0 h) holders → length xs < 2
            → IsPermutation (part_rows holder_part h (rows_with h xs)) (filter (names 0 h) holders)
        go h [] same one = IsPermutation-same _ _ same
        go h (n ∷ []) same one = IsPermutation-same _ _ same
        go h (n ∷ m ∷ more) same one = absurd (omega arith)

    -- another part, whose rows of a holder are these
    holds_part : (part : Part) (table : List Row) → AllByRecursion (λ c. is_text (column c part.place) ≡ true) table
        → ((h : List ℕ) → filter (names 0 h) holders ≡ [] → filter (names part.place h) table ≡ [])
        → ((h : List ℕ) (n : ℕ × ℕ) (more : List (ℕ × ℕ)) → IsPermutation (part_rows part h (rows_with h (n ∷ more))) (filter (names part.place h) table))
        → HoldsPart part rows_in table
    holds_part part table texts nobody mine = record { each = λ h. go h (counters h).0 (counters h).1; named = texts }
      where
        go : (h : List ℕ) (xs : List (ℕ × ℕ)) → map (λ (n : ℕ × ℕ). holder_row h n.0 n.1) xs ≡ filter (names 0 h) holders
            → IsPermutation (part_rows part h (rows_with h xs)) (filter (names part.place h) table)
        go h [] same = IsPermutation-same _ _ (sym (nobody h (sym same)))
        go h (n ∷ more) same = mine h n more

    -- nobody has an authorization who is not registered
    none_of_nobody : (h : List ℕ) → filter (names 0 h) holders ≡ [] → filter (is_of h) auths ≡ []
    none_of_nobody h none =
        filter_none (is_of h) auths
        (all_weaker _ _ (λ x it. go x it (is_of h x) refl) auths registered)
      where
        go : (x : OfHolder Auth) → (p : Row) × Has holders p × (column p 0 ≡ Text x.holder) → (b : Bool) → is_of h x ≡ b → b ≡ false
        go x it false is = refl
        go x it true is = absurd (named_in 0 h holders it.0 it.1 (it.2 ∙ ap Text (same_holder h x is)) none)

    -- the rows of the name are those of its authorizations, in some order
    claims_in_table : (h : List ℕ) → IsPermutation (map (λ x. claim_row h (claim_of x)) (auths_of h auths)) (filter (names 0 h) claims)
    claims_in_table h = subst (λ l. IsPermutation l (filter (names 0 h) claims)) (sym (claims_of h auths)) (IsPermutation-filter (names 0 h) _ _ claims_shown)

    entries_in_table : (h : List ℕ) → IsPermutation (entries_in h (auths_of h auths)) (filter (names 0 h) entries)
    entries_in_table h = subst (λ l. IsPermutation l (filter (names 0 h) entries)) (sym (entries_of_holder h auths)) (IsPermutation-filter (names 0 h) _ _ entries_shown)

    only_none : (l : List Row) → IsPermutation [] l → l ≡ []
    only_none [] same = refl
    only_none (c ∷ l) same = absurd (let many = length_permutation _ _ same in omega (arith, many))

    no_claims : (h : List ℕ) → filter (names 0 h) holders ≡ [] → filter (names 0 h) claims ≡ []
    no_claims h none = only_none _ (subst (λ xs. IsPermutation (map (λ x. claim_row h (claim_of x)) (map (λ (x : OfHolder Auth). x.row) xs)) (filter (names 0 h) claims)) (none_of_nobody h none) (claims_in_table h))

    no_entries : (h : List ℕ) → filter (names 0 h) holders ≡ [] → filter (names 0 h) entries ≡ []
    no_entries h none = only_none _ (subst (λ xs. IsPermutation (entries_in h (map (λ (x : OfHolder Auth). x.row) xs)) (filter (names 0 h) entries)) (none_of_nobody h none) (entries_in_table h))

    claims_named : AllByRecursion (λ c. is_text (column c 0) ≡ true) claims
    claims_named =
        all-permutation (λ c. is_text (column c 0) ≡ true) _ _ claims_shown
        (all-map (λ c. is_text (column c 0) ≡ true) row_of_claim auths (all_of (λ x. is_text (column (row_of_claim x) 0) ≡ true) (λ x. refl) auths))

    entries_texts : AllByRecursion (λ c. is_text (column c 0) ≡ true) entries
    entries_texts =
        all-permutation (λ c. is_text (column c 0) ≡ true) _ _ entries_shown
        (all-flat_map (λ c. is_text (column c 0) ≡ true) rows_of_entries auths
        (all_of _ (λ x. all-map (λ c. is_text (column c 0) ≡ true) (entry_row x.holder) (entry_rows_of x.row) (all_of _ (λ r. refl) (entry_rows_of x.row))) auths))

    -- where all authorizations have entries, those of each holder have them
    have_entries : AllByRecursion (λ (x : OfHolder Auth). AreEntries x.row.entries) auths → HaveEntries rows_in
    have_entries each h r of = subst EachHasEntries (ap auths_if_any of) (go (counters h).0)
      where
        go : (xs : List (ℕ × ℕ)) → EachHasEntries (auths_if_any (rows_with h xs))
        go [] = tt
        go (n ∷ more) = all-map (λ (x : Auth). AreEntries x.entries) (λ (x : OfHolder Auth). x.row) (filter (is_of h) auths) (all-filter _ (is_of h) auths each)

    -- the rows of every holder, of which each part is in its table
    pub record HoldsParts : Type 0 where
      pub rows : List ℕ → Option Rows
      pub holders_held : HoldsPart holder_part rows holders
      pub holdings_held : HoldsPart holding_part rows holdings
      pub grants_held : HoldsPart granted_part rows grants
      pub claims_held : HoldsPart claim_part rows claims
      pub entries_held : HoldsPart entry_part rows entries
      pub entries_had : AllByRecursion (λ (x : OfHolder Auth). AreEntries x.row.entries) auths → HaveEntries rows

    pub holds_parts : HoldsParts
    holds_parts = record {
      rows = rows_in;
      holders_held = holds_holders;
      holdings_held = holds_part holding_part holdings (all_named 3 (λ _. ⊤) holding_row (λ h s. refl) holdings held) (of_nobody 3 (λ _. ⊤) holding_row (λ h s. refl) holdings held) (λ h n more. IsPermutation-same _ _ (spans h).1);
      grants_held = holds_part granted_part grants (all_named 0 GrantFits granted_row (λ h g. refl) grants granted) (of_nobody 0 GrantFits granted_row (λ h g. refl) grants granted) (λ h n more. IsPermutation-same _ _ (given h).1);
      claims_held = holds_part claim_part claims claims_named no_claims (λ h n more. claims_in_table h);
      entries_held = holds_part entry_part entries entries_texts no_entries (λ h n more. entries_in_table h);
      entries_had = have_entries;
    }
