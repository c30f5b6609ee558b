-- Claims with their entries as authorizations.
use Rattle.store_open.proofs.Vocabulary.{◌≡◌, ◌≤◌, ◌<◌, ◌+◌, ◌==◌, ℕ, true, false, ap, arith, Option, Some, List, [], ◌∷◌, ◌++◌, drop, get_or, length, map, flat_map, refl, subst, sym, ◌∙◌, eqb-true, false≢true, drop_of_length-le, all-map, map-map, flat_map-map, flat_map_same_on, AreEntries, Auth, RoaPrefix, Claim, EntryRow, Group, OfHolder, claim_of, AllApart, AreGroups, HasNoGroups, claim_entry, group_rows, holder_entry, entry_found, entry_if, first_entries, holder_entry_found, holder_entry_if, only_found, only_found_of_holder, Walked, claim_unfit, one_claim_more, rows_left, walked_all, walked_none, MakeAuths, named_claim, named_entries}
use Rattle.store_tables.specs.steps.Ungrouping.{auth_of}

abbrev pub named_row : OfHolder Claim → RoaPrefix → OfHolder EntryRow
named_row = holder_entry claim_entry

abbrev pub named_entry_if : OfHolder Claim → OfHolder EntryRow → Option RoaPrefix
named_entry_if = holder_entry_if entry_if

pub found_named : (c : OfHolder Claim) (e : RoaPrefix) → named_entry_if c (named_row c e) ≡ Some e
found_named = holder_entry_found claim_entry entry_if entry_found

pub only_named : (c : OfHolder Claim) (r : OfHolder EntryRow) (e : RoaPrefix) → named_entry_if c r ≡ Some e → r ≡ named_row c e
only_named = only_found_of_holder claim_entry entry_if only_found

pub no_row : {X : Type 0} (rows : List X) → (length rows == 0) ≡ true → rows ≡ []
no_row [] is = refl
no_row (r ∷ rows) is = let none = eqb-true (length (r ∷ rows)) 0 is in absurd (omega (arith, none))

-- an authorization as a claim with its entries, and the authorization that a claim with its entries is
abbrev pub group_of : OfHolder Auth → Group (OfHolder Claim)
group_of x = record { claim = named_claim x; entries = x.row.entries }

abbrev named_auth : Group (OfHolder Claim) → OfHolder Auth
named_auth g = record { holder = g.claim.holder; row = auth_of (record { claim = g.claim.row; entries = g.entries }) }

rows_of_group : (x : OfHolder Auth) → named_entries x ≡ group_rows named_row (group_of x)
rows_of_group x = map-map (λ (r : EntryRow). let named : OfHolder EntryRow = record { holder = x.holder; row = r } in named) (claim_entry (claim_of x.row)) x.row.entries

pub same_rows : (xs : List (OfHolder Auth)) → flat_map named_entries xs ≡ flat_map (group_rows named_row) (map group_of xs)
same_rows xs = flat_map_same_on named_entries (λ x. group_rows named_row (group_of x)) rows_of_group xs ∙ sym (flat_map-map (group_rows named_row) group_of xs)

module _ (claims : List (OfHolder Claim)) (rows : List (OfHolder EntryRow)) where
  pub makes : (groups : List (Group (OfHolder Claim))) → AreGroups named_row claims rows groups → MakeAuths claims rows
  makes groups are = record {
    auths = map named_auth groups;
    are_entries = all-map (λ (x : OfHolder Auth). AreEntries x.row.entries) named_auth groups are.are_entries;
    same_claims = map-map named_claim named_auth groups ∙ are.same_claims;
    same_entries = flat_map-map named_entries named_auth groups ∙ flat_map_same_on _ _ (λ g. rows_of_group (named_auth g)) groups ∙ are.same_rows;
  }

  pub grouped : (made : MakeAuths claims rows) → AreGroups named_row claims rows (map group_of made.auths)
  grouped made = record {
    same_claims = map-map (λ (g : Group (OfHolder Claim)). g.claim) group_of made.auths ∙ made.same_claims;
    same_rows = sym (same_rows made.auths) ∙ made.same_entries;
    are_entries = all-map (λ (g : Group (OfHolder Claim)). AreEntries g.entries) group_of made.auths made.are_entries;
  }

  -- where there are no groups of them, they make no authorizations
  pub none_made : AllApart named_row claims → (AllApart named_row claims → HasNoGroups named_row claims rows) → ¬ MakeAuths claims rows
  none_made apart none made = none apart (map group_of made.auths) (grouped made)

  -- the walk has passed so many claims, and these rows are left
  abbrev pub Walks : ℕ → List (OfHolder EntryRow) → Type 0
  Walks i rest = (groups : List (Group (OfHolder Claim))) × Walked named_row claims rows groups (drop i claims) rest

  pub walks_from : Walks 0 rows
  walks_from = ([], walked_none named_row named_entry_if found_named only_named claims rows)

  -- at the next claim, whose entries these are
  module _ (i : ℕ) (rest : List (OfHolder EntryRow)) (walks : Walks i rest) (c : OfHolder Claim) (low : i < length claims) (is : c ≡ get_or claims i c)
      (entries : List RoaPrefix) (first : entries ≡ first_entries (named_entry_if c) rest) where
    pub walks_on : (made : List RoaPrefix) (count : ℕ) (back : List (OfHolder EntryRow)) → AreEntries made → made ≡ entries → count ≡ length entries → back ≡ drop count rest → Walks (i + 1) back
    walks_on made count back fit same long left =
        (walks.0 ++ record { claim = c; entries = made } ∷ [], one_claim_more named_row named_entry_if found_named only_named claims rows walks.0 i rest walks.1 c low is entries first made _ count back fit same long left refl)

    pub entries_unfit : ¬ AreEntries entries → AllApart named_row claims → ¬ MakeAuths claims rows
    entries_unfit unfit apart = none_made apart (claim_unfit named_row named_entry_if found_named only_named claims rows walks.0 i rest walks.1 c low is entries first unfit)

  -- no claim is left
  module _ (i : ℕ) (rest : List (OfHolder EntryRow)) (walks : Walks i rest) (high : length claims ≤ i) where
    ended : Walked named_row claims rows walks.0 [] rest
    ended = subst (λ l. Walked named_row claims rows walks.0 l rest) (drop_of_length-le claims high) walks.1

    pub no_row_left : (length rest == 0) ≡ true → MakeAuths claims rows
    no_row_left none = makes walks.0 (walked_all named_row named_entry_if found_named only_named claims rows walks.0 (subst (Walked named_row claims rows walks.0 []) (no_row rest none) ended))

    pub row_left : (length rest == 0) ≡ false → AllApart named_row claims → ¬ MakeAuths claims rows
    row_left some apart = none_made apart (rows_left named_row named_entry_if found_named only_named claims rows walks.0 rest (λ none. false≢true (sym some ∙ ap (λ l. length l == 0) none)) ended)
