-- The walk along claims while the rows of entries come one at a time.
use Rattle.store_open.proofs.Vocabulary.{◌≡◌, ◌≤◌, ◌<◌, ◌+◌, ℕ, Bool, true, false, MatchBool, List, [], ◌∷◌, ◌++◌, Some, None, map, drop, length, get_or, refl, sym, ap, ap₂, subst, ◌∙◌, arith, map-append, drop_of_length-le, Row, AreEntries, RoaPrefix, Claim, EntryRow, Group, OfHolder, EntryRowFits, NamedFits, ShowsNone, first_columns, AllApart, AreGroups, first_entries, with_entry, Walked, after_all, first_of, rows_left, unfit_entries, walked_all, walked_more, walked_none, AreOfFirst, EachShowsEntry, JoinsRows, MakeNoneOfRows, MakeOfRows, NeverMake, ShowEntries, WalkStands, WalkGoesOn, first_claim_entry, MakeAuths, show_entry}
use Rattle.store_tables.proofs.Vocabulary.{append-nil, append_assoc, drop_more}
use Rattle.store_open.proofs.Collecting.{all_and_one}
use Rattle.store_open.proofs.SomeAuths.{one_named_entry}
use Rattle.store_open.proofs.Grouped.{found_named, makes, named_entry_if, named_row, none_made, only_named}

abbrev Claims : Type 0
Claims = List (OfHolder Claim)

abbrev Entries : Type 0
Entries = List (OfHolder EntryRow)

no_entries : ¬ AreEntries []
no_entries are = let some = are.number.0 in absurd (omega (arith, some))

after_one : (entries rest : Entries) (r : OfHolder EntryRow) → (entries ++ r ∷ []) ++ rest ≡ entries ++ r ∷ rest
after_one entries rest r = append_assoc entries (r ∷ []) rest

module _ (claims : Claims) where
  abbrev Goes : Entries → Claims → Entries → Type 0
  Goes entries left rest = (groups : List (Group (OfHolder Claim))) × Walked named_row claims entries groups left rest

  pub stands_first : WalkStands claims [] claims []
  stands_first = record { held = []; of_first = none claims; walked = λ rest. ([], walked_none named_row named_entry_if found_named only_named claims rest) }
    where
      none : (left : Claims) → AreOfFirst left [] []
      none [] = refl
      none (c ∷ left) = refl

  -- the row is of an entry more of the first claim
  pub one_entry : (entries : Entries) (left : Claims) (found : List RoaPrefix) (r : OfHolder EntryRow) (e : RoaPrefix) → WalkStands claims entries left found → first_claim_entry left r ≡ Some e → WalkStands claims (entries ++ r ∷ []) left (found ++ e ∷ [])
  one_entry entries [] found r e stands is = absurd cc
  one_entry entries (c ∷ left) found r e stands is = record {
    held = stands.held ++ r ∷ [];
    of_first = ap₂ ◌++◌ stands.of_first (ap (λ x. x ∷ []) (only_named c r e is)) ∙ sym (map-append (named_row c) found (e ∷ []));
    walked = λ rest.
        subst (λ l. Goes l (c ∷ left) ((stands.held ++ r ∷ []) ++ rest)) (sym (after_one entries rest r))
        (subst (Goes (entries ++ r ∷ rest) (c ∷ left)) (sym (after_one stands.held rest r)) (stands.walked (r ∷ rest)));
  }

  -- the first claim is left, where no entry of it comes next
  module _ (entries : Entries) (c : OfHolder Claim) (left : Claims) (found : List RoaPrefix) (stands : WalkStands claims entries (c ∷ left) found) (rest : Entries)
      (none : first_entries (named_entry_if c) rest ≡ []) where
    all_found : first_entries (named_entry_if c) (stands.held ++ rest) ≡ found
    all_found = ap (λ l. first_entries (named_entry_if c) (l ++ rest)) stands.of_first ∙ first_of (named_row c) (named_entry_if c) (found_named c) found rest none

    after_found : drop (length (first_entries (named_entry_if c) (stands.held ++ rest))) (stands.held ++ rest) ≡ rest
    after_found = (λ i. drop (length (all_found i)) (stands.of_first i ++ rest)) ∙ after_all (named_row c) found rest

    pub closes : AreEntries found → Goes (entries ++ rest) left rest
    closes fit =
        let was = stands.walked rest in (
          was.0 ++ record { claim = c; entries = first_entries (named_entry_if c) (stands.held ++ rest) } ∷ [],
          subst (Walked named_row claims (entries ++ rest) _ left) after_found
              (walked_more named_row named_entry_if found_named only_named claims (entries ++ rest) was.0 c left (stands.held ++ rest) (subst AreEntries (sym all_found) fit) was.1),
        )

    pub unfit : ¬ AreEntries found → AllApart named_row claims → ¬ MakeAuths claims (entries ++ rest)
    unfit bad apart =
        let was = stands.walked rest in
        none_made claims (entries ++ rest) apart
        (unfit_entries named_row named_entry_if found_named only_named claims (entries ++ rest) was.0 c left (stands.held ++ rest) (λ fit. bad (subst AreEntries all_found fit)) was.1)

  -- a claim that comes next has no entry
  no_first : (entries : Entries) (d : OfHolder Claim) (left : Claims) (rest : Entries) → first_entries (named_entry_if d) rest ≡ [] → Goes entries (d ∷ left) rest → AllApart named_row claims → ¬ MakeAuths claims entries
  no_first entries d left rest none goes apart =
      none_made claims entries apart
      (unfit_entries named_row named_entry_if found_named only_named claims entries goes.0 d left rest (λ fit. no_entries (subst AreEntries none fit)) goes.1)

  -- rows come where no claim is left
  no_claim : (entries : Entries) (r : OfHolder EntryRow) (rest : Entries) → Goes entries [] (r ∷ rest) → AllApart named_row claims → ¬ MakeAuths claims entries
  no_claim entries r rest goes apart =
      none_made claims entries apart (rows_left named_row named_entry_if found_named only_named claims entries goes.0 (r ∷ rest) (λ same. absurd cc) goes.1)

  no_first_entry : (c : OfHolder Claim) (r : OfHolder EntryRow) (rest : Entries) → named_entry_if c r ≡ None → first_entries (named_entry_if c) (r ∷ rest) ≡ []
  no_first_entry c r rest is = ap (λ o. with_entry o (first_entries (named_entry_if c) rest)) is

  -- the claim at this place, and those after it
  at_place : (all : Claims) (i : ℕ) → i < length all → (c : OfHolder Claim) × (drop i all ≡ c ∷ drop (i + 1) all)
  at_place [] i low = absurd (omega (arith, low))
  at_place (c ∷ all) i low = (get_or (c ∷ all) i c, drop_more (c ∷ all) i c low)

  module _ (entries : Entries) (i : ℕ) (found : List RoaPrefix) (r : OfHolder EntryRow) (stands : WalkStands claims entries (drop i claims) found) where
    -- no claim is left for the row
    pub too_many : length claims ≤ i → NeverMake claims (entries ++ r ∷ [])
    too_many high rest apart =
        let none = drop_of_length-le claims high in
        let now = subst (λ l. WalkStands claims entries l found) none stands in
        let goes : Goes (entries ++ r ∷ rest) [] (r ∷ rest) = subst (λ l. Goes (entries ++ r ∷ rest) [] (l ++ r ∷ rest)) now.of_first (now.walked (r ∷ rest)) in
        subst (λ l. ¬ MakeAuths claims l) (sym (after_one entries rest r)) (no_claim (entries ++ r ∷ rest) r rest goes apart)

    module _ (low : i < length claims) (other : first_claim_entry (drop i claims) r ≡ None) where
      abbrev c : OfHolder Claim
      c = (at_place claims i low).0

      now : WalkStands claims entries (c ∷ drop (i + 1) claims) found
      now = subst (λ l. WalkStands claims entries l found) (at_place claims i low).1 stands

      not_its : (rest : Entries) → first_entries (named_entry_if c) (r ∷ rest) ≡ []
      not_its rest = no_first_entry c r rest (ap (λ l. first_claim_entry l r) (sym (at_place claims i low).1) ∙ other)

      -- the row is of another claim, and the entries of this one are none of an authorization
      pub others_unfit : ¬ AreEntries found → NeverMake claims (entries ++ r ∷ [])
      others_unfit bad rest apart =
          subst (λ l. ¬ MakeAuths claims l) (sym (after_one entries rest r)) (unfit entries c (drop (i + 1) claims) found now (r ∷ rest) (not_its rest) bad apart)

      closed : AreEntries found → (rest : Entries) → Goes (entries ++ r ∷ rest) (drop (i + 1) claims) (r ∷ rest)
      closed fit rest = closes entries c (drop (i + 1) claims) found now (r ∷ rest) (not_its rest) fit

      -- nor is it of the next claim
      pub of_no_claim : AreEntries found → first_claim_entry (drop (i + 1) claims) r ≡ None → NeverMake claims (entries ++ r ∷ [])
      of_no_claim fit is rest apart =
          subst (λ l. ¬ MakeAuths claims l) (sym (after_one entries rest r)) (go (drop (i + 1) claims) is (closed fit rest))
        where
          go : (left : Claims) → first_claim_entry left r ≡ None → Goes (entries ++ r ∷ rest) left (r ∷ rest) → ¬ MakeAuths claims (entries ++ r ∷ rest)
          go [] none goes = no_claim (entries ++ r ∷ rest) r rest goes apart
          go (d ∷ left) none goes = no_first (entries ++ r ∷ rest) d left (r ∷ rest) (no_first_entry d r rest none) goes apart

      -- it is of the next claim
      pub of_next_claim : AreEntries found → (e : RoaPrefix) → first_claim_entry (drop (i + 1) claims) r ≡ Some e → WalkStands claims (entries ++ r ∷ []) (drop (i + 1) claims) (e ∷ [])
      of_next_claim fit e is = record {
        held = r ∷ [];
        of_first = go (drop (i + 1) claims) is;
        walked = λ rest. subst (λ l. Goes l (drop (i + 1) claims) (r ∷ rest)) (sym (after_one entries rest r)) (closed fit rest);
      }
        where
          go : (left : Claims) → first_claim_entry left r ≡ Some e → AreOfFirst left (e ∷ []) (r ∷ [])
          go [] is_one = absurd cc
          go (d ∷ left) is_one = ap (λ x. x ∷ []) (only_named d r e is_one)

  -- ---- no row is left

  module _ (entries : Entries) (i : ℕ) (found : List RoaPrefix) (stands : WalkStands claims entries (drop i claims) found) where
    ends : Goes (entries ++ []) [] [] → MakeAuths claims entries
    ends goes = makes claims entries goes.0 (subst (λ l. AreGroupsOf l goes.0) (append-nil entries) (walked_all named_row named_entry_if found_named only_named claims (entries ++ []) goes.0 goes.1))
      where
        AreGroupsOf : Entries → List (Group (OfHolder Claim)) → Type 0
        AreGroupsOf l groups = AreGroups named_row claims l groups

    pub none_left : length claims ≤ i → MakeAuths claims entries
    none_left high =
        let now = subst (λ l. WalkStands claims entries l found) (drop_of_length-le claims high) stands in
        ends (subst (λ l. Goes (entries ++ []) [] (l ++ [])) now.of_first (now.walked []))

    module _ (low : i < length claims) where
      last : WalkStands claims entries ((at_place claims i low).0 ∷ drop (i + 1) claims) found
      last = subst (λ l. WalkStands claims entries l found) (at_place claims i low).1 stands

      pub last_unfit : ¬ AreEntries found → AllApart named_row claims → ¬ MakeAuths claims entries
      last_unfit bad apart = subst (λ l. ¬ MakeAuths claims l) (append-nil entries) (unfit entries _ _ found last [] refl bad apart)

      pub last_closed : AreEntries found → length claims ≤ i + 1 → MakeAuths claims entries
      last_closed fit high = ends (subst (λ l. Goes (entries ++ []) l []) (drop_of_length-le claims high) (closes entries _ _ found last [] refl fit))

      pub claim_left : AreEntries found → i + 1 < length claims → AllApart named_row claims → ¬ MakeAuths claims entries
      claim_left fit more apart =
          let next = at_place claims (i + 1) more in
          subst (λ l. ¬ MakeAuths claims l) (append-nil entries)
          (no_first (entries ++ []) next.0 (drop (i + 1 + 1) claims) [] refl (subst (λ l. Goes (entries ++ []) l []) next.1 (closes entries _ _ found last [] refl fit)) apart)

-- ---- what a step leaves

pub walk_ends : (claims : Claims) (entries : Entries) (passed : ℕ) (found : List RoaPrefix) → NeverMake claims entries → WalkGoesOn claims entries passed found false
walk_ends claims entries passed found never = record { so_far = λ is. absurd cc; never = λ is. never }

pub walk_goes_on : (claims : Claims) (entries : Entries) (passed : ℕ) (found now : List RoaPrefix) → now ≡ found → WalkStands claims entries (drop passed claims) found → WalkGoesOn claims entries passed now true
walk_goes_on claims entries passed found now same stands = record { so_far = λ is. subst (WalkStands claims entries (drop passed claims)) (sym same) stands; never = λ is. absurd cc }

-- ---- the entries that rows show

abbrev EntryFits : OfHolder EntryRow → Type 0
EntryFits = NamedFits EntryRowFits

pub shows_more : (rows : List Row) (entries : Entries) (row : Row) (x : OfHolder EntryRow) → ShowEntries rows entries → EntryFits x → first_columns 7 row ≡ show_entry x → ShowEntries (rows ++ row ∷ []) (entries ++ x ∷ [])
shows_more rows entries row x were fit is = record {
  fit = all_and_one EntryFits entries x were.fit fit;
  shown = map-append (first_columns 7) rows (row ∷ []) ∙ ap₂ ◌++◌ were.shown (ap (λ c. c ∷ []) is) ∙ sym (map-append show_entry entries (x ∷ []));
}

-- the entries that all rows show, where each shows one
pub some_entries : (rows : List Row) → EachShowsEntry (map (first_columns 7) rows) → (entries : Entries) × ShowEntries rows entries
some_entries [] each = ([], record { fit = tt; shown = refl })
some_entries (row ∷ rows) each =
    let more = some_entries rows each.1 in
    (each.0.0 ∷ more.0, record { fit = (each.0.1, more.1.fit); shown = ap₂ ◌∷◌ each.0.2 more.1.shown })

same_shown : (xs ys : Entries) → map show_entry xs ≡ map show_entry ys → xs ≡ ys
same_shown [] [] same = refl
same_shown [] (y ∷ ys) same = absurd cc
same_shown (x ∷ xs) [] same = absurd cc
same_shown (x ∷ xs) (y ∷ ys) same = ap₂ ◌∷◌ (one_named_entry x y cc) (same_shown xs ys cc)

-- the entries of all rows begin with those of the rows but the last
record ButLast (rows : List Row) (row : Row) (entries : Entries) : Type 0 where
  first : Entries
  last : OfHolder EntryRow
  show : ShowEntries rows first
  fit : EntryFits last
  shown : first_columns 7 row ≡ show_entry last
  whole : entries ≡ first ++ last ∷ []

but_last : (rows : List Row) (row : Row) (entries : Entries) → ShowEntries (rows ++ row ∷ []) entries → ButLast rows row entries
but_last [] row [] show = let same = show.shown in absurd cc
but_last [] row (x ∷ []) show = let same = show.shown in record { first = []; last = x; show = record { fit = tt; shown = refl }; fit = show.fit.0; shown = cc; whole = refl }
but_last [] row (x ∷ y ∷ entries) show = let same = show.shown in absurd cc
but_last (c ∷ rows) row [] show = let same = show.shown in absurd cc
but_last (c ∷ rows) row (x ∷ entries) show =
    let same = show.shown in
    let more = but_last rows row entries (record { fit = show.fit.1; shown = cc }) in
    let head : first_columns 7 c ≡ show_entry x = cc in
    record {
      first = x ∷ more.first;
      last = more.last;
      show = record { fit = (show.fit.0, more.show.fit); shown = ap₂ ◌∷◌ head more.show.shown };
      fit = more.fit;
      shown = more.shown;
      whole = λ i. x ∷ more.whole i;
    }

-- ---- one row after another

module _ (claims : Claims) where
  pub joins_none : JoinsRows claims [] 0 [] true
  joins_none = record { so_far = λ is. ([], record { fit = tt; shown = refl }, stands_first claims); never = λ is. absurd cc }

  module _ (rows : List Row) (passed : ℕ) (found : List RoaPrefix) (fits : Bool) (joins : JoinsRows claims rows passed found fits) where
    module _ (row : Row) where
      pub joins_no_more : fits ≡ false → JoinsRows claims (rows ++ row ∷ []) passed found fits
      joins_no_more over = record {
        so_far = λ is. absurd cc;
        never = λ is entries show rest apart.
            let parts = but_last rows row entries show in
            let before = joins.never over parts.first parts.show (parts.last ∷ rest) apart in
            subst (λ l. ¬ MakeAuths claims l) (sym (ap (λ l. l ++ rest) parts.whole ∙ after_one parts.first rest parts.last)) before;
      }

      pub joins_unread : (at : ℕ) (held : List RoaPrefix) → ShowsNone show_entry EntryFits (first_columns 7 row) → JoinsRows claims (rows ++ row ∷ []) at held false
      joins_unread at held none = record {
        so_far = λ is. absurd cc;
        never = λ is entries show. let parts = but_last rows row entries show in absurd (none parts.last parts.fit (sym parts.shown));
      }

      pub joins_on : fits ≡ true → (x : OfHolder EntryRow) → EntryFits x → first_columns 7 row ≡ show_entry x → (at : ℕ) (held : List RoaPrefix) (still : Bool)
          → ((entries : Entries) → WalkStands claims entries (drop passed claims) found → WalkGoesOn claims (entries ++ x ∷ []) at held still) → JoinsRows claims (rows ++ row ∷ []) at held still
      joins_on is x fit shown at held still on =
          let was = joins.so_far is in
          let now = on was.0 was.2 in
          let show = shows_more rows was.0 row x was.1 fit shown in
          record {
            so_far = λ goes. (was.0 ++ x ∷ [], show, now.so_far goes);
            never = λ over entries other. subst (NeverMake claims) (same_shown (was.0 ++ x ∷ []) entries (sym show.shown ∙ other.shown)) (now.never over);
          }

    -- ---- all rows

    pub joined_never : fits ≡ false → MakeNoneOfRows claims rows
    joined_never over each =
        let it = some_entries rows each in
        (it.0, it.1, λ apart made. joins.never over it.0 it.1 [] apart (subst (MakeAuths claims) (sym (append-nil it.0)) made))

    module _ (is : fits ≡ true) where
      pub joined_none_left : length claims ≤ passed → MakeOfRows claims rows
      joined_none_left high = let was = joins.so_far is in (was.0, was.1, none_left claims was.0 passed found was.2 high)

      pub joined_unfit : passed < length claims → ¬ AreEntries found → MakeNoneOfRows claims rows
      joined_unfit low bad each = let was = joins.so_far is in (was.0, was.1, last_unfit claims was.0 passed found was.2 low bad)

      pub joined_last : passed < length claims → AreEntries found → length claims ≤ passed + 1 → MakeOfRows claims rows
      joined_last low fit high = let was = joins.so_far is in (was.0, was.1, last_closed claims was.0 passed found was.2 low fit high)

      pub joined_too_few : passed < length claims → AreEntries found → passed + 1 < length claims → MakeNoneOfRows claims rows
      joined_too_few low fit more each = let was = joins.so_far is in (was.0, was.1, claim_left claims was.0 passed found was.2 low fit more)

pub by_test : {P Q : Type 0} (b : Bool) → (b ≡ true → P) → (b ≡ false → Q) → MatchBool b P Q
by_test true holds fails = holds refl
by_test false holds fails = fails refl
