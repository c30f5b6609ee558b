-- What the statements that amend an authorization do to those of a holder: its entries are taken, its claim is changed,
-- and, where there is one, the new entries are put.
use Rattle.store_write.proofs.Vocabulary.{◌≡◌, ◌≢◌, ℕ, Bool, true, false, cond, not, ◌&&◌, ◌==◌, List, [], ◌∷◌, ◌++◌, map, filter, flat_map, drop, length, Some, IsPermutation, refl, sym, ap, subst, ◌∙◌, eqb-true, length-map, length_permutation, State, Text, Row, column, IsPermutation-filter, IsPermutation-flat_map, IsPermutation-same, filter-map, map-map, eval_all, cast, cast_all, CharterSets, AreEntries, Auth, Amend, Rows, edited, replaced_by, AllRows, claim_of, number_cell, claim_cells, claim_row, claim, entry, contents, desk_beside, HoldsPart, claim_part, part_rows, TablesHold, Claim, UPDATE_CLAIM, DELETE_ENTRIES, Edits, cast_number, is_number_cell, take_entries_is, amend_claim_is, of_number_tests, claim_sets, takes_entries, amends_claim, amends_counted, replaced_have_entries, names, take_local, change_local, picks, filter_twice, changed_if, ClaimsDiffer, IsReady, IsExecuted, PutsRows, column_after, has_schema, wrote, ready_still, sound_still, EditsHolder, IsExecutedOn}
use Rattle.sqlite_schema.specs.declared.schema.Kind.TheVariants.{Integer, Text as Words}
use Rattle.sqlite_schema.specs.declared.schema.Schema.{Schema}
use Rattle.store_tables.proofs.Deleting as deleting
use Rattle.store_tables.proofs.Updating as updating
use Rattle.store_write.proofs.AuthSteps.{EditsBoth, entries_first, entries_again, auths_turned, both_local, puts_local, entries_named, claim_cells_of, entries_of_auth, rows_of_entries, entries_left, own_claim}
use Rattle.store_write.proofs.EditSteps.{is_of, of_holder, of_tests, name_kept}
use Rattle.store_write.proofs.Numbers.{AreNumberedApart, numbered_apart, numbered, none_replaced, one_replaced}

module _ (h : List ℕ) where
  -- the row with the columns of another, its holder and its number kept
  abbrev amended_claim : Claim → Row → Row
  amended_claim c row = cast Words (column row 0) ∷ cast Integer (column row 1) ∷ drop 1 (claim_cells c)

  claim_set : (c : Claim) (r : Row) → cast_all claim.columns (eval_all claim_sets (claim_row h c ∷ r ∷ [])) ≡ amended_claim c (drop 1 r)
  claim_set c r = λ i. cast Words (column_after r 0 i) ∷ cast Integer (column_after r 1 i) ∷ cast_number c.asn.0 i ∷ cast_number c.from i ∷ cast_number c.until i ∷ []

  same_number : (m n : ℕ) → (m == n) ≡ true → number_cell n ≡ cast Integer (number_cell m)
  same_number m n same = ap number_cell (sym (eqb-true _ _ same)) ∙ sym (cast_number m)

  module _ (x : Auth) where
    abbrev change : Row → Row
    change = changed_if (is_of h x.number) (amended_claim (claim_of x))

    claim_amended : (y : Auth) → claim_cells_of h (replaced_by x y) ≡ change (claim_cells_of h y)
    claim_amended y =
        go (y.number == x.number) refl ∙ sym (ap (λ goes. cond goes (amended_claim (claim_of x) (claim_cells_of h y)) (claim_cells_of h y)) (own_claim h x.number (claim_of y)))
      where
        go : (b : Bool) → (y.number == x.number) ≡ b → claim_cells_of h (cond b x y) ≡ cond b (amended_claim (claim_of x) (claim_cells_of h y)) (claim_cells_of h y)
        go false other = refl
        go true same = λ i. Text h ∷ same_number y.number x.number same i ∷ drop 1 (claim_cells (claim_of x))

    claims_amended : (xs : List Auth) → map (claim_cells_of h) (map (replaced_by x) xs) ≡ map change (map (claim_cells_of h) xs)
    claims_amended xs = map-map (claim_cells_of h) (replaced_by x) xs ∙ (λ i. map (λ y. claim_amended y i) xs) ∙ sym (map-map change (claim_cells_of h) xs)

    -- the rows that are of no authorization of the number
    abbrev without : List Row → List Row
    without = filter (λ row. not (is_of h x.number row))

    none_amended : (xs : List Auth) → length (numbered h x xs) ≡ 0 → flat_map (entries_of_auth h) (map (replaced_by x) xs) ≡ without (flat_map (entries_of_auth h) xs)
    none_amended xs none = ap (flat_map (entries_of_auth h)) (none_replaced h x xs none) ∙ entries_left h x.number xs

    one_amended : (xs : List Auth) → AreNumberedApart h xs → length (numbered h x xs) ≢ 0
        → IsPermutation (flat_map (entries_of_auth h) (map (replaced_by x) xs)) (entries_of_auth h x ++ without (flat_map (entries_of_auth h) xs))
    one_amended xs apart some =
        let replaced = IsPermutation-flat_map (entries_of_auth h) _ _ (one_replaced h x xs apart some) in
        subst (λ l. IsPermutation (flat_map (entries_of_auth h) (map (replaced_by x) xs)) (entries_of_auth h x ++ l)) (entries_left h x.number xs) replaced

    twice : (b c : Bool) → (b && (b && c)) ≡ (b && c)
    twice true c = refl
    twice false c = refl

    -- as many claims have the number as authorizations of the holder
    claims_counted : (table : List Row) (xs : List Auth) → IsPermutation (map (claim_cells_of h) xs) (filter (names 0 h) table) → length (filter (is_of h x.number) table) ≡ length (numbered h x xs)
    claims_counted table xs holds =
        let goes = is_of h x.number in
        let mine : filter goes (filter (names 0 h) table) ≡ filter goes table = filter_twice goes (names 0 h) table ∙ (λ i. filter (λ c. twice (names 0 h c) (is_number_cell x.number (column c 1)) i) table) in
        let own : filter goes (map (claim_cells_of h) xs) ≡ map (claim_cells_of h) (numbered h x xs) =
        filter-map goes (claim_cells_of h) xs ∙ (λ i. map (claim_cells_of h) (filter (λ y. own_claim h x.number (claim_of y) i) xs)) in
        ap length (sym mine) ∙ length_permutation _ _ (IsPermutation-filter goes _ _ holds) ∙ ap length own ∙ length-map _ _

    module _ (a b c : State) (count : ℕ) (ready : IsReady a) (first : IsExecuted DELETE_ENTRIES.now (Text h ∷ number_cell x.number ∷ []) a b)
        (second : IsExecutedOn UPDATE_CLAIM.now (claim_row h (claim_of x)) count b c) where
      abbrev params : Row
      params = Text h ∷ number_cell x.number ∷ []

      abbrev cells : Row
      cells = claim_row h (claim_of x)

      abbrev ran : IsExecuted UPDATE_CLAIM.now cells b c
      ran = (count, second)

      had : a.now.schema ≡ desk_beside a.now.schema
      had = has_schema params take_entries_is ready first

      taken : b.now.schema ≡ desk_beside a.now.schema
      taken = (deleting.applied 9 entry refl refl a.now.schema of_number_tests a b _ params first.0 had (wrote params take_entries_is ready first)).2

      between : IsReady b
      between = ready_still params take_entries_is ready first taken

      still_had : b.now.schema ≡ desk_beside b.now.schema
      still_had = has_schema cells amend_claim_is between ran

      amended : c.now.schema ≡ desk_beside b.now.schema
      amended = (updating.applied 8 claim refl b.now.schema of_number_tests claim_sets b c _ cells count still_had (wrote cells amend_claim_is between ran)).2

      same_schema : c.now.schema ≡ a.now.schema
      same_schema = amended ∙ sym still_had ∙ taken ∙ sym had

      pub ready_then : IsReady c
      ready_then = ready_still cells amend_claim_is between ran amended

      module _ (charter : CharterSets) (rows : AllRows) (was : TablesHold charter rows a.now.trees) where
        abbrev tests : (r : Row) → picks cells of_number_tests r ≡ is_of h x.number (drop 1 r)
        tests = of_tests h x.number (drop 1 (claim_cells (claim_of x)))

        entries : Edits entry.tree without a.now b.now
        entries = takes_entries a.now.schema a b _ first.0 had params (is_of h x.number) (of_tests h x.number []) (was.whole entry.tree refl) (wrote params take_entries_is ready first)

        same_claims : b.now.trees claim.tree ≡ a.now.trees claim.tree
        same_claims = entries.others claim.tree refl (λ same. cc)

        claims : Edits claim.tree (map change) b.now c.now
        claims =
            amends_claim b.now.schema b c _ count still_had cells (is_of h x.number) of_number_tests claim_sets (amended_claim (claim_of x)) tests (claim_set (claim_of x))
            (sound_still entry.tree _ a.now b.now entries was.whole claim.tree refl) (wrote cells amend_claim_is between ran)

        both : EditsBoth (map change) without a.now c.now
        both = entries_first (map change) without a.now b.now c.now entries claims

        module _ (r : Rows) (of : rows.of_holder h ≡ Some r) where
          counted : count ≡ length (numbered h x r.auths)
          counted =
              let table = contents (a.now.trees claim.tree) in
              let holds : IsPermutation (map (claim_cells_of h) r.auths) (filter (names 0 h) table) = subst (λ o. IsPermutation (part_rows claim_part h o) (filter (names 0 h) table)) of (was.claims.each h) in
              amends_counted b.now.schema b c _ count still_had cells (is_of h x.number) of_number_tests claim_sets (amended_claim (claim_of x)) tests (wrote cells amend_claim_is between ran)
              ∙ ap (λ t. length (filter (is_of h x.number) (contents t))) same_claims ∙ claims_counted table r.auths holds

          -- the entries were taken in a database of a desk
          apart : ClaimsDiffer → AreNumberedApart h r.auths
          apart claims_differ =
              numbered_apart h claims_differ b.now (wrote params take_entries_is ready first).sound (ap (λ (s : Schema). s.tables) taken) (sound_still entry.tree _ a.now b.now entries was.whole claim.tree refl)
              rows.of_holder r (subst (λ t. HoldsPart claim_part rows.of_holder (contents t)) (sym same_claims) was.claims) of

      own : (cells : Row) → is_of h x.number cells ≡ true → names 0 h cells ≡ true
      own = of_holder h x.number

      -- no claim has the number
      pub amends_none : AreEntries x.entries → count ≡ 0 → EditsHolder h (edited (Amend x)) a c
      amends_none are none = record {
        ready = ready_then;
        schema = same_schema;
        sound = λ _. (wrote cells amend_claim_is between ran).sound;
        rows = λ charter rows was some.
            auths_turned h (map (replaced_by x)) _ _ a.now c.now (both charter rows was)
            (change_local 0 h (is_of h x.number) own (amended_claim (claim_of x)) (λ cells is. name_kept h x.number cells (own cells is))) (take_local 0 h (is_of h x.number) own)
            charter rows was some (λ r of. IsPermutation-same _ _ (claims_amended r.auths))
            (λ r of. IsPermutation-same _ _ (none_amended r.auths (sym (counted charter rows was r of) ∙ none))) (replaced_have_entries x are);
      }

      -- one has it, and its entries are put
      pub amends_one : AreEntries x.entries → ClaimsDiffer → count ≢ 0 → (d : State) → PutsRows entry.tree (rows_of_entries h (claim_of x) x.entries) c d → EditsHolder h (edited (Amend x)) a d
      amends_one are claims_differ some d put = record {
        ready = put.ready;
        schema = put.edits.schema ∙ same_schema;
        sound = λ _. put.sound (wrote cells amend_claim_is between ran).sound;
        rows = λ charter rows was is.
            let news = λ (table : List Row). entries_of_auth h x ++ table in
            let own_news = puts_local h (entries_of_auth h x) (entries_named h (claim_of x) x.entries) in
            auths_turned h (map (replaced_by x)) _ _ a.now d.now (entries_again (map change) without news a.now c.now d.now (both charter rows was) put.edits own_news.permutes)
            (change_local 0 h (is_of h x.number) own (amended_claim (claim_of x)) (λ cells is. name_kept h x.number cells (own cells is)))
            (both_local without news (take_local 0 h (is_of h x.number) own) own_news)
            charter rows was is (λ r of. IsPermutation-same _ _ (claims_amended r.auths))
            (λ r of. one_amended r.auths (apart charter rows was r of claims_differ) (λ none. some (counted charter rows was r of ∙ none))) (replaced_have_entries x are);
      }
