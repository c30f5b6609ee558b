-- A desk of schema 1 whose rows were moved holds what it held.
use Rattle.store_schema.proofs.Vocabulary.{◌≡◌, ◌≢◌, ℕ, true, List, [], ◌∷◌, ◌++◌, length, map, flat_map, filter, Option, Some, None, refl, sym, ap, ap₂, subst, ◌∙◌, arith, IsPermutation, AllByRecursion, map-append, IsPermutation-map, IsPermutation-trans, Row, column, Trees, map-map, map-flat_map, flat_map_same_on, filter-map, all-map, all_weaker, all-permutation, IsPermutation-filter, CharterSets, Rows, AllRows, RoaPrefix, claim_of, entry_rows_of, claim_row, entry_row, operator_row, prefix_cells, claim_entry, auth_row, auth_rows, auth_part, is_old_table, HasOneEntry, OldTablesHold, auth, meta, contents, Part, HoldsPart, HoldsFiles, TablesHold, part_rows, is_name_of, is_text, holder_part, holding_part, granted_part, claim_part, entry_part, claim_columns, entry_columns, IsMoved}
use Rattle.registry.specs.RoaPrefixes.{AreEntries}
use Rattle.registry.specs.declared.authorization.Auth.{Auth}
use Rattle.store_tables.proofs.PartLemmas.{names}

-- the rows of every holder, each turned into the row that another table has for it
part_moved : (from to : Part) (turn : Row → Row) (rows : List ℕ → Option Rows) (old new : List Row) → ((c : Row) → column (turn c) to.place ≡ column c from.place)
    → ((h : List ℕ) (r : Rows) → rows h ≡ Some r → map turn (from.rows h r) ≡ to.rows h r) → HoldsPart from rows old → IsPermutation (map turn old) new → HoldsPart to rows new
part_moved from to turn rows old new named turns holds same = record {
  each = λ h. IsPermutation-trans _ _ _ (mine h) (IsPermutation-filter (names to.place h) _ _ same);
  named = all-permutation _ (map turn old) new same (all-map _ turn old (texts old holds.named));
}
  where
    texts : (cs : List Row) → AllByRecursion (λ c. is_text (column c from.place) ≡ true) cs → AllByRecursion (λ c. is_text (column (turn c) to.place) ≡ true) cs
    texts [] all = tt
    texts (c ∷ cs) all = (ap is_text (named c) ∙ all.0, texts cs all.1)

    turned : (h : List ℕ) (o : Option Rows) → rows h ≡ o → map turn (part_rows from h o) ≡ part_rows to h o
    turned h None is = refl
    turned h (Some r) is = turns h r is

    picked : (h : List ℕ) → map turn (filter (names from.place h) old) ≡ filter (names to.place h) (map turn old)
    picked h = (λ i. map turn (filter (λ c. is_name_of h (sym (named c) i)) old)) ∙ sym (filter-map (names to.place h) turn old)

    mine : (h : List ℕ) → IsPermutation (part_rows to h (rows h)) (filter (names to.place h) (map turn old))
    mine h =
        subst (λ l. IsPermutation l (filter (names to.place h) (map turn old))) (turned h (rows h) refl)
        (subst (IsPermutation (map turn (part_rows from h (rows h)))) (picked h) (IsPermutation-map turn _ _ (holds.each h)))

-- an authorization of one entry has one row, which is turned into its claim
pub claim_turned : (h : List ℕ) (x : Auth) → HasOneEntry x → map claim_columns (auth_rows h x) ≡ claim_row h (claim_of x) ∷ []
claim_turned h x = go x.entries
  where
    go : (es : List RoaPrefix) → length es ≡ 1 → map claim_columns (map (auth_row h (claim_of x)) es) ≡ claim_row h (claim_of x) ∷ []
    go [] one = absurd (omega (arith, one))
    go (e ∷ []) one = refl
    go (d ∷ e ∷ es) one = absurd (omega (arith, one))

-- lists of one each, put together
pub joined_ones : {X Y Z : Type 0} (turn : Y → Z) (rows : X → List Y) (row : X → Z) (P : X → Type 0) → ((x : X) → P x → map turn (rows x) ≡ row x ∷ [])
    → (xs : List X) → AllByRecursion P xs → map turn (flat_map rows xs) ≡ map row xs
joined_ones turn rows row P one [] all = refl
joined_ones turn rows row P one (x ∷ xs) all = map-append turn (rows x) (flat_map rows xs) ∙ ap₂ ◌++◌ (one x all.0) (joined_ones turn rows row P one xs all.1)

claims_turned : (h : List ℕ) (auths : List Auth) → AllByRecursion HasOneEntry auths → map claim_columns (flat_map (auth_rows h) auths) ≡ map (λ x. claim_row h (claim_of x)) auths
claims_turned h = joined_ones claim_columns (auth_rows h) (λ x. claim_row h (claim_of x)) HasOneEntry (claim_turned h)

-- each row is turned into its entry
pub entry_turned : (h : List ℕ) (x : Auth) → map entry_columns (auth_rows h x) ≡ map (entry_row h) (entry_rows_of x)
entry_turned h x = map-map entry_columns (auth_row h (claim_of x)) x.entries ∙ sym (map-map (entry_row h) (claim_entry (claim_of x)) x.entries)

entries_turned : (h : List ℕ) (auths : List Auth) → map entry_columns (flat_map (auth_rows h) auths) ≡ flat_map (λ x. map (entry_row h) (entry_rows_of x)) auths
entries_turned h auths = map-flat_map entry_columns (auth_rows h) auths ∙ flat_map_same_on _ _ (entry_turned h) auths

-- one entry is a list of entries
pub one_is_entries : (x : Auth) → HasOneEntry x → AreEntries x.entries
one_is_entries x = go x.entries
  where
    go : (es : List RoaPrefix) → length es ≡ 1 → AreEntries es
    go [] one = absurd (omega (arith, one))
    go (e ∷ []) one = record { number = (omega arith, omega arith); rising = tt }
    go (d ∷ e ∷ es) one = absurd (omega (arith, one))

-- the other tables are so as they were
pub stays : (old new : Trees) → IsMoved old new → (so : List Row → Type 0) (t : ℕ) → is_old_table t ≡ true → t ≢ auth.tree → t ≢ meta.tree → so (contents (old t)) → so (contents (new t))
stays old new moved so t is no_auth no_meta = subst (λ rows. so (contents rows)) (sym (moved.others t is no_auth no_meta))

module _ (charter : CharterSets) (rows : AllRows) (old new : Trees) (was : OldTablesHold charter rows old) (moved : IsMoved old new) where
  pub moved_hold : TablesHold charter rows new
  moved_hold = record {
    charter_kept = record {
      schema = moved.number;
      operators = stays old new moved (IsPermutation (map operator_row charter.operators)) 2 refl (omega arith) (omega arith) was.charter_kept.operators;
      pool = stays old new moved (IsPermutation (map prefix_cells charter.pool)) 4 refl (omega arith) (omega arith) was.charter_kept.pool;
    };
    holders = stays old new moved (HoldsPart holder_part rows.of_holder) 6 refl (omega arith) (omega arith) was.holders;
    holdings = stays old new moved (HoldsPart holding_part rows.of_holder) 8 refl (omega arith) (omega arith) was.holdings;
    grants = stays old new moved (HoldsPart granted_part rows.of_holder) 10 refl (omega arith) (omega arith) was.grants;
    claims = part_moved auth_part claim_part claim_columns rows.of_holder _ _ (λ c. refl) (λ h r of. claims_turned h r.auths (was.have_one_entry h r of)) was.auths moved.claims;
    entries = part_moved auth_part entry_part entry_columns rows.of_holder _ _ (λ c. refl) (λ h r of. entries_turned h r.auths) was.auths moved.entries;
    have_entries = λ h r of. all_weaker HasOneEntry (λ x. AreEntries x.entries) one_is_entries r.auths (was.have_one_entry h r of);
    unused = moved.emptied;
    files = stays old new moved (HoldsFiles rows.files) 15 refl (omega arith) (omega arith) was.files;
    whole = moved.whole;
  }
