-- The authorizations of all holders, out of those of each one.
use Rattle.store.proofs.Vocabulary.{◌≡◌, ℕ, Bool, true, false, cond, not, ◌||◌, List, [], ◌∷◌, ◌++◌, map, flat_map, filter, Option, Some, None, IsTrue, refl, sym, ap, subst, ◌∙◌, IsPermutation, AllByRecursion, list_any, IsPermutation-append, IsPermutation-filter_both, IsPermutation-refl, IsPermutation-sym, IsPermutation-trans, Null, Int, Real, Text, Blob, Row, column, Has, all_from, all_has, has_left, has_right, some_from, mapped_has, Trees, all-map, all_weaker, flat_map-map, is_name, same_name, Rows, AuthFits, Auth, OfHolder, auth, claim, contents, entry, HoldsPart, Part, claim_part, entry_part, is_text, items_if_any, part_rows, HasOneEntry, HaveOneEntry, auth_part, HasSomeOldAuths, rows_of_auth, HasSomeAuths, row_of_claim, rows_of_entries, has_filtered, filter_none}
use Rattle.std.proofs.lemmas.List.Concat.{flat_map-append, flat_map_single}
use Rattle.sqlite_value.specs.declared.value.Value.{Value}
use Rattle.sqlite_trees.proofs.ListLemmas.{IsPermutation-filter, all-append}
use Rattle.store_tables.proofs.PartLemmas.{name_of_itself, names, part_turned, take_local, turned_at}

-- ---- rows by name

name_in : Value → List ℕ
name_in (Text t) = t
name_in _ = []

text_is : (v : Value) → is_text v ≡ true → v ≡ Text (name_in v)
unfolding name_in
text_is Null is = absurd cc
text_is (Int n) is = absurd cc
text_is (Real x) is = absurd cc
text_is (Text t) is = refl
text_is (Blob b) is = absurd cc

module _ (place : ℕ) where
  -- each row has one of these names
  abbrev AreNamed : List (List ℕ) → List Row → Type 0
  AreNamed ks rows = AllByRecursion (λ c. list_any (λ k. names place k c) ks ≡ true) rows

  abbrev without : List ℕ → List Row → List Row
  without k rows = filter (λ c. not (names place k c)) rows

  named_later : (k : List ℕ) (ks : List (List ℕ)) (rows : List Row) → AreNamed (k ∷ ks) rows → AreNamed ks (without k rows)
  named_later k ks [] all = tt
  named_later k ks (c ∷ rows) all = go (names place k c) refl (named_later k ks rows all.1)
    where
      go : (b : Bool) → names place k c ≡ b → AreNamed ks (without k rows) → AreNamed ks (cond (not b) (c ∷ without k rows) (without k rows))
      go true is more = more
      go false is more = (subst (λ (b : Bool). (b || list_any (λ n. names place n c) ks) ≡ true) is all.0, more)

  with_name : (k : List ℕ) (rows xs ys : List Row) → IsPermutation xs (filter (names place k) rows) → IsPermutation ys (without k rows) → IsPermutation (xs ++ ys) rows
  with_name k rows xs ys mine later =
      IsPermutation-trans _ _ _ (IsPermutation-append _ _ _ _ mine later) (IsPermutation-sym _ _ (IsPermutation-filter_both (names place k) (λ c. not (names place k c)) (λ _. refl) rows))

  nobody : (rows : List Row) → AreNamed [] rows → IsPermutation [] rows
  nobody [] all = IsPermutation-refl []
  nobody (c ∷ rows) all = absurd (let never = all.0 in cc)

abbrev name_of_row : Part → Row → List ℕ
name_of_row part c = name_in (column c part.place)

-- where the names of the rows of a part are among these, each row has one of them
rows_named : (part : Part) (rows : List ℕ → Option Rows) (table : List Row) → HoldsPart part rows table → (ks : List (List ℕ)) → ((c : Row) → Has table c → Has ks (name_of_row part c))
    → AreNamed part.place ks table
rows_named part rows table holds ks there =
    all_from _ table (λ c has. some_from (λ k. names part.place k c) ks (name_of_row part c) (there c has)
    (name_of_itself (name_of_row part c) (column c part.place) (text_is (column c part.place) (all_has _ table c holds.named has))))

-- ---- the rows without those of one holder

abbrev but : List ℕ → (List ℕ → Option Rows) → List ℕ → Option Rows
but k = turned_at k (λ _. None)

but_holds : (part : Part) (rows : List ℕ → Option Rows) (k : List ℕ) (table : List Row) → HoldsPart part rows table → HoldsPart part (but k rows) (without part.place k table)
but_holds part rows k table holds =
    let others : Row → Bool = λ c. not (names part.place k c) in
    let mine = filter (names part.place k) table in
    let none : filter others mine ≡ [] = filter_none others mine (all_from _ mine (λ c has. ap not (has_filtered (names part.place k) table c has).1)) in
    part_turned part rows k (λ _. None) (filter others) table (filter others table) holds (take_local part.place k (names part.place k) (λ c is. is)) (IsPermutation-refl _)
    (subst (λ l. IsPermutation l (filter others (part_rows part k (rows k)))) none (IsPermutation-filter others _ _ (IsPermutation-sym _ _ (holds.each k))))

still_there : (k : List ℕ) (rows : List ℕ → Option Rows) (h : List ℕ) (r : Rows) → but k rows h ≡ Some r → rows h ≡ Some r
still_there k rows h r = go (same_name k h)
  where
    go : (b : Bool) → cond b None (rows h) ≡ Some r → rows h ≡ Some r
    go true is = absurd cc
    go false is = is

-- ---- authorizations of names

abbrev beside : List ℕ → Auth → OfHolder Auth
beside h x = record { holder = h; row = x }

abbrev auths_if_any : Option Rows → List Auth
auths_if_any = items_if_any (λ (r : Rows). r.auths)

-- those of the first name, and those of the later ones without it
abbrev auths_of : List (List ℕ) → (List ℕ → Option Rows) → List (OfHolder Auth)
auths_of [] rows = []
auths_of (k ∷ ks) rows = map (beside k) (auths_if_any (rows k)) ++ auths_of ks (but k rows)

each_so : (So : OfHolder Auth → Type 0) (ks : List (List ℕ)) (rows : List ℕ → Option Rows)
    → ((h : List ℕ) (r : Rows) → rows h ≡ Some r → AllByRecursion (λ x. So (beside h x)) r.auths) → AllByRecursion So (auths_of ks rows)
each_so So [] rows so = tt
each_so So (k ∷ ks) rows so =
    all-append So (map (beside k) (auths_if_any (rows k))) (auths_of ks (but k rows)) (go (rows k) refl) (each_so So ks (but k rows) (λ h r is. so h r (still_there k rows h r is)))
  where
    go : (o : Option Rows) → rows k ≡ o → AllByRecursion So (map (beside k) (auths_if_any o))
    go None is = tt
    go (Some r) is = all-map So (beside k) r.auths (so k r is)

-- where the names are those of a part, their authorizations give its rows
module _ (part : Part) (shown : OfHolder Auth → List Row) (gives : (h : List ℕ) (r : Rows) → part.rows h r ≡ flat_map (λ x. shown (beside h x)) r.auths) where
  part_shown : (ks : List (List ℕ)) (rows : List ℕ → Option Rows) (table : List Row) → HoldsPart part rows table → AreNamed part.place ks table
      → IsPermutation (flat_map shown (auths_of ks rows)) table
  part_shown [] rows table holds named = nobody part.place table named
  part_shown (k ∷ ks) rows table holds named =
      let later = auths_of ks (but k rows) in
      subst (λ l. IsPermutation l table) (sym (flat_map-append shown (map (beside k) (auths_if_any (rows k))) later ∙ ap (λ l. l ++ flat_map shown later) (go (rows k))))
      (with_name part.place k table _ _ (holds.each k) (part_shown ks (but k rows) _ (but_holds part rows k table holds) (named_later part.place k ks table named)))
    where
      go : (o : Option Rows) → flat_map shown (map (beside k) (auths_if_any o)) ≡ part_rows part k o
      go None = refl
      go (Some r) = flat_map-map shown (beside k) r.auths ∙ sym (gives k r)

-- ---- over the tables

-- the holders have names, and their authorizations fit
abbrev FitNamed : (List ℕ → Option Rows) → Type 0
FitNamed rows = (h : List ℕ) (r : Rows) → rows h ≡ Some r → IsTrue (is_name h) × AllByRecursion AuthFits r.auths

auths_fit : (rows : List ℕ → Option Rows) → FitNamed rows → (ks : List (List ℕ))
    → AllByRecursion (λ (x : OfHolder Auth). IsTrue (is_name x.holder) × AuthFits x.row) (auths_of ks rows)
auths_fit rows fit ks = each_so _ ks rows (λ h r is. let it = fit h r is in all_weaker AuthFits _ (λ x fits. (it.0, fits)) r.auths it.1)

pub some_auths :
    (rows : List ℕ → Option Rows) (trees : Trees) → HoldsPart claim_part rows (contents (trees claim.tree)) → HoldsPart entry_part rows (contents (trees entry.tree))
    → contents (trees auth.tree) ≡ [] → FitNamed rows → HasSomeAuths trees
some_auths rows trees claims entries unused fit = record {
  auths = auths_of ks rows;
  fit = auths_fit rows fit ks;
  claims_shown = subst (λ l. IsPermutation l (contents (trees claim.tree))) (flat_map_single row_of_claim (auths_of ks rows))
      (part_shown claim_part (λ x. row_of_claim x ∷ []) (λ h r. sym (flat_map_single (λ x. row_of_claim (beside h x)) r.auths)) ks rows _ claims
      (rows_named claim_part rows _ claims ks (λ c has. has_left of_claims of_entries _ (mapped_has (name_of_row claim_part) _ c has))));
  entries_shown =
      part_shown entry_part rows_of_entries (λ h r. refl) ks rows _ entries
      (rows_named entry_part rows _ entries ks (λ c has. has_right of_claims of_entries _ (mapped_has (name_of_row entry_part) _ c has)));
  unused = unused;
}
  where
    of_claims : List (List ℕ)
    of_claims = map (name_of_row claim_part) (contents (trees claim.tree))

    of_entries : List (List ℕ)
    of_entries = map (name_of_row entry_part) (contents (trees entry.tree))

    ks : List (List ℕ)
    ks = of_claims ++ of_entries

pub some_old_auths :
    (rows : List ℕ → Option Rows) (trees : Trees) → HoldsPart auth_part rows (contents (trees auth.tree)) → HaveOneEntry rows → FitNamed rows
    → HasSomeOldAuths trees
some_old_auths rows trees held one_each fit =
    let ks = map (name_of_row auth_part) (contents (trees auth.tree)) in
    record {
      auths = auths_of ks rows;
      fit = auths_fit rows fit ks;
      one_each = each_so (λ x. HasOneEntry x.row) ks rows one_each;
      shown = part_shown auth_part rows_of_auth (λ h r. refl) ks rows _ held (rows_named auth_part rows _ held ks (λ c has. mapped_has (name_of_row auth_part) _ c has));
    }
