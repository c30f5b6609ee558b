-- What statements do to the claims and the entries among the tables of a desk. Of the foreign keys only that of an
-- entry to its claim acts, where claims are deleted.
use Rattle.store_tables.proofs.Vocabulary.{◌≡◌, ℤ, ℕ, Bool, true, false, not, List, [], ◌∷◌, map, filter, drop, length, None, Some, Ok, refl, sym, ap, ◌∙◌, arith, IsPermutation, AllByRecursion, both_ways, false_from_ne_true, not-true, length-map, IsPermutation-sym, length_permutation, Database, State, Writes, Null, Row, Trees, rowid, filter-map, Term, col, eval_all, Insert, Update, Delete, Values, Enforced, Schema, parent_key, agree, Given, ids_of, cast_all, Applies, edit_of, id_in, row_at, taken_by, Has, all_from, has_filtered, has_mapped, mapped_has, Claim, EntryRow, claim_row, entry_row, claim, entry, claim_reference, rising, desk_beside, desk_tables, contents, IsTree, Edits}
use Rattle.sqlite_value.specs.Keys.{first_key}
use Rattle.sqlite_schema.specs.Names.{same_name}
use Rattle.sqlite_rules.specs.Action as action
use Rattle.sqlite_rules.proofs.KeyLemmas.{agree_chain}
use Rattle.sqlite_tied.specs.Compute.{everything}
use Rattle.store_tables.proofs.Actions.{quiet_but_claims}
use Rattle.store_tables.proofs.CellLemmas.{cast_claim, cast_entry}
use Rattle.store_tables.proofs.Childless.{apart_childless, one_childless_step}
use Rattle.store_tables.proofs.Deleting.{IsOneStep, deletion_of, one_quiet_step, shown_ids, takes_among}
use Rattle.store_tables.proofs.Inserting.{puts_among}
use Rattle.store_tables.proofs.Selecting.{picks, permuted}
use Rattle.store_tables.proofs.SomeRow.{has_permuted}
use Rattle.store_tables.proofs.ClaimTexts.{of_number_tests}
use Rattle.store_tables.proofs.Texts.{put_terms}
use Rattle.store_tables.proofs.TreeRows.{found_at}
use Rattle.store_tables.proofs.Updating.{update_of, new_rows, changed_if, applied_among, changes_among}

-- the holder and the number, in a claim and in an entry
abbrev number_places : List ℕ
number_places = 1 ∷ 2 ∷ []

-- no entry is of one of these claims
abbrev pub AreWithoutEntries : List Row → Trees → Type 0
AreWithoutEntries claims db = (r : Row) → Has (db entry.tree) r → AllByRecursion (λ old. agree rising number_places r number_places old ≡ false) claims

-- an entry points to the key of its claim
claim_key : parent_key desk_tables claim_reference ≡ Some (claim.tree, number_places, rising)
unfolding same_name everything
claim_key = refl

-- so claims without entries are deleted in one step
pub takes_claims : (s : Schema) (db next : Trees) (gone : List ℤ) → let edit = edit_of db claim gone Given 0 [] in
    AreWithoutEntries (taken_by db edit) db → action.Writes (desk_beside s) Enforced db edit (Ok next) → Applies (desk_beside s) Enforced db edit next
takes_claims s db next gone without =
    let edit = edit_of db claim gone Given 0 [] in
    let childless = apart_childless desk_tables db (taken_by db edit) entry claim_reference (action.deed_for Enforced true claim_reference) (claim.tree, number_places, rising) claim_key (λ same. absurd (omega (arith, same))) without in
    one_childless_step (desk_beside s) Enforced db next edit
    (tt, (tt, (tt, (tt, ((tt, tt), ((tt, tt), ((tt, tt), (tt, ((tt, tt), ((childless, tt), tt))))))))))

-- ---- claims of a holder and a number

-- the rows that have the rowids of the picked rows are picked
taken_picked : (tree : List Row) → IsTree tree → (goes : Row → Bool) (ids : List ℤ) → IsPermutation (map (λ r. id_in (rowid r)) (filter goes tree)) ids
    → (old : Row) → Has (map (row_at tree) ids) old → goes old ≡ true
taken_picked tree sound goes ids same old there =
    let id = has_mapped (row_at tree) ids old there in
    let from = has_mapped (λ r. id_in (rowid r)) (filter goes tree) id.0 (has_permuted ids (map (λ r. id_in (rowid r)) (filter goes tree)) id.0 (IsPermutation-sym _ _ same) id.1) in
    let picked = has_filtered goes tree from.0 from.1 in
    ap goes (id.2 ∙ ap (row_at tree) from.2 ∙ found_at tree sound from.0 picked.0) ∙ picked.1

-- no entry is of the holder and the number of the parameters
abbrev pub HasNoEntry : Row → Trees → Type 0
HasNoEntry params db = (r : Row) → Has (db entry.tree) r → picks params of_number_tests r ≡ false

picks_number : (params r : Row) → picks params of_number_tests r ≡ agree rising number_places r (0 ∷ 1 ∷ []) params
unfolding first_key
picks_number params r = refl

pub claims_step : (s : Schema) (params : Row) (db : Trees) → IsTree (db claim.tree) → HasNoEntry params db → IsOneStep desk_tables 8 claim refl s of_number_tests params db
claims_step s params db sound none rows next answers made =
    let edit = edit_of db claim (ids_of rows) Given 0 [] in
    let ids = shown_ids of_number_tests [] (db claim.tree) rows params (permuted claim.tree of_number_tests (col 1 0 ∷ []) [] db params rows (answers.answer Null)) in
    let apart : (r old : Row) → Has (db entry.tree) r → Has (taken_by db edit) old → agree rising number_places r number_places old ≡ false = λ r old there taken. false_from_ne_true _ (λ agrees.
    let picked = taken_picked (db claim.tree) sound (picks params of_number_tests) (ids_of rows) ids old taken in
    let chain = agree_chain rising number_places number_places (0 ∷ 1 ∷ []) r old params agrees (sym (picks_number params old) ∙ picked) in
    both_ways _ (none r there) (picks_number params r ∙ chain)) in
    takes_claims s db next (ids_of rows) (λ r there. all_from _ (taken_by db edit) (λ old taken. apart r old there taken)) made

-- where the entries of a holder and a number were taken, none is left
pub entries_taken : (params : Row) (goes : Row → Bool) (old next : Database) → ((r : Row) → picks params of_number_tests r ≡ goes (drop 1 r))
    → Edits entry.tree (filter (λ c. not (goes c))) old next → HasNoEntry params next.trees
entries_taken params goes old next same taken r there =
    let left = has_permuted _ _ (drop 1 r) (IsPermutation-sym _ _ taken.rows) (mapped_has (drop 1) (next.trees entry.tree) r there) in
    same r ∙ not-true _ (has_filtered (λ c. not (goes c)) (contents (old.trees entry.tree)) (drop 1 r) left).1

-- ---- the edits

module _ (s : Schema) (old new : State) (text : List ℕ) (count : ℕ) (has : old.now.schema ≡ desk_beside s) where
  pub puts_claim : (h : List ℕ) (c : Claim) → Writes old new None (Insert 8 (Values (put_terms 5) 6)) text (claim_row h c) count
      → Edits claim.tree (λ rows. claim_row h c ∷ rows) old.now new.now
  puts_claim h c = puts_among desk_tables 8 claim refl s (put_terms 5) 6 (claim_row h c) old new text (claim_row h c) count has refl (cast_claim h c)

  pub puts_entry : (h : List ℕ) (e : EntryRow) → Writes old new None (Insert 9 (Values (put_terms 7) 8)) text (entry_row h e) count
      → Edits entry.tree (λ rows. entry_row h e ∷ rows) old.now new.now
  puts_entry h e = puts_among desk_tables 9 entry refl s (put_terms 7) 8 (entry_row h e) old new text (entry_row h e) count has refl (cast_entry h e)

  module _ (params : Row) (goes : Row → Bool) where
    pub takes_entries : ((r : Row) → picks params of_number_tests r ≡ goes (drop 1 r)) → IsTree (old.now.trees entry.tree)
        → Writes old new None (Delete 9 (deletion_of entry of_number_tests)) text params count → Edits entry.tree (filter (λ c. not (goes c))) old.now new.now
    takes_entries same sound = takes_among desk_tables 9 entry refl s of_number_tests goes old new text params count has same sound
        (one_quiet_step desk_tables 9 entry refl s (quiet_but_claims entry.tree refl) of_number_tests params old.now.trees)

    pub takes_claim : ((r : Row) → picks params of_number_tests r ≡ goes (drop 1 r)) → IsTree (old.now.trees claim.tree) → HasNoEntry params old.now.trees
        → Writes old new None (Delete 8 (deletion_of claim of_number_tests)) text params count → Edits claim.tree (filter (λ c. not (goes c))) old.now new.now
    takes_claim same sound none = takes_among desk_tables 8 claim refl s of_number_tests goes old new text params count has same sound (claims_step s params old.now.trees sound none)

    module _ (tests sets : List Term) (change : Row → Row) (same : (r : Row) → picks params tests r ≡ goes (drop 1 r)) where
      pub amends_claim : ((r : Row) → cast_all claim.columns (eval_all sets (params ∷ r ∷ [])) ≡ change (drop 1 r)) → IsTree (old.now.trees claim.tree)
          → Writes old new None (Update 8 (update_of claim tests sets)) text params count → Edits claim.tree (map (changed_if goes change)) old.now new.now
      amends_claim sets_to sound = changes_among desk_tables 8 claim refl s tests sets goes change old new text params count has same sets_to sound refl

      -- and as many are counted as the tests pick
      pub amends_counted : Writes old new None (Update 8 (update_of claim tests sets)) text params count → count ≡ length (filter goes (contents (old.now.trees claim.tree)))
      amends_counted w =
          let it = applied_among desk_tables 8 claim refl s tests sets old new text params count has refl w in
          let tree = old.now.trees claim.tree in
          let shown = permuted claim.tree tests (new_rows sets) [] old.now.trees params it.0 (it.1.answer Null) in
          let picked = filter-map goes (drop 1) tree ∙ (λ i. map (drop 1) (filter (λ r. sym (same r) i) tree)) in
          it.4 ∙ length_permutation _ _ shown ∙ length-map _ _ ∙ sym (ap length picked ∙ length-map _ _)
