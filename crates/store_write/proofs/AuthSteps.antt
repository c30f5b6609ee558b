-- What the statements that put and take claims and entries do to the authorizations of a holder.
use Rattle.store_write.proofs.Vocabulary.{◌≡◌, ◌≢◌, ℕ, Bool, true, false, cond, not, ◌==◌, List, [], ◌∷◌, ◌++◌, map, filter, flat_map, Option, Some, None, option_map, IsSome, IsPermutation, refl, sym, ap, subst, ◌∙◌, append-nil, AllByRecursion, map-append, IsPermutation-append_comm, IsPermutation-trans, filter-append, flat_map-append, Database, State, Text, Row, column, all-append, all-filter, IsPermutation-same, CharterSets, AreEntries, Auth, Withdraw, Rows, edited, AllRows, EachHasEntries, claim_of, entry_rows_of, number_cell, schema_row, operator_row, prefix_cells, claim_row, entry_row, claim, entry, contents, desk_tables, is_table, AreTrees, Part, part_rows, holder_part, holding_part, granted_part, claim_part, entry_part, HoldsPart, HoldsFiles, TablesHold, Claim, INSERT_CLAIM, DELETE_CLAIM, INSERT_ENTRY, DELETE_ENTRIES, Edits, cast_claim, cast_entry, number_of_number, appended, put_claim_is, put_entry_is, take_claim_is, take_entries_is, of_number_tests, entries_taken, takes_entries, takes_claim, edited_have_entries, name_of_itself, IsLocal, turned_at, part_same, part_turned, put_local, take_local, put_terms, IsReady, IsExecuted, PutsRows, puts_then, has_schema, wrote, ready_still, puts_row, sound_still, with_auths, EditsHolder, KeepsExceptions, at_holder}
use Rattle.addr.specs.declared.roa_prefix.RoaPrefix.{RoaPrefix}
use Rattle.store_tables.specs.Groups.{claim_entry}
use Rattle.store_tables.specs.declared.entry.EntryRow.{EntryRow}
use Rattle.store_tables.proofs.Deleting as deleting
use Rattle.store_write.proofs.InTurn.{Does, does}
use Rattle.store_write.proofs.EditSteps.{is_of, of_holder, of_tests, taken}

-- ---- edits of both tables

-- the claims and the entries are edited, and every other table stays as it was
pub record EditsBoth (of_claims of_entries : List Row → List Row) (old new : Database) : Type 0 where
  pub others : (t : ℕ) → is_table t ≡ true → t ≢ claim.tree → t ≢ entry.tree → new.trees t ≡ old.trees t
  pub claims : IsPermutation (of_claims (contents (old.trees claim.tree))) (contents (new.trees claim.tree))
  pub entries : IsPermutation (of_entries (contents (old.trees entry.tree))) (contents (new.trees entry.tree))
  pub whole : AreTrees old.trees → AreTrees new.trees

module _ (of_claims of_entries : List Row → List Row) (a b c : Database) where
  claims_first : Edits claim.tree of_claims a b → Edits entry.tree of_entries b c → EditsBoth of_claims of_entries a c
  claims_first first second = record {
    others = λ t is apart other. second.others t is other ∙ first.others t is apart;
    claims = subst (λ rows. IsPermutation (of_claims (contents (a.trees claim.tree))) (contents rows)) (sym (second.others claim.tree refl (λ same. cc))) first.rows;
    entries = subst (λ rows. IsPermutation (of_entries (contents rows)) (contents (c.trees entry.tree))) (first.others entry.tree refl (λ same. cc)) second.rows;
    whole = λ whole. sound_still entry.tree of_entries b c second (sound_still claim.tree of_claims a b first whole);
  }

  pub entries_first : Edits entry.tree of_entries a b → Edits claim.tree of_claims b c → EditsBoth of_claims of_entries a c
  entries_first first second = record {
    others = λ t is apart other. second.others t is apart ∙ first.others t is other;
    claims = subst (λ rows. IsPermutation (of_claims (contents rows)) (contents (c.trees claim.tree))) (first.others claim.tree refl (λ same. cc)) second.rows;
    entries = subst (λ rows. IsPermutation (of_entries (contents (a.trees entry.tree))) (contents rows)) (sym (second.others entry.tree refl (λ same. cc))) first.rows;
    whole = λ whole. sound_still claim.tree of_claims b c second (sound_still entry.tree of_entries a b first whole);
  }

-- the entries are edited once more
pub entries_again : (of_claims of_entries more : List Row → List Row) (a b c : Database) → EditsBoth of_claims of_entries a b → Edits entry.tree more b c
    → ((xs ys : List Row) → IsPermutation xs ys → IsPermutation (more xs) (more ys)) → EditsBoth of_claims (λ rows. more (of_entries rows)) a c
entries_again of_claims of_entries more a b c both edit permutes = record {
  others = λ t is apart other. edit.others t is other ∙ both.others t is apart other;
  claims = subst (λ rows. IsPermutation (of_claims (contents (a.trees claim.tree))) (contents rows)) (sym (edit.others claim.tree refl (λ same. cc))) both.claims;
  entries = IsPermutation-trans _ _ _ (permutes _ _ both.entries) edit.rows;
  whole = λ whole. sound_still entry.tree more b c edit (both.whole whole);
}

-- Both tables are edited in the rows of one holder, and become those of its authorizations as they are turned.
module _ (h : List ℕ) (to : List Auth → List Auth) where
  abbrev with_turned : Rows → Rows
  with_turned r = record r { auths = to r.auths }

  -- the edit of the table is that of the authorizations which the holder has
  abbrev pub TurnsPart : (List ℕ → Option Rows) → Part → (List Row → List Row) → Type 0
  TurnsPart rows part by = (r : Rows) → rows h ≡ Some r → IsPermutation (part.rows h (with_turned r)) (by (part.rows h r))

  module _ (rows : List ℕ → Option Rows) (some : IsSome (rows h)) where
    abbrev after : List ℕ → Option Rows
    after = turned_at h (option_map with_turned) rows

    part_edited : (part : Part) (by : List Row → List Row) (old new : List Row) → IsLocal part.place h by → TurnsPart rows part by → IsPermutation (by old) new → HoldsPart part rows old → HoldsPart part after new
    part_edited part by old new local turned same holds = part_turned part rows h (option_map with_turned) by old new holds local same (go (rows h) refl some)
      where
        go : (o : Option Rows) → rows h ≡ o → IsSome o → IsPermutation (part_rows part h (option_map with_turned o)) (by (part_rows part h o))
        go None of some = absurd cc
        go (Some r) of some = turned r of

    part_kept : (part : Part) (table : List Row) → ((r : Rows) → part.rows h r ≡ part.rows h (with_turned r)) → HoldsPart part rows table → HoldsPart part after table
    part_kept part table same holds = part_same part rows h (option_map with_turned) table holds (go (rows h))
      where
        go : (o : Option Rows) → part_rows part h o ≡ part_rows part h (option_map with_turned o)
        go None = refl
        go (Some r) = same r

  pub auths_turned : (of_claims of_entries : List Row → List Row) (old new : Database) → EditsBoth of_claims of_entries old new → IsLocal 0 h of_claims → IsLocal 0 h of_entries
      → (charter : CharterSets) (rows : AllRows) → TablesHold charter rows old.trees → IsSome (rows.of_holder h)
      → TurnsPart rows.of_holder claim_part of_claims → TurnsPart rows.of_holder entry_part of_entries → ((xs : List Auth) → EachHasEntries xs → EachHasEntries (to xs))
      → KeepsExceptions charter (at_holder h (option_map with_turned) rows) old.trees new.trees
  auths_turned of_claims of_entries old new e own_claims own_entries charter rows was some claims entries keeps =
      let still : (so : List Row → Type 0) (t : ℕ) → is_table t ≡ true → t ≢ claim.tree → t ≢ entry.tree → so (contents (old.trees t)) → so (contents (new.trees t)) =
      λ so t is apart other. subst (λ table. so (contents table)) (sym (e.others t is apart other)) in
      let kept : (part : Part) → is_table part.tree ≡ true → part.tree ≢ claim.tree → part.tree ≢ entry.tree → ((r : Rows) → part.rows h r ≡ part.rows h (with_turned r)) → HoldsPart part rows.of_holder (contents (old.trees part.tree))
      → HoldsPart part (after rows.of_holder some) (contents (new.trees part.tree)) =
      λ part is apart other same holds. part_kept rows.of_holder some part (contents (new.trees part.tree)) same (still (HoldsPart part rows.of_holder) part.tree is apart other holds) in
      record {
        held = record {
          charter_kept = record {
            schema = still (IsPermutation (schema_row ∷ [])) 0 refl (λ same. cc) (λ same. cc) was.charter_kept.schema;
            operators = still (IsPermutation (map operator_row charter.operators)) 2 refl (λ same. cc) (λ same. cc) was.charter_kept.operators;
            pool = still (IsPermutation (map prefix_cells charter.pool)) 4 refl (λ same. cc) (λ same. cc) was.charter_kept.pool;
          };
          holders = kept holder_part refl (λ same. cc) (λ same. cc) (λ r. refl) was.holders;
          holdings = kept holding_part refl (λ same. cc) (λ same. cc) (λ r. refl) was.holdings;
          grants = kept granted_part refl (λ same. cc) (λ same. cc) (λ r. refl) was.grants;
          claims = part_edited rows.of_holder some claim_part of_claims _ _ own_claims claims e.claims was.claims;
          entries = part_edited rows.of_holder some entry_part of_entries _ _ own_entries entries e.entries was.entries;
          have_entries = edited_have_entries h with_turned rows.of_holder (λ r. keeps r.auths) was.have_entries;
          unused = still (λ table. table ≡ []) 12 refl (λ same. cc) (λ same. cc) was.unused;
          files = still (HoldsFiles rows.files) 15 refl (λ same. cc) (λ same. cc) was.files;
          whole = e.whole was.whole;
        };
        exceptions = e.others 15 refl (λ same. cc) (λ same. cc);
      }

-- ---- the rows of one holder

-- one local edit after another
pub both_local : {place : ℕ} {h : List ℕ} (first then : List Row → List Row) → IsLocal place h first → IsLocal place h then → IsLocal place h (λ rows. then (first rows))
both_local first then one two = record {
  mine = λ rows. two.mine (first rows) ∙ ap then (one.mine rows);
  others = λ k differ rows. two.others k differ (first rows) ∙ one.others k differ rows;
  permutes = λ xs ys same. two.permutes _ _ (one.permutes xs ys same);
  texts = λ rows all. two.texts (first rows) (one.texts rows all);
}

module _ (h : List ℕ) where
  abbrev pub claim_cells_of : Auth → Row
  claim_cells_of x = claim_row h (claim_of x)

  abbrev pub entries_of_auth : Auth → List Row
  entries_of_auth x = map (entry_row h) (entry_rows_of x)

  -- ---- put

  pub puts_claim : (c : Claim) → Does INSERT_CLAIM.now (claim_row h c) (PutsRows claim.tree (claim_row h c ∷ []))
  puts_claim c = does _ _ _ (λ old new. puts_row 8 claim refl old new (claim_row h c) (put_terms 5) 6 (claim_row h c) put_claim_is refl (cast_claim h c))

  pub puts_entry : (e : EntryRow) → Does INSERT_ENTRY.now (entry_row h e) (PutsRows entry.tree (entry_row h e ∷ []))
  puts_entry e = does _ _ _ (λ old new. puts_row 9 entry refl old new (entry_row h e) (put_terms 7) 8 (entry_row h e) put_entry_is refl (cast_entry h e))

  abbrev pub rows_of_entries : Claim → List RoaPrefix → List Row
  rows_of_entries c es = map (entry_row h) (map (claim_entry c) es)

  -- one entry after others
  pub puts_more : (c : Claim) (es : List RoaPrefix) (e : RoaPrefix) (more : List RoaPrefix) (x y z : State) → more ≡ es ++ e ∷ []
      → PutsRows entry.tree (rows_of_entries c es) x y → PutsRows entry.tree (entry_row h (claim_entry c e) ∷ []) y z → PutsRows entry.tree (rows_of_entries c more) x z
  puts_more c es e more x y z is before put =
      let both = ap (rows_of_entries c) is ∙ ap (map (entry_row h)) (map-append (claim_entry c) es (e ∷ [])) ∙ map-append (entry_row h) (map (claim_entry c) es) (claim_entry c e ∷ []) in
      subst (λ rows. PutsRows entry.tree rows x z) (sym both) (puts_then entry.tree _ _ x y z before put)

  pub puts_local : (rows : List Row) → AllByRecursion (λ row. column row 0 ≡ Text h) rows → IsLocal 0 h (λ table. rows ++ table)
  puts_local [] named = record { mine = λ table. refl; others = λ k differ table. refl; permutes = λ xs ys same. same; texts = λ table all. all }
  puts_local (row ∷ rows) named = both_local (λ table. rows ++ table) (λ table. row ∷ table) (puts_local rows named.1) (put_local 0 h row named.0)

  pub entries_named : (c : Claim) (es : List RoaPrefix) → AllByRecursion (λ row. column row 0 ≡ Text h) (rows_of_entries c es)
  entries_named c [] = tt
  entries_named c (e ∷ es) = (refl, entries_named c es)

  entries_appended : (xs : List Auth) (x : Auth) → IsPermutation (flat_map entries_of_auth (xs ++ x ∷ [])) (entries_of_auth x ++ flat_map entries_of_auth xs)
  entries_appended xs x =
      let parts = flat_map-append entries_of_auth xs (x ∷ []) ∙ ap (λ l. flat_map entries_of_auth xs ++ l) (append-nil (entries_of_auth x)) in
      subst (λ l. IsPermutation l (entries_of_auth x ++ flat_map entries_of_auth xs)) (sym parts) (IsPermutation-append_comm (flat_map entries_of_auth xs) (entries_of_auth x))

  pub puts_auth : (x : Auth) → AreEntries x.entries → (a b c : State) → PutsRows claim.tree (claim_row h (claim_of x) ∷ []) a b → PutsRows entry.tree (rows_of_entries (claim_of x) x.entries) b c → EditsHolder h (with_auths (x ∷ [])) a c
  puts_auth x are a b c first second = record {
    ready = second.ready;
    schema = second.edits.schema ∙ first.edits.schema;
    sound = λ sound. second.sound (first.sound sound);
    rows = λ charter rows was some.
        auths_turned h (λ xs. xs ++ x ∷ []) _ _ a.now c.now (claims_first _ _ a.now b.now c.now first.edits second.edits)
        (put_local 0 h (claim_row h (claim_of x)) refl) (puts_local (entries_of_auth x) (entries_named (claim_of x) x.entries))
        charter rows was some (λ r of. appended claim_cells_of r.auths x) (λ r of. entries_appended r.auths x) (λ xs all. all-append _ xs (x ∷ []) all (are, tt));
  }

  -- ---- taken

  pub own_claim : (n : ℕ) (c : Claim) → is_of h n (claim_row h c) ≡ (c.number == n)
  own_claim n c = rw (name_of_itself h (Text h) refl) (number_of_number c.number n)

  own_entry : (n : ℕ) (c : Claim) (e : RoaPrefix) → is_of h n (entry_row h (claim_entry c e)) ≡ (c.number == n)
  own_entry n c e = rw (name_of_itself h (Text h) refl) (number_of_number c.number n)

  -- the entries of one claim go all, or none does
  taken_together : (n : ℕ) (c : Claim) (es : List RoaPrefix) → filter (λ row. not (is_of h n row)) (rows_of_entries c es) ≡ cond (c.number == n) [] (rows_of_entries c es)
  taken_together n c [] = none_left (c.number == n)
    where
      none_left : (b : Bool) → ◌≡◌ {A = List Row} [] (cond b [] [])
      none_left true = refl
      none_left false = refl
  taken_together n c (e ∷ es) =
      ap (λ goes. cond (not goes) (entry_row h (claim_entry c e) ∷ filter (λ row. not (is_of h n row)) (rows_of_entries c es)) (filter (λ row. not (is_of h n row)) (rows_of_entries c es))) (own_entry n c e)
      ∙ go (c.number == n) (taken_together n c es)
    where
      go : (b : Bool) → filter (λ row. not (is_of h n row)) (rows_of_entries c es) ≡ cond b [] (rows_of_entries c es)
          → cond (not b) (entry_row h (claim_entry c e) ∷ filter (λ row. not (is_of h n row)) (rows_of_entries c es)) (filter (λ row. not (is_of h n row)) (rows_of_entries c es)) ≡ cond b [] (rows_of_entries c (e ∷ es))
      go true more = more
      go false more = ap (λ l. entry_row h (claim_entry c e) ∷ l) more

  -- the authorizations but those of the number
  abbrev pub without : ℕ → List Auth → List Auth
  without n xs = filter (λ x. not (x.number == n)) xs

  pub entries_left : (n : ℕ) (xs : List Auth) → flat_map entries_of_auth (without n xs) ≡ filter (λ row. not (is_of h n row)) (flat_map entries_of_auth xs)
  entries_left n [] = refl
  entries_left n (x ∷ xs) =
      go (x.number == n) ∙ ap (λ l. l ++ flat_map entries_of_auth (without n xs)) (sym (taken_together n (claim_of x) x.entries))
      ∙ ap (λ l. filter (λ row. not (is_of h n row)) (entries_of_auth x) ++ l) (entries_left n xs) ∙ sym (filter-append (λ row. not (is_of h n row)) (entries_of_auth x) (flat_map entries_of_auth xs))
    where
      go : (b : Bool) → flat_map entries_of_auth (cond (not b) (x ∷ without n xs) (without n xs)) ≡ cond b [] (entries_of_auth x) ++ flat_map entries_of_auth (without n xs)
      go true = refl
      go false = refl

  pub takes_auth : (n : ℕ) (a b c : State) → IsReady a → IsExecuted DELETE_ENTRIES.now (Text h ∷ number_cell n ∷ []) a b → IsExecuted DELETE_CLAIM.now (Text h ∷ number_cell n ∷ []) b c → EditsHolder h (edited (Withdraw n)) a c
  takes_auth n a b c ready first second =
      let params : Row = Text h ∷ number_cell n ∷ [] in
      let has = has_schema params take_entries_is ready first in
      let w = wrote params take_entries_is ready first in
      let keeps = (deleting.applied 9 entry refl refl a.now.schema of_number_tests a b _ params first.0 has w).2 in
      let between = ready_still params take_entries_is ready first keeps in
      let still_has = has_schema params take_claim_is between second in
      let last = wrote params take_claim_is between second in
      let still_keeps = (deleting.found_among desk_tables 8 claim refl b.now.schema of_number_tests b c _ params second.0 still_has last).2 in
      record {
        ready = ready_still params take_claim_is between second still_keeps;
        schema = still_keeps ∙ sym still_has ∙ keeps ∙ sym has;
        sound = λ _. last.sound;
        rows = λ charter rows was some.
            let tests = of_tests h n [] in
            let entries = takes_entries a.now.schema a b _ first.0 has params (is_of h n) tests (was.whole entry.tree refl) w in
            let none = entries_taken params (is_of h n) a.now b.now tests entries in
            let claims = takes_claim b.now.schema b c _ second.0 still_has params (is_of h n) tests (sound_still entry.tree _ a.now b.now entries was.whole claim.tree refl) none last in
            let own = take_local 0 h (is_of h n) (of_holder h n) in
            auths_turned h (without n) _ _ a.now c.now (entries_first _ _ a.now b.now c.now entries claims) own own charter rows was some
            (λ r of. IsPermutation-same _ _ (taken (is_of h n) (λ (x : Auth). x.number == n) claim_cells_of (λ x. own_claim n (claim_of x)) r.auths)) (λ r of. IsPermutation-same _ _ (entries_left n r.auths)) (λ xs. all-filter _ (λ (x : Auth). not (x.number == n)) xs);
      }
