-- What the four statements do that move the rows of schema 1, and that together they move them.
use Rattle.store_schema.proofs.Vocabulary.{◌≡◌, ◌≢◌, ℕ, true, not, List, [], ◌∷◌, ◌++◌, map, filter, drop, Option, None, refl, sym, ap, ap₂, subst, ◌∙◌, append-nil, arith, IsPermutation, nil_from_length, IsPermutation-map, IsPermutation-trans, length_permutation, Database, State, Writes, Row, column, Trees, eval_all, Update, Delete, Schema, cast_all, all_from, CharterSets, Rows, AllRows, RoaPrefix, SCHEMA, claim_of, number_cell, schema_row, claim_entry, auth_row, auth_rows, auth_part, old_tables, is_old_table, old_schema_row, OldTablesHold, meta, auth, claim, entry, desk_tables, desk_beside, contents, is_table, IsTree, SameRows, HoldsPart, Edits, claim_columns, entry_columns, AreAuthRows, AreMovable, IsWidened, IsMoved, cast_schema, cast_claim, cast_entry, deletion_of, takes, each_table, update_of, changes}
use Rattle.sqlite_schema.specs.declared.schema.Column.{Column}
use Rattle.sqlite_rules.proofs.ProbeLemmas.{has_mapped}
use Rattle.store_tables.specs.declared.claim.Claim.{Claim}
use Rattle.store_schema.proofs.Copying.{copied, puts_shown}
use Rattle.store_tables.proofs.Deleting as deleting
use Rattle.store_schema.proofs.Texts.{claim_terms, entry_terms, schema_sets, claims_copied, entries_copied}
use Rattle.store_tables.proofs.SomeRow.{has_joined, of_some}
use Rattle.store_tables.proofs.Updating as updating

-- ---- the rows that are copied

are_auth_rows : (all : List ℕ → Option Rows) (table : List Row) → HoldsPart auth_part all table → AreAuthRows table
are_auth_rows all table holds = all_from _ table (λ c there.
    let of = of_some auth_part all table holds c there in
    let its = has_joined (auth_rows of.0) of.1.auths c of.3 in
    let row = has_mapped (auth_row of.0 (claim_of its.0)) its.0.entries c its.2 in
    (of.0, claim_of its.0, row.0, row.2))

pub are_movable : (charter : CharterSets) (rows : AllRows) (old : Trees) → OldTablesHold charter rows old → AreMovable old
are_movable charter rows old holds = record {
  number = holds.charter_kept.schema;
  auths = are_auth_rows rows.of_holder (contents (old auth.tree)) holds.auths;
  whole = holds.whole;
}

-- the rows that a query shows of those of authorizations, none of which the columns cast to another
all_shown : (turn shown : Row → Row) (kinds : List Column) → ((r : Row) → shown r ≡ cast_all kinds (turn (drop 1 r)))
    → ((h : List ℕ) (c : Claim) (e : RoaPrefix) → cast_all kinds (turn (auth_row h c e)) ≡ turn (auth_row h c e)) → (rows : List Row) → AreAuthRows (contents rows) → map shown rows ≡ map turn (contents rows)
all_shown turn shown kinds is kept [] all = refl
all_shown turn shown kinds is kept (r ∷ rows) all =
    ap₂ ◌∷◌ (is r ∙ (λ i. cast_all kinds (turn (all.0.3 i))) ∙ kept all.0.0 all.0.1 all.0.2 ∙ (λ i. turn (sym all.0.3 i))) (all_shown turn shown kinds is kept rows all.1)

none_left : {A : Type 0} (xs : List A) → filter (λ x. not true) xs ≡ []
none_left [] = refl
none_left (x ∷ xs) = none_left xs

-- ---- each statement

-- a row of `meta` with the number of this schema
abbrev pub with_schema : Row → Row
with_schema c = cast_all meta.columns (column c 0 ∷ number_cell SCHEMA ∷ [])

module _ (s : Schema) (old new : State) (text : List ℕ) (count : ℕ) (has : old.now.schema ≡ desk_beside s) where
  claim_shown : (r : Row) → copied desk_tables 8 claim refl s claim_terms [] r ≡ cast_all claim.columns (claim_columns (drop 1 r))
  claim_shown [] = refl
  claim_shown (id ∷ c) = refl

  entry_shown : (r : Row) → copied desk_tables 9 entry refl s entry_terms [] r ≡ cast_all entry.columns (entry_columns (drop 1 r))
  entry_shown [] = refl
  entry_shown (id ∷ c) = refl

  schema_set : (r : Row) → cast_all meta.columns (eval_all schema_sets ([] ∷ r ∷ [])) ≡ with_schema (drop 1 r)
  schema_set [] = refl
  schema_set (id ∷ c) = refl

  -- the schema stays, and where the tables are so, a table is edited so
  abbrev pub EditsIf : Type 0 → ℕ → (List Row → List Row) → Type 0
  EditsIf So tree by = (new.now.schema ≡ old.now.schema) × (So → Edits tree by old.now new.now)

  abbrev auths : List Row
  auths = contents (old.now.trees auth.tree)

  pub copies_claims : Writes old new None claims_copied text [] count → EditsIf (AreAuthRows auths) claim.tree (λ rows. map claim_columns auths ++ rows)
  copies_claims w =
      let put = puts_shown desk_tables 8 claim refl s auth.tree claim_terms _ old new text [] count has w in (
        put.schema,
        λ all. subst (λ cells. Edits claim.tree (λ rows. cells ++ rows) old.now new.now)
            (all_shown claim_columns (copied desk_tables 8 claim refl s claim_terms []) claim.columns claim_shown (λ h c e. cast_claim h c) (old.now.trees auth.tree) all) put,
      )

  pub copies_entries : Writes old new None entries_copied text [] count → EditsIf (AreAuthRows auths) entry.tree (λ rows. map entry_columns auths ++ rows)
  copies_entries w =
      let put = puts_shown desk_tables 9 entry refl s auth.tree entry_terms _ old new text [] count has w in (
        put.schema,
        λ all. subst (λ cells. Edits entry.tree (λ rows. cells ++ rows) old.now new.now)
            (all_shown entry_columns (copied desk_tables 9 entry refl s entry_terms []) entry.columns entry_shown (λ h c e. cast_entry h (claim_entry c e)) (old.now.trees auth.tree) all) put,
      )

  pub takes_auths : Writes old new None (Delete 6 (deletion_of auth [])) text [] count → EditsIf (IsTree (old.now.trees auth.tree)) auth.tree (λ rows. [])
  takes_auths w = (
    (deleting.applied 6 auth refl refl s [] old new text [] count has w).2 ∙ sym has,
    λ sound. subst (λ by. Edits auth.tree by old.now new.now) (λ i rows. none_left rows i) (takes 6 auth refl refl s [] (λ c. true) old new text [] count has (λ r. refl) sound w),
  )

  pub sets_schema : Writes old new None (Update 0 (update_of meta [] schema_sets)) text [] count → EditsIf (IsTree (old.now.trees meta.tree)) meta.tree (map with_schema)
  sets_schema w = (
    (updating.applied 0 meta refl s [] schema_sets old new text [] count has w).2 ∙ sym has,
    λ sound. changes 0 meta refl s [] schema_sets (λ c. true) with_schema old new text [] count has (λ r. refl) schema_set sound w,
  )

-- ---- all four

-- a table of schema 1 is one of a desk, and neither of the two beside them
old_is_other : (t : ℕ) → is_old_table t ≡ true → (is_table t ≡ true) × (t ≢ claim.tree) × (t ≢ entry.tree)
old_is_other = each_table (λ t. (is_table t ≡ true) × (t ≢ claim.tree) × (t ≢ entry.tree)) old_tables (
  other refl (omega arith) (omega arith),
  (
    other refl (omega arith) (omega arith),
    (
      other refl (omega arith) (omega arith),
      (
        other refl (omega arith) (omega arith),
        (other refl (omega arith) (omega arith), (other refl (omega arith) (omega arith), (other refl (omega arith) (omega arith), (other refl (omega arith) (omega arith), tt)))),
      ),
    ),
  ),
)
  where
    other : {t : ℕ} → is_table t ≡ true → t ≢ claim.tree → t ≢ entry.tree → (is_table t ≡ true) × (t ≢ claim.tree) × (t ≢ entry.tree)
    other is no_claim no_entry = (is, no_claim, no_entry)

module _ (old : Trees) (a b c d e : Database) (was : AreMovable old) (wide : IsWidened old a.trees)
    (copies_claims : AreAuthRows (contents (a.trees auth.tree)) → Edits claim.tree (λ there. map claim_columns (contents (a.trees auth.tree)) ++ there) a b)
    (copies_entries : AreAuthRows (contents (b.trees auth.tree)) → Edits entry.tree (λ there. map entry_columns (contents (b.trees auth.tree)) ++ there) b c)
    (takes_auths : IsTree (c.trees auth.tree) → Edits auth.tree (λ there. []) c d) (sets_schema : IsTree (d.trees meta.tree) → Edits meta.tree (map with_schema) d e) where
  -- the table `auth` until its rows go, and `meta` until its number is set
  claims : Edits claim.tree (λ there. map claim_columns (contents (a.trees auth.tree)) ++ there) a b
  claims = copies_claims (subst (λ t. AreAuthRows (contents t)) (sym (wide.same 12 refl)) was.auths)

  auths_copied : b.trees auth.tree ≡ old auth.tree
  auths_copied = claims.others 12 refl (omega arith) ∙ wide.same 12 refl

  entries : Edits entry.tree (λ there. map entry_columns (contents (b.trees auth.tree)) ++ there) b c
  entries = copies_entries (subst (λ t. AreAuthRows (contents t)) (sym auths_copied) was.auths)

  auths_until : c.trees auth.tree ≡ old auth.tree
  auths_until = entries.others 12 refl (omega arith) ∙ auths_copied

  emptied : Edits auth.tree (λ there. []) c d
  emptied = takes_auths (subst IsTree (sym auths_until) (was.whole 12 refl))

  meta_until : d.trees meta.tree ≡ old meta.tree
  meta_until = emptied.others 0 refl (omega arith) ∙ entries.others 0 refl (omega arith) ∙ claims.others 0 refl (omega arith) ∙ wide.same 0 refl

  numbered : Edits meta.tree (map with_schema) d e
  numbered = sets_schema (subst IsTree (sym meta_until) (was.whole 0 refl))

  others : (t : ℕ) → is_old_table t ≡ true → t ≢ auth.tree → t ≢ meta.tree → e.trees t ≡ old t
  others t is no_auth no_meta =
      let it = old_is_other t is in
      numbered.others t it.0 no_meta ∙ emptied.others t it.0 no_auth ∙ entries.others t it.0 it.2 ∙ claims.others t it.0 it.1 ∙ wide.same t is

  -- the tables that were edited, since
  claims_since : e.trees claim.tree ≡ b.trees claim.tree
  claims_since = numbered.others 17 refl (omega arith) ∙ emptied.others 17 refl (omega arith) ∙ entries.others 17 refl (omega arith)

  entries_since : e.trees entry.tree ≡ c.trees entry.tree
  entries_since = numbered.others 19 refl (omega arith) ∙ emptied.others 19 refl (omega arith)

  auths_since : e.trees auth.tree ≡ d.trees auth.tree
  auths_since = numbered.others 12 refl (omega arith)

  no_entries : b.trees entry.tree ≡ []
  no_entries = claims.others 19 refl (omega arith) ∙ wide.no_entries

  claims_there : IsPermutation (map claim_columns (contents (old auth.tree))) (contents (b.trees claim.tree))
  claims_there =
      subst (λ l. IsPermutation l (contents (b.trees claim.tree)))
      ((λ i. map claim_columns (contents (wide.same 12 refl i)) ++ contents (wide.no_claims i)) ∙ append-nil (map claim_columns (contents (old auth.tree)))) claims.rows

  entries_there : IsPermutation (map entry_columns (contents (old auth.tree))) (contents (c.trees entry.tree))
  entries_there =
      subst (λ l. IsPermutation l (contents (c.trees entry.tree)))
      ((λ i. map entry_columns (contents (auths_copied i)) ++ contents (no_entries i)) ∙ append-nil (map entry_columns (contents (old auth.tree)))) entries.rows

  number_there : IsPermutation (schema_row ∷ []) (contents (e.trees meta.tree))
  number_there =
      subst (λ c. IsPermutation (c ∷ []) (contents (e.trees meta.tree))) cast_schema
      (IsPermutation-trans (with_schema old_schema_row ∷ []) _ _ (IsPermutation-map with_schema _ _ was.number)
      (subst (λ t. IsPermutation (map with_schema (contents t)) (contents (e.trees meta.tree))) meta_until numbered.rows))

  kept_tree : (t : ℕ) → is_old_table t ≡ true → t ≢ auth.tree → t ≢ meta.tree → IsTree (e.trees t)
  kept_tree t is no_auth no_meta = subst IsTree (sym (others t is no_auth no_meta)) (was.whole t is)

  pub moved : IsMoved old e.trees
  moved = record {
    claims = subst (λ l. IsPermutation (map claim_columns (contents (old auth.tree))) (contents l)) (sym claims_since) claims_there;
    entries = subst (λ l. IsPermutation (map entry_columns (contents (old auth.tree))) (contents l)) (sym entries_since) entries_there;
    emptied = ap contents auths_since ∙ nil_from_length (contents (d.trees auth.tree)) (length_permutation _ _ emptied.rows);
    number = number_there;
    others = others;
    whole = each_table (λ t. IsTree (e.trees t)) desk_tables (
      numbered.whole (subst IsTree (sym meta_until) (was.whole 0 refl)),
      (
        kept_tree 2 refl (omega arith) (omega arith),
        (
          kept_tree 4 refl (omega arith) (omega arith),
          (
            kept_tree 6 refl (omega arith) (omega arith),
            (
              kept_tree 8 refl (omega arith) (omega arith),
              (
                kept_tree 10 refl (omega arith) (omega arith),
                (
                  subst IsTree (sym auths_since) (emptied.whole (subst IsTree (sym auths_until) (was.whole 12 refl))),
                  (
                    kept_tree 15 refl (omega arith) (omega arith),
                    (
                      subst IsTree (sym claims_since) (claims.whole (subst IsTree (sym wide.no_claims) (tt, tt))),
                      (subst IsTree (sym entries_since) (entries.whole (subst IsTree (sym no_entries) (tt, tt))), tt),
                    ),
                  ),
                ),
              ),
            ),
          ),
        ),
      ),
    );
  }

-- they are moved still, where no row changes
pub still_moved : (old mid new : Trees) → SameRows mid new → IsMoved old mid → IsMoved old new
still_moved old mid new same moved = record {
  claims = subst (λ l. IsPermutation (map claim_columns (contents (old auth.tree))) (contents l)) (sym (same 17 refl)) moved.claims;
  entries = subst (λ l. IsPermutation (map entry_columns (contents (old auth.tree))) (contents l)) (sym (same 19 refl)) moved.entries;
  emptied = ap contents (same 12 refl) ∙ moved.emptied;
  number = subst (λ l. IsPermutation (schema_row ∷ []) (contents l)) (sym (same 0 refl)) moved.number;
  others = λ t is no_auth no_meta. same t (old_is_other t is).0 ∙ moved.others t is no_auth no_meta;
  whole = λ t is. subst IsTree (sym (same t is)) (moved.whole t is);
}
