-- Where the tables of schema 1 read, their rows can be moved, and the tables that they are moved to read.
use Rattle.store_open.proofs.Vocabulary.{◌≡◌, inl, List, [], ◌∷◌, map, flat_map, refl, subst, ◌∙◌, arith, IsPermutation, AllByRecursion, Contains-permutation, IsPermutation-map, IsPermutation-trans, Trees, all_of, all-flat_map, all-map, all-permutation, flat_map_same_on, map-flat_map, contains_had, GrantFits, Auth, OfHolder, claim_of, operator_row, prefix_cells, holding_row, granted_row, schema_row, exception_columns, meta, auth, contents, HasOneEntry, auth_row, claim_columns, entry_columns, AreAuthRows, AreMovable, IsMoved, claim_turned, entry_turned, joined_ones, stays, rows_of_auth, HasSomeOldAuths, OldTablesRead, rows_of_entries, row_of_claim, HasSomeAuths, ShowsHolder, ShowsOfHolder, ShowsException, TablesRead, AreFewOfEach, CommonTablesRead}
use Rattle.std.specs.Bool.{⊤}

rows_are_auth_rows : (auths : List (OfHolder Auth)) → AreAuthRows (flat_map rows_of_auth auths)
rows_are_auth_rows auths =
    all-flat_map _ rows_of_auth auths
    (all_of _ (λ x. all-map _ (auth_row x.holder (claim_of x.row)) x.row.entries (all_of _ (λ e. (x.holder, claim_of x.row, e, refl)) x.row.entries)) auths)

pub read_movable : (old : Trees) → OldTablesRead old → AreMovable old
read_movable old reads = record {
  number = reads.schema;
  auths = all-permutation _ (flat_map rows_of_auth reads.authorizations.auths) (contents (old auth.tree)) reads.authorizations.shown (rows_are_auth_rows reads.authorizations.auths);
  whole = reads.whole;
}

-- each authorization has its claim and its one entry
claims_turned : (auths : List (OfHolder Auth)) → AllByRecursion (λ (x : OfHolder Auth). HasOneEntry x.row) auths → map claim_columns (flat_map rows_of_auth auths) ≡ map row_of_claim auths
claims_turned = joined_ones claim_columns rows_of_auth row_of_claim (λ x. HasOneEntry x.row) (λ x. claim_turned x.holder x.row)

entries_turned : (auths : List (OfHolder Auth)) → map entry_columns (flat_map rows_of_auth auths) ≡ flat_map rows_of_entries auths
entries_turned auths = map-flat_map entry_columns rows_of_auth auths ∙ flat_map_same_on _ _ (λ x. entry_turned x.holder x.row) auths

module _ (old new : Trees) (moved : IsMoved old new) where
  common_stay : CommonTablesRead old → CommonTablesRead new
  common_stay o = record {
    charter = record {
      sets = o.charter.sets;
      valid = o.charter.valid;
      named = o.charter.named;
      operators_shown = stays old new moved (IsPermutation (map operator_row o.charter.sets.operators)) 2 refl (omega arith) (omega arith) o.charter.operators_shown;
      pool_shown = stays old new moved (IsPermutation (map prefix_cells o.charter.sets.pool)) 4 refl (omega arith) (omega arith) o.charter.pool_shown;
    };
    holders = stays old new moved (AllByRecursion ShowsHolder) 6 refl (omega arith) (omega arith) o.holders;
    holdings = stays old new moved (AllByRecursion (ShowsOfHolder holding_row (λ _. ⊤))) 8 refl (omega arith) (omega arith) o.holdings;
    grants = stays old new moved (AllByRecursion (ShowsOfHolder granted_row GrantFits)) 10 refl (omega arith) (omega arith) o.grants;
    exceptions = stays old new moved (λ rows. AllByRecursion ShowsException (map exception_columns rows)) 15 refl (omega arith) (omega arith) o.exceptions;
    exceptions_number = stays old new moved AreFewOfEach 15 refl (omega arith) (omega arith) o.exceptions_number;
  }

  auths_moved : HasSomeOldAuths old → HasSomeAuths new
  auths_moved a = record {
    auths = a.auths;
    fit = a.fit;
    claims_shown = IsPermutation-trans _ _ _
        (subst (λ l. IsPermutation l (map claim_columns (contents (old auth.tree)))) (claims_turned a.auths a.one_each) (IsPermutation-map claim_columns _ _ a.shown)) moved.claims;
    entries_shown = IsPermutation-trans _ _ _
        (subst (λ l. IsPermutation l (map entry_columns (contents (old auth.tree)))) (entries_turned a.auths) (IsPermutation-map entry_columns _ _ a.shown)) moved.entries;
    unused = moved.emptied;
  }

  pub moved_read : OldTablesRead old → TablesRead new
  moved_read reads = record {
    schema = Contains-permutation (schema_row ∷ []) (contents (new meta.tree)) schema_row moved.number (contains_had (schema_row ∷ []) schema_row (inl refl));
    common = common_stay reads.common;
    authorizations = auths_moved reads.authorizations;
  }
