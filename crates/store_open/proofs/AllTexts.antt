-- What the queries of all rows of a table mean over the schema of a desk, and that they select them.
use Rattle.store_open.proofs.Vocabulary.{◌≡◌, ℕ, true, List, [], ◌∷◌, ◌++◌, map, filter, length, codes, refl, ap, subst, ◌∙◌, IsPermutation, map-append, Database, Reads, Null, Row, all_of, filter_all, col, eval, eval_all, Command, Select, SELECT_ALL_CLAIMS, SELECT_ALL_ENTRIES, SELECT_ENTRY_ROWIDS, SELECT_SCHEMA, OverDesk, from_table, no_limit, picks, permuted, shown_at, shown_columns, Means, upwards, columns_and_rowid, SelectsAll, AnswersSelect, claim_places, entry_places}
use Rattle.sqlite.specs.Given.{IsPlain}
use Rattle.sqlite.specs.Listing.{understood}
use Rattle.sqlite_tied.specs.Compute.{everything}
use Rattle.store_tables.specs.declared.auth.TheConstants.{SELECT_ALL_AUTHS}
use Rattle.store_tables.specs.declared.exception.TheConstants.{SELECT_ALL_EXCEPTIONS}
use Rattle.store_tables.specs.declared.granted.TheConstants.{SELECT_ALL_GRANTS}
use Rattle.store_tables.specs.declared.holder.TheConstants.{SELECT_ALL_HOLDERS}
use Rattle.store_tables.specs.declared.holding.TheConstants.{SELECT_ALL_SPANS}
use Rattle.store_tables.specs.declared.operator.TheConstants.{SELECT_ALL_OPERATORS}
use Rattle.store_tables.specs.declared.pool.TheConstants.{SELECT_ALL_PREFIXES}
use Rattle.store_tables.proofs.ClaimTexts.{all_claims_is, all_entries_is}
use Rattle.store_tables.proofs.ExceptionTexts.{all_exceptions_is}
use Rattle.store_open.specs.declared.reading.TheConstants.{COUNT_CLAIMS}

-- SELECT these columns and the rowid FROM the table ORDER BY rowid
abbrev pub all_of_table : ℕ → List ℕ → List (List ℕ) → Command
all_of_table tree places titles =
    Select (record { lets = []; body = from_table tree [] (shown_at places ++ col 1 0 ∷ []) (upwards 0 ∷ []) no_limit }) titles

shown_numbered : (places : List ℕ) (r : Row) → eval_all (shown_at places ++ col 1 0 ∷ []) ([] ∷ r ∷ []) ≡ columns_and_rowid places r
shown_numbered places r = map-append (λ t. eval t ([] ∷ r ∷ [])) (shown_at places) (col 1 0 ∷ []) ∙ ap (λ l. l ++ eval (col 1 0) ([] ∷ r ∷ []) ∷ []) (shown_columns places [] r)

selects_all : (tree : ℕ) (places : List ℕ) (titles : List (List ℕ)) (sql : List ℕ) → Means sql (all_of_table tree places titles) → SelectsAll (length places) tree places sql
selects_all tree places titles sql means = record { counted = refl; plain = means.plain; unlisted = means.unlisted; found = found }
  where
    found : (db : Database) (rows : List Row) → AnswersSelect sql db rows → IsPermutation (map (columns_and_rowid places) (db.trees tree)) rows
    found db rows read =
        let answer = (subst (λ (k : Command). Reads k db [] rows) (means.is db.schema) read).answer Null in
        let every : filter (picks [] []) (db.trees tree) ≡ db.trees tree = filter_all (picks [] []) (db.trees tree) (all_of (λ r. picks [] [] r ≡ true) (λ r. refl) (db.trees tree)) in
        subst (λ l. IsPermutation l rows) (λ i. map (λ r. shown_numbered places r i) (every i))
        (permuted tree [] (shown_at places ++ col 1 0 ∷ []) (upwards 0 ∷ []) db.trees [] rows answer)

pub selects_meta : SelectsAll 2 0 (0 ∷ 1 ∷ []) SELECT_SCHEMA.now
unfolding understood everything
selects_meta = selects_all 0 (0 ∷ 1 ∷ []) (codes "name" ∷ codes "value" ∷ codes "rowid" ∷ []) SELECT_SCHEMA.now (record { is = λ s. refl; plain = λ s. (refl, refl); unlisted = λ s. refl })

pub selects_operator : SelectsAll 1 2 (0 ∷ []) SELECT_ALL_OPERATORS.now
unfolding understood everything
selects_operator = selects_all 2 (0 ∷ []) (codes "name" ∷ codes "rowid" ∷ []) SELECT_ALL_OPERATORS.now (record { is = λ s. refl; plain = λ s. (refl, refl); unlisted = λ s. refl })

pub selects_pool : SelectsAll 3 4 (0 ∷ 1 ∷ 2 ∷ []) SELECT_ALL_PREFIXES.now
unfolding understood everything
selects_pool = selects_all 4 (0 ∷ 1 ∷ 2 ∷ []) (codes "family" ∷ codes "lo" ∷ codes "len" ∷ codes "rowid" ∷ []) SELECT_ALL_PREFIXES.now (record { is = λ s. refl; plain = λ s. (refl, refl); unlisted = λ s. refl })

pub selects_holder : SelectsAll 3 6 (0 ∷ 1 ∷ 2 ∷ []) SELECT_ALL_HOLDERS.now
unfolding understood everything
selects_holder = selects_all 6 (0 ∷ 1 ∷ 2 ∷ []) (codes "name" ∷ codes "grants" ∷ codes "auths" ∷ codes "rowid" ∷ []) SELECT_ALL_HOLDERS.now (record { is = λ s. refl; plain = λ s. (refl, refl); unlisted = λ s. refl })

pub selects_holding : SelectsAll 3 8 (0 ∷ 1 ∷ 2 ∷ []) SELECT_ALL_SPANS.now
unfolding understood everything
selects_holding = selects_all 8 (0 ∷ 1 ∷ 2 ∷ []) (codes "family" ∷ codes "lo" ∷ codes "hi" ∷ codes "rowid" ∷ []) SELECT_ALL_SPANS.now (record { is = λ s. refl; plain = λ s. (refl, refl); unlisted = λ s. refl })

pub selects_granted : SelectsAll 7 10 (1 ∷ 2 ∷ 3 ∷ 4 ∷ 5 ∷ 6 ∷ 7 ∷ []) SELECT_ALL_GRANTS.now
unfolding understood everything
selects_granted = selects_all 10 (1 ∷ 2 ∷ 3 ∷ 4 ∷ 5 ∷ 6 ∷ 7 ∷ []) (codes "number" ∷ codes "caller" ∷ codes "role" ∷ codes "family" ∷ codes "lo" ∷ codes "len" ∷ codes "until" ∷ codes "rowid" ∷ []) SELECT_ALL_GRANTS.now (record { is = λ s. refl; plain = λ s. (refl, refl); unlisted = λ s. refl })

pub selects_auth : SelectsAll 8 12 (1 ∷ 2 ∷ 3 ∷ 4 ∷ 5 ∷ 6 ∷ 7 ∷ 8 ∷ []) SELECT_ALL_AUTHS.now
unfolding understood everything
selects_auth = selects_all 12 (1 ∷ 2 ∷ 3 ∷ 4 ∷ 5 ∷ 6 ∷ 7 ∷ 8 ∷ []) (codes "number" ∷ codes "asn" ∷ codes "family" ∷ codes "lo" ∷ codes "len" ∷ codes "max" ∷ codes "opens" ∷ codes "ends" ∷ codes "rowid" ∷ []) SELECT_ALL_AUTHS.now (record { is = λ s. refl; plain = λ s. (refl, refl); unlisted = λ s. refl })

pub selects_slurm : SelectsAll 8 15 (0 ∷ 1 ∷ 2 ∷ 3 ∷ 4 ∷ 5 ∷ 6 ∷ 7 ∷ []) SELECT_ALL_EXCEPTIONS.now
selects_slurm = selects_all 15 (0 ∷ 1 ∷ 2 ∷ 3 ∷ 4 ∷ 5 ∷ 6 ∷ 7 ∷ []) _ SELECT_ALL_EXCEPTIONS.now all_exceptions_is

pub selects_claim : SelectsAll 5 17 claim_places SELECT_ALL_CLAIMS.now
selects_claim = selects_all 17 claim_places _ SELECT_ALL_CLAIMS.now all_claims_is

pub selects_entry : SelectsAll 7 19 entry_places SELECT_ALL_ENTRIES.now
selects_entry = selects_all 19 entry_places _ SELECT_ALL_ENTRIES.now all_entries_is

pub counts_claims : OverDesk (λ s. IsPlain (understood s COUNT_CLAIMS.now))
unfolding understood everything
counts_claims = λ s. (refl, refl)

pub selects_entry_rowids : SelectsAll 0 19 [] SELECT_ENTRY_ROWIDS.now
unfolding understood everything
selects_entry_rowids = selects_all 19 [] (codes "rowid" ∷ []) SELECT_ENTRY_ROWIDS.now (record { is = λ s. refl; plain = λ s. (refl, refl); unlisted = λ s. refl })
