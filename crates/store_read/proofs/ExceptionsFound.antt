-- What the query of all exceptions answers: the rows of the table.
use Rattle.store_read.proofs.Vocabulary.{◌≡◌, true, List, [], ◌∷◌, ◌++◌, map, filter, drop, refl, sym, subst, ◌∙◌, IsPermutation, IsPermutation-map, Database, Reads, Null, Row, all_of, filter_all, map-map, col, eval_all, Command, SELECT_ALL_EXCEPTIONS, exception_columns, first_columns, contents, slurm, exception_places, shown_at, shown_columns, permuted, picks, all_exceptions_is, upwards, AnswersSelect}

pub exceptions_found : (db : Database) (rows : List Row) → AnswersSelect SELECT_ALL_EXCEPTIONS.now db rows
    → IsPermutation (map exception_columns (contents (db.trees slurm.tree))) (map (first_columns 8) rows)
exceptions_found db rows answered =
    let tree = db.trees slurm.tree in
    let shows = λ (r : Row). eval_all (shown_at exception_places ++ col 1 0 ∷ []) ([] ∷ r ∷ []) in
    let answer = (subst (λ (k : Command). Reads k db [] rows) (all_exceptions_is.is db.schema) answered).answer Null in
    let every : filter (picks [] []) tree ≡ tree = filter_all (picks [] []) tree (all_of (λ r. picks [] [] r ≡ true) (λ r. refl) tree) in
    let same = subst (λ l. IsPermutation (map shows l) rows) every (permuted slurm.tree [] (shown_at exception_places ++ col 1 0 ∷ []) (upwards 0 ∷ []) db.trees [] rows answer) in
    let shown : map (first_columns 8) (map shows tree) ≡ map exception_columns (contents tree) =
    map-map (first_columns 8) shows tree ∙ (λ i. map (λ r. shown_columns exception_places [] r i) tree) ∙ sym (map-map exception_columns (drop 1) tree) in
    subst (λ l. IsPermutation l (map (first_columns 8) rows)) shown (IsPermutation-map (first_columns 8) _ _ same)
