-- What a query answers that counts the rows of one table, whatever the table.
use Rattle.std.specs.List.{AllZip, list_all}
use Rattle.sqlite_sql.specs.Aggregate.{count}
use Rattle.sqlite_sql.specs.Group.{Grouping, IsSummary, value_over}
use Rattle.sqlite_sql.specs.Program.{overlay}
use Rattle.sqlite_sql.specs.Query.{Query, IsAnswer, Output, output}
use Rattle.sqlite_sql.specs.Term.{Env, holds}
use Rattle.sqlite_sql.specs.declared.aggregate.AggregateOp.TheVariants.{CountRows}
use Rattle.sqlite_tied.specs.Listing.{counting}
use Rattle.store_tables.proofs.Selecting.{from_table, no_limit, picks, matched, plain_trees}
use Rattle.store_tables.proofs.Vocabulary.{◌≡◌, ℕ, false, List, [], ◌∷◌, filter, map, length, Some, unwrap_or, refl, sym, ap, subst, ◌∙◌, IsPermutation, arith, AllByRecursion, Binary, Null, length-map, length_permutation, Row, Trees, all-permutation, Term, lit}

-- SELECT COUNT(*) FROM one table WHERE tests
abbrev pub count_from : ℕ → List Term → Query
count_from tree tests = counting (from_table tree tests [] [] no_limit)

-- all rows are one group, of which the number is taken
abbrev as_one : Grouping
as_one = record { keys = []; collations = []; aggregates = record { op = CountRows; distinct = false; collation = Binary; argument = lit Null } ∷ []; having = [] }

module _ (group : List Env) where
  number_is : (values : Row) → AllZip (λ a v. value_over group a ≡ Some v) as_one.aggregates values → values ≡ count (length group) ∷ []
  number_is [] h = absurd h
  number_is (v ∷ []) h = ap (λ n. n ∷ []) (sym (ap (λ o. unwrap_or o v) h.0)) ∙ ap (λ n. count n ∷ []) (length-map group _)
  number_is (v ∷ w ∷ more) h = absurd h.1

  -- the summary of the group alone has its number
  summary_is : (rows : List Row) → AllZip (IsSummary as_one) (group ∷ []) rows → rows ≡ (count (length group) ∷ []) ∷ []
  summary_is [] h = absurd h
  summary_is (r ∷ []) h = ap (λ s. s ∷ []) (h.0.2 ∙ number_is h.0.0 h.0.1)
  summary_is (r ∷ s ∷ more) h = absurd h.1

-- one item has one order
module _ {X : Type 0} (x : X) where
  one_item : (xs : List X) → length xs ≡ 1 → AllByRecursion (λ y. y ≡ x) xs → xs ≡ x ∷ []
  one_item [] long all = absurd (omega (arith, long))
  one_item (y ∷ []) long all = ap (λ z. z ∷ []) all.0
  one_item (y ∷ z ∷ more) long all = absurd (omega (arith, long))

  one_order : (xs : List X) → IsPermutation (x ∷ []) xs → xs ≡ x ∷ []
  one_order xs same = one_item xs (length_permutation _ _ same) (all-permutation (λ y. y ≡ x) _ _ same (refl, tt))

-- the answer is one row, which has the number of the rows that the tests pick
pub counted : (tree : ℕ) (tests : List Term) (db : Trees) (params : Row) (rows : List Row)
    → IsAnswer (count_from tree tests) (overlay db []) params rows
    → rows ≡ (count (length (filter (picks params tests) (db tree))) ∷ []) ∷ []
counted tree tests db params rows a =
    let made = a.grouped in
    let group = made.grouping.0 in
    let summed = summary_is group made.rows (subst (λ l. AllZip (IsSummary as_one) l made.rows) made.grouping.2 made.summaries) in
    let staged : a.staged ≡ (params ∷ (count (length group) ∷ []) ∷ []) ∷ [] = made.having ∙ ap (λ l. filter (λ env. list_all (holds env) []) (map (λ r. params ∷ r ∷ []) l)) summed in
    let kept : a.kept ≡ ([], count (length group) ∷ []) ∷ [] = a.distinct ∙ ap (map (output (count_from tree tests))) staged in
    let ordered = one_order _ a.ordered (subst (λ k. IsPermutation k a.ordered) kept a.same) in
    let found = matched (picks params tests) (λ r. params ∷ r ∷ []) (overlay db [] tree) ∙ ap (λ t. map (λ r. params ∷ r ∷ []) (filter (picks params tests) t)) (plain_trees db tree) in
    let number = length_permutation _ _ made.grouping.1 ∙ ap length found ∙ length-map _ _ in
    a.shown ∙ ap (map (λ (o : Output). o.1)) ordered ∙ ap (λ n. (count n ∷ []) ∷ []) number
