-- Tables that read show values of the types that each query asks for.
use Rattle.store_open.proofs.Vocabulary.{◌≡◌, inl, inr, ℕ, Bool, true, false, ◌||◌, List, [], ◌∷◌, map, drop, length, Result, Ok, Err, IfOk, nat_eq, refl, sym, ap, subst, ◌∙◌, arith, IsPermutation, IsTrue, ⊤, Any, pointwise, AllByRecursion, both_ways, nat_list_eq_equiv, length-map, recursion_from_All, IsPermutation-sym, IsPermutation-trans, IsPermutation-map, length_permutation, Database, Text, Row, map-map, all_of, all_weaker, all-map, all-permutation, Has, has_contained, contains_had, any_has, mapped_has, has_mapped, prefix_eq, is_name, AreAllowedCounts, CharterSets, has_repeat, GrantFits, schema_row, operator_row, prefix_cells, span_cells, grant_cells, holding_row, granted_row, exception_row, ExceptionRowFits, meta, operator, pool, holder, holding, granted, slurm, contents, columns, one_prefix, StoreFault, ShowsSome, ShowsHolder, ShowsOfHolder, TablesRead, columns_and_rowid, shown_in, AreRead, old_schema_row, HasNumber, number_row, ShowsCharter, grant_shown, exception_places, HasTree}
use Rattle.addr.specs.declared.prefix.Prefix.{Prefix}
use Rattle.registry.proofs.Repeats.{has_repeat-moved, prefix_eq-flips}
use Rattle.store_open.proofs.SameCharter.{one_operator, same_members}

-- ---- what was read

-- each row shows one of the values that were read
pub each_read : {X : Type 0} (cells : X → Row) (fits : X → Type 0) (shown : List Row) (values : List X) → AreRead cells fits shown values → AllByRecursion (ShowsSome cells fits) shown
each_read cells fits shown values read =
    all-permutation (ShowsSome cells fits) (map cells values) shown (IsPermutation-sym _ _ read.same)
    (all-map (ShowsSome cells fits) cells values (all_weaker fits _ (λ x fit. (x, fit, refl)) values (recursion_from_All fits values read.fit)))

-- a row that some row of the list is, is in it
pub has_some : {X Y : Type 0} (f : X → Y) (xs : List X) (y : Y) → Any (λ x. f x ≡ y) xs → Has (map f xs) y
has_some f xs y some = let it = any_has (λ x. f x ≡ y) xs some in subst (Has (map f xs)) it.2 (mapped_has f xs it.0 it.1)

pub some_from_has : {X Y : Type 0} (f : X → Y) (xs : List X) (y : Y) → Has (map f xs) y → Any (λ x. f x ≡ y) xs
some_from_has f xs y has =
    let it = has_mapped f xs y has in
    let at = contains_had xs it.0 it.1 in
    (at.0, it.0, at.1, at.2, sym it.2)

pub only_one : {X : Type 0} (xs : List X) (x : X) → Has xs x → length xs ≡ 1 → xs ≡ x ∷ []
only_one [] x has one = absurd has
only_one (y ∷ []) x (inl is) one = λ i. sym is i ∷ []
only_one (y ∷ []) x (inr none) one = absurd none
only_one (y ∷ z ∷ xs) x has one = absurd (omega arith)

-- ---- the number of rows

-- a tree of which nothing is shown has no row
pub no_rows_in : (places : List ℕ) (tree rows : List Row) → IsPermutation (map (columns_and_rowid places) tree) rows → rows ≡ [] → tree ≡ []
no_rows_in places [] rows same none = refl
no_rows_in places (r ∷ tree) rows same none =
    let many = length_permutation _ _ same in
    let few = ap length none in
    absurd (omega (arith, many, few))

-- and of one that has no row nothing is shown
pub rows_of_none : (places : List ℕ) (tree rows : List Row) → IsPermutation (map (columns_and_rowid places) tree) rows → contents tree ≡ [] → rows ≡ []
rows_of_none places tree [] same none = refl
rows_of_none places tree (r ∷ rows) same none =
    let many = length_permutation _ _ same in
    let shown = length-map tree (columns_and_rowid places) in
    let whole : length (contents tree) ≡ length tree = length-map tree (drop 1) in
    let few = ap length none in
    absurd (omega (arith, many, shown, whole, few))

-- ---- tables that read

shows_in : (tree : ℕ) (places : List ℕ) (P Q : Row → Type 0) → ((c : Row) → P c → Q (columns places c)) → (db : Database) → AllByRecursion P (contents (db.trees tree)) → AllByRecursion Q (shown_in tree places db)
shows_in tree places P Q shows db all = all-map Q (columns places) (contents (db.trees tree)) (all_weaker P (λ c. Q (columns places c)) shows (contents (db.trees tree)) all)

pub number_in : (is_old : Bool) (db : Database) → HasNumber is_old db.trees → Has (shown_in meta.tree (0 ∷ 1 ∷ []) db) (number_row is_old)
number_in true db has = mapped_has (columns (0 ∷ 1 ∷ [])) (contents (db.trees meta.tree)) old_schema_row (has_contained _ _ has)
number_in false db has = mapped_has (columns (0 ∷ 1 ∷ [])) (contents (db.trees meta.tree)) schema_row (has_contained _ _ has)

module _ (db : Database) (read : TablesRead db.trees) where
  pub operators_read : IsPermutation (map operator_row read.common.charter.sets.operators) (shown_in operator.tree (0 ∷ []) db)
  operators_read =
      subst (λ l. IsPermutation l (shown_in operator.tree (0 ∷ []) db)) (map-map (columns (0 ∷ [])) operator_row read.common.charter.sets.operators)
      (IsPermutation-map (columns (0 ∷ [])) _ _ read.common.charter.operators_shown)

  pub pool_read : IsPermutation (map prefix_cells read.common.charter.sets.pool) (shown_in pool.tree (0 ∷ 1 ∷ 2 ∷ []) db)
  pool_read =
      subst (λ l. IsPermutation l (shown_in pool.tree (0 ∷ 1 ∷ 2 ∷ []) db)) (map-map (columns (0 ∷ 1 ∷ 2 ∷ [])) prefix_cells read.common.charter.sets.pool)
      (IsPermutation-map (columns (0 ∷ 1 ∷ 2 ∷ [])) _ _ read.common.charter.pool_shown)

  pub operators_in : AllByRecursion (ShowsSome (λ text. Text text ∷ []) (λ text. IsTrue (is_name text))) (shown_in operator.tree (0 ∷ []) db)
  operators_in =
      all-permutation _ (map operator_row read.common.charter.sets.operators) _ operators_read
      (all-map _ operator_row read.common.charter.sets.operators (all_weaker _ _ (λ name is. (name, is, refl)) read.common.charter.sets.operators read.common.charter.named))

  pub pool_in : AllByRecursion (ShowsSome prefix_cells (λ _. ⊤)) (shown_in pool.tree (0 ∷ 1 ∷ 2 ∷ []) db)
  pool_in =
      all-permutation _ (map prefix_cells read.common.charter.sets.pool) _ pool_read
      (all-map _ prefix_cells read.common.charter.sets.pool (all_of _ (λ p. (p, tt, refl)) read.common.charter.sets.pool))

  pub holders_in : AllByRecursion ShowsHolder (shown_in holder.tree (0 ∷ 1 ∷ 2 ∷ []) db)
  holders_in = shows_in holder.tree (0 ∷ 1 ∷ 2 ∷ []) ShowsHolder _ (λ c it. (it.0, it.1, ap (columns (0 ∷ 1 ∷ 2 ∷ [])) it.2)) db read.common.holders

  pub holdings_in : AllByRecursion (ShowsSome span_cells (λ _. ⊤)) (shown_in holding.tree (0 ∷ 1 ∷ 2 ∷ []) db)
  holdings_in = shows_in holding.tree (0 ∷ 1 ∷ 2 ∷ []) (ShowsOfHolder holding_row (λ _. ⊤)) _ (λ c it. (it.1, tt, ap (columns (0 ∷ 1 ∷ 2 ∷ [])) it.3)) db read.common.holdings

  abbrev grant_places : List ℕ
  grant_places = 1 ∷ 2 ∷ 3 ∷ 4 ∷ 5 ∷ 6 ∷ 7 ∷ []

  pub grants_in : AllByRecursion (ShowsSome grant_cells GrantFits) (shown_in granted.tree grant_places db)
  grants_in = shows_in granted.tree grant_places (ShowsOfHolder granted_row GrantFits) _ (λ c it. (it.1, it.2, ap (columns grant_places) it.3 ∙ grant_shown it.0 it.1)) db read.common.grants

  pub exceptions_in : AllByRecursion (ShowsSome exception_row ExceptionRowFits) (shown_in slurm.tree exception_places db)
  exceptions_in = read.common.exceptions

-- ---- charters

-- the tables of operators and of the pool read as these
module _ (db : Database) (names : List (List ℕ)) (prefixes : List Prefix)
    (named : AreRead operator_row (λ name. IsTrue (is_name name)) (shown_in operator.tree (0 ∷ []) db) names) (pooled : AreRead prefix_cells (λ _. ⊤) (shown_in pool.tree (0 ∷ 1 ∷ 2 ∷ []) db) prefixes) where
  pub charter_shown : (r : Result CharterSets StoreFault) → HasTree operator.tree db → HasTree pool.tree db
      → IfOk r (λ charter. IsPermutation names charter.operators) → IfOk r (λ charter. IsPermutation prefixes charter.pool) → IfOk r (λ charter. ShowsCharter charter db)
  charter_shown (Ok charter) one other operators prefixed = record {
    named = all-permutation _ names charter.operators operators (recursion_from_All _ _ named.fit);
    operators = record { whole = one; shown = IsPermutation-sym _ _ (IsPermutation-trans _ _ _ named.same (IsPermutation-map operator_row _ _ operators)) };
    pool = record { whole = other; shown = IsPermutation-sym _ _ (IsPermutation-trans _ _ _ pooled.same (IsPermutation-map prefix_cells _ _ prefixed)) };
  }
  charter_shown (Err e) one other operators prefixed = tt

  -- what is no charter is not read from tables that read
  pub some_charter : TablesRead db.trees → ¬ (AreAllowedCounts names prefixes → (has_repeat (pointwise nat_eq) names || has_repeat prefix_eq prefixes) ≡ true)
  some_charter read refused =
      let kept = read.common.charter in
      let operators = same_members operator_row one_operator kept.sets.operators names _ (operators_read db read) (IsPermutation-sym _ _ named.same) in
      let pool = same_members prefix_cells one_prefix kept.sets.pool prefixes _ (pool_read db read) (IsPermutation-sym _ _ pooled.same) in
      let many = length_permutation _ _ operators in
      let wide = length_permutation _ _ pool in
      let number : AreAllowedCounts names prefixes = rw (many, wide) kept.valid.number in
      let once = has_repeat-moved (pointwise nat_eq) nat_list_eq_equiv.symm kept.sets.operators names operators kept.valid.operators_once in
      let apart = has_repeat-moved prefix_eq prefix_eq-flips kept.sets.pool prefixes pool kept.valid.pool_once in
      both_ways _ (λ i. once i || apart i) (refused number)
