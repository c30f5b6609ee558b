-- What a query over one table answers, whatever the table.
use lib.ListN.{get_or-map}
use Rattle.store_tables.proofs.Vocabulary.{◌≡◌, ℕ, pos, negsuc, ◌^◌, ◌-◌, ◌+◌, ◌<◌, Bool, true, false, cond, List, [], ◌∷◌, ◌++◌, map, filter, flat_map, length, take, slice_get, None, nat_le, unwrap_or, get_or, refl, sym, ap, ap₂, subst, ◌∙◌, IsPermutation, IsSorted, Ordering, arith, list_all, AllByRecursion, is_lt, length-map, IsPermutation-map, length_permutation, Int, Key, Row, column, Trees, map-map, all_of, all-map, all-permutation, all-get_or, Term, lit, eval_all, holds}
use Rattle.sqlite_sql.specs.Query.{Query, inner, end, IsAnswer, Output, output, output_cmp, key_cmp}
use Rattle.sqlite_sql.specs.Program.{overlay}

-- SELECT shown FROM one table WHERE tests ORDER BY order, with a LIMIT, where -1 is none
abbrev pub from_table : ℕ → List Term → List Term → List (Term × Key) → Term → Query
from_table tree tests shown order limit = record {
  from = inner tree end;
  filter = tests;
  group = None;
  project = shown;
  distinct = false;
  collations = [];
  order = order;
  limit = limit;
  offset = lit (Int (pos 0));
}

abbrev pub no_limit : Term
no_limit = lit (Int (negsuc 0))

-- the row passes each test
abbrev pub picks : Row → List Term → Row → Bool
picks params tests r = list_all (holds (params ∷ r ∷ [])) tests

pub plain_trees : (db : Trees) (tree : ℕ) → overlay db [] tree ≡ db tree
plain_trees db tree = go (nat_le (2 ^ 31) tree)
  where
    go : (b : Bool) → unwrap_or (cond b (slice_get [] (tree - 2 ^ 31)) None) (db tree) ≡ db tree
    go true = refl
    go false = refl

pub matched : {A B : Type 0} (p : A → Bool) (f : A → B) (xs : List A) → flat_map (λ x. cond (p x) (f x ∷ []) []) xs ≡ map f (filter p xs)
matched p f [] = refl
matched p f (x ∷ xs) =
    elim (p x) as (λ b. cond b (f x ∷ []) [] ++ flat_map (λ y. cond (p y) (f y ∷ []) []) xs ≡ map f (cond b (x ∷ filter p xs) (filter p xs)))
    [ true ↦ ap (λ l. f x ∷ l) (matched p f xs) | false ↦ matched p f xs ]

module _ (tree : ℕ) (tests shown : List Term) (order : List (Term × Key)) (limit : Term) (db : Trees) (params : Row) (rows : List Row) where
  abbrev query : Query
  query = from_table tree tests shown order limit

  -- what the rows are sorted by beside what they show, before LIMIT
  pub outputs : (a : IsAnswer query (overlay db []) params rows) → IsPermutation (map (λ r. output query (params ∷ r ∷ [])) (filter (picks params tests) (db tree))) a.ordered
  outputs a =
      let matches = a.grouped ∙ matched (picks params tests) (λ r. params ∷ r ∷ []) (overlay db [] tree) in
      let kept = a.distinct ∙ ap (map (output query)) matches ∙ map-map (output query) (λ r. params ∷ r ∷ []) _ ∙ ap (λ t. map (λ r. output query (params ∷ r ∷ [])) (filter (picks params tests) t)) (plain_trees db tree) in
      subst (λ k. IsPermutation k a.ordered) kept a.same

  -- the rows of an answer, before LIMIT
  pub shown_rows : (a : IsAnswer query (overlay db []) params rows) → IsPermutation (map (λ r. eval_all shown (params ∷ r ∷ [])) (filter (picks params tests) (db tree))) (map (λ (o : Output). o.1) a.ordered)
  shown_rows a =
      subst (λ l. IsPermutation l (map (λ (o : Output). o.1) a.ordered)) (map-map (λ (o : Output). o.1) (λ r. output query (params ∷ r ∷ [])) _)
      (IsPermutation-map (λ (o : Output). o.1) _ _ (outputs a))

-- the rows of a query with no LIMIT are those that its tests pick
pub permuted : (tree : ℕ) (tests shown : List Term) (order : List (Term × Key)) (db : Trees) (params : Row) (rows : List Row)
    → IsAnswer (from_table tree tests shown order no_limit) (overlay db []) params rows
    → IsPermutation (map (λ r. eval_all shown (params ∷ r ∷ [])) (filter (picks params tests) (db tree))) rows
permuted tree tests shown order db params rows a = rw a.shown (shown_rows tree tests shown order no_limit db params rows a)

-- a query with LIMIT 1 answers one row where its tests pick some
pub first_shown : (tree : ℕ) (tests shown : List Term) (db : Trees) (params : Row) (rows : List Row)
    → IsAnswer (from_table tree tests shown [] (lit (Int (pos 1)))) (overlay db []) params rows
    → (n : List Row) × (length n ≡ length (filter (picks params tests) (db tree))) × (rows ≡ take 1 n)
first_shown tree tests shown db params rows a =
    let all = shown_rows tree tests shown [] (lit (Int (pos 1))) db params rows a in
    (map (λ (o : Output). o.1) a.ordered, length_permutation _ _ all ∙ length-map _ _, a.shown)

-- the rows of a query with no LIMIT are sorted by what ORDER BY names, where the query shows that
module _ (tree : ℕ) (tests shown : List Term) (order : List (Term × Key)) (db : Trees) (params : Row) (rows : List Row) (places : List ℕ) (cmp : Row → Row → Ordering)
    (keys : (r : Row) → eval_all (map (λ (k : Term × Key). k.0) order) (params ∷ r ∷ []) ≡ map (column (eval_all shown (params ∷ r ∷ []))) places)
    (by : (x y : Row) → key_cmp 0 (map (λ (k : Term × Key). k.1) order) (map (column x) places) (map (column y) places) ≡ cmp x y) where
  abbrev IsKeyed : Output → Type 0
  IsKeyed o = o.0 ≡ map (column o.1) places

  sorted_outputs : (all : List Output) → AllByRecursion IsKeyed all → IsSorted (output_cmp (from_table tree tests shown order no_limit)) all → IsSorted cmp (map (λ (o : Output). o.1) all)
  sorted_outputs all keyed up k d low high =
      let first : Output = (map (column d) places, d) in
      let next : k + 1 < length all = omega (arith, high, length-map all (λ (o : Output). o.1)) in
      let x = get_or all (k + 1) first in
      let y = get_or all k first in
      let same = ap₂ (key_cmp 0 (map (λ (k : Term × Key). k.1) order)) (all-get_or IsKeyed all (k + 1) first keyed next) (all-get_or IsKeyed all k first keyed (omega arith)) ∙ by x.1 y.1 in
      let shows = ap₂ cmp (get_or-map (λ (o : Output). o.1) all (k + 1) first) (get_or-map (λ (o : Output). o.1) all k first) in
      ap is_lt (shows ∙ sym same) ∙ up k first low next

  pub sorted : IsAnswer (from_table tree tests shown order no_limit) (overlay db []) params rows → IsSorted cmp rows
  sorted a =
      let keyed = all-permutation IsKeyed _ _ (outputs tree tests shown order no_limit db params rows a) (all-map IsKeyed (λ r. output (from_table tree tests shown order no_limit) (params ∷ r ∷ [])) _ (all_of (λ r. IsKeyed (output (from_table tree tests shown order no_limit) (params ∷ r ∷ []))) keys _)) in
      subst (IsSorted cmp) (sym a.shown) (sorted_outputs a.ordered keyed a.sorted)
