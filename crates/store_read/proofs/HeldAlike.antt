-- A table holds one list of SLURM files at most.
use Rattle.store_read.proofs.Vocabulary.{◌≡◌, ℕ, zero, suc, add-one, ◌<◌, ◌==◌, Bool, true, false, List, [], ◌∷◌, ◌++◌, map, filter, append-nil, Ordering, Less, is_lt, nat_cmp, refl, sym, ap, ap₂, subst, ◌∙◌, arith, IsPermutation, IsSorted, AllByRecursion, on, ordering_reverse, nat_cmp_total, on_total, filter-append, IsPermutation-sym, IsPermutation-trans, Row, IsAscending, all_from_map, all-map, all_of, ascending_weaker, filter_all, filter_none, map-map, IsPermutation-filter, same_vrp, Asn, Vrp, NamedSlurm, ExceptionRow, assertion_cells, exception_cells, exception_row, filter_cells, kind_number, number_cell, ArePlaced, HoldsExceptions, HoldsFiles, is_of_file, one_prefix, same_values, values_shown}
use Rattle.sqlite_keyed.proofs.SortLemmas.{sorted_unique}
use Rattle.slurm.specs.Exceptions.{Exceptions}
use Rattle.slurm.specs.SlurmSets.{exceptions_named}
use Rattle.slurm.specs.declared.filter.Filter.{Filter}
use Rattle.slurm.specs.declared.filter.Filter.TheVariants.{Under, By, Both}
use Rattle.store_tables.specs.declared.exception.Exception.{Exception}
use Rattle.store_tables.specs.declared.exception.Exception.TheVariants.{Filter as FilterOf, Assertion}
use Rattle.store_transactions.proofs.NamedFiles.{files_alike}

-- ---- rows of the same cells

one_asn : (a b : Asn) → number_cell a.0 ≡ number_cell b.0 → a ≡ b
one_asn a b is = let same : a.0 ≡ b.0 = cc in λ i. record { 0 = same i }

one_filter : (f g : Filter) → filter_cells f ≡ filter_cells g → f ≡ g
one_filter (Under p) (Under q) is = ap Under (one_prefix p q cc)
one_filter (Under p) (By b) is = absurd cc
one_filter (Under p) (Both q b) is = absurd cc
one_filter (By a) (Under q) is = absurd cc
one_filter (By a) (By b) is = ap By (one_asn a b cc)
one_filter (By a) (Both q b) is = absurd cc
one_filter (Both p a) (Under q) is = absurd cc
one_filter (Both p a) (By b) is = absurd cc
one_filter (Both p a) (Both q b) is = ap₂ Both (one_prefix p q cc) (one_asn a b cc)

one_assertion : (v w : Vrp) → assertion_cells v ≡ assertion_cells w → v ≡ w
one_assertion v w is =
    let asn = one_asn v.asn w.asn cc in
    let max : v.max ≡ w.max = cc in
    same_vrp v w (one_prefix v.prefix w.prefix cc) max asn

pub one_exception : (r s : ExceptionRow) → exception_row r ≡ exception_row s → r ≡ s
one_exception r s is =
    let file : r.file ≡ s.file = cc in
    let position : r.position ≡ s.position = cc in
    let kind : number_cell (kind_number r.exception) ≡ number_cell (kind_number s.exception) = cc in
    let cells : exception_cells r.exception ≡ exception_cells s.exception = cc in
    let exception = go r.exception s.exception kind cells in
    λ i. record { file = file i; position = position i; exception = exception i }
  where
    go : (d e : Exception) → number_cell (kind_number d) ≡ number_cell (kind_number e) → exception_cells d ≡ exception_cells e → d ≡ e
    go (FilterOf f) (FilterOf g) kind cells = ap FilterOf (one_filter f g cells)
    go (FilterOf f) (Assertion w) kind cells = absurd cc
    go (Assertion v) (FilterOf g) kind cells = absurd cc
    go (Assertion v) (Assertion w) kind cells = ap Assertion (one_assertion v w cells)

same_kind : {X : Type 0} (of_kind : X → Exception) (cells : X → Row) → ((x y : X) → cells x ≡ cells y → x ≡ y) → (xs ys : List X)
    → ((x : X) → exception_cells (of_kind x) ≡ cells x) → map of_kind xs ≡ map of_kind ys → xs ≡ ys
same_kind of_kind cells once xs ys shows same =
    same_values (λ x. exception_cells (of_kind x)) (λ x y is. once x y (sym (shows x) ∙ is ∙ shows y)) xs ys
    (sym (map-map exception_cells of_kind xs) ∙ ap (map exception_cells) same ∙ map-map exception_cells of_kind ys)

-- ---- exceptions at rising positions

abbrev by_position : ExceptionRow → ExceptionRow → Ordering
by_position = on (λ (r : ExceptionRow). r.position) nat_cmp

sorted_from_rising : (rows : List ExceptionRow) → IsAscending (λ r s. by_position r s ≡ Less) rows → IsSorted by_position rows
sorted_from_rising [] up k d p q = absurd (omega arith)
sorted_from_rising (r ∷ []) up k d p q = absurd (omega arith)
sorted_from_rising (r ∷ s ∷ rows) up zero d p q = ap is_lt (nat_cmp_total.antisymm s.position r.position ∙ ap ordering_reverse up.0.0)
sorted_from_rising (r ∷ s ∷ rows) up (suc k) d p q = rw add-one (rw add-one at (sorted_from_rising (s ∷ rows) up.1 k d (omega arith) (omega arith)))

rises : (rows : List ExceptionRow) → IsAscending (λ (r s : ExceptionRow). r.position < s.position) rows → IsAscending (λ r s. by_position r s ≡ Less) rows
rises = ascending_weaker _ _ (λ r s less. below r.position s.position less)
  where
    below : (m n : ℕ) → m < n → nat_cmp m n ≡ Less
    below m n less = grind (arith, less)

one_order : (name : List ℕ) (xs ys : List Exception) (rows others : List ExceptionRow) → ArePlaced name xs rows → ArePlaced name ys others → IsPermutation rows others → xs ≡ ys
one_order name xs ys rows others one other same =
    let is = sorted_unique by_position (on_total (λ (r : ExceptionRow). r.position) nat_cmp_total) rows others (rises rows one.rise) same (sorted_from_rising others (rises others other.rise)) in
    sym one.brought ∙ ap (map (λ (r : ExceptionRow). r.exception)) (sym is) ∙ other.brought

-- ---- the exceptions of a file

abbrev is_filter : ExceptionRow → Bool
is_filter r = kind_number r.exception == 1

abbrev is_assertion : ExceptionRow → Bool
is_assertion r = kind_number r.exception == 2

module _ (name : List ℕ) (e : Exceptions) (table : List Row) (holds : HoldsExceptions name e table) where
  -- the rows of some exceptions are all so, or none is
  all_rows : {X : Type 0} (of_kind : X → Exception) (test : Exception → Bool) (is : Bool) → ((x : X) → test (of_kind x) ≡ is) → (xs : List X) (rows : List ExceptionRow)
      → ArePlaced name (map of_kind xs) rows → AllByRecursion (λ (r : ExceptionRow). test r.exception ≡ is) rows
  all_rows of_kind test is each xs rows placed =
      all_from_map (λ e. test e ≡ is) (λ (r : ExceptionRow). r.exception) rows (subst (AllByRecursion (λ e. test e ≡ is)) (sym placed.brought) (all-map (λ e. test e ≡ is) of_kind xs (all_of _ each xs)))

  just_filters : filter is_filter (holds.filters ++ holds.assertions) ≡ holds.filters
  just_filters =
      filter-append is_filter holds.filters holds.assertions
      ∙ ap₂ ◌++◌ (filter_all is_filter holds.filters (all_rows FilterOf (λ e. kind_number e == 1) true (λ f. refl) e.filters holds.filters holds.filters_placed))
      (filter_none is_filter holds.assertions (all_rows Assertion (λ e. kind_number e == 1) false (λ v. refl) e.assertions holds.assertions holds.assertions_placed))
      ∙ append-nil holds.filters

  just_assertions : filter is_assertion (holds.filters ++ holds.assertions) ≡ holds.assertions
  just_assertions =
      filter-append is_assertion holds.filters holds.assertions
      ∙ ap₂ ◌++◌ (filter_none is_assertion holds.filters (all_rows FilterOf (λ e. kind_number e == 2) false (λ f. refl) e.filters holds.filters holds.filters_placed))
      (filter_all is_assertion holds.assertions (all_rows Assertion (λ e. kind_number e == 2) true (λ v. refl) e.assertions holds.assertions holds.assertions_placed))

exceptions_alike : (name : List ℕ) (a b : Exceptions) (table : List Row) → HoldsExceptions name a table → HoldsExceptions name b table → a ≡ b
exceptions_alike name a b table one other =
    let same = values_shown exception_row one_exception (one.filters ++ one.assertions) (other.filters ++ other.assertions) _ (IsPermutation-trans _ _ _ one.rows (IsPermutation-sym _ _ other.rows)) refl in
    let filters = subst (λ l. IsPermutation l other.filters) (just_filters name a table one) (subst (IsPermutation _) (just_filters name b table other) (IsPermutation-filter is_filter _ _ same)) in
    let assertions = subst (λ l. IsPermutation l other.assertions) (just_assertions name a table one) (subst (IsPermutation _) (just_assertions name b table other) (IsPermutation-filter is_assertion _ _ same)) in
    let first = same_kind FilterOf filter_cells one_filter a.filters b.filters (λ f. refl) (one_order name _ _ one.filters other.filters one.filters_placed other.filters_placed filters) in
    let second = same_kind Assertion assertion_cells one_assertion a.assertions b.assertions (λ v. refl) (one_order name _ _ one.assertions other.assertions one.assertions_placed other.assertions_placed assertions) in
    λ i. record { filters = first i; assertions = second i }

pub held_alike : (a b : List NamedSlurm) (table : List Row) → HoldsFiles a table → HoldsFiles b table → a ≡ b
held_alike a b table one other =
    files_alike a b one.rising other.rising one.some other.some
    (λ name. exceptions_alike name (exceptions_named a name) (exceptions_named b name) (filter (is_of_file name) table) (one.each name) (other.each name))
