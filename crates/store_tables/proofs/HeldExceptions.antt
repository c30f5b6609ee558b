-- The rows of the exceptions of a file.
use Rattle.store_tables.proofs.Vocabulary.{◌≡◌, ℕ, ◌+◌, List, ◌++◌, length, ap, arith, length-append, length-map, length_permutation, Row, Exceptions, Assertion, ExceptionRow, exception_row, exception_columns, HoldsExceptions}
use Rattle.store_tables.specs.declared.exception.Exception.TheVariants.{Filter as FilterOf}

module _ (name : List ℕ) (exceptions : Exceptions) (table : List Row) (holds : HoldsExceptions name exceptions table) where
  pub held_number : length exceptions.filters + length exceptions.assertions ≡ length table
  held_number =
      let rows = length_permutation _ _ holds.rows in
      let filters = ap length holds.filters_placed.brought in
      let assertions = ap length holds.assertions_placed.brought in
      omega (
        arith,
        rows,
        filters,
        assertions,
        length-map table exception_columns,
        length-map (holds.filters ++ holds.assertions) exception_row,
        length-append holds.filters holds.assertions,
        length-map holds.filters (λ (r : ExceptionRow). r.exception),
        length-map holds.assertions (λ (r : ExceptionRow). r.exception),
        length-map exceptions.filters FilterOf,
        length-map exceptions.assertions Assertion,
      )
