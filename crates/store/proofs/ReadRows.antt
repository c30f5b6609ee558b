-- The rows of tables that read are in range.
use Rattle.store.proofs.Vocabulary.{◌≡◌, ℕ, List, ◌++◌, map, filter, Option, Some, None, IsTrue, refl, sym, ap, subst, ◌∙◌, arith, length, ◌≤◌, AllByRecursion, and_from, le-leb, All-from_recursion, recursion_from_All, IsPermutation-sym, Text, Row, column, Trees, all-map, all_from_map, all-filter, Has, all_from, all_has, has_contained, test_from, mapped_has, fits_max_length, is_name, some_row, Auth, RoaPrefix, Granted, AreEntries, Rows, AuthFits, ExceptionsFit, FileFits, FilesFit, FilterFits, FitIfAny, GrantFits, IsCount, VrpFits, EntryRow, claim_of, entry_rows_of, claim_entry, claim_row, entry_row, exception_row, granted_row, holder_row, claim, contents, entry, slurm, ArePlaced, HoldsExceptions, HoldsFiles, is_of_file, claim_part, entry_part, granted_part, holder_part, claim_row_once, entry_row_once, HasSomeAuths, ShowsException, ShowsHolder, ShowsOfHolder, row_of_claim, rows_of_entries, RowsInRangeGive, RowsThatReadFit, gives_each, claim_fits, entries_of_fit, inl, TablesHold, TablesRead, CharterSets, AllRows, in_table, has_entry_row, has_permuted, has_mapped, RowsFit, has_left, has_right}
use Rattle.store_tables.proofs.SomeRow.{has_joined}
use Rattle.slurm.specs.Exceptions.{Exceptions}
use Rattle.slurm.specs.SlurmSets.{exceptions_named}
use Rattle.slurm.specs.declared.set.NamedSlurm.{NamedSlurm}
use Rattle.store_transactions.proofs.NamedFiles.{said}
use Rattle.slurm.specs.declared.exceptions.TheConstants.{MOST_ENTRIES}
use Rattle.store_tables.specs.declared.claim.Claim.{Claim}
use Rattle.store_tables.specs.Decode.{ClaimFits, EntryRowFits, ExceptionFits, exception_columns}
use Rattle.store_tables.specs.declared.exception.Exception.{Exception}
use Rattle.store_tables.specs.declared.exception.Exception.TheVariants.{Filter as FilterOf, Assertion}
use Rattle.store_tables.specs.declared.exception.ExceptionRow.{ExceptionRow}
use Rattle.store_tables.proofs.CellsOnce.{one_grant}
use Rattle.store_tables.proofs.HeldExceptions.{held_number}
use Rattle.store_read.proofs.HeldAlike.{one_exception}
use Rattle.store_transactions.specs.Files.{AreFewOfEach}

-- ---- rows of holders

-- the row of a claim in the table of tables that read shows one in its range, and that of an entry too
claim_in_range : (trees : Trees) → HasSomeAuths trees → (h : List ℕ) (c : Claim) → Has (contents (trees claim.tree)) (claim_row h c) → ClaimFits c
claim_in_range trees read h c has =
    let (x, among, is) = has_mapped row_of_claim read.auths (claim_row h c) (has_permuted _ _ _ (IsPermutation-sym _ _ read.claims_shown) has) in
    subst ClaimFits (sym (claim_row_once h x.holder c (claim_of x.row) is).1) (claim_fits x.row (all_has _ read.auths x read.fit among).1)

entry_in_range : (trees : Trees) → HasSomeAuths trees → (h : List ℕ) (d : EntryRow) → Has (contents (trees entry.tree)) (entry_row h d) → EntryRowFits d
entry_in_range trees read h d has =
    let (x, among, in_rows) = has_joined rows_of_entries read.auths (entry_row h d) (has_permuted _ _ _ (IsPermutation-sym _ _ read.entries_shown) has) in
    let (e, in_entries, is) = has_mapped (entry_row x.holder) (entry_rows_of x.row) (entry_row h d) in_rows in
    subst EntryRowFits (sym (entry_row_once h x.holder d e is).1) (all_has EntryRowFits (entry_rows_of x.row) e (entries_of_fit x.row (all_has _ read.auths x read.fit among).1) in_entries)

module _ (charter : CharterSets) (rows : AllRows) (trees : Trees) (holds : TablesHold charter rows trees) (read : TablesRead trees) (h : List ℕ) (r : Rows) (of : rows.of_holder h ≡ Some r) where
  counters_fit : IsCount r.granted × IsCount r.created
  counters_fit =
      let (shown, fits, is) = all_has ShowsHolder _ _ read.common.holders (in_table holder_part rows.of_holder _ holds.holders (holder_row h r.granted r.created) h r of (inl refl)) in
      let first : r.granted ≡ shown.counters.granted = cc in
      let second : r.created ≡ shown.counters.created = cc in
      (subst IsCount (sym first) fits.1, subst IsCount (sym second) fits.2)

  grant_fits : (g : Granted) → Has r.grants g → GrantFits g
  grant_fits g has =
      let row = in_table granted_part rows.of_holder _ holds.grants (granted_row h g) h r of (mapped_has (granted_row h) r.grants g has) in
      let (k, shown, fits, is) = all_has (ShowsOfHolder granted_row GrantFits) _ _ read.common.grants row in
      subst GrantFits (sym (one_grant g shown cc)) fits

  auth_fits : (x : Auth) → Has r.auths x → AuthFits x
  auth_fits x has =
      let row = in_table claim_part rows.of_holder _ holds.claims (claim_row h (claim_of x)) h r of (mapped_has (λ y. claim_row h (claim_of y)) r.auths x has) in
      let claim = claim_in_range trees read.authorizations h (claim_of x) row in
      record {
        number = claim.number;
        asn = claim.asn;
        entries = all_has (λ (y : Auth). AreEntries y.entries) r.auths x (holds.have_entries h r of) has;
        lengths = test_from (λ (e : RoaPrefix). fits_max_length e.prefix e.max) x.entries (λ e in_x.
            let its = in_table entry_part rows.of_holder _ holds.entries _ h r of (has_entry_row h r x e has in_x) in
            let range = (entry_in_range trees read.authorizations h (claim_entry (claim_of x) e) its).max in
            and_from _ _ (le-leb _ _ range.0) (le-leb _ _ range.1));
        from = claim.from;
        until = claim.until;
      }

  holder_fits : RowsFit r
  holder_fits = record {
    granted = counters_fit.0;
    created = counters_fit.1;
    grants = All-from_recursion GrantFits r.grants (all_from GrantFits r.grants grant_fits);
    auths = All-from_recursion AuthFits r.auths (all_from AuthFits r.auths auth_fits);
  }

-- ---- exceptions

abbrev brings : ExceptionRow → Exception
brings r = r.exception

module _ (name : List ℕ) (exceptions : Exceptions) (table : List Row) (holds : HoldsExceptions name exceptions table) (all : AllByRecursion ShowsException (map exception_columns table)) where
  -- an exception that rows of the table bring is in its range
  brought_fits : (xs : List Exception) (rows : List ExceptionRow) → ArePlaced name xs rows → ((r : ExceptionRow) → Has rows r → Has (holds.filters ++ holds.assertions) r)
      → (e : Exception) → Has xs e → ExceptionFits e
  brought_fits xs rows placed among e has =
      let (r, in_rows, is) = has_mapped brings rows e (subst (λ l. Has l e) (sym placed.brought) has) in
      let shown = all_has ShowsException _ (exception_row r) all (has_permuted _ _ _ holds.rows (mapped_has exception_row _ r (among r in_rows))) in
      subst ExceptionFits (sym (is ∙ ap brings (one_exception r shown.0 shown.2))) shown.1.exception

  exceptions_fit : length table ≤ MOST_ENTRIES → ExceptionsFit exceptions
  exceptions_fit few = record {
    number = omega (arith, few, held_number name exceptions table holds);
    filters = All-from_recursion FilterFits exceptions.filters (all_from FilterFits exceptions.filters (λ f has.
        brought_fits _ _ holds.filters_placed (has_left holds.filters holds.assertions) (FilterOf f) (mapped_has FilterOf exceptions.filters f has)));
    assertions = All-from_recursion VrpFits exceptions.assertions (all_from VrpFits exceptions.assertions (λ v has.
        brought_fits _ _ holds.assertions_placed (has_right holds.filters holds.assertions) (Assertion v) (mapped_has Assertion exceptions.assertions v has)));
  }

module _ (files : List NamedSlurm) (table : List Row) (holds : HoldsFiles files table) (all : AllByRecursion ShowsException (map exception_columns table)) (few : AreFewOfEach table) where
  name_fits : (f : NamedSlurm) → Has files f → IsTrue (is_name f.name)
  name_fits f has =
      let c = some_row files table holds f.name (mapped_has (λ (g : NamedSlurm). g.name) files f has) in
      let shown = all_has ShowsException (map exception_columns table) (exception_columns c.0) all (mapped_has exception_columns table c.0 c.1) in
      let r = shown.0 in
      let cells : Text f.name ≡ Text r.file = sym c.2 ∙ ap (λ d. column d 0) shown.2 in
      let is : f.name ≡ r.file = cc in
      subst (λ n. IsTrue (is_name n)) (sym is) shown.1.file

  file_fits : (f : NamedSlurm) → Has files f → FileFits f
  file_fits f has =
      let of_file = filter (is_of_file f.name) table in
      let mine = all-map ShowsException exception_columns of_file (all-filter (λ c. ShowsException (exception_columns c)) (is_of_file f.name) table (all_from_map ShowsException exception_columns table all)) in
      let says = all_has (λ (g : NamedSlurm). exceptions_named files g.name ≡ g.file) files f (said files holds.rising) has in
      record { name = name_fits f has; file = subst ExceptionsFit says (exceptions_fit f.name (exceptions_named files f.name) of_file (holds.each f.name) mine (few f.name)) }

  files_fit : FilesFit files
  files_fit = All-from_recursion FileFits files (all_from FileFits files file_fits)

pub rows_fit : RowsThatReadFit
rows_fit charter rows trees holds read = (λ h. go h (rows.of_holder h) refl, files_fit rows.files (contents (trees slurm.tree)) holds.files read.common.exceptions read.common.exceptions_number)
  where
    go : (h : List ℕ) (o : Option Rows) → rows.of_holder h ≡ o → FitIfAny o
    go h None of = tt
    go h (Some r) of = holder_fits charter rows trees holds read h r of

pub rows_give : RowsInRangeGive
rows_give rows day fit h r x e there has in_x from until =
    let fits = (subst FitIfAny there (fit.0 h)).auths in
    gives_each x e (all_has AuthFits r.auths x (recursion_from_All AuthFits r.auths fits) (has_contained r.auths x has)) in_x
