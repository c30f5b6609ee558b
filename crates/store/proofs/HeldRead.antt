-- Tables of either schema that hold a charter and rows that fit read.
use Rattle.store.proofs.Vocabulary.{◌≡◌, ℕ, Bool, true, false, ◌||◌, List, [], ◌∷◌, Option, Some, refl, inl, inr, sym, subst, IsTrue, map, IsPermutation, ⊤, AllByRecursion, recursion_from_All, Row, Trees, Has, all_has, all_from, contains_had, has_mapped, is_name, CharterSets, IsCharter, Charter, Command, Register, History, registers, is_registered, Rows, RowsIfAny, RowsFit, AuthFits, GrantFits, CommandFits, HistoryFits, FilesFit, AllRows, HasRows, IsLegal, same_name-true, schema_row, operator_row, prefix_cells, holder_row, holding_row, granted_row, meta, operator, pool, contents, Part, TablesHold, HoldsPart, holder_part, holding_part, granted_part, has_permuted, of_some, OldTablesHold, HistoriesRead, OldHistoriesRead, OldTablesRead, ShowsHolder, ShowsOfHolder, TablesRead, files_few, files_read, CommonTablesRead, HoldsFiles, slurm}
use Rattle.registry_laws.specs.Ranges.{FilesInForceFit, LegalRowsFit}
use Rattle.store.proofs.Gathering.{some_auths, some_old_auths}

-- each row of a part shows what the rows of its holder are
of_part : (part : Part) (rows : List ℕ → Option Rows) (table : List Row) (So : Row → Type 0) → HoldsPart part rows table
    → ((h : List ℕ) (r : Rows) (c : Row) → rows h ≡ Some r → Has (part.rows h r) c → So c) → AllByRecursion So table
of_part part rows table So holds shows = all_from So table (λ c has. let it = of_some part rows table holds c has in shows it.0 it.1 c it.2 it.3)

-- each holder has a name, and rows that fit
abbrev RowsFitNamed : AllRows → Type 0
RowsFitNamed rows = (h : List ℕ) (r : Rows) → rows.of_holder h ≡ Some r → IsTrue (is_name h) × RowsFit r

-- ---- the tables

one_row : (row c : Row) → Has (row ∷ []) c → c ≡ row
one_row row c (inl is) = is
one_row row c (inr none) = absurd none

module _ (charter : CharterSets) (rows : AllRows) (trees : Trees) (is : IsCharter charter)
    (named : AllByRecursion (λ name. IsTrue (is_name name)) charter.operators) (fit : RowsFitNamed rows) (files_fit : FilesFit rows.files) where
  auths_fit : (h : List ℕ) (r : Rows) → rows.of_holder h ≡ Some r → IsTrue (is_name h) × AllByRecursion AuthFits r.auths
  auths_fit h r there = let it = fit h r there in (it.0, recursion_from_All AuthFits r.auths it.1.auths)

  -- what the tables of both schemas have alike
  common_read : IsPermutation (map operator_row charter.operators) (contents (trees operator.tree)) → IsPermutation (map prefix_cells charter.pool) (contents (trees pool.tree))
      → HoldsPart holder_part rows.of_holder (contents (trees holder_part.tree)) → HoldsPart holding_part rows.of_holder (contents (trees holding_part.tree))
      → HoldsPart granted_part rows.of_holder (contents (trees granted_part.tree)) → HoldsFiles rows.files (contents (trees slurm.tree)) → CommonTablesRead trees
  common_read operators pool holders holdings grants files = record {
    charter = record { sets = charter; valid = is; named = named; operators_shown = operators; pool_shown = pool };
    holders = of_part holder_part rows.of_holder _ ShowsHolder holders (λ h r c there has.
        let it = fit h r there in
        (record { name = h; counters = record { granted = r.granted; created = r.created } }, (it.0, it.1.granted, it.1.created), one_row (holder_row h r.granted r.created) c has));
    holdings = of_part holding_part rows.of_holder _ (ShowsOfHolder holding_row (λ _. ⊤)) holdings (λ h r c there has.
        let it = has_mapped (holding_row h) r.holdings c has in (h, it.0, tt, it.2));
    grants = of_part granted_part rows.of_holder _ (ShowsOfHolder granted_row GrantFits) grants (λ h r c there has.
        let it = has_mapped (granted_row h) r.grants c has in
        (h, it.0, all_has GrantFits r.grants it.0 (recursion_from_All GrantFits r.grants (fit h r there).1.grants) it.1, it.2));
    exceptions = files_read rows.files _ files files_fit;
    exceptions_number = files_few rows.files _ files files_fit;
  }

  held_read : TablesHold charter rows trees → TablesRead trees
  held_read holds = record {
    schema = contains_had _ schema_row (has_permuted (schema_row ∷ []) (contents (trees meta.tree)) schema_row holds.charter_kept.schema (inl refl));
    common = common_read holds.charter_kept.operators holds.charter_kept.pool holds.holders holds.holdings holds.grants holds.files;
    authorizations = some_auths rows.of_holder trees holds.claims holds.entries holds.unused auths_fit;
  }

  old_held_read : OldTablesHold charter rows trees → OldTablesRead trees
  old_held_read holds = record {
    schema = holds.charter_kept.schema;
    common = common_read holds.charter_kept.operators holds.charter_kept.pool holds.holders holds.holdings holds.grants holds.files;
    authorizations = some_old_auths rows.of_holder trees holds.auths holds.have_one_entry auths_fit;
    whole = holds.whole;
  }

-- ---- after a history

named_by : (command : Command) (h : List ℕ) → registers command h ≡ true → CommandFits command → IsTrue (is_name h)
named_by (Register holder) h is fit = subst (λ k. IsTrue (is_name k)) (same_name-true holder h is) fit
named_by _ h is fit = absurd cc

pub registered_named : (history : History) (h : List ℕ) → is_registered history h ≡ true → HistoryFits history → IsTrue (is_name h)
registered_named [] h is fit = absurd cc
registered_named (e ∷ before) h is fit = go (registers e.command h) refl is (λ later. registered_named before h later fit.1)
  where
    go : (b : Bool) → registers e.command h ≡ b → (b || is_registered before h) ≡ true → (is_registered before h ≡ true → IsTrue (is_name h)) → IsTrue (is_name h)
    go true here is later = named_by e.command h here fit.0.command
    go false there is later = later is

module _ (rows_fit : LegalRowsFit) (in_force_fit : FilesInForceFit) where
  rows_named : (charter : Charter) (history : History) (rows : AllRows) → IsLegal charter history → HistoryFits history → HasRows rows history → RowsFitNamed rows
  rows_named charter history rows legal fits have h r there =
      let of = subst (RowsIfAny history h) there (have.holders h) in
      (registered_named history h of.0 fits, rows_fit charter history h r legal fits of.1)

  in_force : (history : History) (rows : AllRows) → HistoryFits history → HasRows rows history → FilesFit rows.files
  in_force history rows fits have = subst FilesFit (sym have.files) (in_force_fit history fits)

  pub opens_again : HistoriesRead
  opens_again charter history rows trees legal fits have is named =
      held_read charter rows trees is named (rows_named charter history rows legal fits have) (in_force history rows fits have)

  pub old_opens_again : OldHistoriesRead
  old_opens_again charter history rows trees legal fits have is named =
      old_held_read charter rows trees is named (rows_named charter history rows legal fits have) (in_force history rows fits have)
