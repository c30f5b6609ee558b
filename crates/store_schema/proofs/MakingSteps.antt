-- What each CREATE does to the tables that are made so far.
use Rattle.store_schema.proofs.Vocabulary.{◌≡◌, ℕ, suc, Bool, true, false, List, [], ◌∷◌, ◌++◌, None, Some, slice_get, Ok, refl, sym, ap, subst, ◌∙◌, AllByRecursion, IsPermutation-refl, Row, created, indexed, next_tree, KeepsRows, Tally, Does, lacks_sequence, Database, State, mode_of, Writes, runs_as, Trees, all_both, all-append, CreateTable, CreateIndex, Schema, Table, claim, entry, holding, holding_of, contents, Part, HoldsPart, HoldsFiles, CREATE_HOLDING_INDEX, old_schema, old_schema_without_index, IsOverOld, schema_so_far, tables_so_far, IsMadeTo, Redefines, MakesTable, MakesClaimTables, IsExecuted, went, same_value, each_table}
use Rattle.store_tables.proofs.HeldFiles.{no_files_held}
use Rattle.store_schema.proofs.Creates.{Defines, DefinesIndex, index_defined, old_index_defined}

-- tables that keep their rows stay empty
still_empty : (tables : List Table) (old new : Trees) → KeepsRows tables old new → AllByRecursion (λ t. old t.tree ≡ []) tables → AllByRecursion (λ t. new t.tree ≡ []) tables
still_empty tables old new = all_both (λ t. new t.tree ≡ old t.tree) (λ t. old t.tree ≡ []) (λ t. new t.tree ≡ []) (λ t same none. same ∙ none) tables

-- the first tables of a list are so if all are
of_first : {A : Type 0} (P : A → Type 0) (xs ys : List A) → AllByRecursion P (xs ++ ys) → AllByRecursion P xs
of_first P [] ys all = tt
of_first P (x ∷ xs) ys all = (all.0, of_first P xs ys all.1)

pub redefines_then : (before mid after : Schema) (more : List Table) → mid.tables ≡ before.tables ++ more → (a b c : State) → Redefines before mid a b → Redefines mid after b c → Redefines before after a c
redefines_then before mid after more grown a b c first second = record {
  inside = second.inside;
  schema = second.schema;
  sound = second.sound;
  rows = all_both (λ t. c.now.trees t.tree ≡ b.now.trees t.tree) (λ t. b.now.trees t.tree ≡ a.now.trees t.tree) (λ t. c.now.trees t.tree ≡ a.now.trees t.tree) (λ t later before. later ∙ before) before.tables
      (of_first (λ t. c.now.trees t.tree ≡ b.now.trees t.tree) before.tables more (subst (AllByRecursion (λ t. c.now.trees t.tree ≡ b.now.trees t.tree)) grown second.rows)) first.rows;
}

pub makes_table : (sql : List ℕ) (table : Table) (before after : Schema) → Defines sql table before after → (old new : State) → old.now.schema ≡ before → IsExecuted sql [] old new → MakesTable table before after old new
makes_table sql table before after d old new has ran =
    let runs = runs_as sql [] old new before has CreateTable d.is d.plain ran.0 ran.1.0 in
    let w = subst (λ t. Writes old new None CreateTable t [] ran.0) d.text runs in
    let all = went w.changed in
    let first = went all.1 in
    let made = first.1 in
    let same : made.table ≡ record table { tree = 0 } = same_value (sym made.defined ∙ d.defined) in
    let schema : first.0.schema ≡ after = made.is ∙ ap (λ s. created s made.table) has ∙ ap (created before) same ∙ d.made in
    let plain : lacks_sequence first.0.schema ≡ false = ap lacks_sequence schema ∙ d.uncounted in
    let now : new.now ≡ first.0 = ap (λ (p : Tally × Database). p.1) (same_value all.2) ∙ same_value (rw plain at first.2) in
    let kept : KeepsRows before.tables old.now.trees first.0.trees = subst (λ (s : Schema). KeepsRows s.tables old.now.trees first.0.trees) has made.others in
    let empty : first.0.trees table.tree ≡ [] = subst (λ t. first.0.trees t ≡ []) (ap next_tree has ∙ d.place) made.empty in
    record {
      redefines = record {
        inside = ran.1.1.mode;
        schema = ap (λ (d : Database). d.schema) now ∙ schema;
        sound = w.sound;
        rows = subst (λ (d : Database). KeepsRows before.tables old.now.trees d.trees) (sym now) kept;
      };
      empty = ap (λ (d : Database). d.trees table.tree) now ∙ empty;
    }

-- tables that have no row, and some more of them
grown : (n m : ℕ) (more : List Table) (old new : State) → IsMadeTo n old → Redefines (schema_so_far n) (schema_so_far m) old new → tables_so_far m ≡ tables_so_far n ++ more
    → AllByRecursion (λ t. new.now.trees t.tree ≡ []) more → IsMadeTo m new
grown n m more old new before made next empty = record {
  inside = made.inside;
  schema = made.schema;
  sound = λ _. made.sound;
  empty = subst (AllByRecursion (λ t. new.now.trees t.tree ≡ [])) (sym next)
      (all-append (λ t. new.now.trees t.tree ≡ []) (tables_so_far n) more (still_empty (tables_so_far n) old.now.trees new.now.trees made.rows before.empty) empty);
}

pub makes : (n : ℕ) (sql : List ℕ) (table : Table) → Defines sql table (schema_so_far n) (schema_so_far (suc n)) → tables_so_far (suc n) ≡ tables_so_far n ++ table ∷ []
    → (old new : State) → IsMadeTo n old → IsExecuted sql [] old new → IsMadeTo (suc n) new
makes n sql table d next old new before ran =
    let made = makes_table sql table (schema_so_far n) (schema_so_far (suc n)) d old new before.schema ran in
    grown n (suc n) (table ∷ []) old new before made.redefines next (made.empty, tt)

pub makes_claim_tables : (a b c : State) → MakesTable claim (schema_so_far 8) (schema_so_far 9) a b → MakesTable entry (schema_so_far 9) (schema_so_far 10) b c → MakesClaimTables a c
makes_claim_tables a b c first second = record {
  redefines = redefines_then (schema_so_far 8) (schema_so_far 9) (schema_so_far 10) (claim ∷ []) refl a b c first.redefines second.redefines;
  no_claims = each_table (λ t. c.now.trees t ≡ b.now.trees t) (tables_so_far 9) second.redefines.rows claim.tree refl ∙ first.empty;
  no_entries = second.empty;
}

-- an empty table has the rows of no holder
pub none_held : (part : Part) (table : List Row) → table ≡ [] → HoldsPart part (λ h. None) (contents table)
none_held part table none = rw none (record { each = λ h. IsPermutation-refl []; named = tt })

-- and those of no SLURM file
pub none_of_files : (table : List Row) → table ≡ [] → HoldsFiles [] (contents table)
none_of_files table none = rw none no_files_held

-- the index makes no table, and changes no row
pub makes_index_of : (before after : Schema) → slice_get before.tables 4 ≡ Some holding → DefinesIndex CREATE_HOLDING_INDEX.now before after
    → (old new : State) → old.now.schema ≡ before → IsExecuted CREATE_HOLDING_INDEX.now [] old new → Redefines before after old new
makes_index_of before after there d old new has ran =
    let runs = runs_as CREATE_HOLDING_INDEX.now [] old new before has (CreateIndex 4) d.is d.plain ran.0 ran.1.0 in
    let w = subst (λ t. Writes old new None (CreateIndex 4) t [] ran.0) d.text runs in
    let found = subst (λ s. Does old.step_limit (mode_of old) [] (record old.now { schema = s }) CREATE_HOLDING_INDEX.now None (CreateIndex 4) (Ok (w.tally, new.now))) has w.changed in
    let all = went (rw there at found) in
    let made = all.1 in
    let same : made.index ≡ record holding_of { tree = 0 } = same_value (sym made.defined ∙ d.defined) in
    let now : new.now ≡ all.0 = ap (λ (p : Tally × Database). p.1) (same_value all.2) in
    record {
      inside = ran.1.1.mode;
      schema = ap (λ (d : Database). d.schema) now ∙ made.is ∙ ap (indexed before holding) same ∙ d.made;
      sound = w.sound;
      rows = subst (λ (d : Database). KeepsRows before.tables old.now.trees d.trees) (sym now) made.rows;
    }

pub makes_index : (old new : State) → old.now.schema ≡ schema_so_far 10 → IsExecuted CREATE_HOLDING_INDEX.now [] old new → Redefines (schema_so_far 10) (schema_so_far 11) old new
makes_index = makes_index_of (schema_so_far 10) (schema_so_far 11) refl index_defined

pub makes_old_index : (is_wanted : Bool) (old new : State) → is_wanted ≡ true → IsMadeTo 8 old → IsExecuted CREATE_HOLDING_INDEX.now [] old new → IsOverOld is_wanted new
makes_old_index false old new is before ran = absurd cc
makes_old_index true old new is before ran =
    let made = makes_index_of old_schema_without_index old_schema refl old_index_defined old new before.schema ran in
    record { inside = made.inside; schema = made.schema }

-- the last tables and the index after the eight tables, all without a row
pub makes_last : (a b c : State) → IsMadeTo 8 a → MakesClaimTables a b → IsExecuted CREATE_HOLDING_INDEX.now [] b c → IsMadeTo 11 c
makes_last a b c before made ran =
    let ten = grown 8 10 (claim ∷ entry ∷ []) a b before made.redefines refl (made.no_claims, (made.no_entries, tt)) in
    grown 10 11 [] b c ten (makes_index b c ten.schema ran) refl tt
