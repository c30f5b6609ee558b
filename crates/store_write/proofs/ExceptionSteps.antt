-- What the statements on the table of exceptions do, and what they do together.
use Rattle.store_write.proofs.Vocabulary.{◌≡◌, ◌≢◌, ℕ, ◌+◌, ◌/◌, ◌<◌, true, not, List, [], ◌∷◌, ◌++◌, map, filter, flat_map, take, get_or, length, All, Result, Ok, Err, OnOk, refl, sym, ap, subst, ◌∙◌, arith, append-nil, IsPermutation, flat_map-append, length-take, map-append, recursion_from_All, IsPermutation-append_right, IsPermutation-trans, Database, value_rows, State, Null, Row, changed_rows, schema_row, operator_row, prefix_cells, exception_row, slurm, contents, is_table, holder_part, holding_part, granted_part, claim_part, entry_part, HoldsPart, HoldsFromOne, TablesHold, at_positions, file_rows, Edits, PutsRows, TakesRows, entry_rows, IsBounded, MakesChange, RowsBecome, cast_exception, put_terms, put_exception_is, take_exceptions_is, puts_then, has_schema, wrote, ready_still, puts_row, sound_still, taken_more}
use Rattle.store_write.proofs.InTurn.{Does, does}
use Rattle.registry.specs.declared.change.Change.TheVariants.{Exceptions as Replace}
use Rattle.slurm.specs.SlurmSets.{RiseByName}
use Rattle.slurm.specs.declared.filter.Filter.TheVariants.{Under, By, Both}
use Rattle.slurm.specs.declared.set.NamedSlurm.{NamedSlurm}
use Rattle.store_tables.specs.declared.exception.Exception.{Exception}
use Rattle.store_tables.specs.declared.exception.Exception.TheVariants.{Filter as FilterOf, Assertion}
use Rattle.store_tables.specs.declared.exception.ExceptionRow.{ExceptionRow}
use Rattle.store_tables.specs.declared.exception.TheConstants.{DELETE_EXCEPTIONS, INSERT_EXCEPTION}
use Rattle.store_tables.proofs.Deleting as deleting
use Rattle.store_tables.proofs.HeldFiles.{files_held, placed_from}

-- ---- one statement

none_left : {A : Type 0} (xs : List A) → filter (λ x. not true) xs ≡ []
none_left [] = refl
none_left (x ∷ xs) = none_left xs

-- an exception has eight columns, whatever it is
eight : (r : ExceptionRow) → value_rows (exception_row r) 9 (length (put_terms 8) / 9) (put_terms 8) ≡ (Null ∷ exception_row r) ∷ []
eight r = go r.exception
  where
    go : (e : Exception) → let row : ExceptionRow = record r { exception = e } in value_rows (exception_row row) 9 (length (put_terms 8) / 9) (put_terms 8) ≡ (Null ∷ exception_row row) ∷ []
    go (FilterOf (Under p)) = refl
    go (FilterOf (By asn)) = refl
    go (FilterOf (Both p asn)) = refl
    go (Assertion v) = refl

pub takes_exceptions : Does DELETE_EXCEPTIONS.now [] (TakesRows slurm.tree)
takes_exceptions = does _ _ (TakesRows slurm.tree) (λ old new ready ran.
    let has = has_schema [] take_exceptions_is ready ran in
    let w = wrote [] take_exceptions_is ready ran in
    let kept = (deleting.applied 7 slurm refl refl old.now.schema [] old new _ [] ran.0 has w).2 in
    record {
      was_open = ran.1.1.was_open;
      ready = ready_still [] take_exceptions_is ready ran kept;
      schema = kept ∙ sym has;
      sound = λ _. w.sound;
      edits = λ whole. subst (λ by. Edits slurm.tree by old.now new.now) (λ i rows. none_left rows i)
          (deleting.takes 7 slurm refl refl old.now.schema [] (λ c. true) old new _ [] ran.0 has (λ r. refl) whole w);
    })

pub puts_exception : (r : ExceptionRow) → Does INSERT_EXCEPTION.now (exception_row r) (PutsRows slurm.tree (exception_row r ∷ []))
puts_exception r = does _ _ _ (λ old new. puts_row 7 slurm refl old new (exception_row r) (put_terms 8) 9 (exception_row r) put_exception_is (eight r) (cast_exception r))

-- ---- entries of one kind of a file, one after another

module _ {X : Type 0} (name : List ℕ) (of_kind : X → Exception) where
  -- they are at the positions from this one up
  abbrev placed : ℕ → List X → List ExceptionRow
  placed at xs = placed_from name at (map of_kind xs)

  one_more : (at : ℕ) (xs : List X) (x : X) (n : ℕ) → n ≡ at + length xs → placed at (xs ++ x ∷ []) ≡ placed at xs ++ record { file = name; position = n; exception = of_kind x } ∷ []
  one_more at [] x n is = let here : at ≡ n = omega (arith, is) in λ i. record { file = name; position = here i; exception = of_kind x } ∷ []
  one_more at (y ∷ xs) x n is = ap (λ l. record { file = name; position = at; exception = of_kind y } ∷ l) (one_more (at + 1) xs x n (omega (arith, is)))

  pub puts_entry : (xs : List X) (i : ℕ) (x : X) (n : ℕ) (a b c : State) → i < length xs → x ≡ get_or xs i x → n ≡ i + 1
      → PutsRows slurm.tree (entry_rows name of_kind (take i xs)) a b → PutsRows slurm.tree (exception_row (record { file = name; position = n; exception = of_kind x }) ∷ []) b c
      → PutsRows slurm.tree (entry_rows name of_kind (take (i + 1) xs)) a c
  puts_entry xs i x n a b c low is at before put =
      let row : ExceptionRow = record { file = name; position = n; exception = of_kind x } in
      let more = ap (entry_rows name of_kind) (taken_more xs i x low is) ∙ ap (map exception_row) (one_more 1 (take i xs) x n (omega (arith, at, length-take i xs)))
      ∙ map-append exception_row (placed 1 (take i xs)) (row ∷ []) in
      subst (λ rows. PutsRows slurm.tree rows a c) (sym more) (puts_then slurm.tree _ _ a b c before put)

-- ---- the files, one after another

module _ (tree : ℕ) where
  -- rows that are put after those of a table were taken away are its rows
  puts_after : (by : List Row → List Row) (rows : List Row) (a b c : Database) → Edits tree by a b → Edits tree (λ table. rows ++ table) b c → Edits tree (λ table. rows ++ by table) a c
  puts_after by rows a b c first second = record {
    schema = second.schema ∙ first.schema;
    others = λ t is other. second.others t is other ∙ first.others t is other;
    rows = IsPermutation-trans _ _ _ (IsPermutation-append_right rows _ _ first.rows) second.rows;
    whole = λ whole. second.whole (first.whole whole);
  }

pub puts_file : (f : NamedSlurm) (a b c : State) → PutsRows slurm.tree (entry_rows f.name FilterOf f.file.filters) a b → PutsRows slurm.tree (entry_rows f.name Assertion f.file.assertions) b c
    → PutsRows slurm.tree (map exception_row (file_rows f)) a c
puts_file f a b c filters assertions =
    let both = map-append exception_row (at_positions f.name (map FilterOf f.file.filters)) (at_positions f.name (map Assertion f.file.assertions)) in
    subst (λ rows. PutsRows slurm.tree rows a c) (sym both) (puts_then slurm.tree _ _ a b c filters assertions)

pub puts_next : (files : List NamedSlurm) (i : ℕ) (f : NamedSlurm) (a b c : State) → i < length files → f ≡ get_or files i f
    → PutsRows slurm.tree (map exception_row (flat_map file_rows (take i files))) a b → PutsRows slurm.tree (map exception_row (file_rows f)) b c
    → PutsRows slurm.tree (map exception_row (flat_map file_rows (take (i + 1) files))) a c
puts_next files i f a b c low is before put =
    let so_far = flat_map file_rows (take i files) in
    let more = ap (flat_map file_rows) (taken_more files i f low is) ∙ flat_map-append file_rows (take i files) (f ∷ []) ∙ ap (λ rows. so_far ++ rows) (append-nil (file_rows f)) in
    let rows = ap (map exception_row) more ∙ map-append exception_row so_far (file_rows f) in
    subst (λ rows. PutsRows slurm.tree rows a c) (sym rows) (puts_then slurm.tree _ _ a b c before put)

-- the table has the rows of these files and no others, and is the only one that changed
pub replaces : (files : List NamedSlurm) (a b c : State) → RiseByName files → All IsBounded files → TakesRows slurm.tree a b → PutsRows slurm.tree (map exception_row (flat_map file_rows files)) b c
    → MakesChange (RowsBecome (Replace files)) a c
replaces files a b c rising bounded taken put = record {
  was_open = taken.was_open;
  ready = put.ready;
  schema = put.edits.schema ∙ taken.schema;
  sound = λ sound. put.sound (taken.sound sound);
  made = λ charter rows was.
      let all = map exception_row (flat_map file_rows files) in
      let e = puts_after slurm.tree _ all a.now b.now c.now (taken.edits (was.whole slurm.tree refl)) put.edits in
      let still : (so : List Row → Type 0) (t : ℕ) → is_table t ≡ true → t ≢ slurm.tree → so (contents (a.now.trees t)) → so (contents (c.now.trees t)) =
      λ so t is other. subst (λ tree. so (contents tree)) (sym (e.others t is other)) in
      let placed : HoldsFromOne files (contents (c.now.trees slurm.tree)) = subst (λ l. IsPermutation l (contents (c.now.trees slurm.tree))) (append-nil all) e.rows in
      let held : TablesHold charter (changed_rows (Replace files) rows) c.now.trees = record {
        charter_kept = record {
          schema = still (IsPermutation (schema_row ∷ [])) 0 refl (λ same. cc) was.charter_kept.schema;
          operators = still (IsPermutation (map operator_row charter.operators)) 2 refl (λ same. cc) was.charter_kept.operators;
          pool = still (IsPermutation (map prefix_cells charter.pool)) 4 refl (λ same. cc) was.charter_kept.pool;
        };
        holders = still (HoldsPart holder_part rows.of_holder) 6 refl (λ same. cc) was.holders;
        holdings = still (HoldsPart holding_part rows.of_holder) 8 refl (λ same. cc) was.holdings;
        grants = still (HoldsPart granted_part rows.of_holder) 10 refl (λ same. cc) was.grants;
        claims = still (HoldsPart claim_part rows.of_holder) 17 refl (λ same. cc) was.claims;
        entries = still (HoldsPart entry_part rows.of_holder) 19 refl (λ same. cc) was.entries;
        have_entries = was.have_entries;
        unused = still (λ rows. rows ≡ []) 12 refl (λ same. cc) was.unused;
        files = files_held files _ rising (recursion_from_All IsBounded files bounded) placed;
        whole = sound_still slurm.tree _ a.now c.now e was.whole;
      } in
      (held, placed);
}

-- the same where they were put
pub replaced : {X E : Type 0} (r : Result X E) (files : List NamedSlurm) (a b c : State) → RiseByName files → TakesRows slurm.tree a b
    → OnOk r (PutsRows slurm.tree (map exception_row (flat_map file_rows files)) b c) → OnOk r (All IsBounded files) → OnOk r (MakesChange (RowsBecome (Replace files)) a c)
replaced (Ok x) files a b c rising taken put bounded = replaces files a b c rising bounded taken put
replaced (Err e) files a b c rising taken put bounded = tt
