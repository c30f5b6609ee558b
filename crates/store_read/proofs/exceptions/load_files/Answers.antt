use Rattle.store_read.proofs.Vocabulary.{refl, sym, subst, map, ap, ◌∙◌, ◌≡◌, [], List, Any, IsPermutation, AllByRecursion, IfOk-weaker, state, Row, all-permutation, all_has, any_has, NamedSlurm, exception_row, ExceptionRowFits, ShowsNone, exception_columns, contents, slurm, SELECT_ALL_EXCEPTIONS, ExceptionRow, all_exceptions_is, answered, refused_by}
use Rattle.store_transactions.specs.Files.{ShowsExceptions}
use Rattle.store_transactions.proofs.HeldRows.{files_few, files_read}
use Rattle.store_read.proofs.ExceptionsFound.{exceptions_found}
use Rattle.store_read.proofs.HeldAlike.{held_alike}
use Rattle.store_read.proofs.InTurn.{earlier}
use Rattle.store_read.proofs.exceptions.load_files.Goals as goal

pub ask-requires-clause-plain : goal.ask-requires-clause-plain
ask-requires-clause-plain g c = all_exceptions_is.plain

-- rows that all show exceptions are read
none_refused : (table rows : List Row) → AllByRecursion (λ c. (r : ExceptionRow) × ExceptionRowFits r × (c ≡ exception_row r)) (map exception_columns table)
    → IsPermutation (map exception_columns table) rows → ¬ Any (ShowsNone exception_row ExceptionRowFits) rows
none_refused table rows all same other =
    let it = any_has (ShowsNone exception_row ExceptionRowFits) rows other in
    let shown = all_has _ rows it.0 (all-permutation _ _ _ same all) it.1 in
    it.2 shown.0 shown.1 (sym shown.2)

pub returns-in_err-exceptions-clause-schema : goal.returns-in_err-exceptions-clause-schema
returns-in_err-exceptions-clause-schema g c clean is =
    let old = state g.S.Store c.args.conn.now in
    let first = earlier g.S.Store c.ask.ensures.asked clean in
    let rows = c.in_ok-rows.rows.items in
    let it = answered SELECT_ALL_EXCEPTIONS.now [] _ old (state g.S.Store c.ask.new.conn) rows all_exceptions_is.plain all_exceptions_is.unlisted (c.requires.tables first) refl (c.in_ok-rows.ensures.shown clean) in
    let refusal = rw c.deref.ensures.value at (c.read_all.ensures.schema (refused_by _ _ _ c.in_err-exceptions.was c.from_residual-in_err-exceptions.ensures.1 is)) in (
      (c.in_ok-rows.ensures.asked.same clean).0.was_open,
      λ charter all holds fit. none_refused (contents (old.now.trees slurm.tree)) _ (files_read all.files _ holds.files fit) (exceptions_found old.now rows it) refusal,
    )

pub returns-clause-found : goal.returns-clause-found
returns-clause-found g c clean =
    let old = state g.S.Store c.args.conn.now in
    let first = earlier g.S.Store c.ask.ensures.asked clean in
    let rows = c.in_ok-rows.rows.items in
    let it = answered SELECT_ALL_EXCEPTIONS.now [] _ old (state g.S.Store c.ask.new.conn) rows all_exceptions_is.plain all_exceptions_is.unlisted (c.requires.tables first) refl (c.in_ok-rows.ensures.shown clean) in
    let shows : ShowsExceptions c.in_ok-exceptions.exceptions.items (contents (old.now.trees slurm.tree)) = record {
      fit = c.in_ok-exceptions.ensures.fits;
      same = subst (IsPermutation _) (rw c.deref.ensures.value at c.in_ok-exceptions.ensures.shown) (exceptions_found old.now rows it);
    } in
    IfOk-weaker c.group_files.result _ _ (λ files found charter all holds.
    let held = found (contents (old.now.trees slurm.tree)) shows in
    held.same ∙ ap (map (λ (f : NamedSlurm). f.file)) (held_alike held.named all.files _ held.held holds.files))
    c.group_files.ensures.found

pub returns-clause-schema : goal.returns-clause-schema
returns-clause-schema g c clean refused =
    let old = state g.S.Store c.args.conn.now in
    let first = earlier g.S.Store c.ask.ensures.asked clean in
    let rows = c.in_ok-rows.rows.items in
    let it = answered SELECT_ALL_EXCEPTIONS.now [] _ old (state g.S.Store c.ask.new.conn) rows all_exceptions_is.plain all_exceptions_is.unlisted (c.requires.tables first) refl (c.in_ok-rows.ensures.shown clean) in
    let shows : ShowsExceptions c.in_ok-exceptions.exceptions.items (contents (old.now.trees slurm.tree)) = record {
      fit = c.in_ok-exceptions.ensures.fits;
      same = subst (IsPermutation _) (rw c.deref.ensures.value at c.in_ok-exceptions.ensures.shown) (exceptions_found old.now rows it);
    } in (
      (c.in_ok-rows.ensures.asked.same clean).0.was_open,
      λ charter all holds fit. c.group_files.ensures.schema refused (contents (old.now.trees slurm.tree)) shows (files_few all.files _ holds.files fit),
    )
