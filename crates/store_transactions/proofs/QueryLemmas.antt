-- What a query leaves of a connection.
use Rattle.store_transactions.proofs.Vocabulary.{◌≡◌, ◌⊎◌, inl, inr, ℕ, List, Option, Some, None, Result, Ok, Err, IfOk, IfErr, IsErr, OnOk, IsTrue, false, refl, sym, ap, subst, ◌∙◌, arith, IsErrAnd, IfOk-weaker, err_from_is_err_and, on_ok_weaker, Error, Transaction, Database, Reads, understood, reads_listing, IsSourceOf, State, KeepsCommit, IsUnchanged, IsRolledBack, ShowsRows, FailsToShow, IsTooLate, CommitsShowing, HasCleanDisk, Survives, Ghosts, IsPlain, command_of, reads_as, unchanged_then, never_commits, unchanged_keeps, survives_then, Row, Trees, Command, desk_tables, desk_beside, OverDesk, IsAsBefore, IsReady, StaysInside, state_in, IsAskedInside, Means, beside, at_desk, StoreFault, Schema}
use Rattle.sqlite.specs.State.{IsNotRun, Shown, FailsToQuery}
use Rattle.sqlite.specs.Clock.{timed}
use Rattle.sqlite_schema.specs.declared.command.Returning.{Returning}
use Rattle.store_transactions.proofs.StatementLemmas.{stays_then}

-- a query that answered changed nothing
pub shown_same : (sql : List ℕ) (params : Row) (old new : State) (rows : List Row) → IsPlain (understood old.now.schema sql) → Shown sql params old new rows → IsUnchanged old new
unfolding Shown
shown_same sql params old new rows plain h = let none = (subst IsPlain h.1.is plain).0 in (rw none at h.2).3

pub asked_same : (sql : List ℕ) (command : Command) → Means sql command → (params : Row) (old new : State) (rows : List Row) → old.now.schema.tables ≡ desk_tables → Shown sql params old new rows → IsUnchanged old new
asked_same sql command means params old new rows has = shown_same sql params old new rows (at_desk (λ s. IsPlain (understood s sql)) means.plain _ has)

pub shown_open : (sql : List ℕ) (params : Row) (old new : State) (rows : List Row) → Shown sql params old new rows → IsTrue old.is_open
unfolding Shown
shown_open sql params old new rows h = go h.0.returning h.2
  where
    go : (returning : Option Returning) → ShowsRows old new sql h.0 (timed params h.0.formats h.1.now) rows returning → IsTrue old.is_open
    go None x = x.3.0.was_open
    go (Some what) x = x.1.shown.was_open

-- what a text reads whose meaning is known
pub reads_desk :
    {sql : List ℕ} {command : Command} → Means sql command → (params : Row) (old new : State) (rows : List Row)
    → (IsTrue old.is_open → old.now.schema.tables ≡ desk_tables) → Shown sql params old new rows → Reads command old.now params rows
reads_desk means params old new rows has shown =
    let same = beside old.now.schema (has (shown_open _ params old new rows shown)) in
    reads_as _ params old new (desk_beside old.now.schema) same _ (means.is old.now.schema) (means.plain old.now.schema) (means.unlisted old.now.schema) rows shown

-- a query that failed changed nothing, or undid the transaction
pub failed_to_query : (sql : List ℕ) (params : Row) (old new : State) (e : Error) → FailsToQuery sql params old new e → IsUnchanged old new ⊎ IsRolledBack old new
unfolding FailsToQuery IsNotRun
failed_to_query sql params old new e (inl (inl none)) = inl none.1
failed_to_query sql params old new e (inl (inr fails)) = inr fails.3
failed_to_query sql params old new e (inr ran) = go ran.0.returning ran.2
  where
    go : (returning : Option Returning) → FailsToShow old new sql ran.0 (timed params ran.0.formats ran.1.now) e returning → IsUnchanged old new ⊎ IsRolledBack old new
    go None h = inl h.3
    go (Some what) (inl refused) = inl refused.1
    go (Some what) (inr fails) = inr fails.3

pub kept_inside : (sql : List ℕ) (params : Row) (old new : State) (e : Error) → FailsToQuery sql params old new e ⊎ IsTooLate sql params old new e → KeepsCommit old new
kept_inside sql params old new e (inl failed) = unchanged_keeps old new (failed_to_query sql params old new e failed)
kept_inside sql params old new e (inr late) = unchanged_keeps old new (inl late.5)

-- what was ready and is as it was is ready still
pub still_ready : (old new : State) → IsReady old → IsUnchanged old new → IsReady new
still_ready old new ready same = record { tables = λ _. ap (λ (d : Database). d.schema.tables) same.0.now_is ∙ ready.tables same.0.was_open; inside = same.0.mode ∙ ready.inside }

-- the clauses of a query within a transaction, whatever its rows are kept in
module _ {X : Type 0} (items : X → List Row) (r : Result X Error) (sql : List ℕ) (params : Row) (old new : State) (ready : IsReady old) (plain : OverDesk (λ s. IsPlain (understood s sql))) where
  shown_unchanged : (rows : List Row) → Shown sql params old new rows → IsUnchanged old new
  shown_unchanged rows h = shown_same sql params old new rows (at_desk (λ s. IsPlain (understood s sql)) plain _ (ready.tables (shown_open sql params old new rows h))) h

  pub inside_unchanged : IfOk r (λ x. Shown sql params old new (items x)) → OnOk r (IsUnchanged old new)
  inside_unchanged = IfOk-weaker r _ _ (λ x h. shown_unchanged (items x) h)

  pub inside_ready : IfOk r (λ x. Shown sql params old new (items x)) → OnOk r (IsReady new)
  inside_ready = IfOk-weaker r _ _ (λ x h. still_ready old new ready (shown_unchanged (items x) h))

  pub inside_kept : IfOk r (λ x. Shown sql params old new (items x)) → IfErr r (λ e. FailsToQuery sql params old new e ⊎ IsTooLate sql params old new e) → KeepsCommit old new
  inside_kept = go r
    where
      go : (r : Result X Error) → IfOk r (λ x. Shown sql params old new (items x)) → IfErr r (λ e. FailsToQuery sql params old new e ⊎ IsTooLate sql params old new e) → KeepsCommit old new
      go (Ok x) h fails = unchanged_keeps old new (inl (shown_unchanged (items x) h))
      go (Err e) h fails = kept_inside sql params old new e fails

-- ---- a query outside a transaction, which is compiled first

pub shown_plain : (sql : List ℕ) (params : Row) (old mid new : State) (rows : List Row) → IsPlain (understood mid.now.schema sql) → IsUnchanged old mid → Shown sql params mid new rows → Shown sql params old new rows
unfolding Shown
shown_plain sql params old mid new rows plain same h =
    let none = (subst IsPlain h.1.is plain).0 in
    let full = timed params h.0.formats h.1.now in
    let it = subst (ShowsRows mid new sql h.0 full rows) none h.2 in
    let is : mid.now ≡ old.now = same.0.now_is in (
      h.0,
      record { is = subst (λ (d : Database). understood d.schema sql ≡ Ok h.0) is h.1.is; whole = h.1.whole; given = h.1.given; now = h.1.now },
      subst (ShowsRows old new sql h.0 full rows) (sym none) (it.0, subst (λ (d : Database). IsSourceOf (reads_listing d.schema sql) d it.0) is it.1, it.2, unchanged_then old mid new same it.3),
    )

pub not_run : (sql : List ℕ) (params : Row) (old new : State) (e : Error) → IsNotRun old new sql params e → IsUnchanged old new ⊎ IsRolledBack old new
unfolding FailsToQuery
not_run sql params old new e h = failed_to_query sql params old new e (inl h)

-- outside a transaction all that is shown was committed, so that one undone leaves it too
pub as_before : (old new : State) → (IsTrue old.is_open → old.now ≡ old.committed) → IsUnchanged old new ⊎ IsRolledBack old new → IsTrue new.is_open → IsAsBefore old new
as_before old new settled (inl same) opened = (same.0.was_open, same.0.now_is, same.0.committed_is)
as_before old new settled (inr back) opened = let was = back.was_open opened in (was, (back.undone opened).0 ∙ sym (settled was), (back.undone opened).1)

module _ (sql : List ℕ) (params : Row) (old mid new : State) (has : IsTrue old.is_open → old.now.schema.tables ≡ desk_tables) (plain : OverDesk (λ s. IsPlain (understood s sql))) (compiled : IsUnchanged old mid) where
  plain_then : IsPlain (understood mid.now.schema sql)
  plain_then = at_desk (λ s. IsPlain (understood s sql)) plain _ (ap (λ (d : Database). d.schema.tables) compiled.0.now_is ∙ has compiled.0.was_open)

  pub asked_shown : (rows : List Row) → Shown sql params mid new rows → Shown sql params old new rows
  asked_shown rows h = shown_plain sql params old mid new rows plain_then compiled h

  pub asked_unchanged : (rows : List Row) → Shown sql params mid new rows → IsUnchanged old new
  asked_unchanged rows h = unchanged_then old mid new compiled (shown_same sql params mid new rows plain_then h)

  pub asked_failed : (e : Error) → FailsToQuery sql params mid new e → IsUnchanged old new ⊎ IsRolledBack old new
  asked_failed e h = elim (failed_to_query sql params mid new e h) [
    | inl same ↦ inl (unchanged_then old mid new compiled same)
    | inr back ↦ inr (record {
      was_open = λ _. compiled.0.was_open;
      undone = λ opened. let it = back.undone opened in (it.0 ∙ compiled.0.committed_is, it.1 ∙ compiled.0.committed_is);
      autocommit = back.autocommit;
      unmarked = back.unmarked;
      counts = record { changes = back.counts.changes ∙ compiled.1.changes; last_rowid = back.counts.last_rowid ∙ compiled.1.last_rowid };
    })
  ]

  pub asked_commits : (db : Trees) → ¬ CommitsShowing sql params mid db
  asked_commits db = never_commits sql params mid db plain_then

-- the clauses of a query that was compiled, whatever its rows are kept in
module _ {X : Type 0} (items : X → List Row) (r : Result X Error) (sql text : List ℕ) (params : Row) (old mid new : State) (has : IsTrue old.is_open → old.now.schema.tables ≡ desk_tables)
    (plain : OverDesk (λ s. IsPlain (understood s sql))) (compiled : (text ≡ sql) × IsUnchanged old mid) where
  at_sql : (rows : List Row) → Shown text params mid new rows → Shown sql params mid new rows
  at_sql rows h = subst (λ t. Shown t params mid new rows) compiled.0 h

  pub answer_shown : IfOk r (λ x. Shown text params mid new (items x)) → IfOk r (λ x. Shown sql params old new (items x))
  answer_shown = IfOk-weaker r _ _ (λ x h. asked_shown sql params old mid new has plain compiled.1 (items x) (at_sql (items x) h))

  pub answer_unchanged : IfOk r (λ x. Shown text params mid new (items x)) → OnOk r (IsUnchanged old new)
  answer_unchanged = IfOk-weaker r _ _ (λ x h. asked_unchanged sql params old mid new has plain compiled.1 (items x) (at_sql (items x) h))

  pub answer_kept : IfOk r (λ x. Shown text params mid new (items x)) → IfErr r (FailsToQuery text params mid new) → (IsTrue old.is_open → old.now ≡ old.committed) → IsTrue new.is_open → IsAsBefore old new
  answer_kept = go r
    where
      go : (r : Result X Error) → IfOk r (λ x. Shown text params mid new (items x)) → IfErr r (FailsToQuery text params mid new) → (IsTrue old.is_open → old.now ≡ old.committed) → IsTrue new.is_open → IsAsBefore old new
      go (Ok x) h fails settled = as_before old new settled (inl (asked_unchanged sql params old mid new has plain compiled.1 (items x) (at_sql (items x) h)))
      go (Err e) h fails settled = as_before old new settled (asked_failed sql params old mid new has plain compiled.1 e (subst (λ t. FailsToQuery t params mid new e) compiled.0 fails))

pub answer_survives : (sql text : List ℕ) (params : Row) (old mid new : State) → (HasCleanDisk old → IsTrue old.is_open → old.now.schema.tables ≡ desk_tables) → OverDesk (λ s. IsPlain (understood s sql)) → (HasCleanDisk mid → (text ≡ sql) × IsUnchanged old mid)
    → Survives old mid (λ _. ⊥) → Survives mid new (CommitsShowing text params mid) → Survives old new (λ _. ⊥)
answer_survives sql text params old mid new has plain compiled one two =
    survives_then old mid new (λ _. ⊥) (CommitsShowing text params mid) (λ _. ⊥) (λ _ db none. none) (λ clean db commits.
    let before : HasCleanDisk mid = omega (arith, two.clean) in
    let it = compiled before in
    asked_commits sql params old mid new (has (omega (arith, one.clean))) plain it.1 db (subst (λ t. CommitsShowing t params mid db) it.0 commits)) one two

-- a transaction that committed nothing, once it is rolled back
pub undone_as_before : (old mid new : State) → (IsTrue old.is_open → old.now ≡ old.committed) → KeepsCommit old mid → IsRolledBack mid new → IsTrue new.is_open → IsAsBefore old new
undone_as_before old mid new settled keeps back opened =
    let was_mid = back.was_open opened in
    let was = keeps.was_open was_mid in
    let undone = back.undone opened in
    let committed = keeps.committed was_mid in
    (was, undone.0 ∙ committed ∙ sym (settled was), undone.1 ∙ committed)

-- a text that was not run after it
pub not_run_after : (old mid new : State) (sql : List ℕ) (params : Row) (e : Error) → (IsTrue old.is_open → old.now ≡ old.committed) → (IsTrue mid.is_open → IsAsBefore old mid) → IsNotRun mid new sql params e → IsTrue new.is_open → IsAsBefore old new
not_run_after old mid new sql params e settled before refused opened =
    let it = as_before mid new (λ still. let first = before still in first.1 ∙ settled first.0 ∙ sym first.2) (not_run sql params mid new e refused) opened in
    let first = before it.0 in
    (first.0, it.1 ∙ first.1, it.2 ∙ first.2)

-- what is shown, as what the text answers over the tables of a desk
pub answered :
    (sql : List ℕ) (params values : Row) (old new : State) (rows : List Row)
    → OverDesk (λ s. IsPlain (understood s sql)) → OverDesk (λ s. reads_listing s sql ≡ false) → (IsTrue old.is_open → old.now.schema.tables ≡ desk_tables)
    → values ≡ params → Shown sql values old new rows → Reads (command_of (understood (desk_beside old.now.schema) sql)) old.now params rows
answered sql params values old new rows plain unlisted has is shown =
    let of_params = subst (λ p. Shown sql p old new rows) is shown in
    let same = beside old.now.schema (has (shown_open sql params old new rows of_params)) in
    reads_as sql params old new (desk_beside old.now.schema) same (command_of (understood (desk_beside old.now.schema) sql)) refl (plain old.now.schema) (unlisted old.now.schema) rows of_params

pub no_answer : {Y F : Type 0} (P : Type 0) (s : Result Y F) → IsErr s → OnOk s P
no_answer P (Ok y) none = absurd cc
no_answer P (Err f) none = tt

-- a fault that is passed on
pub refused_by : {A B : Type 0} (r : Result A StoreFault) (s : Result B StoreFault) (e : StoreFault) → r ≡ Err e → IsErrAnd s (λ y. y ≡ e) → s ≡ Err Schema → r ≡ Err Schema
refused_by r s e was passed is =
    let p = err_from_is_err_and s passed in
    of_fault p.0 p.1 p.2
  where
    of_fault : (y : StoreFault) → s ≡ Err y → y ≡ e → r ≡ Err Schema
    of_fault y said same = cc

-- what holds holds where there is an answer
pub always : {X E P : Type 0} (result : Result X E) → P → OnOk result P
always (Ok x) p = p
always (Err e) p = tt

-- ---- queries in turn

module _ {S : Type 0} (g : Ghosts S) where
  pub asked_then : {X Y E F : Type 0} (x : X) (r : Result Y F) (a b c : Transaction S) → IsAskedInside {X = X} {E = E} g a b (Ok x) → IsAskedInside g b c r → IsAskedInside g a c r
  asked_then x r a b c first second = record {
    inside = stays_then g a b c first.inside second.inside;
    same = λ clean. on_ok_weaker r (unchanged_then (state_in g a) (state_in g b) (state_in g c) (first.same (omega (arith, second.inside.survives.clean)))) (second.same clean);
    ready = second.ready;
  }

  pub asked_in_vain : {X E : Type 0} (r : Result X E) (a b : Transaction S) → IsErr r → StaysInside g a b → IsAskedInside g a b r
  asked_in_vain r a b failed stay = record { inside = stay; same = λ clean. no_answer _ r failed; ready = λ clean. no_answer _ r failed }
