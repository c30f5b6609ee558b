-- What is left of a connection once a taker took the rows of an answer.
use Rattle.store_transactions.proofs.Vocabulary.{◌≡◌, ◌⊎◌, inl, inr, ℕ, false, List, Result, Ok, Err, IfErr, IfOk, OnOk, OnErr, IsTrue, refl, sym, ap, subst, ◌∙◌, arith, IfOk-weaker, Error, Database, understood, reads_listing, State, CommitsShowing, FailsToQuery, HasCleanDisk, IsRolledBack, IsUnchanged, Shown, Survives, IsPlain, never_commits, unchanged_then, survives_weaker, Row, desk_tables, OverDesk, at_desk, IsAsBefore, StoreFault, AnswersWith}
use Rattle.store_transactions.proofs.QueryLemmas.{answered, as_before, asked_shown, asked_unchanged, failed_to_query, shown_plain}

pub unchanged_or_undone : (old mid new : State) → IsUnchanged old mid → IsUnchanged mid new ⊎ IsRolledBack mid new → IsUnchanged old new ⊎ IsRolledBack old new
unchanged_or_undone old mid new first (inl same) = inl (unchanged_then old mid new first same)
unchanged_or_undone old mid new first (inr back) = inr (record {
  was_open = λ _. first.0.was_open;
  undone = λ opened. let it = back.undone opened in (it.0 ∙ first.0.committed_is, it.1 ∙ first.0.committed_is);
  autocommit = back.autocommit;
  unmarked = back.unmarked;
  counts = record { changes = back.counts.changes ∙ first.1.changes; last_rowid = back.counts.last_rowid ∙ first.1.last_rowid };
})

pub commits_nothing : (sql : List ℕ) (params : Row) (old new : State) → (HasCleanDisk old → IsPlain (understood old.now.schema sql)) → Survives old new (CommitsShowing sql params old) → Survives old new (λ _. ⊥)
commits_nothing sql params old new plain one = survives_weaker old new _ _ (λ clean db. never_commits sql params old db (plain (omega (arith, clean, one.clean)))) one

-- what holds holds where there is none
pub always_on_err : {X E P : Type 0} (r : Result X E) → P → OnErr r P
always_on_err (Ok x) p = tt
always_on_err (Err e) p = p

pub fact_on_err : {X E : Type 0} (P : Type 0) (r : Result X E) (e : E) → r ≡ Err e → OnErr r P → P
fact_on_err P r e is holds = subst (λ s. OnErr s P) is holds

pub refused_err : {X : Type 0} (r : Result X Error) (sql : List ℕ) (params : Row) (old new : State) → IfErr r (FailsToQuery sql params old new) → (e : Error) → r ≡ Err e → IsUnchanged old new ⊎ IsRolledBack old new
refused_err r sql params old new fails e is = failed_to_query sql params old new e (subst (λ s. IfErr s (FailsToQuery sql params old new)) is fails)

-- the answer at its end, as that of the connection before
pub shown_from_start : (sql : List ℕ) (params : Row) (old mid new : State) (rows : List Row) → IsPlain (understood old.now.schema sql) → IsUnchanged old mid → Shown sql params mid new rows → Shown sql params old new rows
shown_from_start sql params old mid new rows plain same shown =
    shown_plain sql params old mid new rows (subst (λ (d : Database). IsPlain (understood d.schema sql)) (sym same.0.now_is) plain) same shown

pub plain_after : (sql : List ℕ) (old mid : State) → (IsTrue old.is_open → old.now.schema.tables ≡ desk_tables) → OverDesk (λ s. IsPlain (understood s sql)) → IsUnchanged old mid → IsPlain (understood mid.now.schema sql)
plain_after sql old mid has plain same = at_desk (λ s. IsPlain (understood s sql)) plain _ (ap (λ (d : Database). d.schema.tables) same.0.now_is ∙ has same.0.was_open)

module _ {X : Type 0} (Took : X → List Row → Type 0) (r : Result X StoreFault) (sql : List ℕ) (params : Row) (old mid new : State) (has : IsTrue old.is_open → old.now.schema.tables ≡ desk_tables)
    (plain : OverDesk (λ s. IsPlain (understood s sql))) (compiled : IsUnchanged old mid) (took : IfOk r (λ x. (rows : List Row) × Shown sql params mid new rows × Took x rows)) where
  pub taken_same : OnOk r (IsUnchanged old new)
  taken_same = IfOk-weaker r _ _ (λ x h. asked_unchanged sql params old mid new has plain compiled h.0 h.1) took

  pub taken_rows : OverDesk (λ s. reads_listing s sql ≡ false) → IfOk r (λ x. (rows : List Row) × AnswersWith sql params old.now rows × Took x rows)
  taken_rows unlisted =
      IfOk-weaker r _ _ (λ x h. (h.0, answered sql params params old new h.0 plain unlisted has refl (asked_shown sql params old mid new has plain compiled h.0 h.1), h.2)) took

  pub taken_kept : OnErr r (IsUnchanged mid new ⊎ IsRolledBack mid new) → (IsTrue old.is_open → old.now ≡ old.committed) → IsTrue new.is_open → IsAsBefore old new
  taken_kept kept settled = as_before old new settled (go r taken_same kept)
    where
      go : (s : Result X StoreFault) → OnOk s (IsUnchanged old new) → OnErr s (IsUnchanged mid new ⊎ IsRolledBack mid new) → IsUnchanged old new ⊎ IsRolledBack old new
      go (Ok x) same kept = inl same
      go (Err e) same kept = unchanged_or_undone old mid new compiled kept
