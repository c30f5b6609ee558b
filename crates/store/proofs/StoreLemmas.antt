-- What a change that was tried leaves of a store.
use Rattle.store.proofs.Vocabulary.{◌≡◌, inl, inr, Result, Ok, Err, OnOk, OnErr, IfOk, IsTrue, true, false, arith, sym, ap, subst, ◌∙◌, Database, IsDatabase, Held, state, State, HasCleanDisk, IsLive, IsUnchanged, Survives, Shows, survives_begin, Ghosts, Schema, Trees, CharterSets, AllRows, blank_rows, changed_rows, IsAsked, ClaimsDiffer, EntriesDiffer, GivenOnce, EachRows, OpenEachRows, StoreView, IsRead, MayLeave, LeavesOnly, LeavesPlaced, EachHeldRows, HoldsAfter, on_ok_weaker, earlier, PlacesExceptions, MakesChange, RowsBecome, HasDeskTables, IsNew, IsDeskTrees, IsDeskWhileOpen, LeavesNew, CommitsChange, MayCommit, TablesHold}
use Rattle.sqlite.proofs.StateLemmas.{survives_then}
use Rattle.registry.specs.declared.change.Change.{Change}
use Rattle.store_transactions.specs.Statements.{IsAsBefore}
use Rattle.store.proofs.HeldOnce.{held_once}

pub kept_still : (old new : State) → (HasCleanDisk new → HasCleanDisk old) → (HasCleanDisk new → IsTrue new.is_open → IsAsBefore old new) → IsDeskWhileOpen old → IsDeskWhileOpen new
kept_still old new before same kept clean opened =
    let as_before = same clean opened in
    let was = kept (before clean) as_before.0 in
    record { tables = ap (λ (d : Database). d.schema.tables) as_before.1 ∙ was.tables; settled = as_before.2 ∙ was.settled ∙ sym as_before.1 }

pub kept_after : {X E : Type 0} (r : Result X E) (change : Change) (old new : State) → (HasCleanDisk new → HasCleanDisk old) → (HasCleanDisk new → OnOk r (CommitsChange change old new))
    → (HasCleanDisk new → IsTrue new.is_open → OnErr r (IsAsBefore old new)) → IsDeskWhileOpen old → IsDeskWhileOpen new
kept_after (Ok a) change old new before ok err kept clean opened = let made = ok clean in record { tables = made.tables; settled = made.committed }
kept_after (Err e) change old new before ok err kept clean opened = kept_still old new before err kept clean opened

-- the schema stays, whether the change is made or not
pub schema_kept : {X E : Type 0} (r : Result X E) (change : Change) (old new : State) → OnOk r (CommitsChange change old new) → OnErr r (IsAsBefore old new) → new.now.schema ≡ old.now.schema
schema_kept (Ok a) change old new made failed = made.schema
schema_kept (Err e) change old new made failed = ap (λ (d : Database). d.schema) failed.1

-- the store over a connection
abbrev pub over : {S : Type 0} → CharterSets → Held S → StoreView S
over charter connection = record { connection = connection; charter = charter }

module _ {S X E : Type 0} (g : Ghosts S) (r : Result X E) (change : Change) (charter : CharterSets) (old new : Held S) (clean : HasCleanDisk (state g new)) (crash : Survives (state g old) (state g new) (MayCommit change (state g old))) where
  before : HasCleanDisk (state g old)
  before = omega (arith, clean, crash.clean)

  pub holds_ok : OnOk r (CommitsChange change (state g old) (state g new)) → OnOk r (HoldsAfter g (over charter old) (over charter new) (changed_rows change))
  holds_ok = on_ok_weaker r (λ (made : CommitsChange change (state g old) (state g new)) rows holds _ opened. (made.rows charter rows (holds before made.was_open)).0)

  pub may_leave : MayLeave g (over charter old) (over charter new) (changed_rows change)
  may_leave trees left = elim (crash.crash clean trees left) [
    | inl was ↦ inl was
    | inr now ↦ inr (now.4, λ rows holds. subst (TablesHold charter (changed_rows change rows)) (sym now.3) (now.2 charter rows (holds before now.1)).0)
  ]

  -- an open store leaves what it committed
  pub leaves_only : ((trees : Trees) → IsTrue (state g new).is_open → (state g new).may_leave trees → trees ≡ (state g new).committed.trees) → OnOk r (CommitsChange change (state g old) (state g new)) → OnOk r (LeavesOnly g (over charter old) (over charter new) (changed_rows change))
  leaves_only settled = on_ok_weaker r (λ (made : CommitsChange change (state g old) (state g new)) rows holds trees left.
      let shown : IsDeskTrees (state g new).now.trees = record { schema = (state g new).now.schema; tables = made.tables; sound = made.sound } in
      subst (λ t. TablesHold charter (changed_rows change rows) t × IsDeskTrees t) (sym (settled trees made.is_open left ∙ ap (λ (d : Database). d.trees) made.committed))
      ((made.rows charter rows (holds before made.was_open)).0, shown))

  -- it places the exceptions, and they are left so
  pub leaves_placed : ((trees : Trees) → IsTrue (state g new).is_open → (state g new).may_leave trees → trees ≡ (state g new).committed.trees) → OnOk r (CommitsChange change (state g old) (state g new))
      → OnOk r (EachHeldRows g (over charter old) (λ _. LeavesPlaced g change (over charter old) (over charter new)))
  leaves_placed settled = on_ok_weaker r (λ (made : CommitsChange change (state g old) (state g new)) rows holds.
      let placed = (made.rows charter rows (holds before made.was_open)).1 in
      record {
        shown = placed;
        left = λ trees left. subst (PlacesExceptions change (state g old).now.trees) (sym (settled trees made.is_open left ∙ ap (λ (d : Database). d.trees) made.committed)) placed;
      })

  -- the rows before it give no VRP twice
  pub once_before : EntriesDiffer → ClaimsDiffer → IsLive (state g old) → IsDeskWhileOpen (state g old) → OnOk r (CommitsChange change (state g old) (state g new)) → OnOk r (EachHeldRows g (over charter old) GivenOnce)
  once_before entries claims live desk = on_ok_weaker r (λ (made : CommitsChange change (state g old) (state g new)) rows holds.
      let opened = made.was_open in
      held_once entries claims charter rows (state g old).now (live opened).0 (desk before opened).tables (holds before opened))

-- a new store leaves its charter and no holder
pub leaves_new : {S : Type 0} (g : Ghosts S) (charter : CharterSets) (h : Held S) → ((trees : Trees) → IsTrue (state g h).is_open → (state g h).may_leave trees → trees ≡ (state g h).committed.trees) → IsNew charter (state g h)
    → LeavesNew charter (state g h)
leaves_new g charter h settled new trees left =
    let shown : IsDeskTrees (state g h).now.trees = record { schema = (state g h).now.schema; tables = ap (λ (s : Schema). s.tables) new.schema; sound = new.sound } in
    subst (λ t. TablesHold charter blank_rows t × IsDeskTrees t) (sym (settled trees new.is_open left ∙ ap (λ (d : Database). d.trees) new.settled)) (new.rows, shown)

-- ---- a read

-- two reads in turn are one
pub read_then : {S : Type 0} (g : Ghosts S) (a b c : StoreView S) → IsRead g a b → IsRead g b c → IsRead g a c
read_then g a b c first second = record {
  clean = λ clean. first.clean (second.clean clean);
  charter = second.charter ∙ first.charter;
  limit = second.limit ∙ first.limit;
  rows = λ clean rows holds. second.rows clean rows (first.rows (second.clean clean) rows holds);
  crash = λ clean trees left. first.crash (second.clean clean) trees (second.crash clean trees left);
}

-- a query of the tables is one of the rows that the store over them holds
module _ {S : Type 0} (g : Ghosts S) {charter : CharterSets} {old : Held S} {store : StoreView S} (is : over charter old ≡ store) {X E : Type 0} {new : Held S} {r : Result X E} (asked : IsAsked g old new r) (clean : HasCleanDisk (state g new)) where
  had_been : HasCleanDisk (state g old)
  had_been = earlier g asked clean

  pub found_held : (so : X → AllRows → Type 0) → IfOk r (λ x. EachRows (so x) (state g old)) → IfOk r (λ x. EachHeldRows g store (so x))
  found_held so found = go r found (asked.same clean)
    where
      go : (r : Result X E) → IfOk r (λ x. EachRows (so x) (state g old)) → OnOk r (IsUnchanged (state g old) (state g new)) → IfOk r (λ x. EachHeldRows g store (so x))
      go (Ok x) found same = subst (λ held. EachHeldRows g held (so x)) is (λ rows holds. found charter rows (holds had_been same.0.was_open))
      go (Err e) found same = tt

  pub refused_held : (so : AllRows → Type 0) → OpenEachRows so (state g old) → EachHeldRows g store so
  refused_held so refusal = subst (λ held. EachHeldRows g held so) is (λ rows holds. refusal.1 charter rows (holds had_been refusal.0))

-- ---- a change within a transaction, and its commit

module _ {S : Type 0} (g : Ghosts S) (change : Change) (first begun mid last : Held S) (begins : begun ≡ record first { in_transaction = true }) where
  from_first : MakesChange (RowsBecome change) (state g begun) (state g mid) → IsTrue (state g first).is_open × RowsBecome change (state g first).now (state g mid).now × ((state g mid).now.schema ≡ (state g first).now.schema)
      × (IsDatabase (state g first).now → IsDatabase (state g mid).now)
  from_first turned = let it = subst (λ h. MakesChange (RowsBecome change) (state g h) (state g mid)) begins turned in (it.was_open, it.made, it.schema, it.sound)

  pub commit_ok : IsLive (state g first) → MakesChange (RowsBecome change) (state g begun) (state g mid) → Shows (state g mid) (state g last) (state g mid).now (state g mid).now false → CommitsChange change (state g first) (state g last)
  commit_ok live turned shown =
      let it = from_first turned in
      record {
        was_open = it.0;
        is_open = shown.is_open;
        tables = ap (λ (d : Database). d.schema.tables) shown.now_is ∙ turned.ready.tables shown.was_open;
        schema = ap (λ (d : Database). d.schema) shown.now_is ∙ it.2;
        sound = subst IsDatabase (sym shown.now_is) (it.3 (live it.0).0);
        rows = subst (RowsBecome change (state g first).now) (sym shown.now_is) it.1;
        committed = shown.committed_is ∙ sym shown.now_is;
      }

  pub commit_crash : HasDeskTables (state g first) → IsLive (state g first) → Survives (state g begun) (state g mid) (λ _. ⊥) → Survives (state g mid) (state g last) (λ db. db ≡ (state g mid).now.trees) → (HasCleanDisk (state g mid) → MakesChange (RowsBecome change) (state g begun) (state g mid))
      → Survives (state g first) (state g last) (MayCommit change (state g first))
  commit_crash tables live inside end turned =
      let run = survives_begin g first (state g mid) (λ _. ⊥) (subst (λ h. Survives (state g h) (state g mid) (λ _. ⊥)) begins inside) in
      survives_then (state g first) (state g mid) (state g last) (λ _. ⊥) (λ db. db ≡ (state g mid).now.trees) (MayCommit change (state g first)) (λ _ db none. absurd none)
      (λ clean db is.
      let it = from_first (turned (omega (arith, end.clean))) in
      let same = ap (λ (s : Schema). s.tables) it.2 ∙ tables (omega (arith, end.clean, run.clean)) it.0 in
      let shown : IsDeskTrees (state g mid).now.trees = record { schema = (state g mid).now.schema; tables = same; sound = it.3 (live it.0).0 } in
      ((state g mid).now, it.0, it.1, is, subst IsDeskTrees (sym is) shown))
      run end
