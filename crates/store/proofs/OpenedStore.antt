-- What an opened store holds.
use Rattle.store.proofs.Vocabulary.{◌≡◌, IsTrue, sym, ap, subst, ◌∙◌, Database, Held, state, State, HasCleanDisk, IsLive, Ghosts, Trees, CharterSets, IsCharter, TablesHold, IsOpened, IsDeskTrees, OpensDesk}
use Rattle.store_open.proofs.SameCharter.{same_charter}
use Rattle.store.proofs.ReadRows.{rows_fit}
use Rattle.store.proofs.StoreLemmas.{over}

module _ {S : Type 0} (g : Ghosts S) (charter : CharterSets) (found : State) (h : Held S) (is : OpensDesk charter found (state g h)) where
  pub opened_store : IsCharter charter → IsLive (state g h) → HasCleanDisk (state g h)
      → ((trees : Trees) → IsTrue (state g h).is_open → (state g h).may_leave trees → trees ≡ (state g h).committed.trees)
      → IsOpened g found (over charter h)
  opened_store rising live clean settled = record {
    idle = is.idle;
    tables = is.tables;
    is_open = is.is_open;
    unchanged = is.unchanged;
    some = (is.some.0, λ _ _. is.some.1, rows_fit charter is.some.0 (state g h).now.trees is.some.1 is.reads);
    reads = is.reads;
    same = λ other rows valid holds.
        let kept : TablesHold other rows (state g h).now.trees = is.kept other rows holds in
        let one : charter ≡ other = same_charter charter other (state g h).now.trees rising valid is.some.1.charter_kept kept.charter_kept in
        (one, λ _ _. subst (λ c. TablesHold c rows (state g h).now.trees) (sym one) kept);
    left = λ rows holds trees leaves.
        subst (TablesHold charter rows) (sym (settled trees is.is_open leaves ∙ ap (λ (d : Database). d.trees) is.desk.settled)) (holds clean is.is_open);
    listed = λ trees leaves.
        let shown : IsDeskTrees (state g h).now.trees = record { schema = (state g h).now.schema; tables = is.desk.tables; sound = (live is.is_open).0 } in
        subst IsDeskTrees (sym (settled trees is.is_open leaves ∙ ap (λ (d : Database). d.trees) is.desk.settled)) shown;
  }
