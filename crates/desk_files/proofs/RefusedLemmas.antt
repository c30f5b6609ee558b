-- What an opening that was refused leaves of what it found.
use Rattle.desk_files.proofs.Vocabulary.{◌≡◌, ◌∙◌, inl, inr, IsTrue, List, ap, subst, sym, Held, state, Opens, State, Trees, IsQuiet, Charter, History, Asked, AreMoved, LeavesOldOrMoved, HoldDesk, MayBeLeft, MayBeFound, left_found}
use Rattle.sqlite.specs.Store.{Ghosts}

-- the trees that were moved hold what was found
pub moved_left : (charter : Charter) (before : History) (pending : List Asked) (found : State) (trees : Trees)
    → MayBeFound charter before pending found.now.trees → AreMoved found trees → MayBeLeft charter before pending trees
moved_left charter before pending found trees (after, inl same, (rows, has, held)) moved =
    inl (subst (λ (h : History). HoldDesk charter h trees) same (rows, has, moved.kept charter rows held, moved.desk))
moved_left charter before pending found trees (after, inr (asked, among, accepted), (rows, has, held)) moved =
    inr (asked, after, among, accepted, (rows, has, moved.kept charter rows held, moved.desk))

-- a crash of an open connection leaves what it shows
pub leaves_shown : {S : Type 0} (g : Ghosts S) (conn : Held S) (trees : Trees)
    → ((db : Trees) → IsTrue (state g conn).is_open → (state g conn).may_leave db → db ≡ (state g conn).committed.trees)
    → Opens (state g conn) → (state g conn).may_leave trees → trees ≡ (state g conn).now.trees
leaves_shown g conn trees settled opens may = settled trees opens.is_open may ∙ sym (ap (λ d. d.trees) opens.clean)

-- a store that was given back by a refused opening leaves no more than was found
pub refused_left : {S : Type 0} (g : Ghosts S) (conn refused : Held S) (store : S)
    → ((db : Trees) → IsTrue (state g conn).is_open → (state g conn).may_leave db → db ≡ (state g conn).committed.trees)
    → Opens (state g conn) → LeavesOldOrMoved (state g conn) (state g refused)
    → IsQuiet g.view g.faults g.recovers g.is_shielded refused.store store
    → (charter : Charter) (history : History) (pending : List Asked)
    → MayBeLeft charter history pending (state g conn).now.trees
    → (trees : Trees) → g.recovers store trees → MayBeLeft charter history pending trees
refused_left g conn refused store settled opens leaves quiet charter history pending held trees may =
    elim (leaves trees (quiet.outcomes trees may)) [
      | inl old ↦ subst (MayBeLeft charter history pending) (sym (leaves_shown g conn trees settled opens old)) held
      | inr moved ↦ moved_left charter history pending (state g conn) trees (left_found charter history pending _ held) moved
    ]
