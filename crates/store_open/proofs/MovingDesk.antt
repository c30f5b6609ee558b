-- A database of schema 1 that is moved, and whose rows are read, is a desk with what it held.
use Rattle.store_open.proofs.Vocabulary.{◌≡◌, Bool, true, false, inl, inr, arith, length, [], ◌∷◌, codes, refl, sym, ap, subst, ◌∙◌, IsPermutation, Result, Ok, Err, IfOk, OnOk, Contains-permutation, Contains, Database, State, Shows, Survives, contains_had, Integer, Trees, CharterSets, meta, desk_schema, required_column, contents, AreMovable, IsMoved, IsWidened, TablesHold, old_tables, old_schema_row, HasOldNumber, not_now, moved_hold, old_schema_if, MovesRows, WidensTables, AreMoved, LeavesOldOrMoved, OpensDesk, OldTablesRead, HoldSomeRows, TablesRead, MovesDesk, HasNumber, ShowsNumber, Ghosts, Held, IsClean, ReadAndHold, state}
use Rattle.registry.specs.RowsOfAll.{AllRows}
use Rattle.store_schema.specs.EitherSchema.{EitherSchemaHolds}
use Rattle.store_schema.proofs.Steps.{are_movable}
use Rattle.store_open.proofs.InTurn.{earlier}
use Rattle.store_open.proofs.OldRead.{moved_read, read_movable}
use Rattle.store_open.proofs.Opened.{all_shown}

-- what follows of a value and of two facts
pub if_both : {X E : Type 0} {P M : X → Type 0} {Q R : Type 0} (r : Result X E) → IfOk r P → OnOk r Q → OnOk r R → ((x : X) → P x → Q → R → M x) → IfOk r M
if_both (Ok x) p q r make = make x p q r
if_both (Err e) p q r make = tt

only_number : (trees : Trees) → IsPermutation (old_schema_row ∷ []) (contents (trees meta.tree)) → HasOldNumber trees
only_number trees only = Contains-permutation (old_schema_row ∷ []) (contents (trees meta.tree)) old_schema_row only (contains_had (old_schema_row ∷ []) old_schema_row (inl refl))

module _ (a b : State) (widens : WidensTables a b) where
  -- the row of `meta` stayed
  number_back : HasOldNumber b.now.trees → HasOldNumber a.now.trees
  number_back = subst (λ rows. Contains (contents rows) old_schema_row) (widens.widened.same 0 refl)

  number_on : HasOldNumber a.now.trees → HasOldNumber b.now.trees
  number_on = subst (λ rows. Contains (contents rows) old_schema_row) (sym (widens.widened.same 0 refl))

  -- where its number is not there, the tables of schema 1 do not read
  pub not_numbered : ¬ HasNumber true b.now.trees → ¬ OldTablesRead a.now.trees
  not_numbered none reads = none (number_on (only_number a.now.trees reads.schema))

  module _ (c d : State) (same : c.now ≡ b.now) (moves : MovesRows desk_schema c d) where
    finished : AreMovable a.now.trees → IsMoved a.now.trees d.now.trees
    finished movable = moves.moved a.now.trees movable (subst (λ (db : Database). IsWidened a.now.trees db.trees) (sym same) widens.widened)

    -- nor where the tables that they are moved to do not
    pub not_moved : ¬ TablesRead d.now.trees → ¬ OldTablesRead a.now.trees
    not_moved none reads = none (moved_read a.now.trees d.now.trees (finished (read_movable a.now.trees reads)) reads)

    pub moves_desk : (charter : CharterSets) (e : State) → ShowsNumber true b.now → e.now ≡ d.now → e.in_transaction ≡ true → ReadAndHold charter d.now → MovesDesk charter a.now.trees e
    moves_desk charter e number still inside held =
        subst (λ (db : Database). MovesDesk charter a.now.trees (record e { now = db })) (sym still) (record {
          inside = inside;
          schema = moves.schema;
          sound = moves.sound;
          numbered = number_back (only_number b.now.trees (subst (IsPermutation (old_schema_row ∷ []))
              (all_shown b.now (ap (λ s. s.tables) widens.schema) widens.sound meta 1 (required_column (codes "value") Integer) (inl refl) refl refl refl refl) number.shown));
          moved = finished;
          held = held;
        })

-- ---- the transaction as a whole

old_tables_if : (has_index : Bool) → (old_schema_if has_index).tables ≡ old_tables
old_tables_if true = refl
old_tables_if false = refl

module _ (has_index : Bool) (a e : State) (charter : CharterSets) (old : a.now.schema ≡ old_schema_if has_index) (moves : MovesDesk charter a.now.trees e) where
  tables : a.now.schema.tables ≡ old_tables
  tables = ap (λ s. s.tables) old ∙ old_tables_if has_index

  keeps : (held : CharterSets) (rows : AllRows) → EitherSchemaHolds held rows a.now.trees → TablesHold held rows e.now.trees
  keeps held rows (inl now) = absurd (not_now held rows a.now.trees moves.numbered now)
  keeps held rows (inr was) = moved_hold held rows a.now.trees e.now.trees was (moves.moved (are_movable held rows a.now.trees was))

  are_moved : AreMoved a e.now.trees
  are_moved = record {
    tables = tables;
    desk = record { schema = e.now.schema; tables = ap (λ s. s.tables) moves.schema; sound = moves.sound };
    kept = keeps;
  }

  opens_moved : (f : State) → a.in_transaction ≡ false → Shows e f e.now e.now false → OpensDesk charter a f
  opens_moved f idle shows = record {
    idle = idle;
    tables = inr tables;
    is_open = shows.is_open;
    desk = record { tables = ap (λ (db : Database). db.schema.tables) shows.now_is ∙ ap (λ s. s.tables) moves.schema; settled = shows.committed_is ∙ sym shows.now_is };
    some = subst (λ (db : Database). HoldSomeRows charter db.trees) (sym shows.now_is) moves.held.0;
    reads = subst (λ (db : Database). TablesRead db.trees) (sym shows.now_is) moves.held.1;
    kept = λ held rows holds. subst (λ (db : Database). TablesHold held rows db.trees) (sym shows.now_is) (keeps held rows holds);
    unchanged = λ same. absurd (let e : 8 ≡ 10 = ap length (sym tables ∙ same) in omega (arith, e));
    numbered = λ _. moves.numbered;
  }

-- ---- what the connection shows then

module _ {S : Type 0} (g : Ghosts S) (has_index : Bool) (charter : CharterSets) (a b e f : Held S) (begun : b ≡ record a { in_transaction = true }) (old : a.schema ≡ old_schema_if has_index)
    (commit : Survives (state g e) (state g f) (λ trees. trees ≡ (state g e).now.trees)) (moved : IsClean g e → MovesDesk charter (state g b).now.trees (state g e)) (clean : IsClean g f) where
  late : IsClean g e
  late = earlier commit clean

  moves : MovesDesk charter (state g a).now.trees (state g e)
  moves = rw begun at (moved late)

  pub opens_then : a.in_transaction ≡ false → Shows (state g e) (state g f) (state g e).now (state g e).now false → OpensDesk charter (state g a) (state g f)
  opens_then = opens_moved has_index (state g a) (state g e) charter old moves (state g f)

  -- a crash leaves what it left before the transaction, or what that committed
  pub leaves_then : Survives (state g b) (state g e) (λ _. ⊥) → LeavesOldOrMoved (state g a) (state g f)
  leaves_then inside trees left =
      elim (commit.crash clean trees left) [
        | inl before ↦ elim (inside.crash late trees before) [
          | inl first ↦ inl (rw begun at first)
          | inr none ↦ absurd none
        ]
        | inr is ↦ inr (subst (AreMoved (state g a)) (sym is) (are_moved has_index (state g a) (state g e) charter old moves))
      ]
