-- What an end and a stop leave of a desk's files, and what the next open finds there.
use Rattle.desk_files.proofs.Vocabulary.{◌≡◌, inl, ap, sym, subst, ◌∙◌, IsTrue, List, Result, Ok, Err, IfOk, arith, ∥∥₁_elim, ∥∥₁_map, Ghosts, Files, AreClean, Image, Trees, IsClean, IsQuiet, FileStore, FailsToClose, file_state, image_of, over_files, Finds, HoldsDatabase, IsOpened, AreDatabases, Held, HasCleanDisk, IsLive, History, Asked, Charter, IsDeskTrees, IsDeskWhileOpen, LeavesAtMost, charter_of, ContinuesHistories, HoldsHistory, IsOnCleanDisk, Represents, FindsLeft, HoldHistory, MayBeFound, MayBeLeftInEitherSchema, ResumesHistories, Desk, UnclosedLeaves, CloseFault, AreLeftFiles, AreLeftFilesInEitherSchema, AreLeftOfLegal, ContinuesFiles, HoldLeft, IsOpenOver, FilesHoldDesk, HeldLeaves, ResumesFiles, StoppedLeaves}
use Rattle.sqlite_wal.specs.Files.{outcomes}
use Rattle.sqlite_pool.proofs.StateLemmas.{clean_is, may_leave_is}
use Rattle.sqlite_trees.specs.Props.{Trees-set}
use Rattle.sqlite_trees.proofs.Doubt.{no_doubt}
use Rattle.sqlite_store.specs.FileStore.{faults, files, is_shielded, recovers, view}
use Rattle.sqlite.specs.Closing.{IsCopied}
use Rattle.sqlite.specs.Start.{FindsIn}
use Rattle.sqlite.proofs.Theorems.{opens_again}
use Rattle.registry.specs.CharterSets.{IsCharter}
use Rattle.store_tables.specs.TablesHold.{TablesHold}

-- a disk that returned what was written until the close did so before
pub closed_clean : {D : Type 0} {g : Ghosts D} (desk : Desk (FileStore D g)) (conn : Held (FileStore D g)) (files : Files D)
    → conn ≡ desk.store.connection → IsCopied conn files → IsOnCleanDisk over_files desk
closed_clean desk conn files same copied = subst (λ h. HasCleanDisk (file_state h)) same copied.was_clean

-- what was committed is what the desk shows
pub closed_keeps : {D : Type 0} (g : Ghosts D) (desk : Desk (FileStore D g)) (conn : Held (FileStore D g)) (files : Files D)
    (history : History)
    → conn ≡ desk.store.connection → IsDeskWhileOpen (file_state conn) → IsLive (file_state conn) → IsCopied conn files
    → HoldsHistory over_files desk history → FilesHoldDesk g (charter_of desk) history files
closed_keeps g desk conn files history same settled obeyed copied holds =
    let clean = closed_clean desk conn files same copied in
    let live = subst (λ h. IsTrue (file_state h).is_open) same copied.was_open in
    let kept = settled copied.was_clean copied.was_open in
    let trees = ap (λ d. d.trees) kept.settled ∙ ap (λ h. (file_state h).now.trees) same in
    let listed : IsDeskTrees (file_state conn).committed.trees = record {
      schema = (file_state conn).committed.schema;
      tables = ap (λ d. d.schema.tables) kept.settled ∙ kept.tables;
      sound = (obeyed copied.was_open).1;
    } in
    record {
      trees = (file_state conn).committed.trees;
      desk = (holds.0, holds.1, subst (TablesHold (charter_of desk) holds.0) (sym trees) (holds.2 clean live), listed);
      seen = copied.seen;
      left = copied.left;
    }

-- a store that was not closed leaves no more than the desk did
pub unclosed_keeps : {D : Type 0} {g : Ghosts D} (desk : Desk (FileStore D g)) (conn : Held (FileStore D g))
    (fault : CloseFault D g) → conn ≡ desk.store.connection → IsQuiet view faults recovers is_shielded conn.store fault.store
    → (IsClean (view fault.store) → FailsToClose conn fault.store fault.error) → UnclosedLeaves desk fault
unclosed_keeps desk conn fault same quiet cause = record {
  clean = λ clean. subst (λ h. HasCleanDisk (file_state h)) same (omega (arith, quiet.clean, clean));
  cause = λ clean. subst (λ h. FailsToClose h fault.store fault.error) same (cause clean);
  left = λ charter history pending left trees may.
      left trees (subst (λ h. (file_state h).may_leave trees) same (quiet.outcomes trees may));
}

-- an opened connection shows the tables that the files hold
pub shown_trees : {D : Type 0} {g : Ghosts D} (image : Image) (conn : Held (FileStore D g)) (trees : Trees)
    → IsOpened conn → FindsIn image (file_state conn) → ∥ HoldsDatabase image trees ∥₁ → (file_state conn).now.trees ≡ trees
shown_trees image conn trees opened found held =
    ap (λ d. d.trees) opened.0.clean ∙ ∥∥₁_elim held (Trees-set _ _) (found.holds trees)

-- an opened desk continues what the files hold
pub opened_continues : {D : Type 0} {g : Ghosts D} (image : Image) (conn : Held (FileStore D g)) (desk : Desk (FileStore D g))
    → IsOpened conn → FindsIn image (file_state conn) → ContinuesHistories over_files (file_state conn) desk
    → ContinuesFiles image desk
opened_continues image conn desk opened found continues charter history chartered legal files =
    let trees = shown_trees image conn files.0 opened found files.2 in
    let held = subst (HoldHistory charter history) (sym trees) files.1 in
    continues charter history held.0 chartered legal held.1 held.2

-- an opened desk resumes what the files hold, or that with a pending request
pub opened_resumes : {D : Type 0} {g : Ghosts D} (image : Image) (conn : Held (FileStore D g)) (desk : Desk (FileStore D g))
    → IsOpened conn → FindsIn image (file_state conn) → ResumesHistories over_files (file_state conn) desk
    → ResumesFiles image desk
opened_resumes image conn desk opened found resumes charter before pending chartered legal files =
    let trees = shown_trees image conn files.0 opened found files.2 in
    resumes charter before pending chartered legal (subst (MayBeFound charter before pending) (sym trees) files.1)

-- an opened connection found what the files may be left of
pub opened_finds_left : {D : Type 0} {g : Ghosts D} (image : Image) (conn : Held (FileStore D g))
    → IsOpened conn → FindsIn image (file_state conn) → AreLeftOfLegal image → FindsLeft (file_state conn)
opened_finds_left image conn opened found it =
    let trees = shown_trees image conn it.left.0 opened found it.left.2 in
    record {
      charter = it.charter;
      before = it.before;
      pending = it.pending;
      is_open = opened.0.is_open;
      chartered = it.chartered;
      named = it.named;
      legal = it.legal;
      fits = it.fits;
      left = subst (MayBeLeftInEitherSchema it.charter it.before it.pending) (sym trees) it.left.1;
    }

-- a connection that found what the files held was opened over files that read so
pub finds_over : {D : Type 0} {g : Ghosts D} (files : Files D) (conn : Held (FileStore D g))
    → (HasCleanDisk (file_state conn) → IsOpened conn) → (HasCleanDisk (file_state conn) → Finds files conn)
    → IsOpenOver conn (image_of g files)
finds_over files conn opened found clean =
    let it = found clean in
    (opened clean, record { holds = it.holds; reads = it.reads })

-- a desk that continues the files of one that was closed has its history
pub reopened_same : {D : Type 0} (g : Ghosts D) (desk again : Desk (FileStore D g)) (files : Files D) (charter : Charter)
    (history : History)
    → ((history : History) → HoldsHistory over_files desk history → FilesHoldDesk g (charter_of desk) history files)
    → ContinuesFiles (image_of g files) again → IsCharter charter → Represents over_files charter desk history
    → Represents over_files charter again history
reopened_same g desk again files charter history keeps continues chartered is =
    let kept = subst (λ held. FilesHoldDesk g held history files) is.chartered (keeps history is.rows) in
    continues charter history chartered is.legal (kept.trees, (kept.desk.0, kept.desk.1, inl kept.desk.2), kept.seen.both)

pub if_ok_both : {T E : Type 0} (result : Result T E) (P Q R : T → Type 0) → ((x : T) → P x → Q x → R x) → IfOk result P
    → IfOk result Q → IfOk result R
if_ok_both (Ok x) P Q R both p q = both x p q
if_ok_both (Err e) P Q R both p q = tt

-- what is left of the files of a connection by a process that ends
module _ {D : Type 0} (g : Ghosts D) (conn : Held (FileStore D g)) (back : FileStore D g)
    (quiet : IsQuiet view faults recovers is_shielded conn.store back) where
  stopped_store : (log db : D) → (log, db) ≡ files back → AreClean g log db → IsClean (view back)
  stopped_store log db given clean = no_doubt _ (clean_is back.pool ∙ subst (λ p. AreClean g p.0 p.1) given clean)

  pub stopped_clean : (log db : D) → (log, db) ≡ files back → AreClean g log db → HasCleanDisk (file_state conn)
  stopped_clean log db given clean =
      let none = stopped_store log db given clean in
      omega (arith, none, quiet.clean)

  pub stopped_left : (now : Files D) → (now.log, now.db) ≡ files back → AreClean g now.log now.db
      → (IsClean (view back) → IsTrue (view back).is_numbered) → (IsClean (view back) → AreDatabases (recovers back))
      → HoldLeft g (file_state conn) now
  stopped_left now given clean numbered sound image may =
      let none = stopped_store now.log now.db given clean in
      let held = subst (λ p. AreClean g p.0 p.1) given clean in
      let at = may_leave_is back.pool image held (subst (λ p. outcomes g p.0 p.1 image) given may) in
      ∥∥₁_map (opens_again back (numbered none) (sound none) image at) (λ db. (db.0, quiet.outcomes db.0 db.1, db.2))

-- a desk whose connection was stopped left no more than a crash of the desk
pub desk_left : {D : Type 0} (g : Ghosts D) (desk : Desk (FileStore D g)) (conn : Held (FileStore D g)) (now : Files D)
    → conn ≡ desk.store.connection → HoldLeft g (file_state conn) now
    → (charter : Charter) (history : History) (pending : List Asked)
    → LeavesAtMost over_files charter desk history pending
    → (image : Image) → outcomes g now.log now.db image → ∥ AreLeftFiles image charter history pending ∥₁
desk_left g desk conn now same holds charter history pending left image may =
    ∥∥₁_map (holds image may) (λ held. (held.0, left held.0 (subst (λ h. (file_state h).may_leave held.0) same held.1), ∣ held.2 ∣₁))

pub kept_leaves_lem : {D : Type 0} (g : Ghosts D) → HeldLeaves g
kept_leaves_lem g charter history now kept image may = ∣ (kept.trees, inl (inl kept.desk), (kept.left image may).both) ∣₁

pub stopped_leaves_lem : {D : Type 0} (g : Ghosts D) → StoppedLeaves g
stopped_leaves_lem g desk now charter history pending leaves left image may =
    ∥∥₁_map (leaves.left charter history pending left image may) (λ held. (held.0, inl held.1, held.2))
