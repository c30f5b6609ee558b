-- What is left of the files of a desk that was refused.
use Rattle.desk_files.proofs.Vocabulary.{◌≡◌, ◌⊎◌, ◌∙◌, inl, inr, List, [], Result, Ok, Err, IfErr, refl, subst, sym, ∥∥₁_elim, ∥∥₁_map, Ghosts, Files, AreClean, Image, Trees, FileStore, file_state, HoldsDatabase, image_of, over_files, Held, HasCleanDisk, Charter, History, Asked, IsNew, IsUnused, AreMoved, HoldDesk, LeavesAtMost, IsOnCleanDisk, store_of, MayBeFound, MayBeLeftInEitherSchema, Resumes, Desk, left_found, AreLeftFilesInEitherSchema, FilesLeaveAtMost, HoldLeft, IsOpenOver, LeavesNoMore, ResumesFiles, ResumesLeft, RefusedLeaves, RefusedLeavesOver, UnclosedLeaves, LeavesUnmade, RefusedDatabase, RefusesNoLeft, RefusesNoLegal, CloseFault, File, Path, Store}
use Rattle.sqlite_wal.proofs.LogLemmas.{SeenMayStay}
use Rattle.sqlite_store.specs.Laws.{settled_at}
use Rattle.registry.specs.RowsOfAll.{blank_rows, HasRows}
use Rattle.store_transactions.specs.declared.fault.StoreFault.{StoreFault}
use Rattle.store.specs.StoreRows.{connection_state, OnCleanStore}
use Rattle.store.specs.RefusedOpening.{IsGivenBack, IsNotMade}
use Rattle.desk_files.specs.declared.file.MakeFault.TheVariants as unmade
use Rattle.desk_files.specs.declared.file.OpenFault.{OpenFault}
use Rattle.desk_files.proofs.DeskFileLemmas.{shown_trees}
use Rattle.desk_files.proofs.RefusedLemmas.{leaves_shown, moved_left}

no_rows : HasRows blank_rows []
no_rows = record { holders = λ h. refl; files = refl }

-- what may be left, in either schema, may be found
pub left_in_either_found : (charter : Charter) (history : History) (pending : List Asked) (trees : Trees)
    → MayBeLeftInEitherSchema charter history pending trees → MayBeFound charter history pending trees
left_in_either_found charter history pending trees (inl left) = left_found charter history pending trees left
left_in_either_found charter history pending trees (inr (after, more, held)) = (after, more, (held.0, held.1, inr held.2))

module _ {D : Type 0} (g : Ghosts D) (stays : SeenMayStay g) where
  -- a connection that was refused was returned and stopped
  pub refused_database : (image : Image) (conn refused : Held (FileStore D g)) (fault : StoreFault) (files : Files D)
      → IsOpenOver conn image → IsGivenBack over_files (file_state conn) fault refused
      → (AreClean g files.log files.db → HasCleanDisk (file_state refused))
      → (AreClean g files.log files.db → HoldLeft g (file_state refused) files)
      → RefusedDatabase g image fault files
  refused_database image conn refused fault files over given cleaned left = record {
    found = conn;
    over = over;
    clean = λ clean. given.clean (cleaned clean);
    schema = λ clean. given.schema (cleaned clean);
    left = λ clean after may. ∥∥₁_map (left clean after may) (λ held.
        let side : (held.0 ≡ (file_state conn).now.trees) ⊎ AreMoved (file_state conn) held.0 = elim (given.left (cleaned clean) held.0 held.1) [
          | inl old ↦ inl (leaves_shown over_files conn held.0 (λ db. settled_at conn.store stays db) (over (given.clean (cleaned clean))).0.0 old)
          | inr moved ↦ inr moved
        ] in
        (held.0, side, held.2));
  }

  module _ (files : Files D) where
    -- the files hold now what a crash may leave of them
    holds_now : (charter : Charter) (history : History) (pending : List Asked)
        → FilesLeaveAtMost g charter files history pending → ∥ AreLeftFilesInEitherSchema (image_of g files) charter history pending ∥₁
    holds_now charter history pending left = left (image_of g files) (stays files.log, stays files.db)

    pub refused_keeps : (fault : StoreFault) (now : Files D) → RefusedDatabase g (image_of g files) fault now
        → AreClean g now.log now.db → LeavesNoMore g files now
    refused_keeps fault now refused clean charter history pending left image may =
        ∥∥₁_elim (holds_now charter history pending left) squash₁ (λ was.
        let over = refused.over (refused.clean clean) in
        let shown = shown_trees (image_of g files) refused.found was.0 over.0 over.1 was.2 in
        ∥∥₁_map (refused.left clean image may) (λ held.
        let kept : MayBeLeftInEitherSchema charter history pending held.0 = elim held.1 [
          | inl same ↦ subst (MayBeLeftInEitherSchema charter history pending) (sym (same ∙ shown)) was.1
          | inr moved ↦
              inl (moved_left charter history pending (file_state refused.found) held.0
              (subst (MayBeFound charter history pending) (sym shown) (left_in_either_found charter history pending was.0 was.1)) moved)
        ] in
        (held.0, kept, ∣ held.2 ∣₁)))

    pub resumes_left : (desk : Desk (FileStore D g)) → ResumesFiles (image_of g files) desk → ResumesLeft g files desk
    resumes_left desk resumes charter before pending chartered legal left =
        ∥∥₁_map (holds_now charter before pending left) (λ was.
        resumes charter before pending chartered legal (was.0, left_in_either_found charter before pending was.0 was.1, was.2))

    pub refuses_no_legal : (fault : OpenFault D g) → RefusesNoLeft (image_of g files) fault → RefusesNoLegal files fault
    refuses_no_legal (Store fault now) refuses = λ clean is it.
        ∥∥₁_elim (holds_now it.charter it.before it.pending it.left) (λ x y. absurd x) (λ left. refuses clean is (record {
          charter = it.charter;
          before = it.before;
          pending = it.pending;
          chartered = it.chartered;
          named = it.named;
          legal = it.legal;
          fits = it.fits;
          left = left;
        }))
    refuses_no_legal _ refuses = tt

-- the same of files that read so
pub keeps_over : {D : Type 0} {g : Ghosts D} {image : Image} (files : Files D) (fault : OpenFault D g) → image_of g files ≡ image
    → RefusedLeaves files fault → RefusedLeavesOver image fault
keeps_over files (Path fault) is keeps = tt
keeps_over files _ is keeps = (files, is, keeps)

pub if_err_both : {T E : Type 0} (result : Result T E) (P Q R : E → Type 0) → ((e : E) → P e → Q e → R e) → IfErr result P
    → IfErr result Q → IfErr result R
if_err_both (Ok x) P Q R both p q = tt
if_err_both (Err e) P Q R both p q = both e p q

-- the desk was made, and not closed
pub unmade_closed : {D : Type 0} {g : Ghosts D} (charter : Charter) (conn : Held (FileStore D g)) (desk : Desk (FileStore D g))
    (fault : CloseFault D g)
    → IsUnused (file_state conn)
    → OnCleanStore over_files (store_of desk) (IsNew charter (connection_state over_files (store_of desk)))
    → (IsOnCleanDisk over_files desk → HasCleanDisk (file_state conn))
    → (IsOnCleanDisk over_files desk → LeavesAtMost over_files charter desk [] []) → UnclosedLeaves desk fault
    → LeavesUnmade charter conn (unmade.Close fault)
unmade_closed charter conn desk fault unused made cleaned left kept = (
  unused,
  λ clean.
      let none = kept.clean clean in (
        cleaned none,
        record { desk = desk; made = made none; cause = kept.cause clean },
        kept.left charter [] [] (left none),
      ),
)

-- the desk was not made, and its connection was stopped
pub unmade_left : {D : Type 0} {g : Ghosts D} {fault : StoreFault} (charter : Charter) (conn refused : Held (FileStore D g))
    (now : Files D)
    → IsNotMade over_files charter (file_state conn) fault refused
    → (AreClean g now.log now.db → HasCleanDisk (file_state refused))
    → (AreClean g now.log now.db → HoldLeft g (file_state refused) now)
    → LeavesUnmade charter conn (unmade.Database now)
unmade_left charter conn refused now it cleaned left = λ clean. (
  it.clean (cleaned clean),
  λ image may.
      ∥∥₁_map (left clean image may) (λ held.
      let side : (file_state conn).may_leave held.0 ⊎ (IsUnused (file_state conn) × HoldDesk charter [] held.0) =
      elim (it.left (cleaned clean) held.0 held.1) [
        | inl old ↦ inl old
        | inr made ↦ inr (made.0, (blank_rows, no_rows, made.1, made.2))
      ] in
      (held.0, side, held.2)),
)
