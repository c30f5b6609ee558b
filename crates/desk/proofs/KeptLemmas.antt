-- What a desk keeps of a day is what its tables give, and what a history gives that it holds.
use Rattle.desk.proofs.Vocabulary.{◌≡◌, ℕ, ◌<◌, List, [], ◌∷◌, ◌++◌, map, flat_map, Bool, true, false, inl, inr, Option, Some, None, refl, sym, ap, subst, ◌∙◌, arith, Vec, IfSome, IsTrue, is_some, true≢false, Vrp, CharterSets, after_alike, day_of_history, IsDayOf, IsDayOfRows, kept_exceptions, HasExceptions, KeptDay, History, AllRows, HasRows, blank_rows, changed_rows, Rows, RowsIfAny, authorizations_made, Auth, Change, Holders, HolderChange, IsLegal, union, Filter, NamedSlurm, Ghosts, HasCleanDisk, Trees, TablesHold, GivenOnce, AreFilesOf, connection_state, Holds, HoldsAfter, IsRead, EachHeldRows, OnCleanStore, StoreView, charter_of, HoldsHistory, IsOnCleanDisk, RowsStay, EachHistory, EachHeld, HoldsRowsAndDay, Desk, AreEnoughFor, Follows, IsDayOfHeld}
use Rattle.registry.proofs.Held.{active-numbered}
use Rattle.registry.proofs.Numbers.{Numbered, later}
use Rattle.slurm.specs.Exceptions.{Exceptions}
use Rattle.sqlite_rules.specs.Lists.{Has}
use Rattle.store_read.proofs.HeldAlike.{held_alike}
use Rattle.store_tables.proofs.Once.{AreNumberedOnce, given_alike, once_by_numbers}

-- ---- rows, and histories of them

-- the entries of the files without their names are those of the files
entries_of_each : {X : Type 0} (entries : Exceptions → List X) (held : List NamedSlurm)
    → flat_map entries (map (λ (f : NamedSlurm). f.file) held) ≡ flat_map (λ (f : NamedSlurm). entries f.file) held
entries_of_each entries [] = refl
entries_of_each entries (f ∷ rest) = ap (λ l. entries f.file ++ l) (entries_of_each entries rest)

-- the filters and the assertions of all files that are loaded are the exceptions of the files together
pub together : (held : List NamedSlurm) (files : List Exceptions) (filters : List Filter) (assertions : List Vrp) → AreFilesOf held files
    → filters ≡ flat_map (λ (f : Exceptions). f.filters) files → assertions ≡ flat_map (λ (f : Exceptions). f.assertions) files
    → record { filters = filters; assertions = assertions } ≡ union held
together held files filters assertions are of_filters of_assertions =
    rw (of_filters, of_assertions, are, entries_of_each (λ (f : Exceptions). f.filters) held, entries_of_each (λ (f : Exceptions). f.assertions) held) refl

-- ---- authorizations by their numbers

above : (low : ℕ) (xs : List Auth) (high : ℕ) → Numbered low xs high → (y : Auth) → Has xs y → low < y.number
above low [] high n y has = absurd has
above low (x ∷ xs) high n y (inl is) = subst (λ (z : Auth). low < z.number) (sym is) n.0
above low (x ∷ xs) high n y (inr has) = later n.0 (above x.number xs high n.1 y has)

one_numbered : (low : ℕ) (xs : List Auth) (high : ℕ) → Numbered low xs high → (x y : Auth) → Has xs x → Has xs y → x.number ≡ y.number → x ≡ y
one_numbered low [] high n x y has also same = absurd has
one_numbered low (z ∷ xs) high n x y (inl is) (inl too) same = is ∙ sym too
one_numbered low (z ∷ xs) high n x y (inl is) (inr also) same =
    let less = above z.number xs high n.1 y also in
    let of_x = ap (λ (a : Auth). a.number) is in
    absurd (omega (arith, less, of_x, same))
one_numbered low (z ∷ xs) high n x y (inr has) (inl too) same =
    let less = above z.number xs high n.1 x has in
    let of_y = ap (λ (a : Auth). a.number) too in
    absurd (omega (arith, less, of_y, same))
one_numbered low (z ∷ xs) high n x y (inr has) (inr also) same = one_numbered z.number xs high n.1 x y has also same

-- no two authorizations of a holder have one number, in the rows of a history
numbers_once : (history : History) (rows : AllRows) → HasRows rows history → (h : List ℕ) (r : Rows) → rows.of_holder h ≡ Some r
    → (x y : Auth) → Has r.auths x → Has r.auths y → x.number ≡ y.number → x ≡ y
numbers_once history rows has h r of =
    let are : RowsIfAny history h (Some r) = subst (RowsIfAny history h) of (has.holders h) in
    one_numbered 0 r.auths (authorizations_made history h) (active-numbered history h r.auths are.1.auths)

-- whatever rows tables hold, what is kept of the ones is kept of the others
pub day_alike : (c d : CharterSets) (a b : AllRows) (trees : Trees) → AreNumberedOnce trees → TablesHold c a trees → TablesHold d b trees
    → (k : KeptDay) → IsDayOfRows a k → IsDayOfRows b k
day_alike c d a b trees once one other k is = record {
  exceptions = subst (HasExceptions k) (ap union (held_alike a.files b.files _ one.files other.files)) is.exceptions;
  given = λ v.
      let alike = after_alike (kept_exceptions k) v (given_alike c d a b trees once one other k.day v) (given_alike d c b a trees once other one k.day v) in
      (λ there. alike.0 ((is.given v).0 there), λ after. (is.given v).1 (alike.1 after));
}

module _ {S : Type 0} (g : Ghosts S) where
  -- ---- the invariant of a desk

  -- where the rows stay, what is kept of them stays so
  pub kept_where : (old new : StoreView S) (kept : Option KeptDay) → HoldsRowsAndDay g old kept
      → (HasCleanDisk (connection_state g new) → HasCleanDisk (connection_state g old))
      → (HasCleanDisk (connection_state g new) → (rows : AllRows) → Holds g old rows → Holds g new rows) → HoldsRowsAndDay g new kept
  kept_where old new kept holds before stay clean =
      let was = holds (before clean) in
      (was.0, stay clean was.0 was.1, was.2)

  pub kept_read : (old new : StoreView S) (kept : Option KeptDay) → HoldsRowsAndDay g old kept → IsRead g old new → HoldsRowsAndDay g new kept
  kept_read old new kept holds read = kept_where old new kept holds read.clean read.rows

  -- nothing is kept after a read
  pub none_read : (old new : StoreView S) (kept : Option KeptDay) → HoldsRowsAndDay g old kept → IsRead g old new → HoldsRowsAndDay g new None
  none_read old new kept holds read clean =
      let was = holds (read.clean clean) in
      (was.0, read.rows clean was.0 was.1, tt)

  -- or a day that was read
  pub kept_anew : (old new : StoreView S) (kept : Option KeptDay) (k : KeptDay) → HoldsRowsAndDay g old kept → IsRead g old new
      → (HasCleanDisk (connection_state g new) → (rows : AllRows) → Holds g old rows → IsDayOfRows rows k) → HoldsRowsAndDay g new (Some k)
  kept_anew old new kept k holds read found clean =
      let was = holds (read.clean clean) in
      (was.0, read.rows clean was.0 was.1, found clean was.0 was.1)

  -- after a change that was made, what is kept follows it
  pub kept_followed : (old mid new : StoreView S) (was kept : Option KeptDay) (change : Change) (one other : Option (Vec Auth)) → HoldsRowsAndDay g old was → IsRead g old mid
      → (HasCleanDisk (connection_state g new) → HasCleanDisk (connection_state g mid))
      → (HasCleanDisk (connection_state g new) → HoldsAfter g mid new (changed_rows change))
      → (HasCleanDisk (connection_state g mid) → EachHeldRows g old (AreEnoughFor change one other))
      → (HasCleanDisk (connection_state g new) → EachHeldRows g mid GivenOnce)
      → Follows change one other was kept → HoldsRowsAndDay g new kept
  kept_followed old mid new was kept change one other holds read before after enough once follows clean =
      let in_mid = before clean in
      let of = holds (read.clean in_mid) in
      let rows = of.0 in
      let held = read.rows in_mid rows of.1 in
      (changed_rows change rows, after clean rows held, follows rows (once clean rows held) (enough in_mid rows of.1) of.2)

  -- ---- a desk that holds a history

  -- what it keeps is of the history
  pub kept_of : (desk : Desk S) (history : History) → HoldsRowsAndDay g desk.store desk.kept → IsOnCleanDisk g desk
      → IsLegal (charter_of desk) history → HoldsHistory g desk history → IfSome desk.kept (IsDayOf history)
  kept_of desk history keeps clean legal held = go (connection_state g desk.store).is_open refl
    where
      some : (kept : Option KeptDay) (a : AllRows) → TablesHold desk.store.charter a (connection_state g desk.store).now.trees
          → TablesHold desk.store.charter held.0 (connection_state g desk.store).now.trees
          → IfSome kept (IsDayOfRows a) → IfSome kept (IsDayOf history)
      some None a one other is = tt
      some (Some k) a one other is =
          day_of_history (charter_of desk) held.0 history legal held.1 k
          (day_alike desk.store.charter desk.store.charter a held.0 _ (once_by_numbers _ held.0 _ other (numbers_once history held.0 held.1)) one other k is)

      go : (opened : Bool) → (connection_state g desk.store).is_open ≡ opened → IfSome desk.kept (IsDayOf history)
      go true opened =
          let of = keeps clean in
          some desk.kept of.0 (of.1 clean opened) (held.2 clean opened) of.2
      go false shut = held.3 clean shut

  -- rows that an open connection shows have the same files
  same_files : (store : StoreView S) (a b : AllRows) → HasCleanDisk (connection_state g store) → IsTrue (connection_state g store).is_open
      → Holds g store a → Holds g store b → a.files ≡ b.files
  same_files store a b clean opened one other = held_alike a.files b.files _ (one clean opened).files (other clean opened).files

  -- where a change was made that brings no files, what was kept has the exceptions of whatever rows were held
  pub exceptions_held : (old mid new : StoreView S) (was : Option KeptDay) (first : HolderChange) (second : Option HolderChange) (rows : AllRows) → HoldsRowsAndDay g old was → IsRead g old mid
      → HasCleanDisk (connection_state g mid) → HasCleanDisk (connection_state g new) → IsTrue (connection_state g new).is_open
      → HoldsAfter g mid new (changed_rows (Holders first second)) → Holds g mid rows → IfSome was (λ k. HasExceptions k (union rows.files))
  exceptions_held old mid new was first second rows keeps read before clean opened after held =
      let of = keeps (read.clean before) in
      let same = same_files new (changed_rows (Holders first second) of.0) (changed_rows (Holders first second) rows) clean opened (after of.0 (read.rows before of.0 of.1)) (after rows held) in
      go of.0 was same of.2
    where
      go : (a : AllRows) (was : Option KeptDay) → a.files ≡ rows.files → IfSome was (IsDayOfRows a) → IfSome was (λ k. HasExceptions k (union rows.files))
      go a None same is = tt
      go a (Some k) same is = subst (HasExceptions k) (ap union same) is.exceptions

  -- an answer whether a holder is registered is one of an open connection: of a shut one nothing is known
  answered_open : (store : StoreView S) (holder : List ℕ) (registered : Bool)
      → EachHeldRows g store (λ rows. registered ≡ is_some (rows.of_holder holder)) → IsTrue (connection_state g store).is_open
  answered_open store holder registered found = go (connection_state g store).is_open refl
    where
      registers : AllRows
      registers = record { of_holder = λ _. Some (record { holdings = []; grants = []; auths = []; granted = 0; created = 0 }); files = [] }

      go : (opened : Bool) → (connection_state g store).is_open ≡ opened → IsTrue (connection_state g store).is_open
      go true opened = opened
      go false shut =
          let any : (rows : AllRows) → Holds g store rows = λ rows clean opened. absurd (true≢false (sym opened ∙ shut)) in
          absurd (true≢false (sym (found registers (any registers)) ∙ found blank_rows (any blank_rows)))

  -- so what is kept is of the rows of each history that the tables hold
  pub kept_held : (store : StoreView S) (kept : Option KeptDay) (k : KeptDay) (holder : List ℕ) (registered : Bool) → HoldsRowsAndDay g store kept → kept ≡ Some k
      → HasCleanDisk (connection_state g store) → EachHeldRows g store (λ rows. registered ≡ is_some (rows.of_holder holder)) → IsDayOfHeld g store k
  kept_held store kept k holder registered keeps is clean found history legal held =
      let opened = answered_open store holder registered found in
      let of = keeps clean in
      let one = of.1 clean opened in
      let other = held.2 clean opened in
      day_alike store.charter store.charter of.0 held.0 _ (once_by_numbers _ held.0 _ other (numbers_once history held.0 held.1)) one other k
      (subst (λ (kept : Option KeptDay). IfSome kept (IsDayOfRows of.0)) is of.2)

  -- a day that was read is of each history of the rows
  pub day_read : (old new : StoreView S) (k : KeptDay) → OnCleanStore g new (EachHeldRows g old (λ rows. IsDayOfRows rows k))
      → EachHeld g old new (λ history. IsDayOf history k)
  day_read old new k found clean history legal held =
      day_of_history old.charter held.0 history legal held.1 k (found clean held.0 held.2)

  -- where the rows stay, and what is kept of a day, each history is held still
  pub held_where : (old new : Desk S) → HoldsRowsAndDay g old.store old.kept → (IsOnCleanDisk g new → IsOnCleanDisk g old)
      → RowsStay g old new → new.kept ≡ old.kept → EachHistory g old new (HoldsHistory g new)
  held_where old new keeps before stay same clean history legal held =
      let is = kept_of old history keeps (before clean) legal held in
      (held.0, held.1, stay clean held.0 held.2, λ _ _. subst (λ (kept : Option KeptDay). IfSome kept (IsDayOf history)) (sym same) is)

  pub held_read : (old new : Desk S) → HoldsRowsAndDay g old.store old.kept → IsRead g old.store new.store → new.kept ≡ old.kept
      → EachHistory g old new (HoldsHistory g new)
  held_read old new keeps read same = held_where old new keeps read.clean read.rows same
