-- Steps of edits of a holder's rows, one after another.
use Rattle.store_write.proofs.Vocabulary.{◌≡◌, ℕ, Bool, true, false, cond, not, ◌==◌, List, [], ◌∷◌, ◌++◌, filter, Option, Some, None, option_map, is_some, if◌then◌else◌, IsSome, Result, arith, refl, sym, ap, subst, ◌∙◌, or-false, cond-true, cond-false, on_ok_weaker, list_any, Database, IsDatabase, State, HasCleanDisk, span_eq, Span, Auth, CharterSets, Register, Hold, Grant, Revoke, Create, Import, Amend, Withdraw, Rows, new_rows, edited, edited_if_any, Holders, HolderChange, AllRows, changed_rows, slurm, TablesHold, without_holdings, without_auths, is_registration, state_in, IfDone, StaysInside, IsReady, RowChange, RowsBecome, MakesChange, at_holder, KeepsExceptions, EditsRows, EditsHolder, AnswersWhetherRegistered, Registers, HoldersBecome, filter_twice, all_kept, neither}
use Rattle.std.proofs.lemmas.List.Folds.{list_any-append}
use Rattle.sqlite.specs.declared.transaction.Transaction.{Transaction}
use Rattle.sqlite.specs.Store.{Ghosts}
use Rattle.sqlite_trees.specs.Tree.{Trees}
use Rattle.registry.specs.History.{same_name}
use Rattle.registry.specs.declared.change.Change.{Change}
use Rattle.registry.specs.declared.change.Edit.{Edit}
use Rattle.registry.proofs.Names.{same_name-true}

-- equal rows of every holder
pub same_rows : (charter : CharterSets) (rows : AllRows) (other : List ℕ → Option Rows) (trees : Trees) → ((k : List ℕ) → rows.of_holder k ≡ other k)
    → TablesHold charter rows trees → TablesHold charter (record rows { of_holder = other }) trees
same_rows charter rows other trees same holds = subst (λ of_holder. TablesHold charter (record rows { of_holder = of_holder }) trees) (λ i k. same k i) holds

-- and the exceptions kept
kept_rows : (charter : CharterSets) (rows : AllRows) (other : List ℕ → Option Rows) (old new : Trees) → ((k : List ℕ) → rows.of_holder k ≡ other k)
    → KeepsExceptions charter rows old new → KeepsExceptions charter (record rows { of_holder = other }) old new
kept_rows charter rows other old new same kept = record { held = same_rows charter rows other new same kept.held; exceptions = kept.exceptions }

edited_still : (o : Option Rows) (edit : Rows → Rows) (b : Bool) → IsSome o → IsSome (cond b (option_map edit o) o)
edited_still None edit b some = absurd cc
edited_still (Some r) edit true some = refl
edited_still (Some r) edit false some = refl

module _ (h : List ℕ) where
  in_turn : (f g : Rows → Rows) (o : Option Rows) (b : Bool) → cond b (option_map g (cond b (option_map f o) o)) (cond b (option_map f o) o) ≡ cond b (option_map (λ r. g (f r)) o) o
  in_turn f g None true = refl
  in_turn f g (Some r) true = refl
  in_turn f g o false = refl

  pub edits_then : (f g : Rows → Rows) (a b c : Database) → EditsRows h f a b → EditsRows h g b c → EditsRows h (λ r. g (f r)) a c
  edits_then f g a b c first second charter rows holds some =
      let once : AllRows = at_holder h (option_map f) rows in
      let both : AllRows = at_holder h (option_map (λ r. g (f r))) rows in
      let one = first charter rows holds some in
      let two = second charter once one.held (edited_still (rows.of_holder h) f (same_name h h) some) in
      kept_rows charter (at_holder h (option_map g) once) both.of_holder a.trees c.trees (λ k. in_turn f g (rows.of_holder k) (same_name h k))
      (record { held = two.held; exceptions = two.exceptions ∙ one.exceptions })

  none_edited : (f : Rows → Rows) → ((r : Rows) → f r ≡ r) → (o : Option Rows) (b : Bool) → o ≡ cond b (option_map f o) o
  none_edited f same None true = refl
  none_edited f same (Some r) true = ap Some (sym (same r))
  none_edited f same o false = refl

  pub edits_none : (f : Rows → Rows) (a : Database) → ((r : Rows) → f r ≡ r) → EditsRows h f a a
  edits_none f a same charter rows holds some =
      let after : AllRows = at_holder h (option_map f) rows in
      kept_rows charter rows after.of_holder a.trees a.trees (λ k. none_edited f same (rows.of_holder k) (same_name h k)) (record { held = holds; exceptions = refl })

  pub edits_as : (f g : Rows → Rows) (a b : Database) → ((r : Rows) → f r ≡ g r) → EditsRows h f a b → EditsRows h g a b
  edits_as f g a b same = subst (λ e. EditsRows h e a b) (λ i r. same r i)

  pub done_none : (f : Rows → Rows) (old : State) → ((r : Rows) → f r ≡ r) → IsReady old → EditsHolder h f old old
  done_none f old same ready = record { ready = ready; schema = refl; sound = λ sound. sound; rows = edits_none f old.now same }

  pub done_then : (f g e : Rows → Rows) (a b c : State) → ((r : Rows) → g (f r) ≡ e r) → EditsHolder h f a b → EditsHolder h g b c → EditsHolder h e a c
  done_then f g e a b c same first second = record {
    ready = second.ready;
    schema = second.schema ∙ first.schema;
    sound = λ sound. second.sound (first.sound sound);
    rows = edits_as (λ r. g (f r)) e a.now c.now same (edits_then f g a.now b.now c.now first.rows second.rows);
  }

-- an edit by one more of a list of values
pub done_more : {X : Type 0} (h : List ℕ) (by : List X → Rows → Rows) (e : Rows → Rows) (before : List X) (x : X) (now : List X) (a b c : State) → now ≡ before ++ x ∷ [] → ((r : Rows) → e (by before r) ≡ by (before ++ x ∷ []) r)
    → EditsHolder h (by before) a b → EditsHolder h e b c → EditsHolder h (by now) a c
done_more h by e before x now a b c is same = done_then h (by before) e (by now) a b c (λ r. same r ∙ ap (λ xs. by xs r) (sym is))

-- rows without some, and then without others
filter_both : {X Y : Type 0} (test : X → Y → Bool) (ys zs : List Y) (xs : List X)
    → filter (λ x. not (list_any (test x) zs)) (filter (λ x. not (list_any (test x) ys)) xs) ≡ filter (λ x. not (list_any (test x) (ys ++ zs))) xs
filter_both {X = X} test ys zs xs =
    let at = λ (x : X). neither (list_any (test x) ys) (list_any (test x) zs) ∙ ap not (sym (list_any-append (test x) ys zs)) in
    filter_twice (λ x. not (list_any (test x) zs)) (λ x. not (list_any (test x) ys)) xs ∙ (λ i. filter (λ x. at x i) xs)

pub none_taken : (r : Rows) → without_holdings [] r ≡ r
none_taken r = λ i. record r { holdings = all_kept r.holdings i }

pub one_holding_less : (spans : List Span) (s : Span) (r : Rows) → without_holdings (s ∷ []) (without_holdings spans r) ≡ without_holdings (spans ++ s ∷ []) r
one_holding_less spans s r = λ i. record r { holdings = filter_both span_eq spans (s ∷ []) r.holdings i }

pub no_auths : (r : Rows) → without_auths [] r ≡ r
no_auths r = λ i. record r { auths = all_kept r.auths i }

pub one_auth_less : (ns : List ℕ) (n : ℕ) (r : Rows) → edited (Withdraw n) (without_auths ns r) ≡ without_auths (ns ++ n ∷ []) r
one_auth_less ns n r =
    let kept : List Auth = filter (λ x. not (list_any (λ k. x.number == k) ns)) r.auths in
    let alone : filter (λ x. not (x.number == n)) kept ≡ filter (λ x. not (list_any (λ k. x.number == k) (n ∷ []))) kept =
    λ i. filter (λ x. not (sym (or-false (x.number == n)) i)) kept in
    λ i. record r { auths = (alone ∙ filter_both (λ (x : Auth) k. x.number == k) ns (n ∷ []) r.auths) i }

-- ---- statements in turn

module _ {S : Type 0} (g : Ghosts S) where
  -- a statement after another
  pub done_after : {X E : Type 0} (r : Result X E) (h : List ℕ) (f e to : Rows → Rows) (a b c : Transaction S) → ((r : Rows) → e (f r) ≡ to r) → StaysInside g b c → (HasCleanDisk (state_in g b) → EditsHolder h f (state_in g a) (state_in g b))
      → IfDone g r (EditsHolder h e) b c → IfDone g r (EditsHolder h to) a c
  done_after r h f e to a b c same stay first second clean =
      on_ok_weaker r (done_then h f e to (state_in g a) (state_in g b) (state_in g c) same (first (omega (arith, stay.survives.clean)))) (second clean)

-- ---- a change

module _ (h : List ℕ) (edit : Edit) where
  abbrev pub edited_at : RowChange
  edited_at = at_holder h (edited_if_any edit)

  -- what the edit makes of the holder's rows is all that matters
  at_name : (to : Option Rows → Option Rows) (rows : List ℕ → Option Rows) → to (rows h) ≡ edited_if_any edit (rows h) → (k : List ℕ) → cond (same_name h k) (to (rows k)) (rows k) ≡ cond (same_name h k) (edited_if_any edit (rows k)) (rows k)
  at_name to rows same k = go (same_name h k) refl
    where
      go : (b : Bool) → same_name h k ≡ b → cond b (to (rows k)) (rows k) ≡ cond b (edited_if_any edit (rows k)) (rows k)
      go true is = subst (λ n. to (rows n) ≡ edited_if_any edit (rows n)) (same_name-true h k is) same
      go false is = refl

  some_edited : (o : Option Rows) → IsSome o → option_map (edited edit) o ≡ edited_if_any edit o
  some_edited None some = absurd cc
  some_edited (Some r) some = refl

  -- What follows an answer turns the rows of the holder into what the edit makes of them. It is told what was answered.
  turned_after : (to : Option Rows → Option Rows) (is_there : Bool) (a b c : State) → AnswersWhetherRegistered h is_there a b → IsReady c → c.now.schema ≡ b.now.schema → (IsDatabase b.now → IsDatabase c.now)
      → ((charter : CharterSets) (rows : AllRows) → TablesHold charter rows b.now.trees → is_there ≡ is_some (rows.of_holder h)
      → KeepsExceptions charter (at_holder h to rows) b.now.trees c.now.trees × (to (rows.of_holder h) ≡ edited_if_any edit (rows.of_holder h)))
      → MakesChange (HoldersBecome edited_at) a c
  turned_after to is_there a b c answers ready schema sound turned = record {
    was_open = answers.was_open;
    ready = ready;
    schema = schema ∙ ap (λ (d : Database). d.schema) answers.same;
    sound = λ was. sound (subst IsDatabase (sym answers.same) was);
    made = λ charter rows was.
        let after : AllRows = edited_at rows in
        let it = turned charter rows (subst (λ (d : Database). TablesHold charter rows d.trees) (sym answers.same) was) (answers.answer charter rows was) in
        let exceptions = it.0.exceptions ∙ ap (λ (d : Database). d.trees slurm.tree) answers.same in
        kept_rows charter (at_holder h to rows) after.of_holder a.now.trees c.now.trees (at_name to rows.of_holder it.1) (record { held = it.0.held; exceptions = exceptions });
  }

  pub turned_registered : (is_there : Bool) (a b c : State) → AnswersWhetherRegistered h is_there a b → is_there ≡ true → EditsHolder h (edited edit) b c → MakesChange (HoldersBecome edited_at) a c
  turned_registered is_there a b c answers is done =
      turned_after (option_map (edited edit)) is_there a b c answers done.ready done.schema done.sound
      (λ charter rows was answer. let some : IsSome (rows.of_holder h) = sym answer ∙ is in (done.rows charter rows was some, some_edited (rows.of_holder h) some))

  none_there : (o : Option Rows) (is_there : Bool) → is_there ≡ is_some o → is_there ≡ false → o ≡ None
  none_there None is_there answer is = refl
  none_there (Some r) is_there answer is = absurd cc

  from_none : (e : Edit) → (if is_registration e then Some new_rows else None) ≡ edited_if_any e None
  from_none Register = refl
  from_none (Hold removed added ended) = refl
  from_none (Grant g) = refl
  from_none (Revoke n) = refl
  from_none (Create x) = refl
  from_none (Import auths created) = refl
  from_none (Amend x) = refl
  from_none (Withdraw n) = refl

  pub turned_new : (is_there : Bool) (a b c : State) → AnswersWhetherRegistered h is_there a b → is_there ≡ false → is_registration edit ≡ true → Registers h b c → MakesChange (HoldersBecome edited_at) a c
  turned_new is_there a b c answers is registers done =
      turned_after (λ _. Some new_rows) is_there a b c answers done.ready done.schema done.sound
      (λ charter rows was answer. let none = none_there (rows.of_holder h) is_there answer is in (done.rows charter rows was none, sym (cond-true _ _ _ registers) ∙ from_none edit ∙ ap (edited_if_any edit) (sym none)))

  pub turned_none : (is_there : Bool) (a b : State) → AnswersWhetherRegistered h is_there a b → is_there ≡ false → is_registration edit ≡ false → MakesChange (HoldersBecome edited_at) a b
  turned_none is_there a b answers is leaves = turned_after (λ o. o) is_there a b b answers answers.ready refl (λ sound. sound) (λ charter rows was answer.
      let same : AllRows = at_holder h (λ o. o) rows in
      let none = none_there (rows.of_holder h) is_there answer is in (
        kept_rows charter rows same.of_holder b.now.trees b.now.trees (λ k. kept (same_name h k) (rows.of_holder k)) (record { held = was; exceptions = refl }),
        none ∙ sym (cond-false _ _ _ leaves) ∙ from_none edit ∙ ap (edited_if_any edit) (sym none),
      ))
    where
      kept : (b : Bool) (o : Option Rows) → o ≡ cond b o o
      kept true o = refl
      kept false o = refl

-- an edit by what is the same
pub edited_same : (h : List ℕ) (e f : Edit) (a b : State) → e ≡ f → EditsHolder h (edited f) a b → EditsHolder h (edited e) a b
edited_same h e f a b is = subst (λ edit. EditsHolder h (edited edit) a b) (sym is)

pub turned_then : (f g : RowChange) (a b c : State) → MakesChange (HoldersBecome f) a b → MakesChange (HoldersBecome g) b c → MakesChange (HoldersBecome (λ rows. g (f rows))) a c
turned_then f g a b c first second = record {
  was_open = first.was_open;
  ready = second.ready;
  schema = second.schema ∙ first.schema;
  sound = λ sound. second.sound (first.sound sound);
  made = λ charter rows was.
      let one = first.made charter rows was in
      let two = second.made charter (f rows) one.held in
      record { held = two.held; exceptions = two.exceptions ∙ one.exceptions };
}

-- rows of holders that became those of the change
pub holders_changed : (change : Change) (first : HolderChange) (second : Option HolderChange) (a b : State) → change ≡ Holders first second → MakesChange (HoldersBecome (changed_rows (Holders first second))) a b → MakesChange (RowsBecome change) a b
holders_changed change first second a b is turned = subst (λ (c : Change). MakesChange (RowsBecome c) a b) (sym is) (record {
  was_open = turned.was_open;
  ready = turned.ready;
  schema = turned.schema;
  sound = turned.sound;
  made = λ charter rows was. let it = turned.made charter rows was in (it.held, it.exceptions);
})
