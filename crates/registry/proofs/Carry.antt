-- A change carries the rows of every holder from a history to the one with the command.
use Rattle.registry.proofs.Vocabulary.{◌≡◌, ℕ, Bool, true, false, ◌||◌, cond, List, ◌∷◌, inl, inr, Option, Some, None, refl, sym, ap, ◌∙◌, subst, cases_Bool, cond-false, false≢true, or-true, Address, Auth, Command, Register, Grant, Revoke, Create, Amend, Withdraw, Slurm, Granted, Entry, History, same_name, registers, is_registered, resource_holder, is_held_by, granted_after, grants_after, grants_made, grant_terms, created_after, terms_after, authorizations_made, authorization_terms, HeldSinceMade, Keeps, AreActive, holder_of, is_this}
use Rattle.slurm.specs.declared.set.NamedSlurm.{NamedSlurm}
use Rattle.registry.specs.declared.change.Change.TheVariants.{Holders, Exceptions as Replace}
use Rattle.registry.specs.declared.change.Edit.{Edit}
use Rattle.registry.specs.ExceptionsInForce.{files_in_force}
use Rattle.registry.specs.Rows.{Rows, RowsOf, RowsIfAny, edited, edited_if_any, changed, Carries}
use Rattle.registry.proofs.Names.{same_name-same, same_name-true, held_by_same}
use Rattle.registry.proofs.Held.{active-kept}

-- a command registers no holder except the one that it names, and changes no other's grants and terms
pub keeps_unnamed : (c : Command) (h : List ℕ) (made count : ℕ) (grants : List Granted) (terms : List Auth) → is_this h (holder_of c) ≡ false
    → (registers c h ≡ false) × (grants_after c h made grants ≡ grants) × (granted_after c h made ≡ made)
    × (terms_after c h count terms ≡ terms) × (created_after c h count ≡ count)
keeps_unnamed (Register holder) h made count grants terms other = (other, refl, refl, refl, refl)
keeps_unnamed (Grant holder t) h made count grants terms other = (refl, cond-false _ _ _ other, cond-false _ _ _ other, refl, refl)
keeps_unnamed (Revoke holder n) h made count grants terms other = (refl, cond-false _ _ _ other, refl, refl, refl)
keeps_unnamed (Create holder t) h made count grants terms other = (refl, refl, refl, cond-false _ _ _ other, cond-false _ _ _ other)
keeps_unnamed (Amend holder n maxes until) h made count grants terms other = (refl, refl, refl, cond-false _ _ _ other, refl)
keeps_unnamed (Withdraw holder n) h made count grants terms other = (refl, refl, refl, cond-false _ _ _ other, refl)
keeps_unnamed _ h made count grants terms other = (refl, refl, refl, refl, refl)

-- the command leaves who holds what, as far as this holder goes
abbrev pub LeavesHeld : Entry → History → List ℕ → Type 0
LeavesHeld e before h = (a : Address) → is_held_by h (resource_holder (e ∷ before) a) ≡ is_held_by h (resource_holder before a)

-- where who holds what stays as it was for the holder, and its terms too, so do its active ones
pub active-left : (e : Entry) (before : History) (h : List ℕ) (active : List Auth) → LeavesHeld e before h
    → authorization_terms (e ∷ before) h ≡ authorization_terms before h
    → AreActive before h active → AreActive (e ∷ before) h active
active-left e before h active holders terms are =
    let kept = active-kept e before h active (λ a is. held_by_same h (resource_holder before a) (resource_holder (e ∷ before) a) (holders a) is) are in
    let P : List Auth → Type 0 = λ xs. Keeps (HeldSinceMade (e ∷ before) h) xs active in
    subst P (sym terms) kept

-- the rows of a holder that the command does not name
rows-unnamed : (e : Entry) (before : History) (h : List ℕ) → is_this h (holder_of e.command) ≡ false → LeavesHeld e before h
    → (rows : Option Rows) → RowsIfAny before h rows → RowsIfAny (e ∷ before) h rows
rows-unnamed e before h other holders rows are =
    let same = keeps_unnamed e.command h (grants_made before h) (authorizations_made before h) (grant_terms before h) (authorization_terms before h) other in
    let registered : is_registered (e ∷ before) h ≡ is_registered before h = ap (λ b. b || is_registered before h) same.0 in
    elim rows as (λ r. RowsIfAny before h r → RowsIfAny (e ∷ before) h r) [
      | None ↦ λ missing. registered ∙ missing
      | Some r ↦ λ had. (
        registered ∙ had.0,
        record {
          apart = had.1.apart;
          holdings = λ a. had.1.holdings a ∙ sym (holders a);
          grants = had.1.grants ∙ sym same.1;
          auths = active-left e before h r.auths holders same.3 had.1.auths;
          granted = had.1.granted ∙ sym same.2;
          created = had.1.created ∙ sym same.4;
        },
      )
    ] are

-- the command names this holder, and brings no SLURM file
pub record IsAt (holder : List ℕ) (e : Entry) (before : History) : Type 0 where
  pub named : holder_of e.command ≡ Some holder
  pub files : files_in_force (e ∷ before) ≡ files_in_force before

not_named : (holder h : List ℕ) (e : Entry) (before : History) → IsAt holder e before → same_name holder h ≡ false → is_this h (holder_of e.command) ≡ false
not_named holder h e before at other = ap (is_this h) at.named ∙ other

-- a change of the one holder that the command names
pub carries-one : (e : Entry) (before : History) (holder : List ℕ) (edit : Edit) → IsAt holder e before
    → ((rows : Option Rows) → RowsIfAny before holder rows → RowsIfAny (e ∷ before) holder (edited_if_any edit rows))
    → ((h : List ℕ) → same_name holder h ≡ false → LeavesHeld e before h)
    → Carries (Holders (record { holder = holder; edit = edit }) None) before (e ∷ before)
carries-one e before holder edit at step others = record { holders = carried; files = at.files }
  where
    carried : (h : List ℕ) (rows : Option Rows) → RowsIfAny before h rows
        → RowsIfAny (e ∷ before) h (changed (Holders (record { holder = holder; edit = edit }) None) h rows)
    carried h rows are =
        let P : Bool → Type 0 = λ b. RowsIfAny (e ∷ before) h (cond b (edited_if_any edit rows) rows) in
        elim (cases_Bool (same_name holder h)) [
          | inl t ↦
              let same = same_name-true holder h t in
              let Q : List ℕ → Type 0 = λ g. RowsIfAny before g rows → RowsIfAny (e ∷ before) g (edited_if_any edit rows) in
              subst P (sym t) (subst Q same (step rows) are)
          | inr f ↦ subst P (sym f) (rows-unnamed e before h (not_named holder h e before at f) (others h f) rows are)
        ]

-- an edit of a registered holder's rows
rows-edited : (e : Entry) (before : History) (h : List ℕ) (edit : Edit) → is_registered before h ≡ true
    → ((rows : Rows) → RowsOf before h rows → RowsOf (e ∷ before) h (edited edit rows))
    → (rows : Option Rows) → RowsIfAny before h rows → RowsIfAny (e ∷ before) h (edited_if_any edit rows)
rows-edited e before h edit registered step None are = absurd (false≢true (sym are ∙ registered))
rows-edited e before h edit registered step (Some rows) are =
    (ap (λ b. registers e.command h || b) registered ∙ or-true (registers e.command h), step rows are.1)

-- a change of the one holder that the command names, which is registered
pub carries-edit : (e : Entry) (before : History) (holder : List ℕ) (edit : Edit) → IsAt holder e before → is_registered before holder ≡ true
    → ((rows : Rows) → RowsOf before holder rows → RowsOf (e ∷ before) holder (edited edit rows))
    → ((h : List ℕ) → same_name holder h ≡ false → LeavesHeld e before h)
    → Carries (Holders (record { holder = holder; edit = edit }) None) before (e ∷ before)
carries-edit e before holder edit at registered step others =
    carries-one e before holder edit at (rows-edited e before holder edit registered step) others

-- a change of the holder that the command names and then of another, both registered
pub carries-two : (e : Entry) (before : History) (one other : List ℕ) (edit_one edit_other : Edit) → IsAt one e before
    → is_registered before one ≡ true → is_registered before other ≡ true → same_name other one ≡ false
    → ((rows : Rows) → RowsOf before one rows → RowsOf (e ∷ before) one (edited edit_one rows))
    → ((rows : Rows) → RowsOf before other rows → RowsOf (e ∷ before) other (edited edit_other rows))
    → ((h : List ℕ) → same_name one h ≡ false → same_name other h ≡ false → LeavesHeld e before h)
    → Carries (Holders (record { holder = one; edit = edit_one }) (Some (record { holder = other; edit = edit_other }))) before (e ∷ before)
carries-two e before one other edit_one edit_other at one_registered other_registered differ step_one step_other others =
    record { holders = carried; files = at.files }
  where
    carried : (h : List ℕ) (rows : Option Rows) → RowsIfAny before h rows
        → RowsIfAny (e ∷ before) h (changed (Holders (record { holder = one; edit = edit_one }) (Some (record { holder = other; edit = edit_other }))) h rows)
    carried h rows are =
        let P : Bool → Bool → Type 0 = λ b c.
        RowsIfAny (e ∷ before) h (cond c (edited_if_any edit_other (cond b (edited_if_any edit_one rows) rows)) (cond b (edited_if_any edit_one rows) rows)) in
        elim (cases_Bool (same_name one h)) [
          | inl t ↦
              let same = same_name-true one h t in
              let Q : List ℕ → Type 0 = λ g. RowsIfAny before g rows → RowsIfAny (e ∷ before) g (edited_if_any edit_one rows) in
              let not_other : same_name other h ≡ false = subst (λ (g : List ℕ). same_name other g ≡ false) same differ in
              let at_one : P true false = subst Q same (rows-edited e before one edit_one one_registered step_one rows) are in
              let with_first : P (same_name one h) false = subst (λ (b : Bool). P b false) (sym t) at_one in
              subst (λ (c : Bool). P (same_name one h) c) (sym not_other) with_first
          | inr f ↦
              elim (cases_Bool (same_name other h)) [
                | inl u ↦
                    let same = same_name-true other h u in
                    let Q : List ℕ → Type 0 = λ g. RowsIfAny before g rows → RowsIfAny (e ∷ before) g (edited_if_any edit_other rows) in
                    let at_other : P false true = subst Q same (rows-edited e before other edit_other other_registered step_other rows) are in
                    let with_first : P (same_name one h) true = subst (λ (b : Bool). P b true) (sym f) at_other in
                    subst (λ (c : Bool). P (same_name one h) c) (sym u) with_first
                | inr g ↦
                    let at_neither : P false false = rows-unnamed e before h (not_named one h e before at f) (others h f g) rows are in
                    let with_first : P (same_name one h) false = subst (λ (b : Bool). P b false) (sym f) at_neither in
                    subst (λ (c : Bool). P (same_name one h) c) (sym g) with_first
              ]
        ]

-- SLURM files, in the place of those in force
pub carries-exceptions : (before : History) (day : ℕ) (caller : List ℕ) (files : List NamedSlurm)
    → Carries (Replace files) before (record { day = day; caller = caller; command = Slurm files } ∷ before)
carries-exceptions before day caller files = record {
  holders = λ h rows are. rows-unnamed (record { day = day; caller = caller; command = Slurm files }) before h refl (λ a. refl) rows are;
  files = refl;
}

-- the rows of the holder after the change
pub carried : (before after : History) (h : List ℕ) (edit : Edit) (rows : Rows) → Carries (Holders (record { holder = h; edit = edit }) None) before after
    → RowsIfAny before h (Some rows) → RowsIfAny after h (Some (edited edit rows))
carried before after h edit rows carries are =
    subst (λ (b : Bool). RowsIfAny after h (cond b (Some (edited edit rows)) (Some rows))) (same_name-same h) (carries.holders h (Some rows) are)
