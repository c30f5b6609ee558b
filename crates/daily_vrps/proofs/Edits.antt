-- Which authorizations are in the rows of holders after an edit of one holder's.
use Rattle.daily_vrps.proofs.Vocabulary.{◌≡◌, ◌⊎◌, Bool, true, false, not, ◌==◌, ℕ, List, [], ◌∷◌, map, Option, Some, None, Contains, inl, inr, refl, sym, ap, subst, ◌∙◌, list_any, if◌then◌else◌, not-true, true≢false, Contains-append_left, Contains-append_right, Contains-append_cases, Auth, Edit, begun, ends, same_name, Rows, edited, edited_if_any, new_rows, replaced_by, AllRows, changed_rows, same_name-true}
use Rattle.registry.specs.declared.change.Change.TheVariants.{Holders}
use Rattle.registry.specs.declared.change.Edit.TheVariants.{Register, Hold, Grant, Revoke, Create, Import, Amend, Withdraw}
use Rattle.registry.specs.declared.change.HolderChange.{HolderChange}
use Rattle.daily_vrps.proofs.Members.{among_any, any_among, at_head, head_or_tail, in_filter, in_map, mapped_in, none_in_nil}

-- ---- the authorizations of a holder

amended_or_kept : (auths : List Auth) (y z x : Auth) → x ≡ replaced_by y z → Contains auths z
    → (Contains auths x × ((x.number == y.number) ≡ false)) ⊎ Contains (begun (Amend y) auths) x
amended_or_kept auths y z x is there = go (z.number == y.number) refl
  where
    go : (same : Bool) → (z.number == y.number) ≡ same → (Contains auths x × ((x.number == y.number) ≡ false)) ⊎ Contains (begun (Amend y) auths) x
    go true same =
        let some = any_among (λ w. w.number == y.number) auths z there same in
        let new : Contains (begun (Amend y) auths) y = subst (λ b. Contains (if b then y ∷ [] else []) y) (sym some) (at_head y []) in
        inr (subst (Contains (begun (Amend y) auths)) (sym (is ∙ ap (λ b. if b then y else z) same)) new)
    go false differs =
        inl (subst (λ w. Contains auths w × ((w.number == y.number) ≡ false)) (sym (is ∙ ap (λ b. if b then y else z) differs)) (there, differs))

-- an authorization after an edit was there and does not end, or it is begun
kept_or_begun : (edit : Edit) (rows : Rows) (x : Auth) → Contains (edited edit rows).auths x
    → (Contains rows.auths x × (ends edit x.number ≡ false)) ⊎ Contains (begun edit rows.auths) x
kept_or_begun Register rows x none = absurd (none_in_nil x none)
kept_or_begun (Hold removed added gone) rows x there = let it = (in_filter _ rows.auths x).0 there in inl (it.0, not-true _ it.1)
kept_or_begun (Grant g) rows x there = inl (there, refl)
kept_or_begun (Revoke n) rows x there = inl (there, refl)
kept_or_begun (Create y) rows x there =
    elim (Contains-append_cases rows.auths (y ∷ []) x there) [ inl old ↦ inl (old, refl) | inr new ↦ inr new ]
kept_or_begun (Import more created) rows x there =
    elim (Contains-append_cases rows.auths more.items x there) [ inl old ↦ inl (old, refl) | inr new ↦ inr new ]
kept_or_begun (Amend y) rows x there = let it = in_map (replaced_by y) rows.auths x there in amended_or_kept rows.auths y it.0 x it.2 it.1
kept_or_begun (Withdraw n) rows x there = let it = (in_filter _ rows.auths x).0 there in inl (it.0, not-true _ it.1)

-- one that was there and does not end stays
pub stays : (edit : Edit) (rows : Rows) (x : Auth) → Contains rows.auths x → ends edit x.number ≡ false → Contains (edited edit rows).auths x
stays Register rows x there on = absurd (true≢false on)
stays (Hold removed added gone) rows x there on = (in_filter _ rows.auths x).1 (there, ap not on)
stays (Grant g) rows x there on = there
stays (Revoke n) rows x there on = there
stays (Create y) rows x there on = Contains-append_left rows.auths (y ∷ []) x there
stays (Import more created) rows x there on = Contains-append_left rows.auths more.items x there
stays (Amend y) rows x there on =
    subst (Contains (map (replaced_by y) rows.auths)) (ap (λ b. if b then y else x) on) (mapped_in (replaced_by y) rows.auths x there)
stays (Withdraw n) rows x there on = (in_filter _ rows.auths x).1 (there, ap not on)

-- and one that is begun is there
pub begins : (edit : Edit) (rows : Rows) (x : Auth) → Contains (begun edit rows.auths) x → Contains (edited edit rows).auths x
begins (Create y) rows x there = Contains-append_right rows.auths (y ∷ []) x there
begins (Import more created) rows x there = Contains-append_right rows.auths more.items x there
begins (Amend y) rows x there = go (list_any (λ w. w.number == y.number) rows.auths) refl there
  where
    put : list_any (λ w. w.number == y.number) rows.auths ≡ true → Contains (map (replaced_by y) rows.auths) y
    put some =
        let old = among_any (λ w. w.number == y.number) rows.auths some in
        subst (Contains (map (replaced_by y) rows.auths)) (ap (λ b. if b then y else old.0) old.2) (mapped_in (replaced_by y) rows.auths old.0 old.1)

    go : (some : Bool) → list_any (λ w. w.number == y.number) rows.auths ≡ some → Contains (if some then y ∷ [] else []) x
        → Contains (map (replaced_by y) rows.auths) x
    go true some new = elim (head_or_tail y [] x new) [
      | inl same ↦ subst (Contains (map (replaced_by y) rows.auths)) same (put some)
      | inr none ↦ absurd (none_in_nil x none)
    ]
    go false some none = absurd (none_in_nil x none)
begins _ rows x none = absurd (none_in_nil x none)

-- where there were no rows an edit makes no authorization
begins_none : (edit : Edit) (r : Rows) (x : Auth) → edited_if_any edit None ≡ Some r → Contains r.auths x → ⊥
begins_none Register r x is there = let same : r ≡ new_rows = cc in none_in_nil x (subst (λ s. Contains s.auths x) same there)
begins_none _ r x is there = absurd cc

-- ---- the rows of all holders

module _ (rows : AllRows) (change : HolderChange) where
  abbrev after : AllRows
  after = changed_rows (Holders change None) rows

  -- the rows of another holder stay, and those of the holder are edited
  pub rows_stay : (h : List ℕ) → same_name change.holder h ≡ false → after.of_holder h ≡ rows.of_holder h
  rows_stay h differ = ap (λ b. if b then edited_if_any change.edit (rows.of_holder h) else rows.of_holder h) differ

  pub rows_edited : (h : List ℕ) → same_name change.holder h ≡ true → after.of_holder h ≡ edited_if_any change.edit (rows.of_holder h)
  rows_edited h same = ap (λ b. if b then edited_if_any change.edit (rows.of_holder h) else rows.of_holder h) same

  -- the authorization was there and does not end
  abbrev WasKept : List ℕ → Auth → Type 0
  WasKept h x =
      (s : Rows) × (rows.of_holder h ≡ Some s) × Contains s.auths x × (same_name change.holder h ≡ true → ends change.edit x.number ≡ false)

  -- or it is begun
  abbrev IsBegun : List ℕ → Auth → Type 0
  IsBegun h x = (s : Rows) × (rows.of_holder h ≡ Some s) × (change.holder ≡ h) × Contains (begun change.edit s.auths) x

  -- such is each of the rows after the edit
  pub was_or_begun : (h : List ℕ) (r : Rows) (x : Auth) → after.of_holder h ≡ Some r → Contains r.auths x → WasKept h x ⊎ IsBegun h x
  was_or_begun h r x now there = go (same_name change.holder h) refl (rows.of_holder h) refl
    where
      go : (same : Bool) → same_name change.holder h ≡ same → (was : Option Rows) → rows.of_holder h ≡ was → WasKept h x ⊎ IsBegun h x
      go false differ was is = inl (r, sym (rows_stay h differ) ∙ now, there, λ same. absurd (true≢false (sym same ∙ differ)))
      go true same None none =
          absurd (begins_none change.edit r x (ap (edited_if_any change.edit) (sym none) ∙ sym (rows_edited h same) ∙ now) there)
      go true same (Some s) is =
          let made : Some (edited change.edit s) ≡ Some r = ap (edited_if_any change.edit) (sym is) ∙ sym (rows_edited h same) ∙ now in
          let edits : r ≡ edited change.edit s = cc in
          elim (kept_or_begun change.edit s x (subst (λ t. Contains t.auths x) edits there)) [
            | inl kept ↦ inl (s, is, kept.0, λ _. kept.1)
            | inr new ↦ inr (s, is, same_name-true change.holder h same, new)
          ]
