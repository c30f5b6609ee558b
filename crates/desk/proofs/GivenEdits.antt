-- What an edit of a holder's rows does to the VRPs that are given.
use Rattle.desk.proofs.Vocabulary.{◌≡◌, ℕ, Bool, true, false, ◌==◌, List, [], ◌∷◌, Option, Some, None, Contains, map, filter, ◌↔◌, inl, inr, refl, sym, ap, subst, ◌∙◌, IsPermutation, option_map, if◌then◌else◌, list_any, eqb-true, false≢true, true≢false, Vrp, Auth, Holders, Edit, HolderChange, HolderRows, same_name, Rows, auths_if_any, edited, edited_if_any, AllRows, IsGivenOn, changed_rows, IsVrpOf, terms_overlap, GivenOnce, auths_held, AreLoaded, AreOverlapping, IsForLoss, begun, ended, ends, IsHoldEnding, IsHoldEndingNone, auths_of, ended_if_any, begun_if_any, AreEnough, HaveSameAuths, IsGivenAfter, EditsGiven, EditsGivenByEnough, EditsNothing, EndingKeepsOnce, listed, AreGivingOn, begins, rows_edited, rows_stay, stays, was_or_begun, none_given, in_filter, none_in_nil}
use Rattle.std.proofs.lemmas.Map.Views.{any-filter_same}
use Rattle.std.proofs.lemmas.List.Sorted.{Contains-permutation, IsPermutation-sym, list_any-IsPermutation}
use Rattle.sqlite_rules.proofs.ListLemmas.{contains_had, has_filtered, some_has}
use Rattle.addr.specs.declared.prefix.Prefix.{Prefix}
use Rattle.registry.specs.declared.change.Edit.TheVariants.{Hold, Create, Amend, Withdraw}
use Rattle.registry.proofs.Names.{same_name-same, same_name-true}
use Rattle.store_tables.proofs.TreeRows.{list_any-map}

module _ (rows : AllRows) (change : HolderChange) (mine : Rows) (day : ℕ) (v : Vrp) (once : GivenOnce rows) (of : rows.of_holder change.holder ≡ Some mine) where
  -- an authorization that gives what an ended one gave is that one
  is_ended : (h : List ℕ) (r : Rows) (x : Auth) → rows.of_holder h ≡ Some r → Contains r.auths x → IsVrpOf x v → AreGivingOn (ended change.edit mine.auths) day v
      → (same_name change.holder h ≡ true) × (ends change.edit x.number ≡ true)
  is_ended h r x was there is (y, among, (from, until, also)) =
      let it = (in_filter (λ z. ends change.edit z.number) mine.auths y).0 among in
      let one = once h change.holder r mine x y v was of there it.0 is also in
      (ap (same_name change.holder) one.0 ∙ same_name-same change.holder, subst (λ (z : Auth). ends change.edit z.number ≡ true) (sym one.1) it.1)

  gives : IsGivenOn (changed_rows (Holders change None) rows) day v
      → IsGivenAfter change.edit (Some mine.auths) day (IsGivenOn rows day v) v
  gives (h, r, x, now, there, from, until, is) = elim (was_or_begun rows change h r x now there) [
    | inl was ↦ inl (
      (h, was.0, x, was.1, was.2, from, until, is),
      λ ending. let it = is_ended h was.0 x was.1 was.2 is ending in true≢false (sym it.1 ∙ was.3 it.0),
    )
    | inr new ↦
        let here : Some mine ≡ Some new.0 = sym of ∙ ap rows.of_holder new.2 ∙ new.1 in
        let same : new.0 ≡ mine = cc in
        inr (x, subst (λ (s : Rows). Contains (begun change.edit s.auths) x) same new.3, (from, until, is))
  ]

  -- the rows of the holder after the edit
  edited_rows : (h : List ℕ) → same_name change.holder h ≡ true → (changed_rows (Holders change None) rows).of_holder h ≡ Some (edited change.edit mine)
  edited_rows h same = rows_edited rows change h same ∙ ap (edited_if_any change.edit) (ap rows.of_holder (sym (same_name-true change.holder h same)) ∙ of)

  stays_given : IsGivenOn rows day v → ¬ AreGivingOn (ended change.edit mine.auths) day v → IsGivenOn (changed_rows (Holders change None) rows) day v
  stays_given (h, r, x, was, there, from, until, is) none = go (same_name change.holder h) refl (ends change.edit x.number) refl
    where
      in_mine : same_name change.holder h ≡ true → Contains mine.auths x
      in_mine same =
          let here : Some mine ≡ Some r = sym of ∙ ap rows.of_holder (same_name-true change.holder h same) ∙ was in
          let one : r ≡ mine = cc in
          subst (λ (s : Rows). Contains s.auths x) one there

      go : (same : Bool) → same_name change.holder h ≡ same → (over : Bool) → ends change.edit x.number ≡ over → IsGivenOn (changed_rows (Holders change None) rows) day v
      go false differ over ending = (h, r, x, rows_stay rows change h differ ∙ was, there, from, until, is)
      go true same true ending =
          absurd (none (x, (in_filter (λ z. ends change.edit z.number) mine.auths x).1 (in_mine same, ending), (from, until, is)))
      go true same false on =
          (h, edited change.edit mine, x, edited_rows h same, stays change.edit mine x (in_mine same) on, from, until, is)

  begun_given : AreGivingOn (begun change.edit mine.auths) day v → IsGivenOn (changed_rows (Holders change None) rows) day v
  begun_given (x, among, (from, until, is)) = (
    change.holder,
    edited change.edit mine,
    x,
    edited_rows change.holder (same_name-same change.holder),
    begins change.edit mine x among,
    from,
    until,
    is,
  )

pub edits_given : EditsGiven
edits_given rows change mine day v once of = (
  gives rows change mine day v once of,
  λ given. elim given [
    | inl still ↦ stays_given rows change mine day v once of still.0 still.1
    | inr new ↦ begun_given rows change mine day v once of new
  ],
)

-- ---- by other authorizations that are enough

pub edits_nothing : EditsNothing
edits_nothing rows change day v none = (
  λ given.
      let (h, r, x, now, there, from, until, is) = given in
      elim (was_or_begun rows change h r x now there) [
        | inl was ↦ (h, was.0, x, was.1, was.2, from, until, is)
        | inr new ↦ absurd (no_rows new.0 (ap rows.of_holder new.2 ∙ new.1))
      ],
  λ given.
      let (h, r, x, was, there, from, until, is) = given in
      (h, r, x, rows_stay rows change h (other h r was) ∙ was, there, from, until, is),
)
  where
    no_rows : (r : Rows) → rows.of_holder change.holder ≡ Some r → ⊥
    no_rows r is = let both : None ≡ Some r = sym none ∙ is in absurd cc

    other : (h : List ℕ) (r : Rows) → rows.of_holder h ≡ Some r → same_name change.holder h ≡ false
    other h r was = go (same_name change.holder h) refl
      where
        go : (same : Bool) → same_name change.holder h ≡ same → same_name change.holder h ≡ false
        go true same = absurd (no_rows r (ap rows.of_holder (same_name-true change.holder h same) ∙ was))
        go false differ = differ

giving_alike : (xs ys : List Auth) (day : ℕ) (v : Vrp) → HaveSameAuths xs ys → AreGivingOn xs day v ↔ AreGivingOn ys day v
giving_alike xs ys day v same = (λ (x, among, gives). (x, (same x).0 among, gives), λ (x, among, gives). (x, (same x).1 among, gives))

after_enough : (edit : Edit) (all some : Option (List Auth)) (day : ℕ) (given : Type 0) (v : Vrp) → AreEnough edit all some
    → IsGivenAfter edit all day given v ↔ IsGivenAfter edit some day given v
after_enough edit all some day given v enough =
    let ended = giving_alike (ended_if_any edit all) (ended_if_any edit some) day v enough.0 in
    let begun = giving_alike (begun_if_any edit all) (begun_if_any edit some) day v enough.1 in (
      λ after. elim after [ inl still ↦ inl (still.0, λ ending. still.1 (ended.1 ending)) | inr new ↦ inr (begun.0 new) ],
      λ after. elim after [ inl still ↦ inl (still.0, λ ending. still.1 (ended.0 ending)) | inr new ↦ inr (begun.1 new) ],
    )

pub edits_given_by_enough : EditsGivenByEnough
edits_given_by_enough rows change some day v once enough =
    let given = by_all (rows.of_holder change.holder) refl in
    let alike = after_enough change.edit (auths_of rows change.holder) some day (IsGivenOn rows day v) v enough in
    (λ after. alike.0 (given.0 after), λ after. given.1 (alike.1 after))
  where
    by_all : (was : Option Rows) → rows.of_holder change.holder ≡ was
        → IsGivenOn (changed_rows (Holders change None) rows) day v ↔ IsGivenAfter change.edit (option_map (λ (r : Rows). r.auths) was) day (IsGivenOn rows day v) v
    by_all (Some mine) is = edits_given rows change mine day v once is
    by_all None none =
        let same = edits_nothing rows change day v none in (
          λ after. inl (same.0 after, none_given day v),
          λ after. elim after [ inl still ↦ same.1 still.0 | inr new ↦ absurd (none_given day v new) ],
        )

-- ---- the rows as they are loaded, in another order

moved : (p : Auth → Bool) (xs ys : List Auth) → IsPermutation xs ys → (x : Auth) → Contains (filter p xs) x → Contains (filter p ys) x
moved p xs ys same x there =
    let it = (in_filter p xs x).0 there in
    (in_filter p ys x).1 (Contains-permutation xs ys x same it.0, it.1)

begun_moved : (edit : Edit) (xs ys : List Auth) → IsPermutation xs ys → begun edit xs ≡ begun edit ys
begun_moved (Amend y) xs ys same = ap (λ b. if b then y ∷ [] else []) (list_any-IsPermutation (λ w. w.number == y.number) xs ys same)
begun_moved _ xs ys same = refl

-- of what was loaded whole, the authorizations are enough
pub enough_loaded : (edit : Edit) (was : Option Rows) (loaded : Option HolderRows) → AreLoaded was loaded
    → AreEnough edit (option_map (λ (r : Rows). r.auths) was) (listed (option_map (λ (r : HolderRows). r.auths) loaded))
enough_loaded edit None None are = (λ x. (λ is. is, λ is. is), λ x. (λ is. is, λ is. is))
enough_loaded edit None (Some loaded) none = absurd none
enough_loaded edit (Some r) None some = absurd some
enough_loaded edit (Some r) (Some loaded) are =
    let same = are.auths.0 in
    let back = IsPermutation-sym r.auths loaded.auths.items same in
    let p = λ (x : Auth). ends edit x.number in (
      λ x. (moved p r.auths loaded.auths.items same x, moved p loaded.auths.items r.auths back x),
      λ x. rw (begun_moved edit r.auths loaded.auths.items same) (λ is. is, λ is. is),
    )

-- ---- those of one number

numbered_alike : (p : Auth → Bool) (xs ys : List Auth) → IsPermutation (filter p xs) ys → HaveSameAuths (filter p xs) (filter p ys)
numbered_alike p xs ys same x = (
  λ there. moved p (filter p xs) ys same x ((in_filter p (filter p xs) x).1 (there, ((in_filter p xs x).0 there).1)),
  λ there. ((in_filter p (filter p xs) x).0 (moved p ys (filter p xs) (IsPermutation-sym (filter p xs) ys same) x there)).0,
)

-- those of the number that is withdrawn are enough
pub enough_withdrawn : (n : ℕ) (was : Option Rows) (ys : List Auth) → IsPermutation (filter (λ (x : Auth). x.number == n) (auths_held was)) ys
    → AreEnough (Withdraw n) (option_map (λ (r : Rows). r.auths) was) (Some ys)
enough_withdrawn n None ys same = (numbered_alike (λ (x : Auth). x.number == n) [] ys same, λ x. (λ is. is, λ is. is))
enough_withdrawn n (Some r) ys same = (numbered_alike (λ (x : Auth). x.number == n) r.auths ys same, λ x. (λ is. is, λ is. is))

-- and those of the number that is amended
pub enough_amended : (y : Auth) (was : Option Rows) (ys : List Auth) → IsPermutation (filter (λ (x : Auth). x.number == y.number) (auths_held was)) ys
    → AreEnough (Amend y) (option_map (λ (r : Rows). r.auths) was) (Some ys)
enough_amended y None ys same = (
  numbered_alike (λ (x : Auth). x.number == y.number) [] ys same,
  λ x. subst (λ (l : List Auth). Contains [] x ↔ Contains l x) (begun_moved (Amend y) [] ys same) (λ is. is, λ is. is),
)
enough_amended y (Some r) ys same =
    let p = λ (x : Auth). x.number == y.number in (
      numbered_alike p r.auths ys same,
      λ x. subst (λ (l : List Auth). Contains (begun (Amend y) r.auths) x ↔ Contains l x) (begun_moved (Amend y) (filter p r.auths) ys same)
          (rw (any-filter_same p p true (λ z is. is) r.auths) (λ is. is, λ is. is)),
    )

-- ---- those that share an address with a prefix

-- an edit that ends numbers of these ends of the others none: nobody else has one of their numbers
module _ (p : Prefix) (edit : Edit) (xs ys : List Auth) (are : AreOverlapping p xs ys) (is : (n : ℕ) → ends edit n ≡ list_any (λ m. n == m) (map (λ (y : Auth). y.number) (filter (λ y. terms_overlap y p) ys))) where
  abbrev passes : Auth → Bool
  passes x = terms_overlap x p

  abbrev is_over : Auth → Bool
  is_over x = ends edit x.number

  among : (x : Auth) → Contains xs x → is_over x ≡ true → Contains ys x
  among x there over =
      let some = sym (list_any-map (λ m. x.number == m) (λ (y : Auth). y.number) (filter passes ys)) ∙ sym (is x.number) ∙ over in
      let (y, has, number) = some_has (λ (y : Auth). x.number == y.number) (filter passes ys) some in
      let in_ys = contains_had ys y (has_filtered passes ys y has).0 in
      subst (Contains ys) (sym (are.once x y there in_ys (eqb-true _ _ number))) in_ys

  ended_alike : HaveSameAuths (filter is_over xs) (filter is_over ys)
  ended_alike x = (
    λ there. let it = (in_filter is_over xs x).0 there in (in_filter is_over ys x).1 (among x it.0 it.1, it.1),
    λ there.
        let it = (in_filter is_over ys x).0 there in
        let kept = Contains-permutation ys (filter passes xs) x (IsPermutation-sym (filter passes xs) ys are.order.0) it.0 in
        (in_filter is_over xs x).1 (((in_filter passes xs x).0 kept).0, it.1),
  )

-- those that share an address with the prefix are enough where the edit ends these
pub enough_lost : (p : Prefix) (edit : Edit) (was : Option Rows) (part : Option HolderRows) → IsForLoss p was part → IsHoldEnding (map (λ (y : Auth). y.number) (filter (λ y. terms_overlap y p) (auths_if_any part))) edit
    → AreEnough edit (option_map (λ (r : Rows). r.auths) was) (listed (option_map (λ (r : HolderRows). r.auths) part))
enough_lost p (Hold removed added gone) None None are is = (λ x. (λ there. there, λ there. there), λ x. (λ there. there, λ there. there))
enough_lost p (Hold removed added gone) None (Some part) are is = absurd (true≢false are.holdings.registered)
enough_lost p (Hold removed added gone) (Some r) None are is = absurd (false≢true are.holdings.registered)
enough_lost p (Hold removed added gone) (Some r) (Some part) are is = (
  ended_alike p (Hold removed added gone) r.auths part.auths.items are.auths (λ n. ap (λ (ns : List ℕ). list_any (λ m. n == m) ns) is),
  λ x. (λ there. there, λ there. there),
)
enough_lost p edit was part are is = absurd is

-- ---- whichever they are

none_ended : (edit : Edit) (auths : Option (List Auth)) → ((n : ℕ) → ends edit n ≡ false) → (x : Auth) → ¬ Contains (ended_if_any edit auths) x
none_ended edit None ends_none x there = none_in_nil x there
none_ended edit (Some xs) ends_none x there = true≢false (sym ((in_filter (λ (y : Auth). ends edit y.number) xs x).0 there).1 ∙ ends_none x.number)

none_begun : (edit : Edit) (auths : Option (List Auth)) → ((xs : List Auth) → begun edit xs ≡ []) → (x : Auth) → ¬ Contains (begun_if_any edit auths) x
none_begun edit None begins_none x there = none_in_nil x there
none_begun edit (Some xs) begins_none x there = none_in_nil x (subst (λ (l : List Auth). Contains l x) (begins_none xs) there)

-- any are enough for an edit that neither ends nor begins an authorization
pub enough_of_any : (edit : Edit) (all some : Option (List Auth)) → ((n : ℕ) → ends edit n ≡ false) → ((xs : List Auth) → begun edit xs ≡ []) → AreEnough edit all some
enough_of_any edit all some ends_none begins_none = (
  λ x. (λ there. absurd (none_ended edit all ends_none x there), λ there. absurd (none_ended edit some ends_none x there)),
  λ x. (λ there. absurd (none_begun edit all begins_none x there), λ there. absurd (none_begun edit some begins_none x there)),
)

-- so any are for one that exchanges runs of addresses alone
pub enough_of_runs : (edit : Edit) (all some : Option (List Auth)) → IsHoldEndingNone edit → AreEnough edit all some
enough_of_runs (Hold removed added gone) all some none =
    enough_of_any (Hold removed added gone) all some (λ n. ap (λ (ns : List ℕ). list_any (λ m. n == m) ns) none) (λ xs. refl)
enough_of_runs edit all some is = absurd is

-- and any of a holder that has rows for a create
pub enough_created : (y : Auth) (xs ys : List Auth) → AreEnough (Create y) (Some xs) (Some ys)
enough_created y xs ys = (
  λ x. (λ there. absurd (none_ended (Create y) (Some xs) (λ n. refl) x there), λ there. absurd (none_ended (Create y) (Some ys) (λ n. refl) x there)),
  λ x. (λ is. is, λ is. is),
)

-- ---- edits that begin nothing

pub ending_keeps_once : EndingKeepsOnce
ending_keeps_once rows change none once h k r s x y v now also in_r in_s is too =
    let one = was h r x now in_r in
    let other = was k s y also in_s in
    once h k one.0 other.0 x y v one.1 other.1 one.2 other.2 is too
  where
    was : (h : List ℕ) (r : Rows) (x : Auth) → (changed_rows (Holders change None) rows).of_holder h ≡ Some r → Contains r.auths x → (s : Rows) × (rows.of_holder h ≡ Some s) × Contains s.auths x
    was h r x now there = elim (was_or_begun rows change h r x now there) [
      | inl it ↦ (it.0, it.1, it.2)
      | inr new ↦ absurd (none_in_nil x (subst (λ (l : List Auth). Contains l x) (none new.0.auths) new.3))
    ]
