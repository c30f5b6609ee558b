-- A write whose foreign keys act on no row is its one step.
use Rattle.store_tables.proofs.Vocabulary.{◌≡◌, ◌≢◌, ℕ, zero, suc, ℤ, Bool, true, false, cond, ◌&&◌, ◌==◌, List, [], ◌∷◌, length, drop, slice_get, unwrap_or, Option, Some, None, Ok, Err, refl, sym, subst, inl, inr, MatchBool, AllByRecursion, list_any, filter_map, cons_option, and_parts, and_right, both_ways, eqb-true, Row, Trees, all_both, all-flat_map, Keys, Reference, Schema, Table, ParentKey, parent_key, agree, Deed, Work, works, work_by, pairs, loses, deed_for, is_child_of, AreChildren, ActsOn, Leads, max_depth, Edit, Applies, taken_by, Has, all_has, has_front, has_last}
use Rattle.std.specs.Prelude.{nat_lt}
use Rattle.sqlite_rules.specs.declared.error.Refusal.TheVariants.{TooDeep}
use Rattle.sqlite_rules.specs.Action.{Writes}

-- the action of a reference finds no child to act on
abbrev IsChildless : Trees → Work → Type 0
IsChildless db w = (r : Row) → Has (db w.child.tree) r → list_any (is_child_of w r) w.moves ≡ false

-- no row has the key of one of these rows as its reference
abbrev pub IsApart : ParentKey → List Row → Reference → List Row → Type 0
IsApart key olds ref rows = (r : Row) → Has rows r → AllByRecursion (λ old. agree key.2 ref.columns r key.1 old ≡ false) olds

-- where the reference acts on these rows of a tree, its table is another, and no row there has one of them as its parent
abbrev pub HasNoChild : Trees → ℕ → List Row → Table → Reference → Option Deed → Option ParentKey → Type 0
HasNoChild db tree olds child ref None key = Unit {0}
HasNoChild db tree olds child ref (Some deed) None = Unit {0}
HasNoChild db tree olds child ref (Some deed) (Some key) = key.0 ≡ tree → (child.tree ≢ tree) × IsApart key olds ref (db child.tree)

-- so it is of each reference of the tables
abbrev pub HaveNoChild : Keys → Bool → List Table → Trees → ℕ → List Row → Type 0
HaveNoChild keys deletes tables db tree olds =
    AllByRecursion (λ child. AllByRecursion (λ ref. HasNoChild db tree olds child ref (deed_for keys deletes ref) (parent_key tables ref)) child.references) tables

-- a child has the key of a row that left
none_lost : (w : Work) (r : Row) (olds news : List Row) → AllByRecursion (λ old. agree w.order w.ref.columns r w.places old ≡ false) olds → list_any (is_child_of w r) (pairs olds news) ≡ false
none_lost w r [] news apart = refl
none_lost w r (old ∷ olds) news apart = rw (and_right (loses w.order w.places (old, unwrap_or (slice_get news 0) [])) _ apart.0) (none_lost w r olds (drop 1 news) apart.1)

-- actions that find no child leave the trees as they are
settles : (schema : Schema) (keys : Keys) (n : ℕ) (db next : Trees) (stack : List Work) → ((w : Work) → Has stack w → IsChildless db w) → Leads schema keys n db stack (Ok next) → db ≡ next
settles schema keys zero db next stack none h = let e = h.1 in cc
settles schema keys (suc n) db next stack none (below, w, is, acts) =
    acted (nat_lt w.depth max_depth) acts (settles schema keys n db next below (λ x there. none x (has_front stack below (w ∷ []) x is there)))
  where
    acted : (b : Bool) → MatchBool b ((ids : List ℤ) × AreChildren db w ids × ActsOn schema keys (Leads schema keys n) db w below (Ok next) ids) (Ok next ≡ Err (Some TooDeep))
        → (Leads schema keys n db below (Ok next) → db ≡ next) → db ≡ next
    acted true ([], children, h) more = more h
    acted true (id ∷ ids, children, h) more =
        let child = children.sound id (inl refl) in
        absurd (both_ways _ (none w (has_last stack below w is) child.0 child.1) child.2)
    acted false e more = absurd cc

module _ (keys : Keys) (tables : List Table) (db mid : Trees) (tree : ℕ) (olds news : List Row) where
  abbrev IsLeft : Table → Type 0
  IsLeft child = child.tree ≢ tree → mid child.tree ≡ db child.tree

  -- the action of one reference
  childless : (child : Table) (ref : Reference) (deed : Option Deed) (key : Option ParentKey) → IsLeft child → HasNoChild db tree olds child ref deed key
      → (w : Work) → work_by 0 tree (pairs olds news) child ref deed key ≡ Some w → IsChildless mid w
  childless child ref None key left none w is = absurd cc
  childless child ref (Some deed) None left none w is = absurd cc
  childless child ref (Some deed) (Some key) left none w is = go ((key.0 == tree) && list_any (loses key.2 key.1) (pairs olds news)) refl is
    where
      work : Work
      work = record { depth = 0; child = child; ref = ref; places = key.1; order = key.2; deed = deed; moves = pairs olds news }

      go : (b : Bool) → ((key.0 == tree) && list_any (loses key.2 key.1) (pairs olds news)) ≡ b → cond b (Some work) None ≡ Some w → IsChildless mid w
      go true acts is =
          let here = none (eqb-true _ _ (and_parts _ _ acts).0) in
          let same : work ≡ w = cc in
          subst (IsChildless mid) same (λ r there. none_lost work r olds news (here.1 r (subst (λ rows. Has rows r) (left here.0) there)))
      go false acts is = absurd cc

  -- those of one table
  of_table : (child : Table) (refs : List Reference) → IsLeft child → AllByRecursion (λ ref. HasNoChild db tree olds child ref (deed_for keys (length news == 0) ref) (parent_key tables ref)) refs
      → AllByRecursion (IsChildless mid) (filter_map (λ ref. work_by 0 tree (pairs olds news) child ref (deed_for keys (length news == 0) ref) (parent_key tables ref)) refs)
  of_table child [] left none = tt
  of_table child (ref ∷ refs) left none = add (work_by 0 tree (pairs olds news) child ref deed key) (childless child ref deed key left none.0) _ (of_table child refs left none.1)
    where
      deed : Option Deed
      deed = deed_for keys (length news == 0) ref

      key : Option ParentKey
      key = parent_key tables ref

      add : (o : Option Work) → ((w : Work) → o ≡ Some w → IsChildless mid w) → (more : List Work) → AllByRecursion (IsChildless mid) more → AllByRecursion (IsChildless mid) (cons_option o more)
      add None here more none = none
      add (Some w) here more none = (here w refl, none)

-- Where the rows that a write takes out have no child, it is its one step. No reference that acts may be of the table to itself.
pub one_childless_step : (schema : Schema) (keys : Keys) (db next : Trees) (edit : Edit)
    → HaveNoChild keys (length edit.news == 0) schema.tables db edit.table.tree (taken_by db edit) → Writes schema keys db edit (Ok next) → Applies schema keys db edit next
one_childless_step schema keys db next edit none (inl refused) = absurd (let e = refused.2 in cc)
one_childless_step schema keys db next edit none (inr (inl big)) = absurd (let e = big.3 in cc)
one_childless_step schema keys db next edit none (inr (inr (mid, made, (count, leads)))) =
    let childless : AllByRecursion (IsChildless mid) (works schema keys 0 edit.table.tree (taken_by db edit) edit.news) =
    all-flat_map (IsChildless mid) _ schema.tables (all_both _ _ _ (λ child left none. of_table keys schema.tables db mid edit.table.tree (taken_by db edit) edit.news child child.references left none) schema.tables made.tables none) in
    subst (Applies schema keys db edit) (settles schema keys count mid next _ (λ w there. all_has (IsChildless mid) _ w childless there) leads) made

-- where no row has the key, the reference has no child, whatever it does
pub apart_childless : (tables : List Table) (db : Trees) (olds : List Row) (child : Table) (ref : Reference) (deed : Option Deed) (key : ParentKey) → parent_key tables ref ≡ Some key
    → child.tree ≢ key.0 → IsApart key olds ref (db child.tree) → HasNoChild db key.0 olds child ref deed (parent_key tables ref)
apart_childless tables db olds child ref deed key is other apart = subst (HasNoChild db key.0 olds child ref deed) (sym is) (go deed)
  where
    go : (deed : Option Deed) → HasNoChild db key.0 olds child ref deed (Some key)
    go None = tt
    go (Some deed) = λ same. (other, apart)
