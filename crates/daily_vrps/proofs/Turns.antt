-- Authorizations of a legal history that end and begin, and the VRPs in force then.
use Rattle.daily_vrps.proofs.Vocabulary.{◌≡◌, ℕ, Bool, true, false, not, ◌==◌, ◌↔◌, ◌⊎◌, inl, inr, List, [], ◌∷◌, Option, Some, None, sym, ap, ◌∙◌, subst, Contains, list_all, list_any, and_from, and_parts, cases_Bool, eq-eqb, eqb-true, not-true, or_parts, true≢false, Vrp, Charter, same_name-true, has_nothing, IsVrpInForce, History, same_name, Rows, RowsIfAny, AllRows, HasRows, is_entry, authorization_terms, share_vrp, AreActive, HeldSinceMade, IsActive, IsVrpOf, Keeps, IsLegal, Auth, auths_of_rows, AreGivingOn}
use Rattle.registry.specs.Repeats.{has_repeat}
use Rattle.registry_laws.specs.SharedVrps.{share_none, NoSharedVrp}
use Rattle.registry.proofs.Entries.{both_share}
use Rattle.daily_vrps.proofs.VrpsOfDay.{kept_is, kept_was}
use Rattle.daily_vrps.proofs.Members.{any_among, head_or_tail, none_in_nil}

-- ---- the active authorizations of a holder

-- the authorizations of rows are the active ones
pub active_rows : (charter : Charter) (history : History) (h : List ℕ) (rows : Option Rows) → IsLegal charter history → RowsIfAny history h rows → AreActive history h (auths_of_rows rows)
active_rows charter history h None legal none =
    subst (λ (terms : List Auth). Keeps (HeldSinceMade history h) terms []) (sym (has_nothing charter history h legal none).terms) tt
active_rows charter history h (Some rows) legal of = of.1.auths

pub is_active : (history : History) (h : List ℕ) (auths : List Auth) → AreActive history h auths → (x : Auth) → Contains auths x → IsActive history h x
is_active history h auths are x there = kept_was (HeldSinceMade history h) (authorization_terms history h) auths x are there

pub has_active : (history : History) (h : List ℕ) (auths : List Auth) → AreActive history h auths → (x : Auth) → IsActive history h x → Contains auths x
has_active history h auths are x active = kept_is (HeldSinceMade history h) (authorization_terms history h) auths x are active.0 active.1

-- ---- who gives a VRP

-- two authorizations that have one VRP share it
shared_vrp : (x y : Auth) (v : Vrp) → IsVrpOf x v → IsVrpOf y v → share_vrp x y ≡ true
shared_vrp x y v is also =
    let of_x = and_parts (x.asn.0 == v.asn.0) (list_any (is_entry v.prefix v.max) x.entries) is in
    let of_y = and_parts (y.asn.0 == v.asn.0) (list_any (is_entry v.prefix v.max) y.entries) also in
    let asn : (x.asn.0 == y.asn.0) ≡ true = eq-eqb _ _ (eqb-true _ _ of_x.0 ∙ sym (eqb-true _ _ of_y.0)) in
    and_from _ _ asn (both_share v.prefix v.max x.entries y.entries of_x.1 of_y.1)

all_among : {X : Type 0} (p : X → Bool) (xs : List X) (x : X) → list_all p xs ≡ true → Contains xs x → p x ≡ true
all_among p [] x all there = absurd (none_in_nil x there)
all_among p (y ∷ ys) x all there =
    let parts = and_parts (p y) (list_all p ys) all in
    elim (head_or_tail y ys x there) [
      | inl same ↦ ap p (sym same) ∙ parts.0
      | inr later ↦ all_among p ys x parts.1 later
    ]

-- lists that share no VRP give none twice
given_once : (xs ys : List Auth) → share_none xs ys ≡ true → (v : Vrp) (x y : Auth) → Contains xs x → Contains ys y → IsVrpOf x v → IsVrpOf y v → ⊥
given_once xs ys none v x y in_xs in_ys is also =
    let here = all_among (λ z. not (list_any (λ w. share_vrp z w) ys)) xs x none in_xs in
    true≢false (sym (any_among (λ w. share_vrp x w) ys y in_ys (shared_vrp x y v is also)) ∙ not-true _ here)

-- in a list without a repeat one authorization alone gives a VRP
given_by_one : (xs : List Auth) → has_repeat share_vrp xs ≡ false → (v : Vrp) (x y : Auth) → Contains xs x → Contains xs y → IsVrpOf x v → IsVrpOf y v → x ≡ y
given_by_one [] once v x y there also is too = absurd (none_in_nil x there)
given_by_one (z ∷ zs) once v x y there also is too =
    let parts = or_parts (list_any (λ w. share_vrp z w) zs) (has_repeat share_vrp zs) once in
    elim (head_or_tail z zs x there) [
      | inl first ↦ elim (head_or_tail z zs y also) [
        | inl same ↦ sym first ∙ same
        | inr later ↦ absurd (no_more parts.0 y later (subst (λ (w : Auth). IsVrpOf w v) (sym first) is) too)
      ]
      | inr rest ↦ elim (head_or_tail z zs y also) [
        | inl same ↦ absurd (no_more parts.0 x rest (subst (λ (w : Auth). IsVrpOf w v) (sym same) too) is)
        | inr later ↦ given_by_one zs parts.1 v x y rest later is too
      ]
    ]
  where
    no_more : list_any (λ w. share_vrp z w) zs ≡ false → (w : Auth) → Contains zs w → IsVrpOf z v → IsVrpOf w v → ⊥
    no_more none w in_zs of_z of_w = true≢false (sym (any_among (λ u. share_vrp z u) zs w in_zs (shared_vrp z w v of_z of_w)) ∙ none)

-- ---- authorizations that end and begin

-- from the one history to the other, the ended authorizations of the holder are active no more, and then the begun ones
-- are; all others, of whatever holder, stay as they are; an amendment ends one and begins one of the same number
pub record EndsAndBegins (before after : History) (holder : List ℕ) (ended begun : List Auth) : Type 0 where
  pub were : (x : Auth) → Contains ended x → IsActive before holder x
  pub own : (x : Auth) → IsActive after holder x ↔ ((IsActive before holder x × ¬ Contains ended x) ⊎ Contains begun x)
  pub others : (h : List ℕ) (x : Auth) → same_name holder h ≡ false → IsActive after h x ↔ IsActive before h x

module _ (shared : NoSharedVrp) (charter : Charter) (before : History) (all : AllRows) (legal : IsLegal charter before) (has : HasRows all before) where
  active_of : (h : List ℕ) → (auths : List Auth) × AreActive before h auths
  active_of h = (auths_of_rows (all.of_holder h), active_rows charter before h (all.of_holder h) legal (has.holders h))

  -- of all active authorizations one alone gives a VRP
  one_gives : (g h : List ℕ) (x y : Auth) (v : Vrp) → IsActive before g x → IsActive before h y → IsVrpOf x v → IsVrpOf y v → (same_name g h ≡ true) × (x ≡ y)
  one_gives g h x y v active also is too =
      let xs = active_of g in
      let in_xs = has_active before g xs.0 xs.1 in
      elim (cases_Bool (same_name g h)) [
        | inl same ↦
            let active_too = subst (λ (k : List ℕ). IsActive before k y) (sym (same_name-true g h same)) also in
            (same, given_by_one xs.0 ((shared charter before legal).0 g xs.0 xs.1) v x y (in_xs x active) (in_xs y active_too) is too)
        | inr other ↦
            let ys = active_of h in
            let none = (shared charter before legal).1 g h xs.0 ys.0 other xs.1 ys.1 in
            absurd (given_once xs.0 ys.0 none v x y (in_xs x active) (has_active before h ys.0 ys.1 y also) is too)
      ]

  module _ (after : History) (holder : List ℕ) (ended begun : List Auth) (turns : EndsAndBegins before after holder ended begun) (day : ℕ) where
    -- no ended authorization gives a VRP of one that stays
    none_ended : (h : List ℕ) (x : Auth) (v : Vrp) → IsActive before h x → IsVrpOf x v → (same_name holder h ≡ true → ¬ Contains ended x) → ¬ AreGivingOn ended day v
    none_ended h x v active is stays gone =
        let one = one_gives holder h gone.0 x v (turns.were gone.0 gone.1) active gone.2.2 is in
        stays one.0 (subst (Contains ended) one.1 gone.1)

    goes : (v : Vrp) → IsVrpInForce after day v → (IsVrpInForce before day v × ¬ AreGivingOn ended day v) ⊎ AreGivingOn begun day v
    goes v (h, x, (active, since, to), is) =
        elim (cases_Bool (same_name holder h)) [
          | inl own ↦
              let at_holder = subst (λ (k : List ℕ). IsActive after k x) (sym (same_name-true holder h own)) active in
              elim ((turns.own x).0 at_holder) [
                | inl stays ↦ inl ((holder, x, (stays.0, since, to), is), none_ended holder x v stays.0 is (λ _. stays.1))
                | inr new ↦ inr (x, new, (since, to, is))
              ]
          | inr other ↦
              let was = (turns.others h x other).0 active in
              inl ((h, x, (was, since, to), is), none_ended h x v was is (λ own. absurd (true≢false (sym own ∙ other))))
        ]

    comes : (v : Vrp) → (IsVrpInForce before day v × ¬ AreGivingOn ended day v) ⊎ AreGivingOn begun day v → IsVrpInForce after day v
    comes v (inl ((h, x, (active, since, to), is), stays)) =
        elim (cases_Bool (same_name holder h)) [
          | inl own ↦
              let at_holder = subst (λ (k : List ℕ). IsActive before k x) (sym (same_name-true holder h own)) active in
              (holder, x, ((turns.own x).1 (inl (at_holder, λ gone. stays (x, gone, (since, to, is)))), since, to), is)
          | inr other ↦ (h, x, ((turns.others h x other).1 active, since, to), is)
        ]
    comes v (inr (x, new, (since, to, is))) = (holder, x, ((turns.own x).1 (inr new), since, to), is)

    -- the VRPs of the ended authorizations are in force no more, and those of the begun ones are
    pub in_force_then : (v : Vrp) → IsVrpInForce after day v ↔ ((IsVrpInForce before day v × ¬ AreGivingOn ended day v) ⊎ AreGivingOn begun day v)
    in_force_then v = (goes v, comes v)
