-- A row is that of one claim or one entry, and all rows that the same tables hold give the same VRPs.
use Rattle.store_tables.proofs.Vocabulary.{◌≡◌, ◌≢◌, ◌≤◌, ℕ, suc, ◌==◌, true, List, [], ◌∷◌, map, drop, Option, Some, inl, inr, sym, ap, ◌∙◌, arith, subst, AllPairs, and_parts, and_from, Row, Has, has_contained, contains_had, some_has, some_from, mapped_has, has_mapped, Trees, Vrp, Auth, RoaPrefix, Rows, Claim, EntryRow, claim_of, claim_row, entry_row, claim_entry, claim, columns, contents, TablesHold, claim_part, entry_part}
use Rattle.registry.specs.CharterSets.{CharterSets}
use Rattle.registry.specs.RowsOfAll.{AllRows, IsGivenOn}
use Rattle.addr.specs.VrpParts.{is_entry}
use Rattle.registry.specs.Terms.{IsVrpOf}
use Rattle.store_tables.proofs.CellsOnce.{one_claim, one_entry_row}
use Rattle.store_tables.proofs.SomeRow.{of_some, in_table, has_entry_row, entry_row_of}

-- two of a list that have one value are one, where the values of any two differ
module _ {X Y : Type 0} (f : X → Y) where
  pub differs : (z : X) (zs : List X) → AllPairs ◌≢◌ (map f (z ∷ zs)) → (y : X) → Has zs y → f z ≢ f y
  differs z zs apart y has same =
      let later = contains_had (map f zs) (f y) (mapped_has f zs y has) in
      apart 0 (suc later.0) (f y) (omega arith) (omega (arith, later.1)) (same ∙ sym later.2)

  pub two_are_one : (xs : List X) → AllPairs ◌≢◌ (map f xs) → (x y : X) → Has xs x → Has xs y → f x ≡ f y → x ≡ y
  two_are_one [] apart x y none also same = absurd none
  two_are_one (z ∷ zs) apart x y (inl first) (inl second) same = first ∙ sym second
  two_are_one (z ∷ zs) apart x y (inl first) (inr later) same = absurd (differs z zs apart y later (ap f (sym first) ∙ same))
  two_are_one (z ∷ zs) apart x y (inr later) (inl first) same = absurd (differs z zs apart x later (ap f (sym first) ∙ sym same))
  two_are_one (z ∷ zs) apart x y (inr one) (inr other) same =
      two_are_one zs (λ i j d below within. apart (suc i) (suc j) d (omega (arith, below)) (omega (arith, within))) x y one other same

-- one row is that of one claim of one holder, and one that of one entry
pub claim_row_once : (h k : List ℕ) (c d : Claim) → claim_row h c ≡ claim_row k d → (h ≡ k) × (c ≡ d)
claim_row_once h k c d is = let name : h ≡ k = cc in (name, one_claim c d (ap (drop 1) is))

pub entry_row_once : (h k : List ℕ) (d e : EntryRow) → entry_row h d ≡ entry_row k e → (h ≡ k) × (d ≡ e)
entry_row_once h k d e is = let name : h ≡ k = cc in (name, one_entry_row d e (ap (drop 1) is))

-- the holder and the number in the columns of a claim
abbrev pub number_columns : Row → Row
number_columns = columns (0 ∷ 1 ∷ [])

-- no two claims of a holder have one number
abbrev pub NumbersDiffer : Trees → Type 0
NumbersDiffer trees = AllPairs ◌≢◌ (map number_columns (contents (trees claim.tree)))

-- claims of a holder in the table that have one number are one
abbrev pub AreNumberedOnce : Trees → Type 0
AreNumberedOnce trees =
    (h : List ℕ) (c d : Claim) → Has (contents (trees claim_part.tree)) (claim_row h c) → Has (contents (trees claim_part.tree)) (claim_row h d) → c.number ≡ d.number → c ≡ d

-- so they are where no two authorizations of a holder have one number
pub once_by_numbers : (c : CharterSets) (a : AllRows) (trees : Trees) → TablesHold c a trees
    → ((h : List ℕ) (r : Rows) → a.of_holder h ≡ Some r → (x y : Auth) → Has r.auths x → Has r.auths y → x.number ≡ y.number → x ≡ y) → AreNumberedOnce trees
once_by_numbers c a trees holds numbered h one other has also same =
    let claims = contents (trees claim_part.tree) in
    let (k, r, of, in_r) = of_some claim_part a.of_holder claims holds.claims (claim_row h one) has in
    let (l, s, too, in_s) = of_some claim_part a.of_holder claims holds.claims (claim_row h other) also in
    let x = has_mapped (λ z. claim_row k (claim_of z)) r.auths (claim_row h one) in_r in
    let y = has_mapped (λ z. claim_row l (claim_of z)) s.auths (claim_row h other) in_s in
    let x_is = claim_row_once h k one (claim_of x.0) x.2 in
    let y_is = claim_row_once h l other (claim_of y.0) y.2 in
    let rows : ◌≡◌ {A = Option Rows} (Some r) (Some s) = sym of ∙ ap a.of_holder (sym x_is.0 ∙ y_is.0) ∙ too in
    let in_one : Has r.auths y.0 = subst (λ (t : Rows). Has t.auths y.0) (sym (some_rows r s rows)) y.1 in
    let numbers : x.0.number ≡ y.0.number = ap (λ (d : Claim). d.number) (sym x_is.1) ∙ same ∙ ap (λ (d : Claim). d.number) y_is.1 in
    x_is.1 ∙ ap claim_of (numbered k r of x.0 y.0 x.1 in_one numbers) ∙ sym y_is.1
  where
    some_rows : (r s : Rows) → ◌≡◌ {A = Option Rows} (Some r) (Some s) → r ≡ s
    some_rows r s is = cc

-- an entry of the one row gives what it gives in the other
gives_same : (x y : Auth) (e f : RoaPrefix) (v : Vrp) → claim_entry (claim_of x) e ≡ claim_entry (claim_of y) f → Has y.entries f → (x.asn.0 == v.asn.0) ≡ true → is_entry v.prefix v.max e ≡ true → IsVrpOf y v
gives_same x y e f v same has asn is =
    let its : (y.asn.0 == v.asn.0) ≡ true = ap (λ (r : EntryRow). r.asn.0 == v.asn.0) (sym same) ∙ asn in
    let entry : is_entry v.prefix v.max f ≡ true = ap (λ (r : EntryRow). is_entry v.prefix v.max r.entry) (sym same) ∙ is in
    and_from _ _ its (some_from (is_entry v.prefix v.max) y.entries f has entry)

-- whatever rows tables hold, they give the same VRPs on each day
pub given_alike : (c d : CharterSets) (a b : AllRows) (trees : Trees) → AreNumberedOnce trees → TablesHold c a trees → TablesHold d b trees → (day : ℕ) (v : Vrp) → IsGivenOn a day v → IsGivenOn b day v
given_alike c d a b trees once one other day v (h, r, x, of, there, from, until, is) =
    let claims = contents (trees claim_part.tree) in
    let entries = contents (trees entry_part.tree) in
    let parts = and_parts _ _ is in
    let e = some_has (is_entry v.prefix v.max) x.entries parts.1 in
    let has = has_contained r.auths x there in
    let row = in_table entry_part a.of_holder entries one.entries (entry_row h (claim_entry (claim_of x) e.0)) h r of (has_entry_row h r x e.0 has e.1) in
    let its = of_some entry_part b.of_holder entries other.entries (entry_row h (claim_entry (claim_of x) e.0)) row in
    let (k, s, also, in_s) = its in
    let (y, f, mine, entry_has, row_is) = entry_row_of k s _ in_s in
    let same = entry_row_once h k (claim_entry (claim_of x) e.0) (claim_entry (claim_of y) f) row_is in
    let its_claim = in_table claim_part a.of_holder claims one.claims (claim_row h (claim_of x)) h r of (mapped_has (λ z. claim_row h (claim_of z)) r.auths x has) in
    let my_claim = in_table claim_part b.of_holder claims other.claims (claim_row k (claim_of y)) k s also (mapped_has (λ z. claim_row k (claim_of z)) s.auths y mine) in
    let mine_is : Has claims (claim_row h (claim_of y)) = subst (λ name. Has claims (claim_row name (claim_of y))) (sym same.0) my_claim in
    let claim_is = once h (claim_of x) (claim_of y) its_claim mine_is (ap (λ (d : EntryRow). d.number) same.1) in (
      k,
      s,
      y,
      also,
      contains_had s.auths y mine,
      subst (λ (c : Claim). c.from ≤ day) claim_is from,
      subst (λ (c : Claim). day ≤ c.until) claim_is until,
      gives_same x y e.0 f v same.1 entry_has parts.0 e.2,
    )
