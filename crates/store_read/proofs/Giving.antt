-- The VRPs that the authorizations in force give, and the prefixes that are taken.
use Rattle.store_read.proofs.Vocabulary.{◌≡◌, ◌↔◌, ◌≢◌, ℕ, true, ◌==◌, List, [], ◌∷◌, ◌++◌, map, Contains, arith, refl, sym, ap, subst, ◌∙◌, AllPairs, get_or-map, length-map, and_parts, and_from, eqb-true, eq-eqb, nat_tests, list_any, Row, Has, has_contained, contains_had, some_has, some_from, test_has, mapped_has, has_mapped, prefix_eq, FitsMaxLength, fits_max_length, same_vrp, Asn, Prefix, Vrp, Auth, RoaPrefix, is_entry, IsVrpOfEntry, IsVrpOf, AuthFits, VrpFits, vrp_cells, number_cell, prefix_cells, ShowsNone, equal_prefix, prefix_itself, met_iff, payload_cells, IsPayloadOn, MeetsSome, AllGiveOn, AllRows, IsGivenOn, IsTaken, one_prefix}

cells_of_entry : (x : Auth) (e : RoaPrefix) (v : Vrp) → IsVrpOfEntry e x.asn v → vrp_cells v ≡ payload_cells x e
cells_of_entry x e v is = λ i. number_cell (ap (λ (a : Asn). a.0) is.2 i) ∷ prefix_cells (is.0 i) ++ number_cell (is.1 i) ∷ []

-- a VRP of the terms is shown as an entry of them
pub cells_of_vrp : (x : Auth) (v : Vrp) → IsVrpOf x v → (e : RoaPrefix) × Has x.entries e × (vrp_cells v ≡ payload_cells x e)
cells_of_vrp x v is =
    let one = and_parts (x.asn.0 == v.asn.0) (list_any (is_entry v.prefix v.max) x.entries) is in
    let (e, has, fits) = some_has (is_entry v.prefix v.max) x.entries one.1 in
    let two = and_parts (prefix_eq e.prefix v.prefix) (e.max == v.max) fits in
    let asn = eqb-true x.asn.0 v.asn.0 one.0 in
    let prefix = equal_prefix e.prefix v.prefix two.0 in
    let max = eqb-true e.max v.max two.1 in
    (e, has, λ i. number_cell (sym asn i) ∷ prefix_cells (sym prefix i) ++ number_cell (sym max i) ∷ [])

vrp_of_cells : (x : Auth) (e : RoaPrefix) (v : Vrp) → Has x.entries e → vrp_cells v ≡ payload_cells x e → IsVrpOf x v
vrp_of_cells x e v has is =
    let asn : x.asn.0 ≡ v.asn.0 = cc in
    let max : e.max ≡ v.max = cc in
    let prefix : v.prefix ≡ e.prefix = one_prefix v.prefix e.prefix cc in
    let fits : is_entry v.prefix v.max e ≡ true = and_from _ _ (subst (λ p. prefix_eq e.prefix p ≡ true) (sym prefix) (prefix_itself e.prefix)) (eq-eqb e.max v.max max) in
    and_from _ _ (eq-eqb x.asn.0 v.asn.0 asn) (some_from (is_entry v.prefix v.max) x.entries e has fits)

pub one_vrp : (v w : Vrp) → vrp_cells v ≡ vrp_cells w → v ≡ w
one_vrp v w is =
    let asn : v.asn.0 ≡ w.asn.0 = cc in
    let max : v.max ≡ w.max = cc in
    same_vrp v w (one_prefix v.prefix w.prefix cc) max (ap (λ (n : ℕ). let a : Asn = record { 0 = n } in a) asn)

max_in_range : (p : Prefix) (max : ℕ) → fits_max_length p max ≡ true → FitsMaxLength p max
max_in_range p max fits = (grind (arith, nat_tests), grind (arith, nat_tests))

-- VRPs that are shown by rows of which no two are equal
pub given_once : (vrps : List Vrp) (rows : List Row) → rows ≡ map vrp_cells vrps → AllPairs ◌≢◌ rows → AllPairs ◌≢◌ vrps
given_once vrps rows shown differ i j d below within same =
    let cells = subst (AllPairs ◌≢◌) shown differ in
    cells i j (vrp_cells d) below (omega (arith, within, length-map vrps vrp_cells))
    (get_or-map vrp_cells vrps i d (vrp_cells d) (omega (arith, below, within)) ∙ ap vrp_cells same ∙ sym (get_or-map vrp_cells vrps j d (vrp_cells d) within))

module _ (day : ℕ) (all : AllRows) (rows : List Row) (each : (row : Row) → Contains rows row ↔ IsPayloadOn all day row) where
  is_given : (vrps : List Vrp) → rows ≡ map vrp_cells vrps → (v : Vrp) → Contains vrps v → IsGivenOn all day v
  is_given vrps shown v there =
      let row = subst (λ l. Contains l (vrp_cells v)) (sym shown) (contains_had (map vrp_cells vrps) (vrp_cells v) (mapped_has vrp_cells vrps v (has_contained vrps v there))) in
      let (h, r, x, e, of, in_r, in_x, from, until, is) = (each (vrp_cells v)).0 row in
      (h, r, x, of, in_r, from, until, vrp_of_cells x e v (has_contained x.entries e in_x) is)

  has_given : (vrps : List Vrp) → rows ≡ map vrp_cells vrps → (v : Vrp) → IsGivenOn all day v → Contains vrps v
  has_given vrps shown v (h, r, x, of, in_r, from, until, is) =
      let (e, in_x, cells) = cells_of_vrp x v is in
      let row = (each (vrp_cells v)).1 (h, r, x, e, of, in_r, contains_had x.entries e in_x, from, until, cells) in
      let its = has_mapped vrp_cells vrps (vrp_cells v) (has_contained (map vrp_cells vrps) (vrp_cells v) (subst (λ l. Contains l (vrp_cells v)) shown row)) in
      subst (Contains vrps) (sym (one_vrp v its.0 its.2)) (contains_had vrps its.0 its.1)

  pub each_given : (vrps : List Vrp) → rows ≡ map vrp_cells vrps → (v : Vrp) → Contains vrps v ↔ IsGivenOn all day v
  each_given vrps shown v = (is_given vrps shown v, has_given vrps shown v)

  -- rows of authorizations that give VRPs are read
  pub given_read : AllGiveOn all day → ¬ ((row : Row) × Has rows row × ShowsNone vrp_cells VrpFits row)
  given_read give (row, has, none) =
      let (h, r, x, e, of, in_r, in_x, from, until, shows) = (each row).0 (contains_had rows row has) in
      let (v, given, fits) = give h r x e of in_r in_x from until in
      none v fits (cells_of_entry x e v given ∙ sym shows)

-- each entry of an authorization in its ranges gives a VRP
pub gives_each : (x : Auth) (e : RoaPrefix) → AuthFits x → Contains x.entries e → (v : Vrp) × IsVrpOfEntry e x.asn v × VrpFits v
gives_each x e fits there =
    let range = max_in_range e.prefix e.max (test_has (λ (d : RoaPrefix). fits_max_length d.prefix d.max) x.entries e fits.lengths (has_contained x.entries e there)) in
    (record { prefix = e.prefix; max = e.max; asn = x.asn; at_least_length = range.0; at_most_width = range.1 }, (refl, refl, refl), fits.asn)

-- ---- what is held

pub taken_iff : (rows : AllRows) (p : Prefix) → MeetsSome rows p ↔ IsTaken rows p
taken_iff rows p = (λ it. (it.0, it.1, it.2, (met_iff it.1.holdings p).0 it.3), λ it. (it.0, it.1, it.2, (met_iff it.1.holdings p).1 it.3))
