-- Values of the same cells are equal.
use Rattle.store_tables.proofs.Vocabulary.{◌≡◌, ℕ, ◌^◌, ◌<◌, List, [], ◌∷◌, ◌++◌, map, refl, sym, ap, subst, ◌∙◌, arith, IsPermutation, Text, Blob, Row, pull_back, width, same_prefix, Family, V4, V6, Prefix, Span, below_widest, first_below, Granted, Scope, All, Only, Rows, Claim, EntryRow, number_cell, family_number, role_number, address_bytes, prefix_cells, scope_cells, span_cells, counter_cells, grant_cells, claim_cells, entry_cells}
use Rattle.addr.specs.Spans.{same_span}
use Rattle.registry.specs.declared.grant.Role.{Role}
use Rattle.registry.specs.declared.grant.Role.TheVariants.{Manager, Clerk, Auditor}
use Rattle.store_tables.specs.declared.holder.Counters.{Counters}
use Rattle.store_tables.proofs.AddressBytes.{address_once}

one_number : (m n : ℕ) → number_cell m ≡ number_cell n → m ≡ n
one_number m n is = cc

pub one_family : (f g : Family) → number_cell (family_number f) ≡ number_cell (family_number g) → f ≡ g
one_family V4 V4 is = refl
one_family V4 V6 is = absurd cc
one_family V6 V4 is = absurd cc
one_family V6 V6 is = refl

one_role : (r s : Role) → number_cell (role_number r) ≡ number_cell (role_number s) → r ≡ s
one_role Manager Manager is = refl
one_role Manager Clerk is = absurd cc
one_role Manager Auditor is = absurd cc
one_role Clerk Manager is = absurd cc
one_role Clerk Clerk is = refl
one_role Clerk Auditor is = absurd cc
one_role Auditor Manager is = absurd cc
one_role Auditor Clerk is = absurd cc
one_role Auditor Auditor is = refl

one_address : (f g : Family) (m n : ℕ) → m < 2 ^ width f → n < 2 ^ width g → Blob (address_bytes m) ≡ Blob (address_bytes n) → m ≡ n
one_address f g m n low below is = address_once m n (below_widest f m low) (below_widest g n below) cc

pub one_prefix : (p q : Prefix) → prefix_cells p ≡ prefix_cells q → p ≡ q
one_prefix p q is = same_prefix p q (one_family p.family q.family cc) (one_address p.family q.family p.first q.first (first_below p) (first_below q) cc) (one_number p.length q.length cc)

pub one_span : (s t : Span) → span_cells s ≡ span_cells t → s ≡ t
one_span s t is =
    let family = one_family s.family t.family cc in
    let lo = one_address s.family t.family s.lo t.lo (omega (arith, s.ordered, s.in_family)) (omega (arith, t.ordered, t.in_family)) cc in
    let hi = one_address s.family t.family s.hi t.hi s.in_family t.in_family cc in
    same_span s t family lo hi

pub one_claim : (c d : Claim) → claim_cells c ≡ claim_cells d → c ≡ d
one_claim c d is =
    let number = one_number c.number d.number cc in
    let asn = one_number c.asn.0 d.asn.0 cc in
    let from = one_number c.from d.from cc in
    let until = one_number c.until d.until cc in
    λ i. record { number = number i; asn = record { 0 = asn i }; from = from i; until = until i }

pub one_entry_row : (d e : EntryRow) → entry_cells d ≡ entry_cells e → d ≡ e
one_entry_row d e is =
    let number = one_number d.number e.number cc in
    let asn = one_number d.asn.0 e.asn.0 cc in
    let prefix = one_prefix d.entry.prefix e.entry.prefix cc in
    let max = one_number d.entry.max e.entry.max cc in
    λ i. record { number = number i; asn = record { 0 = asn i }; entry = record { prefix = prefix i; max = max i } }

same_grant : (g h : Granted) → g.number ≡ h.number → g.caller ≡ h.caller → g.role ≡ h.role → g.scope ≡ h.scope → g.until ≡ h.until → g ≡ h
same_grant g h number caller role scope until = λ i. record { number = number i; caller = caller i; role = role i; scope = scope i; until = until i }

one_grant_of : (g h : Granted) (s t : Scope) → g.scope ≡ s → h.scope ≡ t
    → number_cell g.number ∷ Text g.caller ∷ number_cell (role_number g.role) ∷ scope_cells s ++ number_cell g.until ∷ []
    ≡ number_cell h.number ∷ Text h.caller ∷ number_cell (role_number h.role) ∷ scope_cells t ++ number_cell h.until ∷ []
    → g ≡ h
one_grant_of g h All All all every is = same_grant g h (one_number g.number h.number cc) (cc) (one_role g.role h.role cc) (all ∙ sym every) (one_number g.until h.until cc)
one_grant_of g h All (Only q) all only is = absurd cc
one_grant_of g h (Only p) All only all is = absurd cc
one_grant_of g h (Only p) (Only q) first second is = same_grant g h (one_number g.number h.number cc) (cc) (one_role g.role h.role cc) (first ∙ ap Only (one_prefix p q cc) ∙ sym second) (one_number g.until h.until cc)

pub one_grant : (g h : Granted) → grant_cells g ≡ grant_cells h → g ≡ h
one_grant g h is = one_grant_of g h g.scope h.scope refl refl is

abbrev pub counters_of_rows : Rows → List Counters
counters_of_rows r = record { granted = r.granted; created = r.created } ∷ []

abbrev pub cells_of_counters : Counters → Row
cells_of_counters c = counter_cells c.granted c.created

pub one_counters : (c d : Counters) → cells_of_counters c ≡ cells_of_counters d → c ≡ d
one_counters c d is =
    let granted : c.granted ≡ d.granted = cc in
    let created : c.created ≡ d.created = cc in
    λ i. record { granted = granted i; created = created i }

-- ---- lists of them

module _ {X : Type 0} (cells : X → Row) (once : (x y : X) → cells x ≡ cells y → x ≡ y) where
  pub same_values : (xs ys : List X) → map cells xs ≡ map cells ys → xs ≡ ys
  same_values [] [] is = refl
  same_values [] (y ∷ ys) is = absurd cc
  same_values (x ∷ xs) [] is = absurd cc
  same_values (x ∷ xs) (y ∷ ys) is =
      let head = once x y cc in
      let rest = same_values xs ys cc in
      λ i. head i ∷ rest i

  -- the values that rows show, where the rows are those of some values in another order
  pub values_shown : (xs ys : List X) (rows : List Row) → IsPermutation (map cells xs) rows → rows ≡ map cells ys → IsPermutation xs ys
  values_shown xs ys rows same shown =
      let back = pull_back cells (map cells xs) rows same xs refl in
      subst (IsPermutation xs) (same_values back.0 ys (sym back.2 ∙ shown)) back.1
