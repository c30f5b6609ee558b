-- What the walk over claims and the rows of entries finds.
use Rattle.std.specs.Prelude.{◌≡◌, Bool, true, false, cond, ◌&&◌, ◌==◌, List, [], ◌∷◌, Option, Some, None, nat_eq}
use Rattle.std.specs.Cmp.Lexicographic.{pointwise, same_text}
use Rattle.std.proofs.Common.{refl, sym, arith}
use Rattle.std.proofs.lemmas.Bool.{and_parts, eqb-true}
use Rattle.std.proofs.lemmas.Cmp.{nat_list_eq_equiv}
use Rattle.addr.specs.declared.roa_prefix.RoaPrefix.{RoaPrefix}
use Rattle.store_tables.specs.declared.claim.Claim.{Claim}
use Rattle.store_tables.specs.declared.entry.EntryRow.{EntryRow}
use Rattle.store_tables.specs.declared.groups.OfHolder.{OfHolder}
use Rattle.store_tables.specs.Groups.{claim_entry, holder_entry}

-- the entries that the first rows are, up to the first row that is none
abbrev pub with_entry : Option RoaPrefix → List RoaPrefix → List RoaPrefix
with_entry None es = []
with_entry (Some e) es = e ∷ es

abbrev pub first_entries : {R : Type 0} → (R → Option RoaPrefix) → List R → List RoaPrefix
first_entries entry_if [] = []
first_entries entry_if (r ∷ rows) = with_entry (entry_if r) (first_entries entry_if rows)

-- the entry of a claim that a row is, if it is one
abbrev pub entry_if : Claim → EntryRow → Option RoaPrefix
entry_if c r = cond ((c.number == r.number) && (c.asn.0 == r.asn.0)) (Some r.entry) None

abbrev pub holder_entry_if : {C R : Type 0} → (C → R → Option RoaPrefix) → OfHolder C → OfHolder R → Option RoaPrefix
holder_entry_if read c r = cond (pointwise nat_eq c.holder r.holder) (read c.row r.row) None

-- an entry is found in its row, and only there
pub entry_found : (c : Claim) (e : RoaPrefix) → entry_if c (claim_entry c e) ≡ Some e
entry_found c e = grind arith

one_entry : (d e : RoaPrefix) → Some d ≡ Some e → d ≡ e
one_entry d e is = cc

pub only_found : (c : Claim) (r : EntryRow) (e : RoaPrefix) → entry_if c r ≡ Some e → r ≡ claim_entry c e
only_found c r e = go ((c.number == r.number) && (c.asn.0 == r.asn.0)) refl
  where
    go : (same : Bool) → ((c.number == r.number) && (c.asn.0 == r.asn.0)) ≡ same → cond same (Some r.entry) None ≡ Some e → r ≡ claim_entry c e
    go false told is = absurd cc
    go true told is =
        let parts : (c.number == r.number) ≡ true × (c.asn.0 == r.asn.0) ≡ true = and_parts _ _ told in
        let number : c.number ≡ r.number = eqb-true _ _ parts.0 in
        let asn : c.asn.0 ≡ r.asn.0 = eqb-true _ _ parts.1 in
        λ i. record { number = sym number i; asn = record { 0 = sym asn i }; entry = one_entry r.entry e is i }

pub holder_entry_found : {C R : Type 0} (row : C → RoaPrefix → R) (read : C → R → Option RoaPrefix) → ((c : C) (e : RoaPrefix) → read c (row c e) ≡ Some e)
    → (c : OfHolder C) (e : RoaPrefix) → holder_entry_if read c (holder_entry row c e) ≡ Some e
holder_entry_found row read found c e = rw (nat_list_eq_equiv.refl c.holder) (found c.row e)

pub only_found_of_holder : {C R : Type 0} (row : C → RoaPrefix → R) (read : C → R → Option RoaPrefix) → ((c : C) (r : R) (e : RoaPrefix) → read c r ≡ Some e → r ≡ row c e)
    → (c : OfHolder C) (r : OfHolder R) (e : RoaPrefix) → holder_entry_if read c r ≡ Some e → r ≡ holder_entry row c e
only_found_of_holder row read only c r e = go (pointwise nat_eq c.holder r.holder) refl
  where
    go : (same : Bool) → pointwise nat_eq c.holder r.holder ≡ same → cond same (read c.row r.row) None ≡ Some e → r ≡ holder_entry row c e
    go false told is = absurd cc
    go true told is = let name = same_text c.holder r.holder (sym told) in let rest = only c.row r.row e is in λ i. record { holder = sym name i; row = rest i }
