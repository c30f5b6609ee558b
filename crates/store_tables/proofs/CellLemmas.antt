-- The cells of typed rows: what their columns cast and how they compare.
use Rattle.store_tables.proofs.Vocabulary.{◌≡◌, ℕ, pos, ◌<◌, ◌^◌, Bool, ◌==◌, List, [], ◌∷◌, ◌++◌, codes, map, sym, ap, ◌∙◌, subst, IsPermutation, is_eq, int_cmp, nat_cmp, arith, ints, map-append, IsPermutation-to_front, Value, Null, Text, Blob, Row, value_cmp, value_cmp-Blob, value_cmp-Int, Integer, cast, cast_all, width, family_eq, Family, V4, V6, Prefix, Span, below_widest, Granted, Scope, All, Only, Under, By, Both, Claim, EntryRow, Exception, Assertion, ExceptionRow, SCHEMA, meta, pool, holder, holding, granted, claim, entry, slurm, number_cell, family_number, role_number, address_bytes, schema_row, prefix_cells, scope_cells, holder_row, holding_row, granted_row, claim_row, entry_row, exception_row}
use Rattle.std.proofs.lemmas.Bool.Decides.{nat_tests}
use Rattle.sqlite_sql.specs.Ops.{unary}
use Rattle.store_tables.specs.declared.exception.Exception.TheVariants.{Filter as FilterOf}
use Rattle.store_tables.proofs.AddressBytes.{addresses_in_order}
use Rattle.store_tables.proofs.Inserting.{either, cast_null}

pub cast_number : (n : ℕ) → cast Integer (number_cell n) ≡ number_cell n
unfolding unary
cast_number n = either _ (number_cell n)

pub cast_schema : cast_all meta.columns schema_row ≡ schema_row
cast_schema = λ i. Text (codes "schema") ∷ cast_number SCHEMA i ∷ []

pub cast_prefix : (p : Prefix) → cast_all pool.columns (prefix_cells p) ≡ prefix_cells p
cast_prefix p = λ i. cast_number (family_number p.family) i ∷ Blob (address_bytes p.first) ∷ cast_number p.length i ∷ []

pub cast_holder : (h : List ℕ) (granted created : ℕ) → cast_all holder.columns (holder_row h granted created) ≡ holder_row h granted created
cast_holder h granted created = λ i. Text h ∷ cast_number granted i ∷ cast_number created i ∷ []

pub cast_holding : (h : List ℕ) (s : Span) → cast_all holding.columns (holding_row h s) ≡ holding_row h s
cast_holding h s = λ i. cast_number (family_number s.family) i ∷ Blob (address_bytes s.lo) ∷ Blob (address_bytes s.hi) ∷ Text h ∷ []

pub cast_granted : (h : List ℕ) (g : Granted) → cast_all granted.columns (granted_row h g) ≡ granted_row h g
cast_granted h g = go g.scope
  where
    go : (scope : Scope) → cast_all granted.columns (Text h ∷ number_cell g.number ∷ Text g.caller ∷ number_cell (role_number g.role) ∷ scope_cells scope ++ number_cell g.until ∷ []) ≡ Text h ∷ number_cell g.number ∷ Text g.caller ∷ number_cell (role_number g.role) ∷ scope_cells scope ++ number_cell g.until ∷ []
    go All = λ i. Text h ∷ cast_number g.number i ∷ Text g.caller ∷ cast_number (role_number g.role) i ∷ cast_null i ∷ Null ∷ cast_null i ∷ cast_number g.until i ∷ []
    go (Only p) = λ i. Text h ∷ cast_number g.number i ∷ Text g.caller ∷ cast_number (role_number g.role) i ∷ cast_number (family_number p.family) i ∷ Blob (address_bytes p.first) ∷ cast_number p.length i ∷ cast_number g.until i ∷ []

pub cast_claim : (h : List ℕ) (c : Claim) → cast_all claim.columns (claim_row h c) ≡ claim_row h c
cast_claim h c = λ i. Text h ∷ cast_number c.number i ∷ cast_number c.asn.0 i ∷ cast_number c.from i ∷ cast_number c.until i ∷ []

pub cast_entry : (h : List ℕ) (e : EntryRow) → cast_all entry.columns (entry_row h e) ≡ entry_row h e
cast_entry h e = λ i. Text h ∷ cast_number e.number i ∷ cast_number e.asn.0 i ∷ cast_number (family_number e.entry.prefix.family) i ∷ Blob (address_bytes e.entry.prefix.first) ∷ cast_number e.entry.prefix.length i
    ∷ cast_number e.entry.max i ∷ []

pub cast_exception : (r : ExceptionRow) → cast_all slurm.columns (exception_row r) ≡ exception_row r
cast_exception r = go r.exception
  where
    go : (e : Exception) → cast_all slurm.columns (exception_row (record r { exception = e })) ≡ exception_row (record r { exception = e })
    go (FilterOf (Under p)) = λ i. Text r.file ∷ cast_number 1 i ∷ cast_number r.position i ∷ cast_number (family_number p.family) i ∷ Blob (address_bytes p.first) ∷ cast_number p.length i ∷ cast_null i ∷ cast_null i ∷ []
    go (FilterOf (By asn)) = λ i. Text r.file ∷ cast_number 1 i ∷ cast_number r.position i ∷ cast_null i ∷ Null ∷ cast_null i ∷ cast_null i ∷ cast_number asn.0 i ∷ []
    go (FilterOf (Both p asn)) = λ i. Text r.file ∷ cast_number 1 i ∷ cast_number r.position i ∷ cast_number (family_number p.family) i ∷ Blob (address_bytes p.first) ∷ cast_number p.length i ∷ cast_null i ∷ cast_number asn.0 i ∷ []
    go (Assertion v) = λ i. Text r.file ∷ cast_number 2 i ∷ cast_number r.position i ∷ cast_number (family_number v.prefix.family) i ∷ Blob (address_bytes v.prefix.first) ∷ cast_number v.prefix.length i ∷ cast_number v.max i ∷ cast_number v.asn.0 i ∷ []

-- a value is this number
abbrev pub is_number_cell : ℕ → Value → Bool
is_number_cell n v = is_eq (value_cmp v (number_cell n))

same_number : (m n : ℕ) → is_eq (int_cmp (pos m) (pos n)) ≡ (m == n)
same_number m n = grind (arith, ints)

pub number_of_number : (m n : ℕ) → is_number_cell n (number_cell m) ≡ (m == n)
number_of_number m n = ap is_eq (value_cmp-Int (pos m) (pos n)) ∙ same_number m n

pub same_family_number : (f g : Family) → is_number_cell (family_number g) (number_cell (family_number f)) ≡ family_eq f g
same_family_number V4 V4 = number_of_number 4 4
same_family_number V4 V6 = number_of_number 4 6
same_family_number V6 V4 = number_of_number 6 4
same_family_number V6 V6 = number_of_number 6 6

-- a value is these bytes
abbrev pub is_bytes : List ℕ → Value → Bool
is_bytes b v = is_eq (value_cmp v (Blob b))

pub same_address : (f g : Family) (m n : ℕ) → m < 2 ^ width f → n < 2 ^ width g → is_bytes (address_bytes n) (Blob (address_bytes m)) ≡ (m == n)
same_address f g m n low below =
    ap is_eq (value_cmp-Blob (address_bytes m) (address_bytes n) ∙ addresses_in_order m n (below_widest f m low) (below_widest g n below)) ∙ eq_is
  where
    eq_is : is_eq (nat_cmp m n) ≡ (m == n)
    eq_is = grind (arith, nat_tests)

-- one more at the end is one more at the front, in another order
pub appended : {A : Type 0} (f : A → Row) (xs : List A) (x : A) → IsPermutation (map f (xs ++ x ∷ [])) (f x ∷ map f xs)
appended f xs x = subst (λ l. IsPermutation l (f x ∷ map f xs)) (sym (map-append f xs (x ∷ []))) (IsPermutation-to_front (map f xs) (f x))
