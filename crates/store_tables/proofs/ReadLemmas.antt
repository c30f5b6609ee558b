-- The parts of typed values in the cells that show them.
use Rattle.store_tables.proofs.Vocabulary.{◌≡◌, ◌≢◌, ℕ, ◌^◌, ◌<◌, ◌≤◌, ◌↔◌, List, [], ◌∷◌, length, get_or, arith, ap, sym, ◌∙◌, refl, subst, IsSome, IfSome, ⊤, Any, AllByRecursion, length-map, get_or-map, All-map, All-permutation, Null, Blob, Row, column, all_of, all-map, all-permutation, Family, Prefix, Span, width, IsPrefix, below_widest, first_below, address_bytes, number_cell, family_number, prefix_cells, span_cells, columns, Decodes, first_columns}
use Rattle.std.specs.Prelude.{Option, Some, None, map, All}
use Rattle.std.specs.List.Sorted.{IsPermutation}
use Rattle.std.proofs.lemmas.List.FromFn.{fill_by_all}
use Rattle.store_tables.proofs.AddressBytes.{address_once, length-address_bytes}
use Rattle.store_tables.proofs.CellsOnce.{one_family}

pub all_columns : (count : ℕ) (row : Row) → length row ≡ count → row ≡ first_columns count row
all_columns count row whole = fill_by_all (column row) row count Null whole (λ k within. refl)

-- rows of so many columns are their first columns
pub first_of_all : (count : ℕ) (rows : List Row) → AllByRecursion (λ c. length c ≡ count) rows → map (first_columns count) rows ≡ rows
first_of_all count [] all = refl
first_of_all count (c ∷ rows) all = λ i. sym (all_columns count c all.0) i ∷ first_of_all count rows all.1 i

-- rows that show these columns have no others
pub are_whole : (places : List ℕ) (kept rows : List Row) → IsPermutation (map (columns places) kept) rows → map (first_columns (length places)) rows ≡ rows
are_whole places kept rows same =
    let count = length places in
    first_of_all count rows (all-permutation (λ c. length c ≡ count) _ rows same (all-map _ (columns places) kept (all_of _ (λ c. length-map places (column c)) kept)))

pub address_reads :
    (bytes : List ℕ) (r : Option ℕ) → IfSome r (λ n. bytes ≡ address_bytes n) → (r ≡ None → length bytes ≢ 16)
    → Decodes (λ n. Blob (address_bytes n)) (λ _. ⊤) (Blob bytes) r
address_reads bytes None some none = λ n _ same. none refl (let e : address_bytes n ≡ bytes = cc in sym (ap length e) ∙ length-address_bytes n)
address_reads bytes (Some n) some none = (tt, ap Blob some)

prefix_of_parts :
    (p : Prefix) (family : Family) (first length : ℕ) → first < 2 ^ 128
    → prefix_cells p ≡ number_cell (family_number family) ∷ Blob (address_bytes first) ∷ number_cell length ∷ []
    → IsPrefix family first length
prefix_of_parts p family first length fits same =
    let f : p.family ≡ family = one_family p.family family (cc) in
    let inside : p.first < 2 ^ width p.family = first_below p in
    let bytes : address_bytes p.first ≡ address_bytes first = cc in
    let a : p.first ≡ first = address_once p.first first (below_widest p.family p.first inside) fits bytes in
    let l : p.length ≡ length = cc in
    subst (λ g. IsPrefix g first length) f
    (subst (λ n. IsPrefix p.family n length) a
    (subst (λ n. IsPrefix p.family p.first n) l (p.length_fits, inside, p.aligned)))

pub prefix_reads :
    (r : Option Prefix) (family : Family) (first length : ℕ) → first < 2 ^ 128 → (IsSome r ↔ IsPrefix family first length)
    → IfSome r (λ p. (p.family ≡ family) × (p.first ≡ first) × (p.length ≡ length))
    → Decodes prefix_cells (λ _. ⊤) (number_cell (family_number family) ∷ Blob (address_bytes first) ∷ number_cell length ∷ []) r
prefix_reads None family first length fits some parts =
    λ p _ same. let is : IsSome {T = Prefix} None = some.1 (prefix_of_parts p family first length fits same) in cc
prefix_reads (Some p) family first length fits some parts =
    (tt, sym (λ i. number_cell (family_number (parts.0 i)) ∷ Blob (address_bytes (parts.1 i)) ∷ number_cell (parts.2 i) ∷ []))

span_of_parts :
    (s : Span) (family : Family) (lo hi : ℕ) → lo < 2 ^ 128 → hi < 2 ^ 128
    → span_cells s ≡ number_cell (family_number family) ∷ Blob (address_bytes lo) ∷ Blob (address_bytes hi) ∷ []
    → (lo ≤ hi) × (hi < 2 ^ width family)
span_of_parts s family lo hi lo_fits hi_fits same =
    let f : s.family ≡ family = one_family s.family family (cc) in
    let low : s.hi < 2 ^ 128 = below_widest s.family s.hi s.in_family in
    let first : address_bytes s.lo ≡ address_bytes lo = cc in
    let last : address_bytes s.hi ≡ address_bytes hi = cc in
    let l : s.lo ≡ lo = address_once s.lo lo (omega arith) lo_fits first in
    let h : s.hi ≡ hi = address_once s.hi hi low hi_fits last in
    let w : 2 ^ width s.family ≡ 2 ^ width family = ap (λ g. 2 ^ width g) f in
    (omega arith, omega arith)

pub span_reads :
    (r : Option Span) (family : Family) (lo hi : ℕ) → lo < 2 ^ 128 → hi < 2 ^ 128
    → (IsSome r ↔ ((lo ≤ hi) × (hi < 2 ^ width family)))
    → IfSome r (λ s. (s.family ≡ family) × (s.lo ≡ lo) × (s.hi ≡ hi))
    → Decodes span_cells (λ _. ⊤) (number_cell (family_number family) ∷ Blob (address_bytes lo) ∷ Blob (address_bytes hi) ∷ []) r
span_reads None family lo hi lo_fits hi_fits some parts =
    λ s _ same. let is : IsSome {T = Span} None = some.1 (span_of_parts s family lo hi lo_fits hi_fits same) in cc
span_reads (Some s) family lo hi lo_fits hi_fits some parts =
    (tt, sym (λ i. number_cell (family_number (parts.0 i)) ∷ Blob (address_bytes (parts.1 i)) ∷ Blob (address_bytes (parts.2 i)) ∷ []))

-- rows that show values, in whatever order, have none that shows no value
pub all_show :
    {X : Type 0} (cells : X → Row) (fits : X → Type 0) (xs : List X) (rows : List Row) → All fits xs
    → IsPermutation (map cells xs) rows → ¬ Any (λ row. (x : X) → fits x → cells x ≢ row) rows
all_show {X} cells fits xs rows fit same other =
    let Shows : Row → Type 0 = λ row. (x : X) × fits x × (cells x ≡ row) in
    let each : All Shows rows = All-permutation Shows (map cells xs) rows same (All-map Shows cells xs (λ k d within. (get_or xs k d, fit k d within, refl))) in
    let shown : Shows (get_or rows other.0 other.1) = each other.0 other.1 other.2 in
    other.4 shown.0 shown.1 (shown.2 ∙ other.3)

-- what holds of the image of one element holds of some image
pub any_mapped : {X Y : Type 0} (P : Y → Type 0) (f : X → Y) (xs : List X) (k : ℕ) (x : X) → k < length xs → x ≡ get_or xs k x → P (f x) → Any P (map f xs)
any_mapped P f xs k x low is holds = (k, f x, omega (arith, length-map xs f), get_or-map f xs k x (f x) low ∙ ap f (sym is), holds)
