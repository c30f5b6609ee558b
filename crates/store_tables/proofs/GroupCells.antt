-- Rows of entries as SQL orders them: by number, family, first address and length.
use Rattle.store_tables.proofs.Vocabulary.{◌≡◌, ℕ, ◌<◌, ◌^◌, pos, Ordering, Less, nat_cmp, int_cmp, inl, inr, sym, ap, ap₂, subst, ◌∙◌, arith, ordering_reverse, ordering_then, cases_lt, int_cmp_total, nat_cmp_total, tied_itself, ints, Row, column, value_cmp, value_cmp-Blob, value_cmp-Int, family_cmp, Family, V4, V6, EntryRow, address_bytes, entry_cells, family_number, number_cell}
use Rattle.store_tables.proofs.AddressBytes.{addresses_in_order}
use Rattle.store_tables.proofs.GroupOrder.{entry_row_cmp}

int_less : (m n : ℕ) → m < n → int_cmp (pos m) (pos n) ≡ Less
int_less m n less = grind (arith, ints, less)

nat_less : (m n : ℕ) → m < n → nat_cmp m n ≡ Less
nat_less m n less = grind (arith, less)

compared : (m n : ℕ) → int_cmp (pos m) (pos n) ≡ nat_cmp m n
compared m n = elim (cases_lt m n) [
  | inl low ↦ int_less m n low ∙ sym (nat_less m n low)
  | inr high ↦ elim (cases_lt n m) [
    | inl low ↦ int_cmp_total.antisymm (pos m) (pos n) ∙ ap ordering_reverse (int_less n m low ∙ sym (nat_less n m low)) ∙ sym (nat_cmp_total.antisymm m n)
    | inr also ↦ let same : m ≡ n = omega (arith, high, also) in subst (λ k. int_cmp (pos m) (pos k) ≡ nat_cmp m k) same (tied_itself int_cmp_total (pos m) ∙ sym (tied_itself nat_cmp_total m))
  ]
]

numbers_alike : (m n : ℕ) → value_cmp (number_cell m) (number_cell n) ≡ nat_cmp m n
numbers_alike m n = value_cmp-Int (pos m) (pos n) ∙ compared m n

families_alike : (f g : Family) → value_cmp (number_cell (family_number f)) (number_cell (family_number g)) ≡ family_cmp f g
families_alike V4 V4 = numbers_alike 4 4
families_alike V4 V6 = numbers_alike 4 6
families_alike V6 V4 = numbers_alike 6 4
families_alike V6 V6 = numbers_alike 6 6

-- the order of the cells of rows by these columns
abbrev pub by_entry : Row → Row → Ordering
by_entry x y =
    ordering_then (value_cmp (column x 0) (column y 0))
    (ordering_then (value_cmp (column x 2) (column y 2)) (ordering_then (value_cmp (column x 3) (column y 3)) (value_cmp (column x 4) (column y 4))))

-- is that of the rows
pub entries_alike : (r s : EntryRow) → r.entry.prefix.first < 2 ^ 128 → s.entry.prefix.first < 2 ^ 128 → by_entry (entry_cells r) (entry_cells s) ≡ entry_row_cmp r s
entries_alike r s low below =
    let p = r.entry.prefix in
    let q = s.entry.prefix in
    let first = value_cmp-Blob (address_bytes p.first) (address_bytes q.first) ∙ addresses_in_order p.first q.first low below in
    ap₂ ordering_then (numbers_alike r.number s.number)
    (ap₂ ordering_then (families_alike p.family q.family) (ap₂ ordering_then first (numbers_alike p.length q.length)))
