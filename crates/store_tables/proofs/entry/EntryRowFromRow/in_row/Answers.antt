use Rattle.store_tables.proofs.Vocabulary.{◌≡◌, [], ◌∷◌, take, drop, subst, sym, ap, ◌∙◌, FitsMaxLength, Prefix, Value, Row, column, entry_cells, prefix_cells, number_cell, first_columns, EntryRow}
use Rattle.store_tables.proofs.CellsOnce.{one_prefix}
use Rattle.store_tables.proofs.entry.EntryRowFromRow.in_row.Goals as goal

-- the prefix and the maxLength of an entry that shows a row are those of its columns
entry_parts : (e : EntryRow) (p : Prefix) (row : Row) (family first length : Value)
    → entry_cells e ≡ first_columns 6 row → family ≡ column row 2 → first ≡ column row 3 → length ≡ column row 4
    → family ∷ first ∷ length ∷ [] ≡ prefix_cells p → (e.entry.prefix ≡ p) × (number_cell e.entry.max ≡ column row 5)
entry_parts e p row family first length same at_2 at_3 at_4 shown = (
  one_prefix e.entry.prefix p (ap (λ (r : Row). take 3 (drop 2 r)) same ∙ (λ i. sym at_2 i ∷ sym at_3 i ∷ sym at_4 i ∷ []) ∙ shown),
  ap (λ (r : Row). column r 5) same,
)

pub returns-in_err-decode_max_length : goal.returns-in_err-decode_max_length
returns-in_err-decode_max_length c =
    rw c.from_residual-in_err-decode_max_length.ensures (λ e fits same.
    let parts = entry_parts e c.in_ok-prefix.prefix c.args.row.now _ _ _ same c.cell.ensures c.cell-2.ensures c.cell-3.ensures c.in_ok-prefix.ensures.1 in
    let range = subst (λ p. FitsMaxLength p e.entry.max) parts.0 fits.max in
    c.in_err-decode_max_length.ensures e.entry.max range (parts.1 ∙ sym c.cell-6.ensures))
