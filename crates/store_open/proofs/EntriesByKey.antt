-- The query of all entries in the order of their key.
use Rattle.store_open.proofs.Vocabulary.{◌≡◌, ℕ, ◌+◌, ◌<◌, ◌^◌, true, List, [], ◌∷◌, map, filter, length, codes, drop, get_or, Equal, refl, sym, ap, ap₂, subst, ◌∙◌, arith, is_lt, Ordering, IsPermutation, IsSorted, ordering_then, get_or-map, length-map, All-from_recursion, IsPermutation-map, Database, Reads, Null, Row, column, value_cmp, then-Equal, value_cmp-Text, all_of, all-permutation, filter_all, map-map, Term, Command, Select, EntryRow, SELECT_ENTRIES_BY_KEY, Claim, OfHolder, first_columns, columns, contents, entry, shown_at, shown_columns, entry_row_cmp, of_holder_cmp, from_table, no_limit, permuted, picks, sorted, Means, upwards, AnswersSelect, MakeOfTable, MakeNoneOfTable, EntriesRead, MakeNoneOfRows, MakeOfRows, ShowEntries, shown_entries, entry_places, show_entry}
use Rattle.sqlite.specs.Listing.{understood}
use Rattle.sqlite_value.specs.declared.keys.Key.{Key}
use Rattle.sqlite_tied.specs.Compute.{everything}
use Rattle.addr.proofs.AddressLemmas.{below_widest, first_below}
use Rattle.store_tables.proofs.GroupCells.{by_entry, entries_alike}

abbrev key_order : List (Term × Key)
key_order = upwards 1 ∷ upwards 2 ∷ upwards 4 ∷ upwards 5 ∷ upwards 6 ∷ []

abbrev titles : List (List ℕ)
titles = codes "number" ∷ codes "asn" ∷ codes "family" ∷ codes "lo" ∷ codes "len" ∷ codes "max" ∷ codes "holder" ∷ []

pub entries_by_key_is : Means SELECT_ENTRIES_BY_KEY.now (Select (record { lets = []; body = from_table 19 [] (shown_at entry_places) key_order no_limit }) titles)
unfolding understood everything
entries_by_key_is = record { is = λ s. refl; plain = λ s. (refl, refl); unlisted = λ s. refl }

-- ---- the order of the rows is that of the entries

abbrev by_key : Row → Row → Ordering
by_key x y = ordering_then (value_cmp (column x 6) (column y 6)) (by_entry x y)

ranked : (x y : Row)
    → ordering_then (value_cmp (column x 6) (column y 6)) (ordering_then (value_cmp (column x 0) (column y 0)) (ordering_then (value_cmp (column x 2) (column y 2)) (ordering_then (value_cmp (column x 3) (column y 3)) (ordering_then (value_cmp (column x 4) (column y 4)) Equal))))
    ≡ by_key x y
ranked x y =
    ap (λ o. ordering_then (value_cmp (column x 6) (column y 6)) (ordering_then (value_cmp (column x 0) (column y 0)) (ordering_then (value_cmp (column x 2) (column y 2)) (ordering_then (value_cmp (column x 3) (column y 3)) o))))
    (then-Equal _)

first_bounded : (r : EntryRow) → r.entry.prefix.first < 2 ^ 128
first_bounded r = let p = r.entry.prefix in below_widest p.family p.first (first_below p)

alike : (r s : OfHolder EntryRow) → by_key (show_entry r) (show_entry s) ≡ of_holder_cmp entry_row_cmp r s
alike r s = ap₂ ordering_then (value_cmp-Text r.holder s.holder) (entries_alike r.row s.row (first_bounded r.row) (first_bounded s.row))

-- the entries that rows in order show are in order
sorted_entries : (rows : List Row) (entries : List (OfHolder EntryRow)) → map (first_columns 7) rows ≡ map show_entry entries → IsSorted by_key rows → IsSorted (of_holder_cmp entry_row_cmp) entries
sorted_entries rows entries shown up k d low high =
    let row = show_entry d in
    let count : length rows ≡ length entries = sym (length-map rows (first_columns 7)) ∙ ap length shown ∙ length-map entries show_entry in
    let next : k + 1 < length rows = omega (arith, high, count) in
    let this : k < length rows = omega (arith, next) in
    let same : (n : ℕ) → n < length rows → first_columns 7 (get_or rows n row) ≡ show_entry (get_or entries n d) =
    λ n inside. sym (get_or-map (first_columns 7) rows n row row inside) ∙ ap (λ l. get_or l n row) shown ∙ get_or-map show_entry entries n d row (omega (arith, inside, count)) in
    ap is_lt (sym (alike (get_or entries (k + 1) d) (get_or entries k d))) ∙ (λ i. is_lt (by_key (sym (same (k + 1) next) i) (sym (same k this) i))) ∙ up k row low next

-- ---- what the query answers

module _ (db : Database) (rows : List Row) (answered : AnswersSelect SELECT_ENTRIES_BY_KEY.now db rows) where
  answers : Reads (Select (record { lets = []; body = from_table 19 [] (shown_at entry_places) key_order no_limit }) titles) db [] rows
  answers = subst (λ (k : Command). Reads k db [] rows) (entries_by_key_is.is db.schema) answered

  found_by_key : IsPermutation (shown_entries db) (map (first_columns 7) rows)
  found_by_key =
      let tree = db.trees entry.tree in
      let every : filter (picks [] []) tree ≡ tree = filter_all (picks [] []) tree (all_of (λ r. picks [] [] r ≡ true) (λ r. refl) tree) in
      let all = subst (λ l. IsPermutation l rows) ((λ i. map (λ r. shown_columns entry_places [] r i) (every i)) ∙ sym (map-map (columns entry_places) (λ (r : Row). drop 1 r) tree)) (permuted 19 [] (shown_at entry_places) key_order db.trees [] rows (answers.answer Null)) in
      subst (λ l. IsPermutation l (map (first_columns 7) rows)) (map-map (first_columns 7) (columns entry_places) (contents tree)) (IsPermutation-map (first_columns 7) _ _ all)

  sorted_by_key : IsSorted by_key rows
  sorted_by_key = sorted 19 [] (shown_at entry_places) key_order db.trees [] rows (6 ∷ 0 ∷ 2 ∷ 3 ∷ 4 ∷ []) by_key (λ r. refl) ranked (answers.answer Null)

  entries_read : (entries : List (OfHolder EntryRow)) → ShowEntries rows entries → EntriesRead db entries
  entries_read entries show = record { fit = All-from_recursion _ entries show.fit; same = subst (IsPermutation (shown_entries db)) show.shown found_by_key }

  module _ (claims : List (OfHolder Claim)) where
    pub joined_in : MakeOfRows claims rows → MakeOfTable claims db
    joined_in made = (made.0, entries_read made.0 made.1, made.2)

    pub not_joined_in : MakeNoneOfRows claims rows → MakeNoneOfTable claims db
    not_joined_in none each =
        let it = none (all-permutation _ _ _ found_by_key each) in
        (it.0, entries_read it.0 it.1, sorted_entries rows it.0 it.1.shown sorted_by_key, it.2)
