-- What the rules of SQLite say of the rows of a desk's tables: how many columns they have, that a holder is
-- registered, that no holder is registered twice, and that no two exceptions of one kind have one position.
use Rattle.store_transactions.proofs.Vocabulary.{◌≡◌, ℕ, zero, suc, ◌+◌, ◌<◌, ◌≤◌, Bool, true, false, not, ◌&&◌, ◌||◌, List, [], ◌∷◌, codes, drop, length, slice_get, slice_index_or, ◌==◌, Some, None, Ordering, Less, Equal, Greater, refl, inl, inr, sym, ap, subst, ◌∙◌, is_eq, arith, AllByRecursion, list_all, is_ne, and_parts, and_from, both_ways, not-true, eq-eqb, tied_itself, length-drop, Value, Null, Int, Real, Text, Blob, Row, column, value_cmp, plain, Trees, rowid, is_int, all_weaker, all_both, Table, are_typed, are_present, passes, agree, equal, differ, clashes, guards, parent_key, has_parent, is_held, Has, all_has, test_has, some_has, some_from, desk_tables, holder_reference, required_column, rising, holder, claim, entry, is_name_of, payload_columns, number_columns}
use Rattle.std.proofs.Math.Bool.{and-true}
use Rattle.sqlite_value.specs.declared.keys.Collation.TheVariants.{Binary}
use Rattle.sqlite_value.specs.Keys.{first_key, joined}
use Rattle.sqlite_value.proofs.OrderLemmas.{value_cmp-apart, value_cmp_total}
use Rattle.sqlite_sql.specs.Ops.{is_null, binary, is_true, from_truth}
use Rattle.sqlite_schema.specs.declared.schema.Column.{Column}
use Rattle.sqlite_schema.specs.declared.schema.Constraint.{Constraint}
use Rattle.sqlite_schema.specs.declared.schema.Constraint.TheVariants.{Datatype, NotNull, Unique, ForeignKey}
use Rattle.sqlite_schema.specs.declared.schema.Schema.{Schema}
use Rattle.sqlite_schema.specs.Names.{same_name}
use Rattle.sqlite_catalog.specs.Listing.{IsSound, IsGuarded, automatic}
use Rattle.sqlite_schema.specs.declared.schema.Kind.TheVariants.{Integer as OfInteger, Blob as OfBlob, Text as OfText}
use Rattle.store_tables.proofs.TreeRows.{alike_flip}
use Rattle.store_tables.proofs.Columns.{column_after}

-- ---- the number of columns

wide : (columns : List Column) (at : ℕ) (c : Row) → are_typed None at columns c ≡ true → length c ≤ length columns
wide [] at [] is = omega arith
wide [] at (v ∷ c) is = absurd cc
wide (one ∷ columns) at [] is = omega arith
wide (one ∷ columns) at (v ∷ c) is = let rest = wide columns (at + 1) c (and_parts _ _ is).1 in omega (arith, rest)

there : (r : Row) (at : ℕ) → is_null (column r at) ≡ false → at < length r
there [] at is = absurd cc
there (v ∷ r) zero is = omega arith
there (v ∷ r) (suc at) is = let rest = there r at is in omega (arith, rest)

present : (columns : List Column) (k : ℕ) (c : Column) (at : ℕ) (r : Row) → slice_get columns k ≡ Some c → c.not_null ≡ true → are_present None at columns r ≡ true
    → is_null (column r (at + k + 1)) ≡ false
present [] k c at r is required all = absurd cc
present (one ∷ columns) zero c at r is required all =
    let same : one ≡ c = cc in
    let first : (not one.not_null || not (is_null (column r (at + 1)))) ≡ true = (and_parts _ _ all).0 in
    let here : is_null (column r (at + 1)) ≡ false = not-true _ (rw (same, required) at first) in
    subst (λ n. is_null (column r n) ≡ false) (omega arith) here
present (one ∷ columns) (suc k) c at r is required all =
    let rest = present columns k c (at + 1) r is required (and_parts _ _ all).1 in
    let same : at + 1 + k + 1 ≡ at + suc k + 1 = omega arith in
    subst (λ n. is_null (column r n) ≡ false) same rest

-- a row has as many columns as its table, where the last is NOT NULL
whole : (columns : List Column) (k : ℕ) (last : Column) (r : Row) → slice_get columns k ≡ Some last → last.not_null ≡ true → length columns ≡ k + 1
    → are_typed None 0 columns (drop 1 r) ≡ true → are_present None 0 columns r ≡ true → length (drop 1 r) ≡ k + 1
whole columns k last r is required count typed filled =
    let most = wide columns 0 (drop 1 r) typed in
    let least = there r (0 + k + 1) (present columns k last 0 r is required filled) in
    omega (arith, most, least, count, length-drop 1 r)

-- ---- equal and different values

true_back : (b : Bool) → is_true (from_truth (Some b)) ≡ b
true_back true = refl
true_back false = refl

rowids_differ : (a b : Value) → is_int a ≡ true → is_int b ≡ true → is_eq (value_cmp a b) ≡ false → differ a b ≡ true
unfolding binary
rowids_differ (Int m) (Int n) one other apart = true_back _ ∙ go (value_cmp (Int m) (Int n)) apart
  where
    go : (o : Ordering) → is_eq o ≡ false → is_ne o ≡ true
    go Less apart = refl
    go Equal apart = absurd cc
    go Greater apart = refl
rowids_differ _ _ one other apart = absurd cc

pub equal_texts : (h : List ℕ) (v : Value) → equal Binary (Text h) v ≡ is_name_of h v
unfolding binary
equal_texts h Null = sym (ap is_eq (value_cmp-apart Null (Text h) (λ e. cc)))
equal_texts h (Int n) = true_back _ ∙ alike_flip (Text h) (Int n)
equal_texts h (Real x) = true_back _ ∙ alike_flip (Text h) (Real x)
equal_texts h (Text t) = true_back _ ∙ alike_flip (Text h) (Text t)
equal_texts h (Blob b) = true_back _ ∙ alike_flip (Text h) (Blob b)

-- a value equals itself, unless it is NULL
equal_itself : (v : Value) → is_null v ≡ false → equal Binary v v ≡ true
unfolding binary
equal_itself Null some = absurd cc
equal_itself (Int n) some = true_back _ ∙ ap is_eq (tied_itself value_cmp_total (Int n))
equal_itself (Real x) some = true_back _ ∙ ap is_eq (tied_itself value_cmp_total (Real x))
equal_itself (Text t) some = true_back _ ∙ ap is_eq (tied_itself value_cmp_total (Text t))
equal_itself (Blob b) some = true_back _ ∙ ap is_eq (tied_itself value_cmp_total (Blob b))

-- ---- keys

parent_is : (place : ℕ) → parent_key desk_tables (holder_reference place) ≡ Some (holder.tree, 1 ∷ [], rising)
unfolding same_name joined
parent_is place = refl

agree_is : (at other : ℕ) (a b : Row) → agree rising (at ∷ []) a (other ∷ []) b ≡ equal Binary (column a at) (column b other)
unfolding first_key
agree_is at other a b = and-true _

abbrev pub slurm_key : List ℕ
slurm_key = 1 ∷ 2 ∷ 3 ∷ []

abbrev same_at : ℕ → Row → Row → Bool
same_at at a b = equal Binary (column a at) (column b at)

-- the row has this value, which is not NULL, in the column
abbrev pub HasAt : ℕ → Value → Row → Type 0
HasAt at v c = (column c at ≡ v) × (is_null v ≡ false)

have_same : (at : ℕ) (v : Value) (a b : Row) → HasAt at v a → HasAt at v b → same_at at a b ≡ true
have_same at v a b one other = (λ i. equal Binary (one.0 i) (other.0 i)) ∙ equal_itself v one.1

abbrev pub payload_key : List ℕ
payload_key = 3 ∷ 4 ∷ 5 ∷ 6 ∷ 7 ∷ []

payload_key_is : (a b : Row) → agree rising payload_key a payload_key b ≡ (same_at 3 a b && (same_at 4 a b && (same_at 5 a b && (same_at 6 a b && (same_at 7 a b && true)))))
unfolding first_key
payload_key_is a b = refl

-- two rows show the same in a column, which is NOT NULL
same_cell :
    (t : Table) (a b : Row) → are_present None 0 t.columns b ≡ true → (k : ℕ) (c : Column) → slice_get t.columns k ≡ Some c → c.not_null ≡ true
    → column (drop 1 a) k ≡ column (drop 1 b) k → same_at (suc k) a b ≡ true
same_cell t a b filled k c is required equal =
    let some : is_null (column b (suc k)) ≡ false = subst (λ n. is_null (column b n) ≡ false) (omega arith) (present t.columns k c 0 b is required filled) in
    have_same (suc k) (column b (suc k)) a b (column_after a k ∙ equal ∙ sym (column_after b k), some) (refl, some)

-- rows of the table `entry` that have the same VRP agree in its second key
pub agree_in_payload : (a b : Row) → are_present None 0 entry.columns b ≡ true → payload_columns (drop 1 a) ≡ payload_columns (drop 1 b) → agree rising payload_key a payload_key b ≡ true
agree_in_payload a b filled same =
    let cell = same_cell entry a b filled in
    payload_key_is a b
    ∙ and_from _ _ (cell 2 (required_column (codes "asn") OfInteger) refl refl (ap (λ c. column c 0) same))
    (and_from _ _ (cell 3 (required_column (codes "family") OfInteger) refl refl (ap (λ c. column c 1) same))
    (and_from _ _ (cell 4 (required_column (codes "lo") OfBlob) refl refl (ap (λ c. column c 2) same))
    (and_from _ _ (cell 5 (required_column (codes "len") OfInteger) refl refl (ap (λ c. column c 3) same))
    (and_from _ _ (cell 6 (required_column (codes "max") OfInteger) refl refl (ap (λ c. column c 4) same)) refl))))

abbrev pub number_key : List ℕ
number_key = 1 ∷ 2 ∷ []

number_key_is : (a b : Row) → agree rising number_key a number_key b ≡ (same_at 1 a b && (same_at 2 a b && true))
unfolding first_key
number_key_is a b = refl

-- rows of the table `claim` that have the same holder and number agree in its key
pub agree_in_number : (a b : Row) → are_present None 0 claim.columns b ≡ true → number_columns (drop 1 a) ≡ number_columns (drop 1 b) → agree rising number_key a number_key b ≡ true
agree_in_number a b filled same =
    let cell = same_cell claim a b filled in
    number_key_is a b
    ∙ and_from _ _ (cell 0 (required_column (codes "holder") OfText) refl refl (ap (λ c. column c 0) same))
    (and_from _ _ (cell 1 (required_column (codes "number") OfInteger) refl refl (ap (λ c. column c 1) same)) refl)

module _ (schema : Schema) (db : Trees) (tables : schema.tables ≡ desk_tables) (sound : IsSound schema db) where
  passed : (rule : Constraint) (t : Table) → Has desk_tables t → AllByRecursion (λ r. passes rule schema db t r ≡ true) (db t.tree)
  passed rule t has =
      all_has (λ t. AllByRecursion (λ r. passes rule schema db t r ≡ true) (db t.tree)) desk_tables t
      (subst (AllByRecursion (λ t. AllByRecursion (λ r. passes rule schema db t r ≡ true) (db t.tree))) tables (sound.obeys.rules rule)) has

  module _ (t : Table) (has : Has desk_tables t) (key : t.key ≡ None) where
    pub filled : AllByRecursion (λ r. are_present None 0 t.columns r ≡ true) (db t.tree)
    filled = all_weaker _ _ (λ r is. rw key at is) (db t.tree) (passed NotNull t has)

    -- each row has as many columns as the table, where the last is NOT NULL
    pub all_whole : (k : ℕ) (last : Column) → slice_get t.columns k ≡ Some last → last.not_null ≡ true → length t.columns ≡ k + 1 → AllByRecursion (λ r. length (drop 1 r) ≡ k + 1) (db t.tree)
    all_whole k last is required count =
        all_both (λ r. passes Datatype schema db t r ≡ true) (λ r. are_present None 0 t.columns r ≡ true) (λ r. length (drop 1 r) ≡ k + 1)
        (λ r typed all. let types : (are_typed t.key 0 t.columns (drop 1 r) ≡ true) = (and_parts _ _ typed).0 in whole t.columns k last r is required count (rw key at types) all)
        (db t.tree) (passed Datatype t has) filled

    -- the holder of a row is registered
    pub all_referred : (k : ℕ) (c : Column) → slice_get t.columns k ≡ Some c → c.not_null ≡ true → t.references ≡ holder_reference (k + 1) ∷ []
        → AllByRecursion (λ r. (p : Row) × Has (db holder.tree) p × (equal Binary (column p 1) (column r (k + 1)) ≡ true)) (db t.tree)
    all_referred k c is required references =
        all_both (λ r. passes ForeignKey schema db t r ≡ true) (λ r. are_present None 0 t.columns r ≡ true) _
        (λ r refers all.
        let some : is_null (column r (k + 1)) ≡ false = subst (λ n. is_null (column r n) ≡ false) (omega arith) (present t.columns k c 0 r is required all) in
        let parents = subst (λ ts. list_all (has_parent ts db r) t.references ≡ true) tables refers in
        let these : list_all (has_parent desk_tables db r) (holder_reference (k + 1) ∷ []) ≡ true = rw references at parents in
        let one : (is_null (column r (k + 1)) || false || is_held db ((k + 1) ∷ []) r (parent_key desk_tables (holder_reference (k + 1)))) ≡ true = (and_parts _ _ these).0 in
        let held : is_held db ((k + 1) ∷ []) r (parent_key desk_tables (holder_reference (k + 1))) ≡ true = rw some at one in
        let at_key = subst (λ key. is_held db ((k + 1) ∷ []) r key ≡ true) (parent_is (k + 1)) held in
        let found = some_has (λ p. agree rising (1 ∷ []) p ((k + 1) ∷ []) r) (db holder.tree) at_key in
        (found.0, found.1, sym (agree_is 1 (k + 1) found.0 r) ∙ found.2))
        (db t.tree) (passed ForeignKey t has) filled

  -- rows of a table that agree in one of its keys have one rowid
  module _ (t : Table) (has : Has desk_tables t) (place : ℕ) (key : List ℕ) (is_key : slice_get t.uniques place ≡ Some key) (upwards : slice_index_or t.orders place plain ≡ rising) where
    unclashed : (b : Row) → Has (db t.tree) b → clashes rising key (db t.tree) b ≡ false
    unclashed b has_b =
        let rows = db t.tree in
        let guarded = all_has (IsGuarded schema.indexes) desk_tables t (subst (AllByRecursion (IsGuarded schema.indexes)) tables sound.lists.guarded) has place key is_key in
        let unique = all_has (λ r. passes Unique schema db t r ≡ true) rows b (passed Unique t has) has_b in
        let free : not ((t.tree == t.tree) && clashes (slice_index_or t.orders place plain) key rows b) ≡ true =
        test_has (λ i. not (guards i t && clashes i.order i.columns rows b)) schema.indexes (automatic t place key guarded.0) unique guarded.1 in
        not-true _ (rw (eq-eqb t.tree t.tree refl, upwards) at free)

    pub once_by_key : (a b : Row) → Has (db t.tree) a → Has (db t.tree) b → is_int (rowid a) ≡ true → is_int (rowid b) ≡ true → is_eq (value_cmp (rowid a) (rowid b)) ≡ false
        → agree rising key a key b ≡ false
    once_by_key a b has_a has_b one other apart = go (agree rising key a key b) refl
      where
        go : (same : Bool) → agree rising key a key b ≡ same → same ≡ false
        go false is = refl
        go true is =
            absurd (both_ways _ (unclashed b has_b) (some_from (λ other. agree rising key other key b && differ (rowid other) (rowid b)) (db t.tree) a has_a
            (and_from _ _ is (rowids_differ (rowid a) (rowid b) one other apart))))

  -- rows of one name have one rowid
  pub once : (a b : Row) → Has (db holder.tree) a → Has (db holder.tree) b → is_int (rowid a) ≡ true → is_int (rowid b) ≡ true → is_eq (value_cmp (rowid a) (rowid b)) ≡ false
      → equal Binary (column a 1) (column b 1) ≡ false
  once a b has_a has_b one other apart = sym (agree_is 1 1 a b) ∙ once_by_key holder (inr (inr (inr (inl refl)))) 0 (1 ∷ []) refl refl a b has_a has_b one other apart
