-- The rows of a charter file, one after the other.
use Rattle.cli_texts.proofs.Vocabulary.{◌≡◌, ◌+◌, ℕ, suc, List, [], ◌∷◌, ◌++◌, length, map, Option, Some, None, Bool, true, false, not, cond, refl, sym, ap, subst, ◌∙◌, append_assoc, arith, length-append, nat_eq, ◌||◌, or_parts, or_from, not-true, not-false, map-append, bytes_eq-Decides, bytes_eq, Spells, Spells_unique, faultless-Spells, Prefix, charter_fault, charter_row, fault_of_pair, first_charter_fault, kind_and_value_fault, kind_of, operators_in, pool_in, pool_kind, is_noted, same_row, value_of, HoldsRows, RecordFields, at_row, IsReported, fields_eq, two_of, prefix_text, CharterRow, RowFault}
use Rattle.std.proofs.lemmas.Option.{same_Some}
use Rattle.std.proofs.Math.Bool.{and-true}
use Rattle.std.proofs.lemmas.List.Folds.{list_any-append}
use Rattle.std.proofs.lemmas.Map.Text.{is_eq-slice_cmp}
use Rattle.std.specs.BTreeMap.{is_at}
use Rattle.std.specs.BTreeSet.{contains}
use Rattle.std.specs.Cmp.{both_ways}
use Rattle.std.specs.Cmp.Lexicographic.{pointwise, slice_cmp}
use Rattle.std.specs.Ordering.{nat_cmp}
use Rattle.std.specs.List.{list_any}
use Rattle.addr.specs.Address.{prefix_eq}
use Rattle.addr.proofs.Equality.{equal_prefix, prefix_itself}
use Rattle.addr.specs.Order.{prefix_cmp}
use Rattle.addr.specs.steps.TotalOrders.{prefix_ties}
use Rattle.registry.specs.Repeats.{has_repeat}
use Rattle.cli_texts.specs.declared.charter_file.CharterRow.TheVariants.{Operator, Pool}
use Rattle.cli_texts.specs.declared.charter_file.CharterRows.{CharterRows}
use Rattle.cli_texts.specs.declared.fault.FileFault.{FileFault}
use Rattle.cli_texts.specs.declared.fault.FileFault.TheVariants as file
use Rattle.cli_texts.specs.declared.fault.RowFault.TheVariants as row

-- ---- prefixes and their texts

same_text : (p q : Prefix) → prefix_eq p q ≡ true → prefix_text p ≡ prefix_text q
same_text p q e = ap prefix_text (equal_prefix p q e)

-- texts are equal where the prefixes are
texts_same : (p q : Prefix) → bytes_eq (prefix_text p) (prefix_text q) ≡ prefix_eq p q
texts_same p q = both_ways _ _
    (λ e. let same = Spells_unique p q (prefix_text p) refl ((bytes_eq-Decides (prefix_text p) (prefix_text q)).0 e) in
    subst (λ r. prefix_eq p r ≡ true) same (prefix_itself p))
    (λ e. (bytes_eq-Decides (prefix_text p) (prefix_text q)).1 (same_text p q e))

-- ---- rows that say the same

one_same : (e r : CharterRow) → fields_eq (charter_row e) (charter_row r) ≡ same_row e r
one_same (Operator n) (Operator m) = and-true (bytes_eq n m)
one_same (Operator n) (Pool q) = refl
one_same (Pool p) (Operator m) = refl
one_same (Pool p) (Pool q) = and-true (bytes_eq (prefix_text p) (prefix_text q)) ∙ texts_same p q

rows_same : (rows : List CharterRow) (r : CharterRow)
    → list_any (λ before. fields_eq before (charter_row r)) (map charter_row rows) ≡ list_any (λ e. same_row e r) rows
rows_same [] r = refl
rows_same (e ∷ rows) r = rw (one_same e r, rows_same rows r) refl

repeat-or : (earlier : List RecordFields) (fields : RecordFields) (b : Bool) → fault_of_pair (two_of fields) ≡ None
    → list_any (λ before. fields_eq before fields) earlier ≡ b
    → charter_fault earlier fields ≡ cond b (Some row.Repeated) None
repeat-or earlier fields b plain e = rw (plain, e) refl

charter_fault-noted : (kept : CharterRows) (rows : List CharterRow) (r : CharterRow) (fields : RecordFields) (b : Bool) → HoldsRows kept rows
    → fields ≡ charter_row r → fault_of_pair (two_of fields) ≡ None → is_noted kept r ≡ b
    → charter_fault (map charter_row rows) fields ≡ cond b (Some row.Repeated) None
charter_fault-noted kept rows r fields b held same plain has =
    repeat-or (map charter_row rows) fields b plain (rw same (rows_same rows r ∙ sym (held.noted r) ∙ has))

-- ---- a row is noted

cond_or : (a b : Bool) → cond a true b ≡ (a || b)
cond_or true b = refl
cond_or false b = refl

pub noted-operator : (old new : CharterRows) (n : List ℕ)
    → ((m : List ℕ) → contains (slice_cmp nat_cmp) new.names m ≡ cond (is_at (slice_cmp nat_cmp n) m) true (contains (slice_cmp nat_cmp) old.names m))
    → new.prefixes ≡ old.prefixes
    → (r : CharterRow) → is_noted new r ≡ (same_row (Operator n) r || is_noted old r)
noted-operator old new n updates others (Operator m) = updates m ∙ rw (is_eq-slice_cmp n m) (cond_or (bytes_eq n m) _)
noted-operator old new n updates others (Pool q) = rw others refl

pub noted-pool : (old new : CharterRows) (p : Prefix)
    → ((q : Prefix) → contains prefix_cmp new.prefixes q ≡ cond (is_at (prefix_cmp p) q) true (contains prefix_cmp old.prefixes q))
    → new.names ≡ old.names
    → (r : CharterRow) → is_noted new r ≡ (same_row (Pool p) r || is_noted old r)
noted-pool old new p updates others (Operator m) = rw others refl
noted-pool old new p updates others (Pool q) =
    updates q ∙ rw (← prefix_ties p q) (cond_or (prefix_eq p q) _)

noted-same : (old new : CharterRows) → new.names ≡ old.names → new.prefixes ≡ old.prefixes
    → (r : CharterRow) → is_noted new r ≡ is_noted old r
noted-same old new names prefixes (Operator n) = rw names refl
noted-same old new names prefixes (Pool p) = rw prefixes refl

-- ---- one more row

operators_in-append : (rows : List CharterRow) (r : CharterRow) → operators_in (rows ++ r ∷ []) ≡ operators_in rows ++ operators_in (r ∷ [])
operators_in-append [] r = refl
operators_in-append (Operator n ∷ rows) r = ap (λ (t : List (List ℕ)). n ∷ t) (operators_in-append rows r)
operators_in-append (Pool p ∷ rows) r = operators_in-append rows r

pool_in-append : (rows : List CharterRow) (r : CharterRow) → pool_in (rows ++ r ∷ []) ≡ pool_in rows ++ pool_in (r ∷ [])
pool_in-append [] r = refl
pool_in-append (Operator n ∷ rows) r = pool_in-append rows r
pool_in-append (Pool p ∷ rows) r = ap (λ (t : List Prefix). p ∷ t) (pool_in-append rows r)

one_in : (r : CharterRow) → length (operators_in (r ∷ [])) + length (pool_in (r ∷ [])) ≡ 1
one_in (Operator n) = refl
one_in (Pool p) = refl

once-append : {T : Type 0} (same : T → T → Bool) (xs : List T) (y : T) → has_repeat same xs ≡ false → list_any (λ x. same x y) xs ≡ false
    → has_repeat same (xs ++ y ∷ []) ≡ false
once-append same [] y once none = refl
once-append same (x ∷ xs) y once none =
    let before = or_parts _ _ once in
    let others = or_parts _ _ none in
    let last : list_any (same x) (y ∷ []) ≡ false = or_from _ _ others.0 refl in
    or_from _ _ (list_any-append (same x) xs (y ∷ []) ∙ or_from _ _ before.0 last) (once-append same xs y before.1 others.1)

or_flip : (a b : Bool) → (a || b) ≡ (b || (a || false))
or_flip true true = refl
or_flip true false = refl
or_flip false true = refl
or_flip false false = refl

holds_more : (old new : CharterRows) (rows : List CharterRow) (r : CharterRow) → HoldsRows old rows
    → is_noted old r ≡ false
    → ((other : CharterRow) → is_noted new other ≡ (same_row r other || is_noted old other))
    → new.operators.items ≡ old.operators.items ++ operators_in (r ∷ [])
    → new.pool.items ≡ old.pool.items ++ pool_in (r ∷ [])
    → HoldsRows new (rows ++ r ∷ [])
holds_more old new rows r held fresh noted operators pool = record {
  operators = operators ∙ rw (held.operators, operators_in-append rows r) refl;
  pool = pool ∙ rw (held.pool, pool_in-append rows r) refl;
  count = counted;
  once = once-append same_row rows r held.once (sym (held.noted r) ∙ fresh);
  noted = λ other.
      noted other
      ∙ rw (held.noted other) (or_flip (same_row r other) (list_any (λ e. same_row e other) rows))
      ∙ sym (list_any-append (λ e. same_row e other) rows (r ∷ []));
} where
  counted : length (rows ++ r ∷ []) ≡ length new.operators.items + length new.pool.items
  counted =
      let a = length-append rows (r ∷ []) in
      let b = ap (λ (t : List (List ℕ)). length t) operators in
      let c = ap (λ (t : List Prefix). length t) pool in
      let d = length-append old.operators.items (operators_in (r ∷ [])) in
      let e = length-append old.pool.items (pool_in (r ∷ [])) in
      let f = one_in r in
      let g = held.count in
      omega arith

pub rows_more : (all left rest : List RecordFields) (fields : RecordFields) (rows : List CharterRow) (r : CharterRow)
    → all ≡ map charter_row rows ++ left → left ≡ fields ∷ rest → fields ≡ charter_row r
    → all ≡ map charter_row (rows ++ r ∷ []) ++ rest
rows_more all left rest fields rows r a l same =
    rw (a, l, same, map-append charter_row rows (r ∷ []), append_assoc) refl

pub first_more : (left rest : List RecordFields) (fields : RecordFields) (rows : List CharterRow) (r : CharterRow)
    → left ≡ fields ∷ rest → fields ≡ charter_row r → charter_fault (map charter_row rows) fields ≡ None
    → first_charter_fault (map charter_row rows) left ≡ first_charter_fault (map charter_row (rows ++ r ∷ [])) rest
first_more left rest fields rows r l same none =
    rw (l, none, same, map-append charter_row rows (r ∷ [])) refl

length-map : (rows : List CharterRow) → length (map charter_row rows) ≡ length rows
length-map [] = refl
length-map (r ∷ rows) = ap suc (length-map rows)

reported-later : (fault : FileFault) (k : ℕ) (why : Option RowFault) (later : Option FileFault) → IsReported fault (at_row k why None) → IsReported fault (at_row k why later)
reported-later file.Memory k why later reported = tt
reported-later file.Header k None later reported = cc
reported-later file.Header k (Some f) later reported = reported
reported-later (file.Row n w) k None later reported = cc
reported-later (file.Row n w) k (Some f) later reported = reported

pub reported-first : (fault : FileFault) (all left rest : List RecordFields) (fields : RecordFields) (rows : List CharterRow)
    → first_charter_fault [] all ≡ first_charter_fault (map charter_row rows) left → left ≡ fields ∷ rest
    → IsReported fault (at_row (length rows + 1) (charter_fault (map charter_row rows) fields) None)
    → IsReported fault (first_charter_fault [] all)
reported-first fault all left rest fields rows same l reported =
    rw (same, l, length-map rows) (reported-later fault (length rows + 1) (charter_fault (map charter_row rows) fields) _ reported)

-- ---- no operator and no prefix twice

operator_once : (n : List ℕ) (rows : List CharterRow) → list_any (same_row (Operator n)) rows ≡ false
    → list_any (λ m. pointwise nat_eq n m) (operators_in rows) ≡ false
operator_once n [] none = refl
operator_once n (Operator m ∷ rows) none =
    let parts = or_parts _ _ none in
    or_from _ _ parts.0 (operator_once n rows parts.1)
operator_once n (Pool p ∷ rows) none = operator_once n rows none

operators_once : (rows : List CharterRow) → has_repeat same_row rows ≡ false → has_repeat (pointwise nat_eq) (operators_in rows) ≡ false
operators_once [] once = refl
operators_once (Operator n ∷ rows) once =
    let parts = or_parts _ _ once in
    or_from _ _ (operator_once n rows parts.0) (operators_once rows parts.1)
operators_once (Pool p ∷ rows) once = operators_once rows (or_parts _ _ once).1

prefix_once : (p : Prefix) (rows : List CharterRow) → list_any (same_row (Pool p)) rows ≡ false
    → list_any (λ q. prefix_eq p q) (pool_in rows) ≡ false
prefix_once p [] none = refl
prefix_once p (Operator m ∷ rows) none = prefix_once p rows none
prefix_once p (Pool q ∷ rows) none =
    let parts = or_parts _ _ none in
    or_from _ _ parts.0 (prefix_once p rows parts.1)

pool_once : (rows : List CharterRow) → has_repeat same_row rows ≡ false → has_repeat prefix_eq (pool_in rows) ≡ false
pool_once [] once = refl
pool_once (Operator n ∷ rows) once = pool_once rows (or_parts _ _ once).1
pool_once (Pool p ∷ rows) once =
    let parts = or_parts _ _ once in
    or_from _ _ (prefix_once p rows parts.0) (pool_once rows parts.1)

pub no_repeats : (kept : CharterRows) (rows : List CharterRow) → HoldsRows kept rows
    → (has_repeat (pointwise nat_eq) kept.operators.items || has_repeat prefix_eq kept.pool.items) ≡ true → ⊥
no_repeats kept rows held twice =
    let one : has_repeat (pointwise nat_eq) kept.operators.items ≡ false = rw held.operators (operators_once rows held.once) in
    let two : has_repeat prefix_eq kept.pool.items ≡ false = rw held.pool (pool_once rows held.once) in
    let none = or_from _ _ one two in
    cc

-- ---- a row that was read

pub pool_value : (kind value : List ℕ) (p : Prefix) → true ≡ bytes_eq kind pool_kind → Spells p value
    → (kind ≡ pool_kind) × (value ≡ prefix_text p) × (kind_and_value_fault kind value ≡ None)
pool_value kind value p e spells =
    let same = (bytes_eq-Decides kind pool_kind).0 (sym e) in
    (same, spells, rw (same, faultless-Spells p value spells) refl)

two_fields : (xs : RecordFields) (a b : List ℕ) → Some (a, b) ≡ two_of xs → xs ≡ a ∷ b ∷ []
two_fields [] a b e = cc
two_fields (x ∷ []) a b e = cc
two_fields (x ∷ y ∷ []) a b e =
    let same = same_Some (a, b) (x, y) e in
    rw (ap (λ (p : List ℕ × List ℕ). p.0) same, ap (λ (p : List ℕ × List ℕ). p.1) same) refl
two_fields (x ∷ y ∷ z ∷ rest) a b e = cc

pub row_taken : (old noted new : CharterRows) (r : CharterRow) (fields : RecordFields) (kind value : List ℕ)
    → Some (kind, value) ≡ two_of fields
    → (kind ≡ kind_of r) × (value ≡ value_of r) × (kind_and_value_fault kind value ≡ None)
    → true ≡ not (is_noted old r)
    → ((other : CharterRow) → is_noted noted other ≡ (same_row r other || is_noted old other))
    → new.names ≡ noted.names → new.prefixes ≡ noted.prefixes
    → new.operators.items ≡ old.operators.items ++ operators_in (r ∷ [])
    → new.pool.items ≡ old.pool.items ++ pool_in (r ∷ [])
    → (rows : List CharterRow) → HoldsRows old rows
    → (x : CharterRow) × (fields ≡ charter_row x) × HoldsRows new (rows ++ x ∷ []) × (charter_fault (map charter_row rows) fields ≡ None)
row_taken old noted new r fields kind value pair read fresh updates names prefixes operators pool rows held =
    let same : fields ≡ charter_row r = two_fields fields kind value pair ∙ rw (read.0, read.1) refl in
    let plain : fault_of_pair (two_of fields) ≡ None = rw (← pair) read.2 in
    let absent = not-true (is_noted old r) (sym fresh) in (
      r,
      same,
      holds_more old new rows r held absent (λ other. noted-same noted new names prefixes other ∙ updates other) operators pool,
      charter_fault-noted old rows r fields false held same plain absent,
    )

pub row_repeated : (old : CharterRows) (r : CharterRow) (fields : RecordFields) (kind value : List ℕ) (fault : FileFault)
    → Some (kind, value) ≡ two_of fields
    → (kind ≡ kind_of r) × (value ≡ value_of r) × (kind_and_value_fault kind value ≡ None)
    → false ≡ not (is_noted old r)
    → fault ≡ file.Row (length old.operators.items + length old.pool.items + 1) row.Repeated
    → (rows : List CharterRow) → HoldsRows old rows
    → IsReported fault (at_row (length rows + 1) (charter_fault (map charter_row rows) fields) None)
row_repeated old r fields kind value fault pair read known reported rows held =
    let same : fields ≡ charter_row r = two_fields fields kind value pair ∙ rw (read.0, read.1) refl in
    let plain : fault_of_pair (two_of fields) ≡ None = rw (← pair) read.2 in
    let again = charter_fault-noted old rows r fields true held same plain (not-false (is_noted old r) (sym known)) in
    rw (reported, again, held.count) refl
