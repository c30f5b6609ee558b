-- What each statement does to the rows of a holder.
use Rattle.store_write.proofs.Vocabulary.{◌≡◌, inl, inr, ℕ, pos, Bool, true, not, ◌&&◌, ◌==◌, List, [], ◌∷◌, ◌++◌, map, filter, drop, length, ◌/◌, arith, Some, None, refl, sym, ap, ap₂, subst, ◌∙◌, and_parts, and-true, or-false, IsPermutation-refl, value_rows, Null, Int, Text, Row, column, filter-map, Term, lit, col, cast, span_eq, is_one_of, without_runs, Span, Revoke, Granted, Rows, new_rows, edited, EachHasEntries, holder, holding, granted, number_cell, family_number, address_bytes, role_number, scope_cells, holder_row, holding_row, granted_row, is_name_of, part_rows, holder_part, holding_part, granted_part, claim_part, entry_part, INSERT_HOLDER, UPDATE_CREATED, UPDATE_GRANTED, with_holdings, without_holdings, with_grants, with_granted, with_created, EditsHolder, Registers, picks, cast_number, cast_holder, cast_holding, cast_granted, is_bytes, is_number_cell, number_of_number, same_address, same_family_number, appended, turned_have_entries, names, name_of-true, name_of_itself, put_local, puts_row, equals_text, equals_int, equals_blob, holder_test, column_after}
use Rattle.sqlite_schema.specs.declared.schema.Kind.TheVariants.{Integer, Text as Words}
use Rattle.sqlite_typed.proofs.TestLemmas.{last_term}
use Rattle.registry.specs.declared.grant.Scope.{Scope}
use Rattle.registry.specs.declared.grant.Scope.TheVariants.{All, Only}
use Rattle.store_tables.specs.declared.granted.TheConstants.{DELETE_GRANT, INSERT_GRANT}
use Rattle.store_tables.specs.declared.holding.TheConstants.{DELETE_HOLDING, INSERT_HOLDING}
use Rattle.store_write.proofs.InTurn.{Does, does}
use Rattle.store_write.proofs.PartSteps.{puts_edit, takes_edit, changes_edit}
use Rattle.store_write.proofs.StepLemmas.{turns_rows, in_holder, in_holdings, in_grants}
use Rattle.store_tables.proofs.Texts.{
  put_terms,
  equals,
  put_holder_is,
  set_grants_is,
  set_auths_is,
  put_holding_is,
  take_holding_is,
  put_granted_is,
  take_granted_is,
}

-- ---- the rows that a statement is on

-- the one of a holder and a number
abbrev pub is_of : List ℕ → ℕ → Row → Bool
is_of h n c = is_name_of h (column c 0) && is_number_cell n (column c 1)

pub of_holder : (h : List ℕ) (n : ℕ) (c : Row) → is_of h n c ≡ true → is_name_of h (column c 0) ≡ true
of_holder h n c is = (and_parts _ _ is).0

pub of_tests : (h : List ℕ) (n : ℕ) (more r : Row) → picks (Text h ∷ number_cell n ∷ more) (equals 1 0 ∷ equals 2 1 ∷ []) r ≡ is_of h n (drop 1 r)
of_tests h n more r =
    ap₂ ◌&&◌ (equals_text (column r 1) h ∙ ap (is_name_of h) (column_after r 0))
    (last_term (equals_int (column r 2) (pos n) ∙ ap (is_number_cell n) (column_after r 1)))

-- the one of a holder and a run of addresses
abbrev is_run : List ℕ → Span → Row → Bool
is_run h s c = is_number_cell (family_number s.family) (column c 0) && (is_bytes (address_bytes s.lo) (column c 1) && (is_bytes (address_bytes s.hi) (column c 2) && is_name_of h (column c 3)))

of_run : (h : List ℕ) (s : Span) (c : Row) → is_run h s c ≡ true → is_name_of h (column c 3) ≡ true
of_run h s c is =
    let ends = (and_parts (is_number_cell (family_number s.family) (column c 0)) (is_bytes (address_bytes s.lo) (column c 1) && (is_bytes (address_bytes s.hi) (column c 2) && is_name_of h (column c 3))) is).1 in
    let last = (and_parts (is_bytes (address_bytes s.lo) (column c 1)) (is_bytes (address_bytes s.hi) (column c 2) && is_name_of h (column c 3)) ends).1 in
    (and_parts (is_bytes (address_bytes s.hi) (column c 2)) (is_name_of h (column c 3)) last).1

abbrev run_tests : List Term
run_tests = equals 1 0 ∷ equals 2 1 ∷ equals 3 2 ∷ equals 4 3 ∷ []

tests_run : (h : List ℕ) (s : Span) (r : Row) → picks (holding_row h s) run_tests r ≡ is_run h s (drop 1 r)
tests_run h s r =
    ap₂ ◌&&◌ (equals_int (column r 1) (pos (family_number s.family)) ∙ ap (is_number_cell (family_number s.family)) (column_after r 0))
    (ap₂ ◌&&◌ (equals_blob (column r 2) (address_bytes s.lo) ∙ ap (is_bytes (address_bytes s.lo)) (column_after r 1))
    (ap₂ ◌&&◌ (equals_blob (column r 3) (address_bytes s.hi) ∙ ap (is_bytes (address_bytes s.hi)) (column_after r 2))
    (last_term (equals_text (column r 4) h ∙ ap (is_name_of h) (column_after r 3)))))

-- a run of a holder's rows is this one where family and ends are the same
own_run : (h : List ℕ) (s t : Span) → is_run h s (holding_row h t) ≡ is_one_of (s ∷ []) t
own_run h s t =
    ap₂ ◌&&◌ (same_family_number t.family s.family)
    (ap₂ ◌&&◌ (same_address t.family s.family t.lo s.lo (omega (arith, t.ordered, t.in_family)) (omega (arith, s.ordered, s.in_family)))
    (ap₂ ◌&&◌ (same_address t.family s.family t.hi s.hi t.in_family s.in_family) (name_of_itself h (Text h) refl) ∙ and-true (t.hi == s.hi)))
    ∙ sym (or-false (span_eq t s))

-- the rows of a holder without some of them
pub taken : {X : Type 0} (goes : Row → Bool) (gone : X → Bool) (cells : X → Row) → ((x : X) → goes (cells x) ≡ gone x)
    → (xs : List X) → map cells (filter (λ x. not (gone x)) xs) ≡ filter (λ c. not (goes c)) (map cells xs)
taken goes gone cells own xs = ap (map cells) (λ i. filter (λ x. not (sym (own x) i)) xs) ∙ sym (filter-map (λ c. not (goes c)) cells xs)

-- a grant has eight columns, whatever its scope
eight : (h : List ℕ) (g : Granted) → value_rows (granted_row h g) 9 (length (put_terms 8) / 9) (put_terms 8) ≡ (Null ∷ granted_row h g) ∷ []
eight h g = go g.scope
  where
    go : (scope : Scope) → value_rows (Text h ∷ number_cell g.number ∷ Text g.caller ∷ number_cell (role_number g.role) ∷ scope_cells scope ++ number_cell g.until ∷ []) 9 (length (put_terms 8) / 9) (put_terms 8)
        ≡ (Null ∷ Text h ∷ number_cell g.number ∷ Text g.caller ∷ number_cell (role_number g.role) ∷ scope_cells scope ++ number_cell g.until ∷ []) ∷ []
    go All = refl
    go (Only p) = refl

-- ---- counters

module _ (h : List ℕ) (n : ℕ) where
  pub name_kept : (c : Row) → names 0 h c ≡ true → cast Words (column c 0) ≡ column c 0
  name_kept c is = let named = name_of-true h (column c 0) is in ap (cast Words) named ∙ sym named

  abbrev granted_set : Row → Row
  granted_set c = cast Words (column c 0) ∷ number_cell n ∷ cast Integer (column c 2) ∷ []

  abbrev created_set : Row → Row
  created_set c = cast Words (column c 0) ∷ cast Integer (column c 1) ∷ number_cell n ∷ []

  pub sets_granted : Does UPDATE_GRANTED.now (Text h ∷ number_cell n ∷ []) (EditsHolder h (with_granted n))
  sets_granted =
      changes_edit 3 holder refl 0 holder_part.rows refl h (with_granted n) (λ r all. all) (equals 1 0 ∷ []) (names 0 h) (Text h ∷ number_cell n ∷ []) (holder_test 0 h (number_cell n ∷ [])) (λ c is. is)
      (col 1 1 ∷ col 0 1 ∷ col 1 3 ∷ []) granted_set (λ schema. set_grants_is) (λ r. λ i. cast Words (column_after r 0 i) ∷ cast_number n i ∷ cast Integer (column_after r 2 i) ∷ []) name_kept
      (λ r. rw (name_of_itself h (Text h) refl, cast_number r.created) refl) (in_holder h (λ _. n) (λ r. r.created)) refl

  pub sets_created : Does UPDATE_CREATED.now (Text h ∷ number_cell n ∷ []) (EditsHolder h (with_created n))
  sets_created =
      changes_edit 3 holder refl 0 holder_part.rows refl h (with_created n) (λ r all. all) (equals 1 0 ∷ []) (names 0 h) (Text h ∷ number_cell n ∷ []) (holder_test 0 h (number_cell n ∷ [])) (λ c is. is)
      (col 1 1 ∷ col 1 2 ∷ col 0 1 ∷ []) created_set (λ schema. set_auths_is) (λ r. λ i. cast Words (column_after r 0 i) ∷ cast Integer (column_after r 1 i) ∷ cast_number n i ∷ []) name_kept
      (λ r. rw (name_of_itself h (Text h) refl, cast_number r.granted) refl) (in_holder h (λ r. r.granted) (λ _. n)) refl

module _ (h : List ℕ) where
  pub registers : Does INSERT_HOLDER.now (Text h ∷ []) (Registers h)
  registers = does _ _ (Registers h) (λ old new ready ran.
      let put = puts_row 3 holder refl old new (Text h ∷ []) (lit Null ∷ col 0 0 ∷ lit (Int (pos 0)) ∷ lit (Int (pos 0)) ∷ []) 4 (holder_row h 0 0) put_holder_is refl (cast_holder h 0 0) ready ran in
      record {
        ready = put.ready;
        schema = put.edits.schema;
        sound = put.sound;
        rows = turns_rows (λ o. o ≡ None) h (λ _. Some new_rows) holder_part (λ rows. holder_row h 0 0 ∷ rows) old.now new.now put.edits (put_local 0 h (holder_row h 0 0) refl) (λ o none. rw none (IsPermutation-refl _)) refl
            (inl refl, inr (refl, refl, λ o none. ap (part_rows holding_part h) none), inr (refl, refl, λ o none. ap (part_rows granted_part h) none), inr (refl, refl, λ o none. ap (part_rows claim_part h) none), inr (refl, refl, λ o none. ap (part_rows entry_part h) none))
            (λ rows have. turned_have_entries h (λ _. Some new_rows) rows have (λ r of. let same : new_rows ≡ r = cc in subst (λ (s : Rows). EachHasEntries s.auths) same tt));
      })

  -- ---- holdings

  pub puts_holding : (s : Span) → Does INSERT_HOLDING.now (holding_row h s) (EditsHolder h (with_holdings (s ∷ [])))
  puts_holding s = does _ _ _ (λ old new ready ran.
      puts_edit 4 holding refl 3 holding_part.rows refl h (with_holdings (s ∷ [])) (λ r all. all) (holding_row h s) refl (λ r. appended (holding_row h) r.holdings s) (in_holdings h (λ r. r.holdings ++ s ∷ [])) old new
      (puts_row 4 holding refl old new (holding_row h s) (put_terms 4) 5 (holding_row h s) put_holding_is refl (cast_holding h s) ready ran))

  pub takes_holding : (s : Span) → Does DELETE_HOLDING.now (holding_row h s) (EditsHolder h (without_holdings (s ∷ [])))
  takes_holding s =
      takes_edit 4 holding refl 3 holding_part.rows refl h (without_holdings (s ∷ [])) (λ r all. all) run_tests (is_run h s) (holding_row h s) (tests_run h s) (of_run h s)
      take_holding_is (λ r. taken (is_run h s) (is_one_of (s ∷ [])) (holding_row h) (own_run h s) r.holdings) (in_holdings h (λ r. without_runs (s ∷ []) r.holdings)) refl refl

  -- ---- grants

  pub puts_grant : (g : Granted) → Does INSERT_GRANT.now (granted_row h g) (EditsHolder h (with_grants (g ∷ [])))
  puts_grant g = does _ _ _ (λ old new ready ran.
      puts_edit 5 granted refl 0 granted_part.rows refl h (with_grants (g ∷ [])) (λ r all. all) (granted_row h g) refl (λ r. appended (granted_row h) r.grants g) (in_grants h (λ r. r.grants ++ g ∷ [])) old new
      (puts_row 5 granted refl old new (granted_row h g) (put_terms 8) 9 (granted_row h g) put_granted_is (eight h g) (cast_granted h g) ready ran))

  pub takes_grant : (n : ℕ) → Does DELETE_GRANT.now (Text h ∷ number_cell n ∷ []) (EditsHolder h (edited (Revoke n)))
  takes_grant n =
      takes_edit 5 granted refl 0 granted_part.rows refl h (edited (Revoke n)) (λ r all. all) (equals 1 0 ∷ equals 2 1 ∷ []) (is_of h n) (Text h ∷ number_cell n ∷ []) (of_tests h n []) (of_holder h n)
      take_granted_is (λ r. taken (is_of h n) (λ (g : Granted). g.number == n) (granted_row h) own r.grants) (in_grants h (λ r. filter (λ g. not (g.number == n)) r.grants)) refl refl
    where
      own : (g : Granted) → is_of h n (granted_row h g) ≡ (g.number == n)
      own g = rw (name_of_itself h (Text h) refl) (number_of_number g.number n)
