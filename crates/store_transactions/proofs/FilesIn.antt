-- Exceptions in the order of their places, file by file.
use Rattle.store_transactions.proofs.Vocabulary.{◌≡◌, ◌≢◌, ℕ, zero, suc, ◌+◌, ◌<◌, ◌≤◌, Bool, true, false, if◌then◌else◌, not, List, [], ◌∷◌, ◌++◌, map, filter, length, take, drop, get_or, Ordering, Less, Equal, Greater, refl, inl, inr, sym, ap, subst, ◌∙◌, arith, append_assoc, append-nil, slice_cmp, AllAdjacentBelow, filter_map, is_lt, nat_cmp, ordering_reverse, ordering_then, bytes_eq, both_ways, cases_Bool, cases_lt, lt-ltb, nat_cmp_total, nat_list_cmp_total, on_total, then_total, length-append, map-append, All-from_all_within, filter-append, recursion_from_All, IsPermutation-filter_both, length_permutation, is_eq-slice_cmp, IsAscending, all_weaker, ascending-get_or, filter-filter, filter_all, filter_none, IsPermutation-filter, Has, all_has, has_filtered, same_name-same, same_name-true, Exceptions, exceptions_named, has_entries, name_cmp, MOST_ENTRIES, NamedSlurm, Exception, ExceptionRow, kind_number, AreFew, AreFilesIn, RiseByPlace, assertion_if, exceptions_in, filter_if, is_in_file, place_cmp}
use Rattle.std.specs.Cmp.{IsTotalOrder}
use Rattle.std.specs.List.Sorted.{IsPartitionPoint, IsPartitionedBy, IsStrictlySortedBy}
use Rattle.std.specs.Ordering.{is_eq}
use Rattle.std.proofs.lemmas.List.Filters.{length-filter_both}
use Rattle.std.proofs.lemmas.List.Kept.{IsStrictlySortedBy-filter}
use Rattle.std.proofs.lemmas.Map.Keys.{sorted_from_all_adjacent}
use Rattle.addr.specs.declared.vrp.Vrp.{Vrp}
use Rattle.addr.proofs.OrderLemmas.{less_is}
use Rattle.slurm.specs.declared.filter.Filter.{Filter}
use Rattle.store_tables.specs.declared.exception.Exception.TheVariants.{Filter as FilterOf, Assertion}

abbrev cmp : List ℕ → List ℕ → Ordering
cmp = slice_cmp nat_cmp

-- ---- the order of places

place_total : IsTotalOrder place_cmp
place_total =
    then_total (on_total (λ (r : ExceptionRow). r.file) nat_list_cmp_total)
    (then_total (on_total (λ (r : ExceptionRow). kind_number r.exception) nat_cmp_total) (on_total (λ (r : ExceptionRow). r.position) nat_cmp_total))

abbrev pub IsBefore : ExceptionRow → ExceptionRow → Type 0
IsBefore r s = place_cmp r s ≡ Less

pub rise_from_next : (rows : List ExceptionRow) → AllAdjacentBelow (λ r s. true ≡ is_lt (place_cmp r s)) rows (length rows) → RiseByPlace rows
unfolding IsStrictlySortedBy
rise_from_next [] next = tt
rise_from_next (r ∷ rows) next = sorted_from_all_adjacent place_total (r ∷ rows) r (λ k low. less_is _ (sym (next k r low)))

pub ascends : (rows : List ExceptionRow) → RiseByPlace rows → IsAscending IsBefore rows
unfolding IsStrictlySortedBy
ascends [] up = tt
ascends (r ∷ rows) up = (up.0, ascends rows up.1)

not_above : (o p : Ordering) → ordering_then o p ≡ Less → o ≢ Greater
not_above Less p less is = cc
not_above Equal p less is = cc
not_above Greater p less is = cc

one_file : (m n : List ℕ) → cmp m n ≡ Equal → m ≡ n
one_file m n same = same_name-true m n (sym (is_eq-slice_cmp m n) ∙ ap is_eq same)

-- a later row of another file is of a later one
later_file : (r s : ExceptionRow) → IsBefore r s → is_in_file r.file s ≡ false → cmp r.file s.file ≡ Less
later_file r s before other = go (cmp r.file s.file) refl (not_above _ _ before)
  where
    go : (o : Ordering) → cmp r.file s.file ≡ o → o ≢ Greater → o ≡ Less
    go Less is low = refl
    go Equal is low = absurd (both_ways _ other (subst (λ n. bytes_eq n r.file ≡ true) (one_file r.file s.file is) (same_name-same r.file)))
    go Greater is low = absurd (low refl)

-- what is between two rows of a file is of it
between : (r s t : ExceptionRow) → IsBefore r s → IsBefore s t → is_in_file r.file t ≡ true → is_in_file r.file s ≡ true
between r s t first second last = elim (cases_Bool (is_in_file r.file s)) [
  | inl is ↦ is
  | inr other ↦
      let less = later_file r s first other in
      let same : t.file ≡ r.file = same_name-true t.file r.file last in
      let turned : cmp s.file t.file ≡ Greater = subst (λ n. cmp s.file n ≡ Greater) (sym same) (nat_list_cmp_total.antisymm s.file r.file ∙ ap ordering_reverse less) in
      absurd (not_above _ _ second turned)
]

pub parted : (r : ExceptionRow) (rows : List ExceptionRow) → RiseByPlace (r ∷ rows) → IsPartitionedBy (is_in_file r.file) (r ∷ rows)
parted r rows up zero j d le lt last = same_name-same r.file
parted r rows up (suc i) zero d le lt last = absurd (omega (arith, le))
parted r rows up (suc i) (suc j) d le lt last = elim (cases_lt i j) [
  | inl less ↦
      let all = ascends (r ∷ rows) up in
      between r (get_or rows i d) (get_or rows j d)
      (ascending-get_or IsBefore (r ∷ rows) 0 (suc i) d all (omega arith) (omega (arith, less, lt)))
      (ascending-get_or IsBefore (r ∷ rows) (suc i) (suc j) d all (omega (arith, less)) lt) last
  | inr most ↦ let same : j ≡ i = omega (arith, most, le) in subst (λ (k : ℕ). is_in_file r.file (get_or rows k d) ≡ true) same last
]

-- a list is parted into what passes and what does not
pub front_is : {X : Type 0} (p : X → Bool) (xs : List X) (k : ℕ) → k ≤ length xs → IsPartitionPoint (λ x. p x ≡ true) (λ x. p x ≡ false) xs k
    → (take k xs ≡ filter p xs) × (drop k xs ≡ filter (λ x. not (p x)) xs)
front_is p [] zero low at = (refl, refl)
front_is p [] (suc k) low at = absurd (omega (arith, low))
front_is p (x ∷ xs) zero low at =
    let none = recursion_from_All _ (x ∷ xs) (All-from_all_within (λ x. p x ≡ false) (x ∷ xs) at.1) in
    (sym (filter_none p (x ∷ xs) none), sym (filter_all (λ x. not (p x)) (x ∷ xs) (all_weaker (λ x. p x ≡ false) _ (λ x is. ap not is) (x ∷ xs) none)))
front_is p (x ∷ xs) (suc k) low at =
    let first : p x ≡ true = at.0 0 x (omega arith) (omega arith) in
    let rest = front_is p xs k (omega (arith, low)) (λ j d from to. at.0 (suc j) d (omega arith) (omega (arith, to)), λ j d from to. at.1 (suc j) d (omega (arith, from)) (omega (arith, to))) in
    (rw first (ap (λ l. x ∷ l) rest.0), rw first rest.1)

-- ---- what exceptions say

pub said_number : (rows : List ExceptionRow) → length (filter_map filter_if rows) + length (filter_map assertion_if rows) ≡ length rows
said_number [] = refl
said_number (r ∷ rows) = go r.exception (said_number rows)
  where
    go : (e : Exception) → length (filter_map filter_if rows) + length (filter_map assertion_if rows) ≡ length rows
        → length (filter_map filter_if ((record r { exception = e }) ∷ rows)) + length (filter_map assertion_if ((record r { exception = e }) ∷ rows)) ≡ suc (length rows)
    go (FilterOf f) same = omega (arith, same)
    go (Assertion v) same = omega (arith, same)

some_said : (r : ExceptionRow) (rows : List ExceptionRow) → has_entries (exceptions_in (r ∷ rows)) ≡ true
some_said r rows = go (filter_map filter_if (r ∷ rows)) (filter_map assertion_if (r ∷ rows)) (omega (arith, said_number (r ∷ rows)))
  where
    go : (filters : List Filter) (assertions : List Vrp) → 0 < length filters + length assertions → has_entries (record { filters = filters; assertions = assertions }) ≡ true
    go [] [] some = absurd (omega (arith, some))
    go [] (a ∷ assertions) some = rw (lt-ltb 0 (length (a ∷ assertions)) (omega arith)) refl
    go (f ∷ filters) assertions some = rw (lt-ltb 0 (length (f ∷ filters)) (omega arith)) refl

-- ---- one file after another

pub no_files_in : AreFilesIn [] []
unfolding IsStrictlySortedBy
no_files_in = record { rising = tt; some = tt; few = tt; each = λ name. refl; among = tt }

abbrev not_of : List ℕ → ExceptionRow → Bool
not_of name r = not (is_in_file name r)

module _ (first : ExceptionRow) (tail : List ExceptionRow) (up : RiseByPlace (first ∷ tail)) where
  abbrev rest : List ExceptionRow
  rest = first ∷ tail

  abbrev mine : List ExceptionRow
  mine = filter (is_in_file first.file) rest

  abbrev others : List ExceptionRow
  others = filter (not_of first.file) rest

  not-false : (b : Bool) → not b ≡ true → b ≡ false
  not-false true is = absurd cc
  not-false false is = refl

  others_later : (r : ExceptionRow) → Has others r → cmp first.file r.file ≡ Less
  others_later r has =
      let it = has_filtered (not_of first.file) rest r has in
      let other = not-false _ it.1 in
      elim it.0 [
        | inl is ↦ absurd (both_ways _ other (subst (λ (s : ExceptionRow). is_in_file first.file s ≡ true) (sym is) (same_name-same first.file)))
        | inr there ↦ later_file first r (all_has (IsBefore first) tail r (ascends rest up).0 there) other
      ]

  begins : (l : List ExceptionRow) × (mine ≡ first ∷ l)
  begins = (filter (is_in_file first.file) tail, rw (same_name-same first.file) refl)

  abbrev file : NamedSlurm
  file = record { name = first.file; file = exceptions_in mine }

  with_file : (files : List NamedSlurm) → length mine ≤ MOST_ENTRIES → AreFilesIn others files → AreFilesIn rest (file ∷ files)
  unfolding IsStrictlySortedBy
  with_file files few are = record {
    rising = (
      all_weaker _ (λ (g : NamedSlurm). name_cmp file g ≡ Less) (λ g it. subst (λ n. cmp first.file n ≡ Less) it.2 (others_later it.0 it.1)) files are.among,
      are.rising,
    );
    some = (subst (λ l. has_entries (exceptions_in l) ≡ true) (sym begins.1) (some_said first begins.0), are.some);
    few = (omega (arith, few, said_number mine), are.few);
    each = λ name. of_name name (bytes_eq first.file name) refl;
    among = (
      (first, inl refl, refl),
      all_weaker _ (λ (g : NamedSlurm). (r : ExceptionRow) × Has rest r × (r.file ≡ g.name)) (λ g it. (it.0, (has_filtered (not_of first.file) rest it.0 it.1).0, it.2)) files are.among,
    );
  }
    where
      flipped : (name : List ℕ) → bytes_eq first.file name ≡ false → bytes_eq name first.file ≡ false
      flipped name differ = elim (cases_Bool (bytes_eq name first.file)) [
        | inl is ↦ absurd (both_ways _ differ (subst (λ n. bytes_eq n name ≡ true) (same_name-true name first.file is) (same_name-same name)))
        | inr other ↦ other
      ]

      of_name : (name : List ℕ) (b : Bool) → bytes_eq first.file name ≡ b → (if b then exceptions_in mine else exceptions_named files name) ≡ exceptions_in (filter (is_in_file name) rest)
      of_name name true is = ap (λ n. exceptions_in (filter (is_in_file n) rest)) (same_name-true first.file name is)
      of_name name false differ =
          are.each name
          ∙ ap exceptions_in (filter-filter (is_in_file name) (not_of first.file) (λ r is. ap not (subst (λ n. bytes_eq n first.file ≡ false) (sym (same_name-true r.file name is)) (flipped name differ))) rest)

-- the files so far are those of the first rows, of which these are left
pub record Walked (rows rest : List ExceptionRow) (files : List Exceptions) : Type 0 where
  pub named : List NamedSlurm
  pub same : files ≡ map (λ (f : NamedSlurm). f.file) named
  pub rise : RiseByPlace rest
  pub leads : (more : List NamedSlurm) → AreFilesIn rest more → AreFilesIn rows (named ++ more)
  pub left : AreFew rows → AreFew rest

pub walked_none : (rows : List ExceptionRow) → RiseByPlace rows → Walked rows rows []
walked_none rows up = record { named = []; same = refl; rise = up; leads = λ more are. are; left = λ few. few }

pub walked_on : (rows : List ExceptionRow) (first : ExceptionRow) (tail : List ExceptionRow) (files : List Exceptions) → Walked rows (first ∷ tail) files
    → length (filter (is_in_file first.file) (first ∷ tail)) ≤ MOST_ENTRIES
    → Walked rows (filter (not_of first.file) (first ∷ tail)) (files ++ exceptions_in (filter (is_in_file first.file) (first ∷ tail)) ∷ [])
walked_on rows first tail files so_far few = record {
  named = so_far.named ++ file first tail so_far.rise ∷ [];
  same = ap (λ l. l ++ (file first tail so_far.rise).file ∷ []) so_far.same ∙ sym (map-append (λ (f : NamedSlurm). f.file) so_far.named (file first tail so_far.rise ∷ []));
  rise = IsStrictlySortedBy-filter place_cmp (not_of first.file) (first ∷ tail) so_far.rise;
  leads = λ more are. subst (AreFilesIn rows) (sym (append_assoc so_far.named (file first tail so_far.rise ∷ []) more)) (so_far.leads (file first tail so_far.rise ∷ more) (with_file first tail so_far.rise more few are));
  left = λ all name.
      let parts = length_permutation _ _ (IsPermutation-filter (is_in_file name) (first ∷ tail) _ (IsPermutation-filter_both (is_in_file first.file) (not_of first.file) (λ r. refl) (first ∷ tail))) in
      let split = ap length (filter-append (is_in_file name) (filter (is_in_file first.file) (first ∷ tail)) (filter (not_of first.file) (first ∷ tail))) in
      omega (arith, so_far.left all name, parts, split, length-append (filter (is_in_file name) (filter (is_in_file first.file) (first ∷ tail))) (filter (is_in_file name) (filter (not_of first.file) (first ∷ tail))));
}

pub walked_all : (rows rest : List ExceptionRow) (files : List Exceptions) → length rest < 1 → Walked rows rest files
    → (named : List NamedSlurm) × AreFilesIn rows named × (files ≡ map (λ (f : NamedSlurm). f.file) named)
walked_all rows [] files none so_far = (so_far.named ++ [], so_far.leads [] no_files_in, so_far.same ∙ ap (map (λ (f : NamedSlurm). f.file)) (sym (append-nil so_far.named)))
walked_all rows (r ∷ rest) files none so_far = absurd (omega (arith, none))

-- ---- the first of some rows

pub parted_at : (rest : List ExceptionRow) (first : ExceptionRow) → 1 ≤ length rest → first ≡ get_or rest 0 first → RiseByPlace rest → IsPartitionedBy (is_in_file first.file) rest
parted_at [] first some is up = absurd (omega (arith, some))
parted_at (r ∷ rows) first some is up = subst (λ (s : ExceptionRow). IsPartitionedBy (is_in_file s.file) (r ∷ rows)) (sym is) (parted r rows up)

pub fewer_left : (rest : List ExceptionRow) (first : ExceptionRow) → 1 ≤ length rest → first ≡ get_or rest 0 first → length (filter (not_of first.file) rest) < length rest
fewer_left [] first some is = absurd (omega (arith, some))
fewer_left (r ∷ rows) first some is =
    let mine : is_in_file first.file r ≡ true = subst (λ (s : ExceptionRow). is_in_file s.file r ≡ true) (sym is) (same_name-same r.file) in
    let fewer = length-filter_both (is_in_file first.file) (not_of first.file) (λ s. refl) rows in
    rw mine (omega (arith, fewer))

pub walked_past : (rows rest : List ExceptionRow) (files : List Exceptions) (first : ExceptionRow) → 1 ≤ length rest → first ≡ get_or rest 0 first → Walked rows rest files
    → length (filter (is_in_file first.file) rest) ≤ MOST_ENTRIES → Walked rows (filter (not_of first.file) rest) (files ++ exceptions_in (filter (is_in_file first.file) rest) ∷ [])
walked_past rows [] files first some is so_far few = absurd (omega (arith, some))
walked_past rows (r ∷ tail) files first some is so_far few =
    subst (λ (s : ExceptionRow). Walked rows (filter (not_of s.file) (r ∷ tail)) (files ++ exceptions_in (filter (is_in_file s.file) (r ∷ tail)) ∷ [])) (sym is)
    (walked_on rows r tail files so_far (subst (λ (s : ExceptionRow). length (filter (is_in_file s.file) (r ∷ tail)) ≤ MOST_ENTRIES) is few))
