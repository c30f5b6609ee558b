-- Tables hold one charter at most.
use Rattle.store_open.proofs.Vocabulary.{◌≡◌, ℕ, ◌<◌, zero, suc, Bool, true, false, ◌||◌, List, [], ◌∷◌, map, length, get_or, refl, sym, ap, ◌∙◌, subst, add-one, arith, Ordering, Less, Equal, Greater, is_lt, nat_eq, nat_cmp, IsPermutation, IsSorted, pointwise, slice_cmp, ordering_reverse, IsStrictlySortedBy, and_from, eq-eqb, nat_list_cmp_total, IsPermutation-sym, IsPermutation-trans, Trees, IsAscending, Row, prefix_eq, CharterSets, IsCharter, has_repeat, operator_row, prefix_cells, HoldsCharter, one_prefix, values_shown}
use Rattle.std.specs.FinMap.{nat_cmp-IsAntisymmetric, slice_cmp-IsAntisymmetric}
use Rattle.std.proofs.lemmas.Map.Keys.{sorted_head, sorted_tail, sorted_from_all_adjacent}
use Rattle.sqlite_keyed.proofs.SortLemmas.{sorted_unique}
use Rattle.addr.specs.Order.{IsOrder, prefix_cmp}
use Rattle.addr.proofs.Equality.{prefix_itself}
use Rattle.addr.proofs.OrderLemmas.{prefix_order}

-- ---- a sorted list in which nothing is twice has no other order that is sorted

neither : (a b : Bool) → (a || b) ≡ false → (a ≡ false) × (b ≡ false)
neither false false none = (refl, refl)
neither false true none = absurd cc
neither true b none = absurd cc

module _ {X : Type 0} (cmp : X → X → Ordering) (order : IsOrder cmp) (same : X → X → Bool) (itself : (x : X) → same x x ≡ true) where
  neighbours : (xs : List X) → has_repeat same xs ≡ false → (k : ℕ) (d : X) → suc k < length xs → same (get_or xs k d) (get_or xs (suc k) d) ≡ false
  neighbours [] once k d low = absurd (omega (arith, low))
  neighbours (x ∷ []) once k d low = absurd (omega (arith, low))
  neighbours (x ∷ y ∷ ys) once zero d low = (neither _ _ (neither _ _ once).0).0
  neighbours (x ∷ y ∷ ys) once (suc k) d low = neighbours (y ∷ ys) (neither _ _ once).1 k d (omega (arith, low))

  below : (a b : X) → is_lt (cmp b a) ≡ false → same a b ≡ false → cmp a b ≡ Less
  below a b low apart = go (cmp a b) refl
    where
      go : (o : Ordering) → cmp a b ≡ o → cmp a b ≡ Less
      go Less is = is
      go Equal is = absurd (let e : same a b ≡ true = ap (same a) (sym (order.exact a b is)) ∙ itself a in cc)
      go Greater is = absurd (let e : cmp b a ≡ Less = order.total.antisymm b a ∙ ap ordering_reverse is in let t : is_lt (cmp b a) ≡ true = ap is_lt e in cc)

  ascending : (xs : List X) → IsStrictlySortedBy cmp xs → IsAscending (λ a b. cmp a b ≡ Less) xs
  ascending [] up = tt
  ascending (x ∷ xs) up = (sorted_head cmp x xs up, ascending xs (sorted_tail cmp x xs up))

  rising : (xs : List X) → IsSorted cmp xs → has_repeat same xs ≡ false → IsAscending (λ a b. cmp a b ≡ Less) xs
  rising [] sorted once = tt
  rising (x ∷ xs) sorted once =
      ascending (x ∷ xs) (sorted_from_all_adjacent order.total (x ∷ xs) x
      (λ k low. below _ _ (sorted k x (omega arith) low) (subst (λ n. same (get_or (x ∷ xs) k x) (get_or (x ∷ xs) n x) ≡ false) (sym (add-one k)) (neighbours (x ∷ xs) once k x (omega (arith, low))))))

  one_order : (xs ys : List X) → IsSorted cmp xs → IsSorted cmp ys → has_repeat same xs ≡ false → IsPermutation xs ys → xs ≡ ys
  one_order xs ys sorted other once moved = sym (sorted_unique cmp order.total xs ys (rising xs sorted once) moved other)

-- ---- charters

-- lists of values whose rows are those of one table
pub same_members : {X : Type 0} (cells : X → Row) → ((x y : X) → cells x ≡ cells y → x ≡ y) → (xs ys : List X) (rows : List Row)
    → IsPermutation (map cells xs) rows → IsPermutation (map cells ys) rows → IsPermutation xs ys
same_members cells once xs ys rows first second = values_shown cells once xs ys (map cells ys) (IsPermutation-trans _ _ _ first (IsPermutation-sym _ _ second)) refl

pub one_operator : (m n : List ℕ) → operator_row m ≡ operator_row n → m ≡ n
one_operator m n is = cc

name_itself : (name : List ℕ) → pointwise nat_eq name name ≡ true
name_itself [] = refl
name_itself (n ∷ ns) = and_from _ _ (eq-eqb n n refl) (name_itself ns)

name_order : IsOrder (slice_cmp nat_cmp)
name_order = record { total = nat_list_cmp_total; exact = slice_cmp-IsAntisymmetric nat_cmp-IsAntisymmetric }

pub same_charter : (c d : CharterSets) (trees : Trees) → IsCharter c → IsCharter d → HoldsCharter c trees → HoldsCharter d trees → c ≡ d
same_charter c d trees one other held holds =
    let operators = one_order (slice_cmp nat_cmp) name_order (pointwise nat_eq) name_itself c.operators d.operators one.operators_rise other.operators_rise one.operators_once
    (same_members operator_row one_operator c.operators d.operators _ held.operators holds.operators) in
    let pool = one_order prefix_cmp prefix_order prefix_eq prefix_itself c.pool d.pool one.pool_rises other.pool_rises one.pool_once
    (same_members prefix_cells one_prefix c.pool d.pool _ held.pool holds.pool) in
    λ i. record { operators = operators i; pool = pool i }
