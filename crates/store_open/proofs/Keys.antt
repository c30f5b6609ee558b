-- The claims of which the keys are held.
use Rattle.store_open.proofs.Vocabulary.{◌≡◌, ◌+◌, ℕ, ℤ, Bool, true, false, List, [], ◌∷◌, ◌++◌, map, drop, get_or, set, length, zero, suc, Option, Some, IfSome, MatchBool, refl, inl, sym, ap, subst, ◌∙◌, is_lt, int_cmp, IsPermutation, IsSorted, swap, SwapsInRange, apply_swaps, nat_cmp_total, nat_list_cmp_total, on_total, then_total, drop-map, length-map, map-append, map-set, All-permutation, IsPermutation-map, IsPermutation-trans, Database, Int, Row, has_left, has_right, Claim, EntryRow, OfHolder, ClaimFits, NamedFits, ClaimKey, first_claim_entry, AreOfSome, AreTakenClaims, ClaimsInOrder, ClaimsRead, Collects, ShowsKey, ShowsNoClaim, first_key_entry, key_cmp, key_of, show_claim, last_value}
use Rattle.std.specs.Cmp.{IsTotalOrder}
use Rattle.store_open.proofs.Collecting.{taken_more}

pub key_total : IsTotalOrder key_cmp
key_total = then_total (on_total (λ (k : ClaimKey). k.holder) nat_list_cmp_total) (on_total (λ (k : ClaimKey). k.number) nat_cmp_total)

-- ---- what keys say of their claims

module _ (claims : List (OfHolder Claim)) (keys : List ClaimKey) (keyed : map key_of claims ≡ keys) where
  pub as_many : length keys ≡ length claims
  as_many = ap length (sym keyed) ∙ length-map claims key_of

  first_of : (left : List (OfHolder Claim)) (r : OfHolder EntryRow) → first_key_entry (map key_of left) r ≡ first_claim_entry left r
  first_of [] r = refl
  first_of (c ∷ left) r = refl

  pub entry_by_key : (i : ℕ) (r : OfHolder EntryRow) → first_claim_entry (drop i claims) r ≡ first_key_entry (drop i keys) r
  entry_by_key i r = sym (first_of (drop i claims) r) ∙ ap (λ l. first_key_entry l r) (sym (drop-map key_of i claims) ∙ ap (drop i) keyed)

-- ---- one row after another

module _ (rows : List Row) (row : Row) where
  pub collects_no_more : (keys : List ClaimKey) (last : Option ℤ) (is_read : Bool) → is_read ≡ false → Collects rows keys last is_read → Collects (rows ++ row ∷ []) keys last is_read
  collects_no_more keys last is_read over was =
      let none = was.unread over in
      record { read = λ is. absurd cc; unread = λ is. (none.0, has_left rows (row ∷ []) none.0 none.1, none.2) }

  pub collects_more : (keys now : List ClaimKey) (last next : Option ℤ) (n : ℤ) (was_read is_read : Bool) → was_read ≡ true → Collects rows keys last was_read → last_value row ≡ Int n → IfSome last (λ l. is_lt (int_cmp l n) ≡ true)
      → next ≡ Some n → MatchBool is_read (ShowsKey row keys now) (ShowsNoClaim row) → Collects (rows ++ row ∷ []) now next is_read
  collects_more keys now last next n was_read true so_far was is above ends one = record {
    read = λ _.
        let held = was.read so_far in (
          held.0 ++ one.0 ∷ [],
          map-append key_of held.0 (one.0 ∷ []) ∙ ap (λ l. l ++ key_of one.0 ∷ []) held.1 ∙ sym one.3,
          subst (λ l. AreTakenClaims (rows ++ row ∷ []) l (held.0 ++ one.0 ∷ [])) (sym ends) (taken_more show_claim (NamedFits ClaimFits) 5 rows row held.0 one.0 last n held.2 is above one.1 one.2),
        );
    unread = λ is. absurd cc;
  }
  collects_more keys now last next n was_read false so_far was is above ends none = record { read = λ is. absurd cc; unread = λ _. (row, has_right rows (row ∷ []) row (inl refl), none) }

-- ---- sorting keys sorts their claims

module _ {X Y : Type 0} (f : X → Y) where
  mapped_get : (xs : List X) (i : ℕ) (d : X) → get_or (map f xs) i (f d) ≡ f (get_or xs i d)
  mapped_get [] i d = refl
  mapped_get (x ∷ xs) zero d = refl
  mapped_get (x ∷ xs) (suc i) d = mapped_get xs i d

  mapped_swap : (xs : List X) (i j : ℕ) → map f (swap xs i j) ≡ swap (map f xs) i j
  mapped_swap [] i j = refl
  mapped_swap (x ∷ xs) i j = let all = x ∷ xs in rw (map-set f (set all i (get_or all j x)) j (get_or all i x), map-set f all i (get_or all j x), mapped_get all i x, mapped_get all j x) refl

  mapped_swaps : (xs : List X) (moves : List (ℕ × ℕ)) → map f (apply_swaps xs moves) ≡ apply_swaps (map f xs) moves
  mapped_swaps xs [] = refl
  mapped_swaps xs (p ∷ moves) = mapped_swap (apply_swaps xs moves) p.0 p.1 ∙ ap (λ l. swap l p.0 p.1) (mapped_swaps xs moves)

  permuted_behind : (xs : List X) (ys : List Y) → IsPermutation (map f xs) ys → (zs : List X) × (map f zs ≡ ys) × IsPermutation xs zs
  permuted_behind xs ys moved =
      (apply_swaps xs moved.moves, mapped_swaps xs moved.moves ∙ sym moved.is, record { moves = moved.moves; below = subst (λ n. SwapsInRange n moved.moves) (length-map xs f) moved.below; is = refl })

pub sorted_claims : (db : Database) (keys sorted : List ClaimKey) → AreOfSome (ClaimsRead db) keys → IsPermutation keys sorted → IsSorted key_cmp sorted → AreOfSome (ClaimsInOrder db) sorted
sorted_claims db keys sorted were moved up =
    let all = permuted_behind key_of were.0 sorted (subst (λ l. IsPermutation l sorted) (sym were.1) moved) in
    let read : ClaimsRead db all.0 = record { fit = All-permutation (NamedFits ClaimFits) were.0 all.0 all.2 were.2.fit; same = IsPermutation-trans _ _ _ were.2.same (IsPermutation-map show_claim were.0 all.0 all.2) } in
    (all.0, all.1, (read, in_order all.0 (subst (IsSorted key_cmp) (sym all.1) up)))
  where
    in_order : (claims : List (OfHolder Claim)) → IsSorted key_cmp (map key_of claims) → IsSorted (λ c d. key_cmp (key_of c) (key_of d)) claims
    in_order claims up k d low high =
        rw (mapped_get key_of claims (k + 1) d, mapped_get key_of claims k d) at (up k (key_of d) low (rw (length-map claims key_of) high))
