-- The payloads that are of one of some claims. The claims rise by their holders and numbers, so a binary search finds one.
use Rattle.store_read.proofs.Vocabulary.{◌≡◌, ℕ, ◌+◌, ◌<◌, Bool, true, false, cond, ◌||◌, List, [], ◌∷◌, ◌++◌, map, length, get_or, MatchBool, Result, Ok, Err, is_ok, inl, inr, refl, sym, ap, ap₂, subst, ◌∙◌, arith, append-nil, IsSorted, list_any, cases_lt, on_total, then_total, get_or-map, length-map, map-append, filter-append, list_any_none, list_any_at, searchable_from_sorted, Row, column, value_cmp_total, Has, has_left, has_right, Vrp, VrpFits, vrp_cells, ShowsNone, ClaimKey, claim_key, key_cells, payload_of, payload_key, key_order, is_claimed, of_claims, ClaimsRise, ShowVrps}
use Rattle.std.specs.Cmp.{IsTotalOrder}
use Rattle.std.specs.List.Sorted.{IsBinarySearchResult, IsSearchInRange}
use Rattle.std.specs.Ordering.{is_eq, is_lt}

pub key_total : IsTotalOrder key_order
key_total = then_total (on_total (λ (r : Row). column r 0) value_cmp_total) (on_total (λ (r : Row). column r 1) value_cmp_total)

-- claims that are taken rise as the rows do
pub keys_rise : (claims : List ClaimKey) (rows : List Row) → map key_cells claims ≡ map claim_key rows → IsSorted (λ c d. key_order (claim_key c) (claim_key d)) rows → ClaimsRise claims
keys_rise claims rows same rise k d low high =
    let long : length claims ≡ length rows = sym (length-map claims key_cells) ∙ ap length same ∙ length-map rows claim_key in
    let at : (i : ℕ) → i < length claims → key_cells (get_or claims i d) ≡ claim_key (get_or rows i []) = λ i within.
    sym (get_or-map key_cells claims i d (key_cells d) within) ∙ ap (λ l. get_or l i (key_cells d)) same ∙ get_or-map claim_key rows i [] (key_cells d) (omega (arith, within, long)) in
    ap₂ (λ a b. is_lt (key_order a b)) (at (k + 1) high) (at k (omega (arith, high))) ∙ rise k [] low (omega (arith, high, long))

any_key : (claims : List ClaimKey) (row : Row) → is_claimed (map key_cells claims) row ≡ list_any (λ c. is_eq (key_order (key_cells c) (payload_key row))) claims
any_key [] row = refl
any_key (c ∷ claims) row = ap (λ b. is_eq (key_order (key_cells c) (payload_key row)) || b) (any_key claims row)

-- what a search among claims that rise answers
pub searched : (claims : List ClaimKey) (row : Row) (r : Result ℕ ℕ) → ClaimsRise claims → IsSearchInRange r (length claims) → IsBinarySearchResult (λ c. key_order (key_cells c) (payload_key row)) claims r
    → is_ok r ≡ is_claimed (map key_cells claims) row
searched claims row (Ok at) rise range tied =
    let none : ClaimKey = record { holder = []; number = 0 } in
    sym (any_key claims row ∙ list_any_at (λ c. is_eq (key_order (key_cells c) (payload_key row))) claims at none range (ap is_eq (tied none)))
searched claims row (Err at) rise range place =
    let parted = place (searchable_from_sorted key_total key_cells claims (payload_key row) rise) in
    sym (any_key claims row ∙ list_any_none (λ c. is_eq (key_order (key_cells c) (payload_key row))) claims (λ k d within.
    elim (cases_lt k at) [
      | inl before ↦ ap is_eq (parted.0 k d (omega arith) before)
      | inr after ↦ ap is_eq (parted.1 k d after within)
    ]))

-- what is said of claims that rise
pub told : (claims own : List ClaimKey) (row : Row) (result b : Bool) → claims ≡ own → ClaimsRise own → (ClaimsRise claims → result ≡ is_claimed (map key_cells claims) row) → result ≡ b → is_claimed (map key_cells own) row ≡ b
told claims own row result b same rise is said =
    subst (λ l. is_claimed (map key_cells l) row ≡ b) same (sym (is (subst ClaimsRise (sym same) rise)) ∙ said)

-- ---- payloads that are taken one at a time

module _ (claims : List ClaimKey) (rows : List Row) (row : Row) where
  parted : of_claims claims (rows ++ row ∷ []) ≡ of_claims claims rows ++ of_claims claims (row ∷ [])
  parted = ap (map payload_of) (filter-append (is_claimed (map key_cells claims)) rows (row ∷ [])) ∙ map-append payload_of _ _

  pub shows_the_same : (vrps : List Vrp) (is_read : Bool) → is_claimed (map key_cells claims) row ≡ false → ShowVrps (of_claims claims rows) vrps is_read → ShowVrps (of_claims claims (rows ++ row ∷ [])) vrps is_read
  shows_the_same vrps is_read none was =
      let same = parted ∙ ap (λ (b : Bool). of_claims claims rows ++ map payload_of (cond b (row ∷ []) [])) none ∙ append-nil (of_claims claims rows) in
      subst (λ l. ShowVrps l vrps is_read) (sym same) was

  pub shows_no_more : (vrps : List Vrp) (is_read : Bool) → is_read ≡ false → ShowVrps (of_claims claims rows) vrps is_read → ShowVrps (of_claims claims (rows ++ row ∷ [])) vrps is_read
  shows_no_more vrps is_read over was =
      let none = was.unread over in
      record {
        read = λ is. absurd cc;
        unread = λ _. (none.0, subst (λ l. Has l none.0) (sym parted) (has_left (of_claims claims rows) (of_claims claims (row ∷ [])) none.0 none.1), none.2);
      }

  pub shows_more : (vrps now : List Vrp) (was_read is_read : Bool) → was_read ≡ true → is_claimed (map key_cells claims) row ≡ true → ShowVrps (of_claims claims rows) vrps was_read
      → MatchBool is_read (map vrp_cells now ≡ map vrp_cells vrps ++ payload_of row ∷ []) (ShowsNone vrp_cells VrpFits (payload_of row))
      → ShowVrps (of_claims claims (rows ++ row ∷ [])) now is_read
  shows_more vrps now was_read is_read so_far claimed was shown =
      let more : of_claims claims (rows ++ row ∷ []) ≡ of_claims claims rows ++ payload_of row ∷ [] =
      parted ∙ ap (λ (b : Bool). of_claims claims rows ++ map payload_of (cond b (row ∷ []) [])) claimed in
      subst (λ l. ShowVrps l now is_read) (sym more) (go is_read shown)
    where
      go : (is_read : Bool) → MatchBool is_read (map vrp_cells now ≡ map vrp_cells vrps ++ payload_of row ∷ []) (ShowsNone vrp_cells VrpFits (payload_of row)) → ShowVrps (of_claims claims rows ++ payload_of row ∷ []) now is_read
      go true added = record { read = λ _. ap (λ l. l ++ payload_of row ∷ []) (was.read so_far) ∙ sym added; unread = λ is. absurd cc }
      go false none = record { read = λ is. absurd cc; unread = λ _. (payload_of row, has_right (of_claims claims rows) (payload_of row ∷ []) (payload_of row) (inl refl), none) }
