-- What the walk down the bits of a prefix meets in a tree, as tests of the tree's VRPs.
use Rattle.payload.proofs.Vocabulary.{◌≡◌, ℕ, ◌+◌, ◌<◌, Bool, true, false, ◌==◌, ◌&&◌, ◌||◌, List, [], ◌∷◌, refl, sym, ap, ◌∙◌, subst, arith, inl, inr, list_any, is_eq, nat_cmp, ordering_then, Equal, cases_Bool, cases_lt, and_parts, false_from_ne_true, tied_itself, list_any_none, bit_of, contains, width, prefix_cmp, covers, Family, Prefix, Route, Vrp, prefix_order, Originator, Tree, Leaf, Fork, IsPruned, below, has, has_on_path, bits_from, half_first, half_vrps, node_vrps, originator_of, vrps_at, vrps_below, ends-contains}
use Rattle.payload.proofs.Bits.{bits_from-end, next-bit}
use Rattle.payload.proofs.Halves.{half, contains-same, half-contains}
use Rattle.payload.proofs.Sets.{is_vrp, same_vrp-equal}
use Rattle.payload.proofs.Trees.{has-leaf, is_originator}
use Rattle.payload.proofs.TrieVrps.{contains-itself, leaf-or-room, IsRound, any-node, any-here, any-half}

-- what holds of no node, and of a node where it holds of the child by the next bit of q, holds of every tree from a
-- prefix of q on
module _ (q : Prefix) (P : Family → ℕ → ℕ → List Bool → Tree → Type 0) where
  pub walk : ((family : Family) (first len : ℕ) (path : List Bool) → P family first len path Leaf) → ((p : Prefix) (os : List Originator) (zero one : Tree) → IsPruned (width p.family) p.length (Fork os zero one) → p ≡ q → P p.family p.first p.length [] (Fork os zero one)) → ((p : Prefix) (os : List Originator) (zero one : Tree) → IsPruned (width p.family) p.length (Fork os zero one) → contains p q ≡ true → p.length < q.length → (bit : Bool) → (bit_of q p.length == 1) ≡ bit → P p.family (half_first bit p) (p.length + 1) (bits_from q (p.length + 1)) (below bit (Fork os zero one)) → P p.family p.first p.length (bit ∷ bits_from q (p.length + 1)) (Fork os zero one)) → (p : Prefix) (t : Tree) → IsPruned (width p.family) p.length t → contains p q ≡ true → P p.family p.first p.length (bits_from q p.length) t
  walk leaf end next p Leaf pruned inside = leaf p.family p.first p.length (bits_from q p.length)
  walk leaf end next p (Fork os zero one) pruned inside =
      elim (cases_lt p.length q.length) [
        | inr short ↦ rw (bits_from-end q p.length short) (end p os zero one pruned (contains-same p q inside short))
        | inl longer ↦ elim (cases_Bool (bit_of q p.length == 1)) [
          | inl bit ↦
              rw (next-bit q p.length true longer bit)
              (next p os zero one pruned inside longer true bit (elim (leaf-or-room p one pruned.2.1) [
                | inl none ↦ rw none (leaf p.family (half_first true p) (p.length + 1) (bits_from q (p.length + 1)))
                | inr room ↦ walk leaf end next (half true p room) one pruned.2.1 (half-contains true p q room inside longer bit)
              ]))
          | inr bit ↦
              rw (next-bit q p.length false longer bit)
              (next p os zero one pruned inside longer false bit (elim (leaf-or-room p zero pruned.1.1) [
                | inl none ↦ rw none (leaf p.family (half_first false p) (p.length + 1) (bits_from q (p.length + 1)))
                | inr room ↦ walk leaf end next (half false p room) zero pruned.1.1 (half-contains false p q room inside longer bit)
              ]))
        ]
      ]

-- two VRPs of one prefix are one where their originators are
same-originators : (v w : Vrp) → v.prefix ≡ w.prefix → is_vrp v w ≡ is_originator (originator_of v) (originator_of w)
same-originators v w same =
    let tie : prefix_cmp v.prefix w.prefix ≡ Equal = subst (λ p. prefix_cmp v.prefix p ≡ Equal) same (tied_itself prefix_order.total v.prefix) in
    ap (λ o. is_eq (ordering_then o (ordering_then (nat_cmp v.max w.max) (nat_cmp v.asn.0 w.asn.0)))) tie

other-length : (v w : Vrp) → w.prefix.length < v.prefix.length → is_vrp v w ≡ false
other-length v w shorter = false_from_ne_true (is_vrp v w) (λ is. absurd (omega (arith, ap (λ u. u.prefix.length) (same_vrp-equal v w is))))

around-itself : (v : Vrp) → IsRound v.prefix (is_vrp v)
around-itself v w is = subst (λ u. contains u.prefix v.prefix ≡ true) (same_vrp-equal v w is) (ends-contains v.prefix v.prefix refl (omega arith) (omega arith))

-- no VRP of a node above that of v's prefix is v
none-above : (v : Vrp) (p : Prefix) (os : List Originator) (zero one : Tree) → IsPruned (width p.family) p.length (Fork os zero one) → p.length < v.prefix.length → list_any (is_vrp v) (node_vrps p os) ≡ false
none-above v p os zero one pruned longer =
    any-node (is_vrp v) (λ o. false) p os pruned.0.lengths (λ w same. other-length v w (subst (λ q. q.length < v.prefix.length) (sym same) longer))
    ∙ list_any_none (λ (o : Originator). false) os (λ k d within. refl)

-- a tree has a VRP of its prefix at the end of the bits of the VRP's prefix
pub any-is_vrp : (v : Vrp) (p : Prefix) (t : Tree) → IsPruned (width p.family) p.length t → contains p v.prefix ≡ true → list_any (is_vrp v) (vrps_at p t) ≡ has (bits_from v.prefix p.length) (originator_of v) t
any-is_vrp v =
    walk v.prefix (λ family first len path t. list_any (is_vrp v) (vrps_below family first len t) ≡ has path (originator_of v) t)
    (λ family first len path. sym (has-leaf path (originator_of v)))
    (λ p os zero one pruned same.
    any-here (is_vrp v) p v.prefix os zero one (around-itself v) pruned (omega (arith, ap (λ q. q.length) same))
    ∙ any-node (is_vrp v) (is_originator (originator_of v)) p os pruned.0.lengths (λ w at. same-originators v w (sym same ∙ sym at)))
    (λ p os zero one pruned inside longer bit is rest.
    any-half bit (is_vrp v) p v.prefix os zero one (around-itself v) pruned is
    ∙ ap (λ b. b || list_any (is_vrp v) (half_vrps bit p (below bit (Fork os zero one)))) (none-above v p os zero one pruned longer) ∙ rest)

-- ---- the VRPs that cover a route

-- the VRP covers the route, and its originator passes
abbrev pub covers_with : Route → (Originator → Bool) → Vrp → Bool
covers_with route passes v = covers v route && passes (originator_of v)

pub on-path-leaf : (passes : Originator → Bool) (path : List Bool) → has_on_path passes path Leaf ≡ false
on-path-leaf passes [] = refl
on-path-leaf passes (bit ∷ path) = on-path-leaf passes path

around-route : (route : Route) (passes : Originator → Bool) → IsRound route.prefix (covers_with route passes)
around-route route passes v is = (and_parts (covers v route) (passes (originator_of v)) is).0

-- a VRP at a node on the way covers the route
pub any-node_covers : (route : Route) (passes : Originator → Bool) (p : Prefix) (os : List Originator) (zero one : Tree) → IsPruned (width p.family) p.length (Fork os zero one) → contains p route.prefix ≡ true → list_any (covers_with route passes) (node_vrps p os) ≡ list_any passes os
any-node_covers route passes p os zero one pruned inside =
    any-node (covers_with route passes) passes p os pruned.0.lengths
    (λ v at. ap (λ b. b && passes (originator_of v)) (subst (λ q. contains q route.prefix ≡ true) (sym at) inside))

pub any-covers : (route : Route) (passes : Originator → Bool) (p : Prefix) (t : Tree) → IsPruned (width p.family) p.length t → contains p route.prefix ≡ true → list_any (covers_with route passes) (vrps_at p t) ≡ has_on_path passes (bits_from route.prefix p.length) t
any-covers route passes =
    walk route.prefix (λ family first len path t. list_any test (vrps_below family first len t) ≡ has_on_path passes path t)
    (λ family first len path. sym (on-path-leaf passes path))
    (λ p os zero one pruned same.
    any-here test p route.prefix os zero one round pruned (omega (arith, ap (λ q. q.length) same))
    ∙ any-node_covers route passes p os zero one pruned (contains-itself p route.prefix (sym same)))
    (λ p os zero one pruned inside longer bit is rest.
    any-half bit test p route.prefix os zero one round pruned is
    ∙ (λ i. any-node_covers route passes p os zero one pruned inside i || rest i))
  where
    test : Vrp → Bool
    test = covers_with route passes

    round : IsRound route.prefix test
    round = around-route route passes
