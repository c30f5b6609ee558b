-- The set of a trie's two trees.
use Rattle.payload.proofs.Vocabulary.{lit<, ◌≡◌, ◌+◌, ◌-◌, ◌^◌, ◌≤◌, Bool, true, false, ◌||◌, List, [], ◌∷◌, ◌++◌, length, refl, sym, ap, ◌∙◌, subst, arith, inl, inr, ◌⊎◌, or-false, list_any, false_from_ne_true, append-nil, All-weaker, list_any-append, list_any_none, contains, width, Family, V4, V6, Prefix, Vrp, Originator, Tree, Leaf, IsPruned, has, is_place, chain, bits_from, originator_of, trie_vrps, vrps_at, vrps_below, whole, contains-ends, ends-contains}
use Rattle.payload.specs.VrpSet as set
use Rattle.payload.proofs.Bits.{length-bits_from}
use Rattle.payload.proofs.Halves.{half, contains-longer}
use Rattle.payload.proofs.Grown.{pruned-chain}
use Rattle.payload.proofs.Sets.{is_vrp, same_vrp-equal, contains-from_list}
use Rattle.payload.proofs.Trees.{IsChanged, has-leaf, inserted-chain, place-itself}
use Rattle.payload.proofs.TrieVrps.{All-within, leaf-or-room, node_vrps-cons}
use Rattle.payload.proofs.TrieWalks.{any-is_vrp}

pub whole-four : (q : Prefix) → q.family ≡ V4 → contains (whole V4) q ≡ true
whole-four q is =
    let fits : q.first + 2 ^ (width q.family - q.length) ≤ 2 ^ 32 = subst (λ (f : Family). q.first + 2 ^ (width q.family - q.length) ≤ 2 ^ width f) is q.in_family in
    ends-contains (whole V4) q (sym is) (omega arith) (omega arith)

pub whole-six : (q : Prefix) → q.family ≡ V6 → contains (whole V6) q ≡ true
whole-six q is =
    let fits : q.first + 2 ^ (width q.family - q.length) ≤ 2 ^ 128 = subst (λ (f : Family). q.first + 2 ^ (width q.family - q.length) ≤ 2 ^ width f) is q.in_family in
    ends-contains (whole V6) q (sym is) (omega arith) (omega arith)

-- no VRP of one family is in the other's tree
none-of_four : (test : Vrp → Bool) (four : Tree) → IsPruned 32 0 four → ((v : Vrp) → v.prefix.family ≡ V4 → test v ≡ false) → list_any test (vrps_below V4 0 0 four) ≡ false
none-of_four test four pruned out = list_any_none test _ (All-weaker _ (λ v. test v ≡ false) (λ v inside. out v (sym (contains-ends (whole V4) v.prefix inside).family)) _ (All-within (whole V4) four pruned))

none-of_six : (test : Vrp → Bool) (six : Tree) → IsPruned 128 0 six → ((v : Vrp) → v.prefix.family ≡ V6 → test v ≡ false) → list_any test (vrps_below V6 0 0 six) ≡ false
none-of_six test six pruned out = list_any_none test _ (All-weaker _ (λ v. test v ≡ false) (λ v inside. out v (sym (contains-ends (whole V6) v.prefix inside).family)) _ (All-within (whole V6) six pruned))

-- a test that no VRP of the other family passes
pub any-four : (test : Vrp → Bool) (four six : Tree) → IsPruned 128 0 six → ((v : Vrp) → v.prefix.family ≡ V6 → test v ≡ false) → list_any test (trie_vrps four six) ≡ list_any test (vrps_below V4 0 0 four)
any-four test four six prune6 out =
    list_any-append test (vrps_below V4 0 0 four) (vrps_below V6 0 0 six)
    ∙ ap (λ b. list_any test (vrps_below V4 0 0 four) || b) (none-of_six test six prune6 out) ∙ or-false _

pub any-six : (test : Vrp → Bool) (four six : Tree) → IsPruned 32 0 four → ((v : Vrp) → v.prefix.family ≡ V4 → test v ≡ false) → list_any test (trie_vrps four six) ≡ list_any test (vrps_below V6 0 0 six)
any-six test four six prune4 out =
    list_any-append test (vrps_below V4 0 0 four) (vrps_below V6 0 0 six)
    ∙ ap (λ b. b || list_any test (vrps_below V6 0 0 six)) (none-of_four test four prune4 out)

other-family : (v w : Vrp) (f g : Family) → v.prefix.family ≡ f → w.prefix.family ≡ g → (f ≡ g → ⊥) → is_vrp v w ≡ false
other-family v w f g one two apart = false_from_ne_true (is_vrp v w) (λ is. apart (sym one ∙ ap (λ u. u.prefix.family) (same_vrp-equal v w is) ∙ two))

abbrev pub vrp_path : Vrp → List Bool
vrp_path v = bits_from v.prefix 0

-- the trie has a VRP where its family's tree has it
pub any-in_four : (v : Vrp) (four six : Tree) → IsPruned 32 0 four → IsPruned 128 0 six → v.prefix.family ≡ V4 → list_any (is_vrp v) (trie_vrps four six) ≡ has (vrp_path v) (originator_of v) four
any-in_four v four six prune4 prune6 is =
    any-four (is_vrp v) four six prune6 (λ w other. other-family v w V4 V6 is other (λ e. cc)) ∙ any-is_vrp v (whole V4) four prune4 (whole-four v.prefix is)

pub any-in_six : (v : Vrp) (four six : Tree) → IsPruned 32 0 four → IsPruned 128 0 six → v.prefix.family ≡ V6 → list_any (is_vrp v) (trie_vrps four six) ≡ has (vrp_path v) (originator_of v) six
any-in_six v four six prune4 prune6 is =
    any-six (is_vrp v) four six prune4 (λ w other. other-family v w V6 V4 is other (λ e. cc)) ∙ any-is_vrp v (whole V6) six prune6 (whole-six v.prefix is)

pub contains-in_four : (s : set.VrpSet) (v : Vrp) (four six : Tree) → set.from_list (trie_vrps four six) ≡ s → IsPruned 32 0 four → IsPruned 128 0 six → v.prefix.family ≡ V4 → has (vrp_path v) (originator_of v) four ≡ set.has_vrp s v
contains-in_four s v four six view prune4 prune6 is = sym (ap (λ t. set.has_vrp t v) (sym view) ∙ contains-from_list (trie_vrps four six) v ∙ any-in_four v four six prune4 prune6 is)

pub contains-in_six : (s : set.VrpSet) (v : Vrp) (four six : Tree) → set.from_list (trie_vrps four six) ≡ s → IsPruned 32 0 four → IsPruned 128 0 six → v.prefix.family ≡ V6 → has (vrp_path v) (originator_of v) six ≡ set.has_vrp s v
contains-in_six s v four six view prune4 prune6 is = sym (ap (λ t. set.has_vrp t v) (sym view) ∙ contains-from_list (trie_vrps four six) v ∙ any-in_six v four six prune4 prune6 is)

-- ---- a VRP's place is its own

no-leaf : (path : List Bool) (o : Originator) → chain path o ≡ Leaf → ⊥
no-leaf [] o e = cc
no-leaf (false ∷ path) o e = cc
no-leaf (true ∷ path) o e = cc

-- the tree of one originator has one VRP
one-vrp : (p : Prefix) (path : List Bool) (o : Originator) → IsPruned (width p.family) p.length (chain path o) → length (vrps_at p (chain path o)) ≡ 1
one-vrp p [] o pruned = ap (λ (vs : List Vrp). length (vs ++ [])) (node_vrps-cons p o [] (pruned.0.lengths 0 o (lit< tt)))
one-vrp p (false ∷ path) o pruned =
    ap length (append-nil (vrps_below p.family p.first (p.length + 1) (chain path o)))
    ∙ elim (leaf-or-room p (chain path o) pruned.1.1) [
      | inl leaf ↦ absurd (no-leaf path o leaf)
      | inr room ↦ one-vrp (half false p room) path o pruned.1.1
    ]
one-vrp p (true ∷ path) o pruned =
    elim (leaf-or-room p (chain path o) pruned.2.1) [
      | inl leaf ↦ absurd (no-leaf path o leaf)
      | inr room ↦ one-vrp (half true p room) path o pruned.2.1
    ]

single : (v : Vrp) (vrps : List Vrp) → length vrps ≡ 1 → list_any (is_vrp v) vrps ≡ true → vrps ≡ v ∷ []
single v [] len there = cc
single v (w ∷ u ∷ vrps) len there = absurd (omega arith)
single v (w ∷ []) len there = ap (λ u. u ∷ []) (sym (same_vrp-equal v w (sym (or-false _) ∙ there)))

pub place-is_vrp : (p : Prefix) (v w : Vrp) → contains p v.prefix ≡ true → contains p w.prefix ≡ true → is_place (bits_from v.prefix p.length) (originator_of v) (bits_from w.prefix p.length) (originator_of w) ≡ is_vrp w v
place-is_vrp p v w inside inside' =
    sym (or-false _)
    ∙ ap (λ b. is_place path o (bits_from w.prefix p.length) (originator_of w) || b) (sym (has-leaf (bits_from w.prefix p.length) (originator_of w)))
    ∙ sym (inserted-chain path o (bits_from w.prefix p.length) (originator_of w))
    ∙ sym (any-is_vrp w p (chain path o) pruned inside')
    ∙ ap (list_any (is_vrp w)) alone
    ∙ or-false _
  where
    path : List Bool
    path = bits_from v.prefix p.length

    o : Originator
    o = originator_of v

    pruned : IsPruned (width p.family) p.length (chain path o)
    pruned =
        let longer : p.length ≤ v.prefix.length = contains-longer p v.prefix inside in
        pruned-chain (width p.family) p.length path o (omega (arith, length-bits_from v.prefix p.length, v.at_least_length)) (subst (λ (f : Family). v.max ≤ width f) (sym (contains-ends p v.prefix inside).family) v.at_most_width)

    alone : vrps_at p (chain path o) ≡ v ∷ []
    alone = single v _ (one-vrp p path o pruned)
        (any-is_vrp v p (chain path o) pruned inside ∙ inserted-chain path o path o ∙ ap (λ b. b || has path o Leaf) (place-itself path o))

-- ---- a change of one tree is one of the set

families : (f : Family) → (f ≡ V4) ⊎ (f ≡ V6)
families V4 = inl refl
families V6 = inr refl

module _ (now : Bool → Bool → Bool) (stays : (had : Bool) → had ≡ now false had) where
  pub changed-four : (v : Vrp) (four new six : Tree) → IsPruned 32 0 four → IsPruned 32 0 new → IsPruned 128 0 six → v.prefix.family ≡ V4 → IsChanged now (vrp_path v) (originator_of v) four new → (w : Vrp) → list_any (is_vrp w) (trie_vrps new six) ≡ now (is_vrp w v) (list_any (is_vrp w) (trie_vrps four six))
  changed-four v four new six old4 new4 prune6 family is w =
      elim (families w.prefix.family) [
        | inl same ↦
            any-in_four w new six new4 prune6 same ∙ is (vrp_path w) (originator_of w)
            ∙ ap (λ b. now b (has (vrp_path w) (originator_of w) four)) (place-is_vrp (whole V4) v w (whole-four v.prefix family) (whole-four w.prefix same))
            ∙ ap (now (is_vrp w v)) (sym (any-in_four w four six old4 prune6 same))
        | inr other ↦
            any-in_six w new six new4 prune6 other ∙ sym (any-in_six w four six old4 prune6 other) ∙ stays _
            ∙ ap (λ b. now b (list_any (is_vrp w) (trie_vrps four six))) (sym (other-family w v V6 V4 other family (λ e. cc)))
      ]

  pub changed-six : (v : Vrp) (four six new : Tree) → IsPruned 32 0 four → IsPruned 128 0 six → IsPruned 128 0 new → v.prefix.family ≡ V6 → IsChanged now (vrp_path v) (originator_of v) six new → (w : Vrp) → list_any (is_vrp w) (trie_vrps four new) ≡ now (is_vrp w v) (list_any (is_vrp w) (trie_vrps four six))
  changed-six v four six new prune4 old6 new6 family is w =
      elim (families w.prefix.family) [
        | inl other ↦
            any-in_four w four new prune4 new6 other ∙ sym (any-in_four w four six prune4 old6 other) ∙ stays _
            ∙ ap (λ b. now b (list_any (is_vrp w) (trie_vrps four six))) (sym (other-family w v V4 V6 other family (λ e. cc)))
        | inr same ↦
            any-in_six w four new prune4 new6 same ∙ is (vrp_path w) (originator_of w)
            ∙ ap (λ b. now b (has (vrp_path w) (originator_of w) six)) (place-is_vrp (whole V6) v w (whole-six v.prefix family) (whole-six w.prefix same))
            ∙ ap (now (is_vrp w v)) (sym (any-in_six w four six prune4 old6 same))
      ]
