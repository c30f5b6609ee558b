-- The VRPs of a tree, and what tests say of them.
use Rattle.payload.proofs.Vocabulary.{◌≡◌, ◌+◌, ◌≤◌, ◌<◌, Bool, true, false, not, ◌==◌, ◌||◌, List, [], ◌∷◌, Some, refl, sym, ap, ◌∙◌, subst, arith, inl, inr, ◌⊎◌, or-false, All, list_any, false_from_ne_true, All-append, All-cons, All-head, All-nil, All-tail, All-weaker, list_any-append, list_any_none, bit_of, contains, last_of, same_prefix, width, same_vrp, Prefix, Vrp, Originator, Tree, Leaf, Fork, IsPruned, below, half_vrps, node_vrps, originator_of, vrp_at, vrp_if, vrp_of_parts, vrps_at, vrps_below, ends-contains}
use Rattle.addr.specs.PrefixText.{prefix_if, prefix_with}
use Rattle.payload.proofs.Halves.{half, half-bit, contains-half, contains-trans, contains-longer}

abbrev pub HasLengths : Prefix → Originator → Type 0
HasLengths p o = (p.length ≤ o.max) × (o.max ≤ width p.family)

-- the VRP of an originator of the prefix
abbrev pub vrp_of : (p : Prefix) (o : Originator) → HasLengths p o → Vrp
vrp_of p o fits = record { prefix = p; max = o.max; asn = o.asn; at_least_length = fits.0; at_most_width = fits.1 }

prefix_with-of : (p : Prefix) → prefix_with (record { family = p.family; address = p.first; length = p.length }) ≡ Some p
prefix_with-of p = by _ _ _
  where
    by : (a : Dec _) (b : Dec _) (c : Dec _) → prefix_if p.family p.first p.length a b c ≡ Some p
    by (yes a) (yes b) (yes c) = ap Some (same_prefix _ p refl refl refl)
    by (no a) b c = absurd (a p.length_fits)
    by (yes a) (no b) c = absurd (b p.aligned)
    by (yes a) (yes b) (no c) = absurd (c p.in_family)

vrp_of_parts-of : (p : Prefix) (o : Originator) (fits : HasLengths p o) → vrp_of_parts o p ≡ Some (vrp_of p o fits)
vrp_of_parts-of p o fits = by _ _
  where
    by : (a : Dec (p.length ≤ o.max)) (b : Dec (o.max ≤ width p.family)) → vrp_if p o.max o.asn a b ≡ Some (vrp_of p o fits)
    by (yes a) (yes b) = ap Some (same_vrp _ (vrp_of p o fits) refl refl refl)
    by (no a) b = absurd (a fits.0)
    by (yes a) (no b) = absurd (b fits.1)

pub vrp_at-of : (p : Prefix) (o : Originator) (fits : HasLengths p o) → vrp_at p.family p.first p.length o ≡ Some (vrp_of p o fits)
vrp_at-of p o fits = rw (prefix_with-of p) (vrp_of_parts-of p o fits)

pub node_vrps-cons : (p : Prefix) (o : Originator) (os : List Originator) (fits : HasLengths p o) → node_vrps p (o ∷ os) ≡ vrp_of p o fits ∷ node_vrps p os
node_vrps-cons p o os fits = rw (vrp_at-of p o fits)

-- a test of the VRPs of a node is one of its originators
pub any-node : (test : Vrp → Bool) (passes : Originator → Bool) (p : Prefix) (os : List Originator) → All (HasLengths p) os → ((v : Vrp) → v.prefix ≡ p → test v ≡ passes (originator_of v)) → list_any test (node_vrps p os) ≡ list_any passes os
any-node test passes p [] all same = refl
any-node test passes p (o ∷ os) all same =
    let fits = All-head (HasLengths p) o os all in
    ap (list_any test) (node_vrps-cons p o os fits)
    ∙ ap (λ b. b || list_any test (node_vrps p os)) (same (vrp_of p o fits) refl)
    ∙ ap (λ b. passes o || b) (any-node test passes p os (All-tail (HasLengths p) o os all) same)

pub All-node : (Q : Originator → Type 0) (P : Vrp → Type 0) (p : Prefix) (os : List Originator) → All (HasLengths p) os → All Q os → ((v : Vrp) → v.prefix ≡ p → Q (originator_of v) → P v) → All P (node_vrps p os)
All-node Q P p [] all each same = All-nil P
All-node Q P p (o ∷ os) all each same =
    let fits = All-head (HasLengths p) o os all in
    subst (All P) (sym (node_vrps-cons p o os fits))
    (All-cons P (vrp_of p o fits) (node_vrps p os) (same (vrp_of p o fits) refl (All-head Q o os each))
    (All-node Q P p os (All-tail (HasLengths p) o os all) (All-tail Q o os each) same))

-- below a prefix that cannot be halved there is no node
pub leaf-or-room : (p : Prefix) (t : Tree) → IsPruned (width p.family) (p.length + 1) t → (t ≡ Leaf) ⊎ (p.length < width p.family)
leaf-or-room p Leaf pruned = inl refl
leaf-or-room p (Fork os zero one) pruned = inr (omega (arith, pruned.0.fits))

pub contains-itself : (p q : Prefix) → q ≡ p → contains p q ≡ true
contains-itself p q same = ends-contains p q (ap (λ r. r.family) (sym same)) (omega (arith, ap (λ r. r.first) same)) (subst (λ r. last_of r ≤ last_of p) (sym same) (omega arith))

abbrev IsInside : Prefix → Vrp → Type 0
IsInside p v = contains p v.prefix ≡ true

-- the VRPs of a tree lie in its prefix
pub All-within : (p : Prefix) (t : Tree) → IsPruned (width p.family) p.length t → All (λ v. contains p v.prefix ≡ true) (vrps_at p t)
All-within p Leaf pruned = All-nil (IsInside p)
All-within p (Fork os zero one) pruned =
    All-append (IsInside p) (node_vrps p os) _
    (All-node (HasLengths p) (IsInside p) p os pruned.0.lengths pruned.0.lengths (λ v same fits. contains-itself p v.prefix same))
    (All-append (IsInside p) (vrps_below p.family p.first (p.length + 1) zero) _
    (elim (leaf-or-room p zero pruned.1.1) [
      | inl leaf ↦ rw leaf (All-nil (IsInside p))
      | inr room ↦ All-weaker _ (IsInside p) (λ v inside. contains-trans p (half false p room) v.prefix (contains-half false p room) inside) _ (All-within (half false p room) zero pruned.1.1)
    ])
    (elim (leaf-or-room p one pruned.2.1) [
      | inl leaf ↦ rw leaf (All-nil (IsInside p))
      | inr room ↦ All-weaker _ (IsInside p) (λ v inside. contains-trans p (half true p room) v.prefix (contains-half true p room) inside) _ (All-within (half true p room) one pruned.2.1)
    ]))

-- what holds of the VRPs in a half holds of a child's
pub All-half : (bit : Bool) (P : Vrp → Type 0) (p : Prefix) (t : Tree) → IsPruned (width p.family) (p.length + 1) t → ((room : p.length < width p.family) (v : Vrp) → contains (half bit p room) v.prefix ≡ true → P v) → All P (half_vrps bit p t)
All-half bit P p t pruned each =
    elim (leaf-or-room p t pruned) [
      | inl leaf ↦ rw leaf (All-nil P)
      | inr room ↦ All-weaker _ P (each room) _ (All-within (half bit p room) t pruned)
    ]

none-half : (bit : Bool) (test : Vrp → Bool) (p : Prefix) (t : Tree) → IsPruned (width p.family) (p.length + 1) t → ((room : p.length < width p.family) (v : Vrp) → contains (half bit p room) v.prefix ≡ true → test v ≡ false) → list_any test (half_vrps bit p t) ≡ false
none-half bit test p t pruned out = list_any_none test _ (All-half bit (λ v. test v ≡ false) p t pruned out)

pub any-parts : (test : Vrp → Bool) (p : Prefix) (os : List Originator) (zero one : Tree) → list_any test (vrps_at p (Fork os zero one)) ≡ (list_any test (node_vrps p os) || (list_any test (half_vrps false p zero) || list_any test (half_vrps true p one)))
any-parts test p os zero one =
    list_any-append test (node_vrps p os) _
    ∙ ap (λ b. list_any test (node_vrps p os) || b) (list_any-append test (half_vrps false p zero) (half_vrps true p one))

-- ---- a test that only VRPs round a prefix q pass, where p contains q

abbrev pub IsRound : Prefix → (Vrp → Bool) → Type 0
IsRound q test = (v : Vrp) → test v ≡ true → contains v.prefix q ≡ true

-- where q is p itself, only VRPs at the node pass
pub any-here : (test : Vrp → Bool) (p q : Prefix) (os : List Originator) (zero one : Tree) → IsRound q test → IsPruned (width p.family) p.length (Fork os zero one) → q.length ≤ p.length → list_any test (vrps_at p (Fork os zero one)) ≡ list_any test (node_vrps p os)
any-here test p q os zero one round pruned short =
    any-parts test p os zero one
    ∙ ap (λ b. list_any test (node_vrps p os) || (b || list_any test (half_vrps true p one))) (none false zero pruned.1.1)
    ∙ ap (λ b. list_any test (node_vrps p os) || b) (none true one pruned.2.1)
    ∙ or-false _
  where
    none : (bit : Bool) (t : Tree) → IsPruned (width p.family) (p.length + 1) t → list_any test (half_vrps bit p t) ≡ false
    none bit t pruned = none-half bit test p t pruned (λ room v inside. false_from_ne_true _ (λ passes.
        absurd (omega (arith, contains-longer v.prefix q (round v passes), contains-longer (half bit p room) v.prefix inside))))

-- where none in the other half passes, only VRPs at the node and in the half of the bit do
pub any-side : (bit : Bool) (test : Vrp → Bool) (p : Prefix) (os : List Originator) (zero one : Tree) → IsPruned (width p.family) p.length (Fork os zero one) → ((room : p.length < width p.family) (v : Vrp) → contains (half (not bit) p room) v.prefix ≡ true → test v ≡ false) → list_any test (vrps_at p (Fork os zero one)) ≡ (list_any test (node_vrps p os) || list_any test (half_vrps bit p (below bit (Fork os zero one))))
any-side false test p os zero one pruned out =
    any-parts test p os zero one
    ∙ ap (λ b. list_any test (node_vrps p os) || (list_any test (half_vrps false p zero) || b)) (none-half true test p one pruned.2.1 out)
    ∙ ap (λ b. list_any test (node_vrps p os) || b) (or-false _)
any-side true test p os zero one pruned out =
    any-parts test p os zero one
    ∙ ap (λ b. list_any test (node_vrps p os) || (b || list_any test (half_vrps true p one))) (none-half false test p zero pruned.1.1 out)

pub not-other : (bit other : Bool) → other ≡ bit → other ≡ not bit → ⊥
not-other false other is isn't = cc
not-other true other is isn't = cc

pub any-half : (bit : Bool) (test : Vrp → Bool) (p q : Prefix) (os : List Originator) (zero one : Tree) → IsRound q test → IsPruned (width p.family) p.length (Fork os zero one) → (bit_of q p.length == 1) ≡ bit → list_any test (vrps_at p (Fork os zero one)) ≡ (list_any test (node_vrps p os) || list_any test (half_vrps bit p (below bit (Fork os zero one))))
any-half bit test p q os zero one round pruned is =
    any-side bit test p os zero one pruned (λ room v inside. false_from_ne_true _ (λ passes.
    not-other bit _ is (half-bit (not bit) p q room (contains-trans (half (not bit) p room) v.prefix q inside (round v passes)))))
