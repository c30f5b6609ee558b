-- The VRPs of a tree rise.
use Rattle.payload.proofs.Vocabulary.{◌≡◌, suc, ◌<◌, true, false, List, [], ◌∷◌, ◌++◌, refl, sym, ap, ◌∙◌, subst, arith, inl, inr, All, AllPairs, Less, Equal, cases_lt, tied_itself, All-append, All-head, All-tail, contains, width, family_cmp, prefix_cmp, vrp_cmp, Family, V4, V6, Prefix, Vrp, prefix_order, AreRising, RiseBy, Originator, Tree, Leaf, Fork, IsPruned, originator_cmp, half_vrps, node_vrps, vrps_at, cmp-less, cmp-equal, contains-ends}
use Rattle.std.proofs.lemmas.List.Kept.{AllPairs-cons}
use Rattle.payload.proofs.Halves.{half, contains-half, contains-trans, contains-longer, within-first}
use Rattle.payload.proofs.TrieVrps.{All-half, HasLengths, node_vrps-cons, leaf-or-room, vrp_of, All-node}

-- each item of the one list before each of the other
pub pairs-append : {X : Type 0} (R : X → X → Type 0) (xs ys : List X) → AllPairs R xs → AllPairs R ys → All (λ x. All (R x) ys) xs → AllPairs R (xs ++ ys)
pairs-append R [] ys first later cross = later
pairs-append R (x ∷ xs) ys first later cross =
    AllPairs-cons R x (xs ++ ys)
    (All-append (R x) xs ys (λ k d within. first 0 (suc k) d (omega arith) (omega arith)) (All-head (λ z. All (R z) ys) x xs cross))
    (pairs-append R xs ys (λ i j d less within. first (suc i) (suc j) d (omega arith) (omega arith)) later (All-tail (λ z. All (R z) ys) x xs cross))

one-family : (f g : Family) → f ≡ g → family_cmp f g ≡ Equal
one-family V4 V4 e = refl
one-family V6 V6 e = refl
one-family V4 V6 e = cc
one-family V6 V4 e = cc

less-first : (v w : Vrp) → v.prefix.family ≡ w.prefix.family → v.prefix.first < w.prefix.first → vrp_cmp v w ≡ Less
less-first v w family less = rw (one-family _ _ family, cmp-less v.prefix.first w.prefix.first less)

less-length : (v w : Vrp) → v.prefix.family ≡ w.prefix.family → v.prefix.first ≡ w.prefix.first → v.prefix.length < w.prefix.length → vrp_cmp v w ≡ Less
less-length v w family same less = rw (one-family _ _ family, cmp-equal v.prefix.first w.prefix.first same, cmp-less v.prefix.length w.prefix.length less)

-- a VRP sorts before those of longer prefixes in its own
less-within : (p : Prefix) (v w : Vrp) → v.prefix ≡ p → contains p w.prefix ≡ true → p.length < w.prefix.length → vrp_cmp v w ≡ Less
less-within p v w same inside longer =
    let ends = contains-ends p w.prefix inside in
    let family : v.prefix.family ≡ w.prefix.family = ap (λ q. q.family) same ∙ ends.family in
    let first : v.prefix.first ≡ p.first = ap (λ q. q.first) same in
    let len : v.prefix.length ≡ p.length = ap (λ q. q.length) same in
    elim (cases_lt p.first w.prefix.first) [
      | inl less ↦ less-first v w family (omega arith)
      | inr most ↦ less-length v w family (omega (arith, ends.first)) (omega arith)
    ]

node-rises : (p : Prefix) (os : List Originator) → All (HasLengths p) os → RiseBy originator_cmp os → AreRising (node_vrps p os)
node-rises p [] all rise = λ i j d less within. absurd (omega arith)
node-rises p (o ∷ os) all rise =
    let fits = All-head (HasLengths p) o os all in
    let rest = All-tail (HasLengths p) o os all in
    subst AreRising (sym (node_vrps-cons p o os fits))
    (AllPairs-cons (λ v w. vrp_cmp v w ≡ Less) (vrp_of p o fits) (node_vrps p os)
    (All-node (λ q. originator_cmp o q ≡ Less) (λ w. vrp_cmp (vrp_of p o fits) w ≡ Less) p os rest (λ k d within. rise 0 (suc k) d (omega arith) (omega arith))
    (λ w at less.
    let tie : prefix_cmp p w.prefix ≡ Equal = subst (λ q. prefix_cmp p q ≡ Equal) (sym at) (tied_itself prefix_order.total p) in
    rw tie less))
    (node-rises p os rest (λ i j d less within. rise (suc i) (suc j) d (omega arith) (omega arith))))

none-rise : AreRising []
none-rise i j d less within = absurd (omega arith)

abbrev Before : Vrp → Vrp → Type 0
Before v w = vrp_cmp v w ≡ Less

pub vrps-rise : (p : Prefix) (t : Tree) → IsPruned (width p.family) p.length t → AreRising (vrps_at p t)
vrps-rise p Leaf pruned = none-rise
vrps-rise p (Fork os zero one) pruned =
    pairs-append Before (node_vrps p os) _ (node-rises p os pruned.0.lengths pruned.0.rise)
    (pairs-append Before (half_vrps false p zero) (half_vrps true p one)
    (elim (leaf-or-room p zero pruned.1.1) [
      | inl leaf ↦ rw leaf none-rise
      | inr room ↦ vrps-rise (half false p room) zero pruned.1.1
    ])
    (elim (leaf-or-room p one pruned.2.1) [
      | inl leaf ↦ rw leaf none-rise
      | inr room ↦ vrps-rise (half true p room) one pruned.2.1
    ])
    (All-half false (λ v. All (Before v) (half_vrps true p one)) p zero pruned.1.1 (λ room v low.
    All-half true (Before v) p one pruned.2.1 (λ room' w high.
    let below = contains-ends (half false p room) v.prefix low in
    let above = contains-ends (half true p room') w.prefix high in
    less-first v w (sym below.family ∙ above.family) (first-below p room v low w room' high)))))
    (All-node (HasLengths p) (λ v. All (Before v) (half_vrps false p zero ++ half_vrps true p one)) p os pruned.0.lengths pruned.0.lengths (λ v at fits.
    All-append (Before v) (half_vrps false p zero) (half_vrps true p one)
    (All-half false (Before v) p zero pruned.1.1 (λ room w inside.
    less-within p v w at (contains-trans p (half false p room) w.prefix (contains-half false p room) inside) (omega (arith, contains-longer (half false p room) w.prefix inside))))
    (All-half true (Before v) p one pruned.2.1 (λ room w inside.
    less-within p v w at (contains-trans p (half true p room) w.prefix (contains-half true p room) inside) (omega (arith, contains-longer (half true p room) w.prefix inside))))))
  where
    first-below : (p : Prefix) (room : p.length < width p.family) (v : Vrp) → contains (half false p room) v.prefix ≡ true → (w : Vrp) (room' : p.length < width p.family) → contains (half true p room') w.prefix ≡ true → v.prefix.first < w.prefix.first
    first-below p room v low w room' high =
        let above = contains-ends (half true p room') w.prefix high in
        omega (arith, above.first, within-first (half false p room) v.prefix low)
