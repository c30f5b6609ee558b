-- The lengths at which a search has something to look at, as the nodes of a tree on a route's path.
use Rattle.payload.proofs.Vocabulary.{◌≡◌, ℕ, zero, suc, ◌+◌, ◌-◌, ◌*◌, ◌/◌, ◌%◌, ◌^◌, ◌≤◌, ◌<◌, Bool, true, false, not, ◌==◌, ◌&&◌, ◌||◌, nat_lt, if◌then◌else◌, List, [], ◌∷◌, length, filter, refl, sym, ap, ◌∙◌, subst, arith, All, list_any, range_with_len, and-false, and-true, div-div-eq-div-mul, and_parts, and_from, false_from_ne_true, le-leb, leb-true, lt-leb, eqb-true, eq-eqb, All-head, All-weaker, list_any_none, pow-add, div-add-mod', div-mul-add, bit_of, contains, width, family_eq, matches, Family, Prefix, Route, Vrp, family_itself, same_family, contains-ends, agrees, first_bits, is_matched_before, Originator, Tree, Leaf, Fork, IsPruned, below, is_bare, nodes_on_path, authorizes, bits_from, half_first, half_vrps, node_vrps, originator_of, vrps_at, vrps_below}
use Rattle.payload.proofs.Halves.{half, half-bit, contains-half, contains-trans, contains-longer, within-first}
use Rattle.payload.proofs.TrieVrps.{HasLengths, contains-itself, node_vrps-cons, vrp_of, IsRound, any-node, any-parts, any-half, any-side, not-other, All-within}
use Rattle.payload.proofs.TrieWalks.{walk}

-- ---- the first bits of prefixes

-- prefixes that agree on their first k bits have the same bit at each place before
agree-bit : (p q : Prefix) (k at : ℕ) → at < k → p.family ≡ q.family → first_bits k p ≡ first_bits k q → bit_of p at ≡ bit_of q at
agree-bit p q k at before family same = ap (λ n. n % 2) (shorter p ∙ ap (λ n. n / 2 ^ more p) same ∙ ap (λ e. first_bits k q / 2 ^ e) (ap (λ (f : Family). width f - 1 - at - (width f - k)) family) ∙ sym (shorter q))
  where
    more : Prefix → ℕ
    more p = width p.family - 1 - at - (width p.family - k)

    shorter : (p : Prefix) → p.first / 2 ^ (width p.family - 1 - at) ≡ first_bits k p / 2 ^ more p
    shorter p =
        let parts : width p.family - 1 - at ≡ (width p.family - k) + more p = omega (arith, before) in
        ap (λ e. p.first / 2 ^ e) parts ∙ ap (λ n. p.first / n) (pow-add 2 (width p.family - k) (more p)) ∙ sym (div-div-eq-div-mul p.first (2 ^ (width p.family - k)) (2 ^ more p))

-- what lies in p has its bits
first_bits-within : (p q : Prefix) → contains p q ≡ true → first_bits p.length q ≡ first_bits p.length p
first_bits-within p q inside =
    let ends = contains-ends p q inside in
    let size = 2 ^ (width p.family - p.length) in
    let a = p.first / size in
    let whole : a * size ≡ p.first = omega (arith, div-add-mod' p.first size, p.aligned) in
    let place : a * size + (q.first - a * size) ≡ q.first = omega (arith, ends.first) in
    ap (λ (f : Family). q.first / 2 ^ (width f - p.length)) (sym ends.family)
    ∙ ap (λ n. n / size) (sym place) ∙ div-mul-add a size (q.first - a * size) (omega (arith, within-first p q inside))

-- prefixes in p agree on its bits
agrees-within : (p v q : Prefix) → contains p v ≡ true → contains p q ≡ true → agrees p.length v q ≡ true
agrees-within p v q inside inside' =
    let family : v.family ≡ q.family = sym (contains-ends p v inside).family ∙ (contains-ends p q inside').family in
    and_from _ _ (subst (λ f. family_eq v.family f ≡ true) family (family_itself v.family))
    (and_from _ _ (le-leb p.length v.length (contains-longer p v inside)) (eq-eqb _ _ (first_bits-within p v inside ∙ sym (first_bits-within p q inside'))))

-- where the bits of q go to the one half, no prefix in the other agrees on more of them
not-agrees : (p v q : Prefix) (k : ℕ) → p.length < k → (bit_of v p.length ≡ bit_of q p.length → ⊥) → agrees k v q ≡ false
not-agrees p v q k longer apart = false_from_ne_true (agrees k v q) (λ is.
    let parts = and_parts _ _ is in
    let later = and_parts _ _ parts.1 in
    apart (agree-bit v q k p.length longer (same_family _ _ parts.0) (eqb-true _ _ later.1)))

not-agrees-short : (v q : Prefix) (k : ℕ) → v.length < k → agrees k v q ≡ false
not-agrees-short v q k short = false_from_ne_true (agrees k v q) (λ is. absurd (omega (arith, leb-true k v.length (and_parts _ _ (and_parts _ _ is).1).0)))

-- ---- one length

-- some VRP of the list agrees with the route on the first k bits, and none of fewer bits matches it
abbrev pub is_searched : Route → List Vrp → ℕ → Bool
is_searched route vrps k = list_any (λ v. agrees k v.prefix route.prefix) vrps && not (is_matched_before vrps route k)

abbrev matches_before : Route → ℕ → Vrp → Bool
matches_before route k v = matches v route && nat_lt v.prefix.length k

around-match : (route : Route) (k : ℕ) → IsRound route.prefix (matches_before route k)
around-match route k v is = (and_parts _ _ (and_parts _ _ is).0).0

-- a VRP of a node on the way that has fewer than k bits
node-matches : (route : Route) (p : Prefix) (os : List Originator) (k : ℕ) → All (HasLengths p) os → contains p route.prefix ≡ true → p.length < k → list_any (matches_before route k) (node_vrps p os) ≡ list_any (authorizes route) os
node-matches route p os k lengths inside longer =
    any-node (matches_before route k) (authorizes route) p os lengths (λ v at.
    ap (λ b. matches v route && b) (le-leb (suc v.prefix.length) k (omega (arith, longer, ap (λ q. q.length) at)))
    ∙ and-true _
    ∙ ap (λ b. b && authorizes route (originator_of v)) (subst (λ q. contains q route.prefix ≡ true) (sym at) inside))

node-agrees : (p q : Prefix) (os : List Originator) (k : ℕ) → All (HasLengths p) os → p.length < k → list_any (λ v. agrees k v.prefix q) (node_vrps p os) ≡ false
node-agrees p q os k lengths longer = any-node (λ v. agrees k v.prefix q) (λ o. false) p os lengths (λ v at. not-agrees-short v.prefix q k (subst (λ r. r.length < k) (sym at) longer)) ∙ list_any_none (λ (o : Originator). false) os (λ k d within. refl)

unless : (a b c : Bool) → (a && not (b || c)) ≡ (if b then false else a && not c)
unless a true c = and-false a
unless a false c = refl

-- past a node, a length is searched where no VRP of the node matches and it is searched in the half to which the bits go
is_searched-half : (bit : Bool) (route : Route) (p : Prefix) (os : List Originator) (low high : Tree) (k : ℕ) → IsPruned (width p.family) p.length (Fork os low high) → contains p route.prefix ≡ true → p.length < k → (bit_of route.prefix p.length == 1) ≡ bit → is_searched route (vrps_at p (Fork os low high)) k ≡ (if list_any (authorizes route) os then false else is_searched route (half_vrps bit p (below bit (Fork os low high))) k)
is_searched-half bit route p os low high k pruned inside longer is =
    ap (λ b. b && not (is_matched_before (vrps_at p (Fork os low high)) route k)) agreeing
    ∙ ap (λ b. list_any test child && not b) matching
    ∙ unless _ (list_any (authorizes route) os) _
  where
    test : Vrp → Bool
    test v = agrees k v.prefix route.prefix

    child : List Vrp
    child = half_vrps bit p (below bit (Fork os low high))

    agreeing : list_any test (vrps_at p (Fork os low high)) ≡ list_any test child
    agreeing =
        any-side bit test p os low high pruned (λ room v inside. not-agrees p v.prefix route.prefix k longer (λ same.
        not-other bit _ is (ap (λ n. n == 1) (sym same) ∙ half-bit (not bit) p v.prefix room inside)))
        ∙ ap (λ b. b || list_any test child) (node-agrees p route.prefix os k pruned.0.lengths longer)

    matching : list_any (matches_before route k) (vrps_at p (Fork os low high)) ≡ (list_any (authorizes route) os || list_any (matches_before route k) child)
    matching =
        any-half bit (matches_before route k) p route.prefix os low high (around-match route k) pruned is
        ∙ ap (λ b. b || list_any (matches_before route k) child) (node-matches route p os k pruned.0.lengths inside longer)

-- a node that is not bare, or one below it, has a VRP
some-vrp : (test : Vrp → Bool) (p : Prefix) (t : Tree) → IsPruned (width p.family) p.length t → (t ≡ Leaf → ⊥) → is_bare t ≡ false → ((v : Vrp) → contains p v.prefix ≡ true → test v ≡ true) → list_any test (vrps_at p t) ≡ true
some-vrp test p Leaf pruned node full each = absurd (node refl)
some-vrp test p (Fork (o ∷ os) low high) pruned node full each =
    let fits = All-head (HasLengths p) o os pruned.0.lengths in
    any-parts test p (o ∷ os) low high
    ∙ ap (λ b. b || (list_any test (half_vrps false p low) || list_any test (half_vrps true p high)))
    (ap (list_any test) (node_vrps-cons p o os fits) ∙ ap (λ b. b || list_any test (node_vrps p os)) (each (vrp_of p o fits) (contains-itself p p refl)))
some-vrp test p (Fork [] (Fork os low high) other) pruned node full each =
    let room : p.length < width p.family = omega (arith, pruned.1.1.0.fits) in
    any-parts test p [] (Fork os low high) other
    ∙ ap (λ b. b || list_any test (half_vrps true p other))
    (some-vrp test (half false p room) (Fork os low high) pruned.1.1 (λ e. cc) pruned.1.0 (λ v inside. each v (contains-trans p (half false p room) v.prefix (contains-half false p room) inside)))
some-vrp test p (Fork [] Leaf (Fork os low high)) pruned node full each =
    let room : p.length < width p.family = omega (arith, pruned.2.1.0.fits) in
    some-vrp test (half true p room) (Fork os low high) pruned.2.1 (λ e. cc) pruned.2.0 (λ v inside. each v (contains-trans p (half true p room) v.prefix (contains-half true p room) inside))
some-vrp test p (Fork [] Leaf Leaf) pruned node full each = cc

-- the length of a node's prefix
is_searched-here : (route : Route) (p : Prefix) (os : List Originator) (low high : Tree) → IsPruned (width p.family) p.length (Fork os low high) → is_bare (Fork os low high) ≡ false → contains p route.prefix ≡ true → is_searched route (vrps_at p (Fork os low high)) p.length ≡ true
is_searched-here route p os low high pruned full inside =
    and_from _ _ (some-vrp (λ v. agrees p.length v.prefix route.prefix) p (Fork os low high) pruned (λ e. cc) full (λ v inside'. agrees-within p v.prefix route.prefix inside' inside))
    (ap not (list_any_none (matches_before route p.length) _ (All-weaker _ (λ v. matches_before route p.length v ≡ false) (λ (v : Vrp) (inside' : contains p v.prefix ≡ true).
    ap (λ b. matches v route && b) (lt-leb (suc v.prefix.length) p.length (omega (arith, contains-longer p v.prefix inside'))) ∙ and-false _) _ (All-within p (Fork os low high) pruned))))

-- ---- all lengths

-- how many of the m numbers from a on pass
abbrev pub passing : (ℕ → Bool) → ℕ → ℕ → ℕ
passing f a m = length (filter f (range_with_len a m))

pub passing-same : (f g : ℕ → Bool) (a m : ℕ) → ((k : ℕ) → a ≤ k → f k ≡ g k) → passing f a m ≡ passing g a m
passing-same f g a zero same = refl
passing-same f g a (suc m) same = one-more (f a) (g a) (same a (omega arith)) _ _ (passing-same f g (a + 1) m (λ k later. same k (omega arith)))
  where
    one-more : (b c : Bool) → b ≡ c → (xs ys : List ℕ) → length xs ≡ length ys → length (if b then a ∷ xs else xs) ≡ length (if c then a ∷ ys else ys)
    one-more true true e xs ys rest = ap suc rest
    one-more false false e xs ys rest = rest
    one-more true false e xs ys rest = cc
    one-more false true e xs ys rest = cc

passing-none : (f : ℕ → Bool) (a m : ℕ) → ((k : ℕ) → a ≤ k → f k ≡ false) → passing f a m ≡ 0
passing-none f a zero none = refl
passing-none f a (suc m) none = rw (none a (omega arith)) (passing-none f (a + 1) m (λ k later. none k (omega arith)))

pub passing-first : (f : ℕ → Bool) (a m : ℕ) → f a ≡ true → passing f a (suc m) ≡ suc (passing f (a + 1) m)
passing-first f a m is = rw is

-- ---- the nodes on the route's path

-- how many nodes are on the path below the first one, up to the first that passes
abbrev pub nodes_below : (Originator → Bool) → List Bool → Tree → ℕ
nodes_below test path Leaf = 0
nodes_below test [] (Fork os low high) = 0
nodes_below test (bit ∷ path) (Fork os low high) =
    if list_any test os then 0 else nodes_on_path test path (below bit (Fork os low high))

pub nodes-parts : (test : Originator → Bool) (path : List Bool) (os : List Originator) (low high : Tree) → nodes_on_path test path (Fork os low high) ≡ 1 + nodes_below test path (Fork os low high)
nodes-parts test [] os low high = refl
nodes-parts test (bit ∷ path) os low high = refl

passing-unless : (b : Bool) (f : ℕ → Bool) (a m n : ℕ) → passing f a m ≡ n → passing (λ k. if b then false else f k) a m ≡ (if b then 0 else n)
passing-unless true f a m n same = passing-none (λ k. false) a m (λ k later. refl)
passing-unless false f a m n same = same

-- from the length of a prefix on, as many lengths are searched as there are nodes on the path from its node on
abbrev Counts : Route → Family → ℕ → ℕ → List Bool → Tree → Type 0
Counts route family first len path t = (m : ℕ) → route.prefix.length ≡ len + m → (
    passing (is_searched route (vrps_below family first len t)) (len + 1) m ≡ nodes_below (authorizes route) path t
    ) × (is_bare t ≡ false → passing (is_searched route (vrps_below family first len t)) len (suc m) ≡ nodes_on_path (authorizes route) path t)

with-node : (route : Route) (p : Prefix) (os : List Originator) (low high : Tree) (m : ℕ) (path : List Bool) → IsPruned (width p.family) p.length (Fork os low high) → contains p route.prefix ≡ true → passing (is_searched route (vrps_at p (Fork os low high))) (p.length + 1) m ≡ nodes_below (authorizes route) path (Fork os low high) → is_bare (Fork os low high) ≡ false → passing (is_searched route (vrps_at p (Fork os low high))) p.length (suc m) ≡ nodes_on_path (authorizes route) path (Fork os low high)
with-node route p os low high m path pruned inside rest full =
    omega (arith, passing-first (is_searched route (vrps_at p (Fork os low high))) p.length m (is_searched-here route p os low high pruned full inside), rest, nodes-parts (authorizes route) path os low high)

counts-here : (route : Route) (p : Prefix) (os : List Originator) (low high : Tree) → IsPruned (width p.family) p.length (Fork os low high) → p ≡ route.prefix → Counts route p.family p.first p.length [] (Fork os low high)
counts-here route p os low high pruned same m long =
    let none : m ≡ 0 = omega (arith, long, ap (λ q. q.length) same) in
    rw none (refl, with-node route p os low high 0 [] pruned (contains-itself p route.prefix (sym same)) refl)

counts-next : (route : Route) (p : Prefix) (os : List Originator) (low high : Tree) → IsPruned (width p.family) p.length (Fork os low high) → contains p route.prefix ≡ true → p.length < route.prefix.length → (bit : Bool) → (bit_of route.prefix p.length == 1) ≡ bit → Counts route p.family (half_first bit p) (p.length + 1) (bits_from route.prefix (p.length + 1)) (below bit (Fork os low high)) → Counts route p.family p.first p.length (bit ∷ bits_from route.prefix (p.length + 1)) (Fork os low high)
counts-next route p os low high pruned inside longer bit is child zero long = absurd (omega arith)
counts-next route p os low high pruned inside longer bit is child (suc m) long = (later, with-node route p os low high (suc m) (bit ∷ bits_from route.prefix (p.length + 1)) pruned inside later)
  where
    full : (bit : Bool) → is_bare (below bit (Fork os low high)) ≡ false
    full false = pruned.1.0
    full true = pruned.2.0

    later : passing (is_searched route (vrps_at p (Fork os low high))) (p.length + 1) (suc m) ≡ nodes_below (authorizes route) (bit ∷ bits_from route.prefix (p.length + 1)) (Fork os low high)
    later =
        passing-same _ _ (p.length + 1) (suc m) (λ k past. is_searched-half bit route p os low high k pruned inside (omega arith) is)
        ∙ passing-unless (list_any (authorizes route) os) (is_searched route (half_vrps bit p (below bit (Fork os low high)))) (p.length + 1) (suc m) _ ((child m (omega arith)).1 (full bit))

pub passing-below : (route : Route) (p : Prefix) (t : Tree) (m : ℕ) → IsPruned (width p.family) p.length t → contains p route.prefix ≡ true → route.prefix.length ≡ p.length + m → passing (is_searched route (vrps_at p t)) (p.length + 1) m ≡ nodes_below (authorizes route) (bits_from route.prefix p.length) t
passing-below route p t m pruned inside long =
    (walk route.prefix (Counts route)
    (λ family first len path m long. (passing-none _ (len + 1) m (λ k later. refl), λ full. passing-none _ len (suc m) (λ k later. refl)))
    (counts-here route) (counts-next route) p t pruned inside m long).0
