-- The VRPs of a trie: they rise, what state they give a route, and at which lengths a search looks.
use Rattle.payload.proofs.Vocabulary.{◌≡◌, ℕ, suc, ◌+◌, ◌≤◌, ◌<◌, Bool, true, false, not, ◌==◌, ◌&&◌, ◌||◌, nat_lt, get_or, if◌then◌else◌, List, [], ◌∷◌, ◌++◌, length, take, drop, filter, refl, sym, ap, ◌∙◌, subst, inl, inr, arith, and-false, and-true, or-false, All, list_any, range_with_len, Less, cases_Bool, false_from_ne_true, false≢true, and_parts, lt-leb, ne_eqb, take-append-drop, All-weaker, list_any-append, list_any_none, bit_of, contains, width, ValidationState, Valid, Invalid, NotFound, covers, matches, validation_state, vrp_cmp, Family, V4, V6, Prefix, Route, Vrp, same_family, contains-ends, AreRising, agrees, is_matched_before, is_reached, search_depths, Originator, Tree, Fork, IsPruned, below, has_on_path, nodes_on_path, authorizes, bits_from, half_vrps, joined_state, node_vrps, originator_of, state_among, state_below, trie_vrps, vrps_at, vrps_below, walked_state, whole}
use Rattle.std.proofs.lemmas.List.FromFn.{length-range_with_len}
use Rattle.std.proofs.lemmas.List.Sums.{count_by-le-length, length-filter}
use Rattle.payload.specs.VrpSet as set
use Rattle.payload.proofs.Depths.{nodes-parts, nodes_below, passing, passing-below, passing-first, passing-same, is_searched}
use Rattle.payload.proofs.Sets.{items-from_list}
use Rattle.payload.proofs.TrieOrder.{pairs-append, vrps-rise}
use Rattle.payload.proofs.Halves.{contains-trans}
use Rattle.payload.proofs.TrieVisits.{node_vrps-append, node_vrps-more}
use Rattle.payload.proofs.TrieVrps.{All-within, any-half, any-here, HasLengths, IsRound, vrp_of}
use Rattle.payload.proofs.TrieWalks.{any-covers, covers_with}
use Rattle.payload.proofs.Tries.{any-four, any-six, whole-four, whole-six}

-- ---- the VRPs rise

abbrev Before : Vrp → Vrp → Type 0
Before v w = vrp_cmp v w ≡ Less

first-family : (v w : Vrp) → v.prefix.family ≡ V4 → w.prefix.family ≡ V6 → vrp_cmp v w ≡ Less
first-family v w four six = rw (four, six)

trie-rises : (four six : Tree) → IsPruned 32 0 four → IsPruned 128 0 six → AreRising (trie_vrps four six)
trie-rises four six prune4 prune6 =
    pairs-append Before (vrps_below V4 0 0 four) (vrps_below V6 0 0 six) (vrps-rise (whole V4) four prune4) (vrps-rise (whole V6) six prune6)
    (All-weaker _ (λ v. All (Before v) (vrps_below V6 0 0 six)) (λ v inside. All-weaker _ (Before v) (λ w inside'. first-family v w (sym (contains-ends (whole V4) v.prefix inside).family) (sym (contains-ends (whole V6) w.prefix inside').family)) _ (All-within (whole V6) six prune6)) _ (All-within (whole V4) four prune4))

-- the VRPs of the set are those of the trees, in their order
pub trie-items : (s : set.VrpSet) (four six : Tree) → set.from_list (trie_vrps four six) ≡ s → IsPruned 32 0 four → IsPruned 128 0 six → set.items s ≡ trie_vrps four six
trie-items s four six view prune4 prune6 = ap set.items (sym view) ∙ items-from_list (trie_vrps four six) (trie-rises four six prune4 prune6)

-- ---- the state of a route

any-same : (f g : Vrp → Bool) (vrps : List Vrp) → ((v : Vrp) → f v ≡ g v) → list_any f vrps ≡ list_any g vrps
any-same f g vrps same = ap (λ (h : Vrp → Bool). list_any h vrps) (λ i v. same v i)

-- the state by what a walk down the bits of the route meets
walked : (route : Route) (vrps : List Vrp) (path : List Bool) (t : Tree) → list_any (covers_with route (authorizes route)) vrps ≡ has_on_path (authorizes route) path t → list_any (covers_with route (λ o. true)) vrps ≡ has_on_path (λ o. true) path t → walked_state route NotFound path t ≡ validation_state vrps route
walked route vrps path t matched covered =
    ap (λ b. if b then Valid else state_below NotFound (has_on_path (λ o. true) path t)) (sym matched)
    ∙ ap (λ b. if list_any (λ v. matches v route) vrps then Valid else state_below NotFound b) (sym covered ∙ any-same (covers_with route (λ o. true)) (λ v. covers v route) vrps (λ v. and-true (covers v route)))

other-covers : (v : Vrp) (route : Route) (f g : Family) → v.prefix.family ≡ f → route.prefix.family ≡ g → (f ≡ g → ⊥) → covers v route ≡ false
other-covers v route f g one two apart = false_from_ne_true (covers v route) (λ is. apart (sym one ∙ (contains-ends v.prefix route.prefix is).family ∙ two))

pub state-four : (route : Route) (four six : Tree) → IsPruned 32 0 four → IsPruned 128 0 six → route.prefix.family ≡ V4 → walked_state route NotFound (bits_from route.prefix 0) four ≡ validation_state (trie_vrps four six) route
state-four route four six prune4 prune6 is = walked route (trie_vrps four six) (bits_from route.prefix 0) four (each (authorizes route)) (each (λ o. true))
  where
    each : (passes : Originator → Bool) → list_any (covers_with route passes) (trie_vrps four six) ≡ has_on_path passes (bits_from route.prefix 0) four
    each passes =
        any-four (covers_with route passes) four six prune6 (λ v other. ap (λ b. b && passes (originator_of v)) (other-covers v route V6 V4 other is (λ e. cc)))
        ∙ any-covers route passes (whole V4) four prune4 (whole-four route.prefix is)

pub state-six : (route : Route) (four six : Tree) → IsPruned 32 0 four → IsPruned 128 0 six → route.prefix.family ≡ V6 → walked_state route NotFound (bits_from route.prefix 0) six ≡ validation_state (trie_vrps four six) route
state-six route four six prune4 prune6 is = walked route (trie_vrps four six) (bits_from route.prefix 0) six (each (authorizes route)) (each (λ o. true))
  where
    each : (passes : Originator → Bool) → list_any (covers_with route passes) (trie_vrps four six) ≡ has_on_path passes (bits_from route.prefix 0) six
    each passes =
        any-six (covers_with route passes) four six prune4 (λ v other. ap (λ b. b && passes (originator_of v)) (other-covers v route V4 V6 other is (λ e. cc)))
        ∙ any-covers route passes (whole V6) six prune6 (whole-six route.prefix is)

-- ---- the lengths

-- the nodes on the route's path, the root among them, are as many as the lengths that are searched
depths : (route : Route) (all vrps : List Vrp) (os : List Originator) (low high : Tree) → ((k : ℕ) → list_any (λ v. agrees k v.prefix route.prefix) all ≡ list_any (λ v. agrees k v.prefix route.prefix) vrps) → ((k : ℕ) → is_matched_before all route k ≡ is_matched_before vrps route k) → passing (is_searched route vrps) 1 route.prefix.length ≡ nodes_below (authorizes route) (bits_from route.prefix 0) (Fork os low high) → nodes_on_path (authorizes route) (bits_from route.prefix 0) (Fork os low high) ≡ length (search_depths all route)
depths route all vrps os low high agree match below =
    let long : route.prefix.length + 1 ≡ suc route.prefix.length = omega arith in
    let first = passing-first offers 0 route.prefix.length (ap not (list_any_none (λ v. matches v route && nat_lt v.prefix.length 0) all (λ k d within.
    ap (λ b. matches (get_or all k d) route && b) (lt-leb (suc (get_or all k d).prefix.length) 0 (omega arith)) ∙ and-false _))) in
    let later = passing-same offers (is_searched route vrps) 1 route.prefix.length (λ k positive.
    ap (λ b. (b || list_any (λ v. agrees k v.prefix route.prefix) all) && not (is_matched_before all route k)) (ne_eqb k 0 (λ zero. absurd (omega arith)))
    ∙ ap (λ b. b && not (is_matched_before all route k)) (agree k)
    ∙ ap (λ b. list_any (λ v. agrees k v.prefix route.prefix) vrps && not b) (match k)) in
    omega (arith, ap (passing offers 0) long, first, later, below, nodes-parts (authorizes route) (bits_from route.prefix 0) os low high)
  where
    offers : ℕ → Bool
    offers k = is_reached all route k && not (is_matched_before all route k)

other-agrees : (k : ℕ) (v : Vrp) (route : Route) (f g : Family) → v.prefix.family ≡ f → route.prefix.family ≡ g → (f ≡ g → ⊥) → agrees k v.prefix route.prefix ≡ false
other-agrees k v route f g one two apart = false_from_ne_true (agrees k v.prefix route.prefix) (λ is. apart (sym one ∙ same_family _ _ (and_parts _ _ is).0 ∙ two))

other-matches : (k : ℕ) (v : Vrp) (route : Route) (f g : Family) → v.prefix.family ≡ f → route.prefix.family ≡ g → (f ≡ g → ⊥) → (matches v route && nat_lt v.prefix.length k) ≡ false
other-matches k v route f g one two apart = ap (λ b. (b && authorizes route (originator_of v)) && nat_lt v.prefix.length k) (other-covers v route f g one two apart)

pub depths-four : (route : Route) (os : List Originator) (low high six : Tree) → IsPruned 32 0 (Fork os low high) → IsPruned 128 0 six → route.prefix.family ≡ V4 → nodes_on_path (authorizes route) (bits_from route.prefix 0) (Fork os low high) ≡ length (search_depths (trie_vrps (Fork os low high) six) route)
depths-four route os low high six prune4 prune6 is =
    let four = Fork os low high in
    depths route (trie_vrps four six) (vrps_below V4 0 0 four) os low high
    (λ k. any-four (λ v. agrees k v.prefix route.prefix) four six prune6 (λ v other. other-agrees k v route V6 V4 other is (λ e. cc)))
    (λ k. any-four (λ v. matches v route && nat_lt v.prefix.length k) four six prune6 (λ v other. other-matches k v route V6 V4 other is (λ e. cc)))
    (passing-below route (whole V4) four route.prefix.length prune4 (whole-four route.prefix is) (omega arith))

pub depths-six : (route : Route) (four : Tree) (os : List Originator) (low high : Tree) → IsPruned 32 0 four → IsPruned 128 0 (Fork os low high) → route.prefix.family ≡ V6 → nodes_on_path (authorizes route) (bits_from route.prefix 0) (Fork os low high) ≡ length (search_depths (trie_vrps four (Fork os low high)) route)
depths-six route four os low high prune4 prune6 is =
    let six = Fork os low high in
    depths route (trie_vrps four six) (vrps_below V6 0 0 six) os low high
    (λ k. any-six (λ v. agrees k v.prefix route.prefix) four six prune4 (λ v other. other-agrees k v route V4 V6 other is (λ e. cc)))
    (λ k. any-six (λ v. matches v route && nat_lt v.prefix.length k) four six prune4 (λ v other. other-matches k v route V4 V6 other is (λ e. cc)))
    (passing-below route (whole V6) six route.prefix.length prune6 (whole-six route.prefix is) (omega arith))

pub search_depths-most : (vrps : List Vrp) (route : Route) → length (search_depths vrps route) ≤ route.prefix.length + 1
search_depths-most vrps route =
    let offers = λ (k : ℕ). is_reached vrps route k && not (is_matched_before vrps route k) in
    let lengths = range_with_len 0 (route.prefix.length + 1) in
    omega (arith, length-filter offers lengths, count_by-le-length offers lengths, length-range_with_len 0 (route.prefix.length + 1))

-- ---- the state of a route over those VRPs that pass a test

joined-twice : (above : ValidationState) (m c m' c' : Bool) → joined_state (joined_state above m c) m' c' ≡ joined_state above (m || m') (c || c')
joined-twice Valid m c m' c' = refl
joined-twice Invalid true c m' c' = refl
joined-twice Invalid false c m' c' = refl
joined-twice NotFound true c m' c' = refl
joined-twice NotFound false true m' c' = refl
joined-twice NotFound false false m' c' = refl

pub joined-none : (above : ValidationState) → joined_state above false false ≡ above
joined-none Valid = refl
joined-none Invalid = refl
joined-none NotFound = refl

any-filter : (test p : Vrp → Bool) (vrps : List Vrp) → list_any test (filter p vrps) ≡ list_any (λ v. p v && test v) vrps
any-filter test p [] = refl
any-filter test p (v ∷ vrps) = elim (cases_Bool (p v)) [ inl is ↦ rw is (ap (λ b. test v || b) (any-filter test p vrps)) | inr fails ↦ rw fails (any-filter test p vrps) ]

module _ (passes : Vrp → Bool) (route : Route) where
  abbrev Matches : Vrp → Bool
  Matches v = passes v && matches v route

  abbrev Covers : Vrp → Bool
  Covers v = passes v && covers v route

  -- lists in which each test finds a VRP round the route's prefix, or none, give one state
  same-found : (above : ValidationState) (vrps others : List Vrp) → ((test : Vrp → Bool) → IsRound route.prefix test → list_any test vrps ≡ list_any test others) → state_among above passes route vrps ≡ state_among above passes route others
  same-found above vrps others same i =
      joined_state above (same Matches (λ v is. (and_parts _ _ (and_parts (passes v) _ is).1).0) i) (same Covers (λ v is. (and_parts (passes v) _ is).1) i)

  -- over two lists, one after another
  among-append : (above : ValidationState) (vrps more : List Vrp) → state_among (state_among above passes route vrps) passes route more ≡ state_among above passes route (vrps ++ more)
  among-append above vrps more =
      joined-twice above (list_any Matches vrps) (list_any Covers vrps) (list_any Matches more) (list_any Covers more)
      ∙ sym (λ i. joined_state above (list_any-append Matches vrps more i) (list_any-append Covers vrps more i))

  -- the state by one originator more
  module _ (above state next : ValidationState) (p : Prefix) (os : List Originator) (i : ℕ) (d : Originator) (lengths : All (HasLengths p) os) (within : i < length os) (inside : contains p route.prefix ≡ true) (so_far : state ≡ state_among above passes route (node_vrps p (take i os))) where
    pub among-more : (v : Vrp) (passed : Bool) → v.prefix ≡ p → originator_of v ≡ get_or os i d → passes v ≡ passed → next ≡ joined_state state (passed && authorizes route (get_or os i d)) passed → next ≡ state_among above passes route (node_vrps p (take (i + 1) os))
    among-more v passed at is pass next_is =
        let cover : covers v route ≡ true = subst (λ q. contains q route.prefix ≡ true) (sym at) inside in
        next_is
        ∙ ap (joined_state state (passed && authorizes route (get_or os i d))) (sym (and-true passed))
        ∙ sym (λ i. joined_state state (or-false (pass i && (cover i && authorizes route (is i))) i) (or-false (pass i && cover i) i))
        ∙ ap (λ s. state_among s passes route (v ∷ [])) so_far ∙ among-append above (node_vrps p (take i os)) (v ∷ [])
        ∙ ap (state_among above passes route) (sym (node_vrps-more p os i d v lengths within at is))

    -- where it changes nothing, whether it passes or not
    pub among-same : next ≡ state → next ≡ joined_state state (authorizes route (get_or os i d)) true → state ≡ state_among above passes route (node_vrps p (take (i + 1) os))
    among-same same next_is =
        let v = vrp_of p (get_or os i d) (lengths i d within) in
        sym same ∙ elim (cases_Bool (passes v)) [ inl pass ↦ among-more v true refl refl pass next_is | inr fails ↦ among-more v false refl refl fails (same ∙ sym (joined-none state)) ]

  -- once some VRP of a node matches
  pub among-part : (above : ValidationState) (p : Prefix) (os : List Originator) (i : ℕ) → Valid ≡ state_among above passes route (node_vrps p (take i os)) → Valid ≡ state_among above passes route (node_vrps p os)
  among-part above p os i is =
      ap (λ s. state_among s passes route (node_vrps p (drop i os))) is ∙ among-append above (node_vrps p (take i os)) (node_vrps p (drop i os))
      ∙ ap (state_among above passes route) (sym (node_vrps-append p (take i os) (drop i os)) ∙ ap (node_vrps p) (take-append-drop i os))

  -- VRPs in a prefix that does not contain the route's leave the state
  pub among-outside : (above : ValidationState) (p : Prefix) (t : Tree) → IsPruned (width p.family) p.length t → contains p route.prefix ≡ false → above ≡ state_among above passes route (vrps_at p t)
  among-outside above p t pruned out = sym (same-found above (vrps_at p t) [] (λ test round.
      list_any_none test _ (All-weaker _ (λ v. test v ≡ false) (λ v inside. false_from_ne_true _ (λ is. false≢true (sym out ∙ contains-trans p v.prefix route.prefix inside (round v is)))) _ (All-within p t pruned)))
      ∙ joined-none above)

  -- a node whose prefix contains the route's, and those below it
  module _ (above : ValidationState) (p : Prefix) (os : List Originator) (zero one : Tree) (pruned : IsPruned (width p.family) p.length (Fork os zero one)) where
    pub among-end : route.prefix.length ≤ p.length → state_among above passes route (node_vrps p os) ≡ state_among above passes route (vrps_at p (Fork os zero one))
    among-end short = same-found above _ _ (λ test round. sym (any-here test p route.prefix os zero one round pruned short))

    pub among-next : (bit : Bool) → (bit_of route.prefix p.length == 1) ≡ bit → (state next : ValidationState) → state ≡ state_among above passes route (node_vrps p os) → next ≡ state_among state passes route (half_vrps bit p (below bit (Fork os zero one))) → next ≡ state_among above passes route (vrps_at p (Fork os zero one))
    among-next bit is state next here rest =
        let half = half_vrps bit p (below bit (Fork os zero one)) in
        rest ∙ ap (λ s. state_among s passes route half) here ∙ among-append above (node_vrps p os) half
        ∙ same-found above _ _ (λ test round. list_any-append test (node_vrps p os) half ∙ sym (any-half bit test p route.prefix os zero one round pruned is))

  -- the VRPs of one family
  among-family : (f : Family) (t four six : Tree) → ((test : Vrp → Bool) → IsRound route.prefix test → list_any test (trie_vrps four six) ≡ list_any test (vrps_at (whole f) t)) → state_among NotFound passes route (vrps_at (whole f) t) ≡ validation_state (filter passes (trie_vrps four six)) route
  among-family f t four six same =
      sym (same-found NotFound _ _ same)
      ∙ sym (λ i. joined_state NotFound (any-filter (λ v. matches v route) passes (trie_vrps four six) i) (any-filter (λ v. covers v route) passes (trie_vrps four six) i))

  other-fails : (test : Vrp → Bool) → IsRound route.prefix test → (f g : Family) → route.prefix.family ≡ g → (f ≡ g → ⊥) → (v : Vrp) → v.prefix.family ≡ f → test v ≡ false
  other-fails test round f g is apart v other = false_from_ne_true (test v) (λ passed. false≢true (sym (other-covers v route f g other is apart) ∙ round v passed))

  pub among-four : (four six : Tree) → IsPruned 128 0 six → route.prefix.family ≡ V4 → state_among NotFound passes route (vrps_at (whole V4) four) ≡ validation_state (filter passes (trie_vrps four six)) route
  among-four four six pruned is = among-family V4 four four six (λ test round. any-four test four six pruned (other-fails test round V6 V4 is (λ e. cc)))

  pub among-six : (four six : Tree) → IsPruned 32 0 four → route.prefix.family ≡ V6 → state_among NotFound passes route (vrps_at (whole V6) six) ≡ validation_state (filter passes (trie_vrps four six)) route
  among-six four six pruned is = among-family V6 six four six (λ test round. any-six test four six pruned (other-fails test round V4 V6 is (λ e. cc)))
