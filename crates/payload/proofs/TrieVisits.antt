-- What a sink took of the VRPs of a tree.
use Rattle.payload.proofs.Vocabulary.{◌≡◌, ℕ, ◌+◌, ◌≤◌, ◌<◌, List, [], ◌∷◌, ◌++◌, length, take, drop, get_or, sym, ap, ◌∙◌, subst, append_assoc, arith, All, length-append, take_all, take_more, take-append-drop, filter_map-append, same_vrp, Prefix, Vrp, TookBeginning, Originator, node_vrps, originator_of, vrp_at}
use Rattle.payload.proofs.TrieVrps.{HasLengths, node_vrps-cons, vrp_of}
use Rattle.payload.proofs.Visits.{beginning-part, TookThen}

pub node_vrps-append : (p : Prefix) (xs ys : List Originator) → node_vrps p (xs ++ ys) ≡ node_vrps p xs ++ node_vrps p ys
node_vrps-append p xs ys = filter_map-append (vrp_at p.family p.first p.length) xs ys

-- the VRPs of one originator more
pub node_vrps-more : (p : Prefix) (os : List Originator) (i : ℕ) (d : Originator) (v : Vrp) → All (HasLengths p) os → i < length os → v.prefix ≡ p → originator_of v ≡ get_or os i d → node_vrps p (take (i + 1) os) ≡ node_vrps p (take i os) ++ v ∷ []
node_vrps-more p os i d v lengths within at is =
    let o = get_or os i d in
    let fits : HasLengths p o = lengths i d within in
    let same : vrp_of p o fits ≡ v = same_vrp (vrp_of p o fits) v (sym at) (ap (λ (q : Originator). q.max) (sym is)) (ap (λ (q : Originator). q.asn) (sym is)) in
    ap (node_vrps p) (take_more os i d within)
    ∙ node_vrps-append p (take i os) (o ∷ [])
    ∙ ap (λ vs. node_vrps p (take i os) ++ vs) (node_vrps-cons p o [] fits ∙ ap (λ w. w ∷ []) same)

module _ {S : Type 0} (took : S → List Vrp → S → Type 0) where
  pub node-took_all : (p : Prefix) (os : List Originator) (i : ℕ) (a b : S) → took a (node_vrps p (take i os)) b → length os ≤ i → took a (node_vrps p os) b
  node-took_all p os i a b so_far past = subst (λ vs. took a vs b) (ap (node_vrps p) (take_all i os past)) so_far

  module _ (took_then : TookThen took) (p : Prefix) (os : List Originator) (i : ℕ) (d : Originator) (v : Vrp) where
    pub node-took : (a b c : S) → All (HasLengths p) os → i < length os → v.prefix ≡ p → originator_of v ≡ get_or os i d → took a (node_vrps p (take i os)) b → took b (v ∷ []) c → took a (node_vrps p (take (i + 1) os)) c
    node-took a b c lengths within at is so_far one =
        subst (λ vs. took a vs c) (sym (node_vrps-more p os i d v lengths within at is)) (took_then a b c (node_vrps p (take i os)) (v ∷ []) so_far one)

    -- a visit that is stopped at a VRP of a node
    pub node-beginning : (rest : List Vrp) (a b c : S) → All (HasLengths p) os → i < length os → v.prefix ≡ p → originator_of v ≡ get_or os i d → took a (node_vrps p (take i os)) b → took b (v ∷ []) c → TookBeginning took (node_vrps p os ++ rest) a c
    node-beginning rest a b c lengths within at is so_far one =
        let some = node_vrps p (take (i + 1) os) in
        let later = node_vrps p (drop (i + 1) os) in
        let whole : node_vrps p os ++ rest ≡ some ++ (later ++ rest) =
        ap (λ vs. vs ++ rest) (ap (node_vrps p) (sym (take-append-drop (i + 1) os)) ∙ node_vrps-append p (take (i + 1) os) (drop (i + 1) os)) ∙ append_assoc some later rest in
        let more = node_vrps-more p os i d v lengths within at is in
        beginning-part took some (later ++ rest) _ a c whole (omega (arith, ap length more, length-append (node_vrps p (take i os)) (v ∷ [])))
        (node-took a b c lengths within at is so_far one)
