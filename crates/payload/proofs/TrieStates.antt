-- The state of a route, and the nodes gone to, as a walk down a tree goes on.
use Rattle.payload.proofs.Vocabulary.{◌≡◌, ℕ, ◌+◌, ◌<◌, Bool, true, false, ◌||◌, if◌then◌else◌, List, [], ◌∷◌, ◌++◌, length, refl, sym, ap, ◌∙◌, arith, list_any, ValidationState, Valid, Route, Originator, Tree, Leaf, Fork, Top, below, grown, tree, has_on_path, nodes_on_path, authorizes, state_below, walked_state, common}
use Rattle.payload.proofs.Grown.{on_path-apart, on_path-grown}
use Rattle.payload.proofs.TrieWalks.{on-path-leaf}

-- the state by a node whose VRPs do not match and by those below it
joined : (above : ValidationState) (matched here met : Bool) → (if matched then Valid else state_below (state_below above here) met) ≡ (if matched then Valid else state_below above (here || met))
joined above true here met = refl
joined above false true true = refl
joined above false true false = refl
joined above false false met = refl

pub walked-next : (route : Route) (above : ValidationState) (bit : Bool) (path : List Bool) (os : List Originator) (zero one : Tree) → list_any (authorizes route) os ≡ false → walked_state route (state_below above (list_any (λ o. true) os)) path (below bit (Fork os zero one)) ≡ walked_state route above (bit ∷ path) (Fork os zero one)
walked-next route above bit path os zero one none =
    joined above _ (list_any (λ o. true) os) _
    ∙ ap (λ b. if b || has_on_path (authorizes route) path (below bit (Fork os zero one)) then Valid else state_below above (list_any (λ (o : Originator). true) os || has_on_path (λ o. true) path (below bit (Fork os zero one)))) (sym none)

-- where there is no node the state stays
pub walked-leaf : (route : Route) (above : ValidationState) (path : List Bool) → above ≡ walked_state route above path Leaf
walked-leaf route above path =
    sym (ap (λ b. if b then Valid else state_below above (has_on_path (λ o. true) path Leaf)) (on-path-leaf (authorizes route) path)
    ∙ ap (state_below above) (on-path-leaf (λ o. true) path))

-- past skipped bits
pub walked-grown : (route : Route) (above : ValidationState) (path rest : List Bool) (t : Top) → walked_state route above rest (tree t) ≡ walked_state route above (path ++ rest) (tree (grown path t))
walked-grown route above path rest t = sym (λ i.
    if on_path-grown (authorizes route) path rest t i then Valid
    else state_below above (on_path-grown (λ o. true) path rest t i))

-- where the bits differ from those that are skipped the state stays
pub walked-apart : (route : Route) (above : ValidationState) (path other : List Bool) (t : Top) → common path other < length path → above ≡ walked_state route above other (tree (grown path t))
walked-apart route above path other t apart = sym (λ i.
    if on_path-apart (authorizes route) path other t apart i then Valid
    else state_below above (on_path-apart (λ o. true) path other t apart i))

pub nodes-next : (route : Route) (bit : Bool) (path : List Bool) (os : List Originator) (zero one : Tree) (count : ℕ) → list_any (authorizes route) os ≡ false → count + 1 + nodes_on_path (authorizes route) path (below bit (Fork os zero one)) ≡ count + nodes_on_path (authorizes route) (bit ∷ path) (Fork os zero one)
nodes-next route bit path os zero one count none =
    let rest = nodes_on_path (authorizes route) path (below bit (Fork os zero one)) in
    let more : (if list_any (authorizes route) os then 0 else rest) ≡ rest = ap (λ b. if b then 0 else rest) none in
    omega (arith, more)

pub some-here : (os : List Originator) → (0 < length os) → list_any (λ o. true) os ≡ true
some-here [] full = absurd (omega arith)
some-here (o ∷ os) full = refl
