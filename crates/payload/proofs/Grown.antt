-- Trees that have what they have at the end of a path of bits.
use Rattle.payload.proofs.Vocabulary.{◌≡◌, ℕ, suc, ◌+◌, ◌≤◌, ◌<◌, Bool, true, false, not, ◌&&◌, List, [], ◌∷◌, ◌++◌, length, take, drop, refl, sym, ap, ◌∙◌, subst, arith, inl, inr, Result, Ok, Err, OnOk, OnErr, length-append, length-take-le, take-append-drop, take_all, All-cons, All-nil, cases_lt, Originator, common, Tree, Leaf, Fork, Top, tree, above, chain, grown, AreOriginators, IsInserted, IsRemoved, IsPruned, has, has_on_path, is_bare, is_place, nodes_on_path, same_tops}
use mathlib.Core.Bool.{beq}
use Rattle.payload.proofs.Trees.{and-none, bare-none, changed-grown, changed-one, changed-zero, full-inserted, has-leaf, removed-leaf}
use Rattle.payload.proofs.TrieWalks.{on-path-leaf}

-- ---- common bits

pub common-least : (path other : List Bool) → common path other ≤ length path
common-least [] other = omega arith
common-least (bit ∷ path) [] = omega arith
common-least (false ∷ path) (false ∷ other) = omega (arith, common-least path other)
common-least (false ∷ path) (true ∷ other) = omega arith
common-least (true ∷ path) (false ∷ other) = omega arith
common-least (true ∷ path) (true ∷ other) = omega (arith, common-least path other)

-- the bits in common are the first ones of both
pub common-front : (path other : List Bool) → take (common path other) path ++ drop (common path other) other ≡ other
common-front [] other = refl
common-front (bit ∷ path) [] = refl
common-front (false ∷ path) (false ∷ other) = ap (λ rest. false ∷ rest) (common-front path other)
common-front (false ∷ path) (true ∷ other) = refl
common-front (true ∷ path) (false ∷ other) = refl
common-front (true ∷ path) (true ∷ other) = ap (λ rest. true ∷ rest) (common-front path other)

pub common-most : (path other : List Bool) → common path other ≤ length other
common-most path other =
    let n = common path other in
    omega (arith, ap length (common-front path other), length-append (take n path) (drop n other), length-take-le n path (common-least path other))

pub common-nil : (path : List Bool) → common path [] ≡ 0
common-nil [] = refl
common-nil (bit ∷ path) = refl

pub common-same : (other bit : Bool) (others path : List Bool) → beq other bit ≡ true → common (bit ∷ path) (other ∷ others) ≡ suc (common path others)
common-same false false others path same = refl
common-same false true others path same = cc
common-same true false others path same = cc
common-same true true others path same = refl

pub common-unlike : (other bit : Bool) (others path : List Bool) → beq other bit ≡ false → common (bit ∷ path) (other ∷ others) ≡ 0
common-unlike false false others path unlike = cc
common-unlike false true others path unlike = refl
common-unlike true false others path unlike = refl
common-unlike true true others path unlike = cc

-- ---- past the path

pub has-grown : (path rest : List Bool) (o : Originator) (t : Top) → has (path ++ rest) o (tree (grown path t)) ≡ has rest o (tree t)
has-grown [] rest o t = refl
has-grown (false ∷ path) rest o t = has-grown path rest o t
has-grown (true ∷ path) rest o t = has-grown path rest o t

pub on_path-grown : (test : Originator → Bool) (path rest : List Bool) (t : Top) → has_on_path test (path ++ rest) (tree (grown path t)) ≡ has_on_path test rest (tree t)
on_path-grown test [] rest t = refl
on_path-grown test (false ∷ path) rest t = on_path-grown test path rest t
on_path-grown test (true ∷ path) rest t = on_path-grown test path rest t

pub nodes-grown : (test : Originator → Bool) (path rest : List Bool) (t : Top) → nodes_on_path test (path ++ rest) (tree (grown path t)) ≡ length path + nodes_on_path test rest (tree t)
nodes-grown test [] rest t = omega arith
nodes-grown test (false ∷ path) rest t = omega (arith, nodes-grown test path rest t)
nodes-grown test (true ∷ path) rest t = omega (arith, nodes-grown test path rest t)

-- ---- away from the path

pub has-apart : (path other : List Bool) (o : Originator) (t : Top) → common path other < length path → has other o (tree (grown path t)) ≡ false
has-apart [] other o t apart = absurd (omega (arith, apart))
has-apart (false ∷ path) [] o t apart = refl
has-apart (true ∷ path) [] o t apart = refl
has-apart (false ∷ path) (false ∷ other) o t apart = has-apart path other o t (omega (arith, apart))
has-apart (false ∷ path) (true ∷ other) o t apart = has-leaf other o
has-apart (true ∷ path) (false ∷ other) o t apart = has-leaf other o
has-apart (true ∷ path) (true ∷ other) o t apart = has-apart path other o t (omega (arith, apart))

pub on_path-apart : (test : Originator → Bool) (path other : List Bool) (t : Top) → common path other < length path → has_on_path test other (tree (grown path t)) ≡ false
on_path-apart test [] other t apart = absurd (omega (arith, apart))
on_path-apart test (false ∷ path) [] t apart = refl
on_path-apart test (true ∷ path) [] t apart = refl
on_path-apart test (false ∷ path) (false ∷ other) t apart = on_path-apart test path other t (omega (arith, apart))
on_path-apart test (false ∷ path) (true ∷ other) t apart = on-path-leaf test other
on_path-apart test (true ∷ path) (false ∷ other) t apart = on-path-leaf test other
on_path-apart test (true ∷ path) (true ∷ other) t apart = on_path-apart test path other t (omega (arith, apart))

none-here : (o : Originator) (zero one : Tree) → IsRemoved [] o (Fork [] zero one) (Fork [] zero one)
none-here o zero one [] q = and-none (not (is_place [] o [] q))
none-here o zero one (bit ∷ other) q = refl

-- from a tree that has nothing there nothing is taken out
pub removed-apart : (path other : List Bool) (o : Originator) (t : Top) → common path other < length path → IsRemoved other o (tree (grown path t)) (tree (grown path t))
removed-apart [] other o t apart = absurd (omega (arith, apart))
removed-apart (false ∷ path) [] o t apart = none-here o (tree (grown path t)) Leaf
removed-apart (true ∷ path) [] o t apart = none-here o Leaf (tree (grown path t))
removed-apart (false ∷ path) (false ∷ other) o t apart = changed-zero (λ is had. not is && had) (λ had. refl) _ _ _ _ _ _ (removed-apart path other o t (omega (arith, apart)))
removed-apart (false ∷ path) (true ∷ other) o t apart = changed-one (λ is had. not is && had) (λ had. refl) _ _ _ _ _ _ (removed-leaf other o)
removed-apart (true ∷ path) (false ∷ other) o t apart = changed-zero (λ is had. not is && had) (λ had. refl) _ _ _ _ _ _ (removed-leaf other o)
removed-apart (true ∷ path) (true ∷ other) o t apart = changed-one (λ is had. not is && had) (λ had. refl) _ _ _ _ _ _ (removed-apart path other o t (omega (arith, apart)))

nodes-leaf : (test : Originator → Bool) (path : List Bool) → nodes_on_path test path Leaf ≡ 0
nodes-leaf test [] = refl
nodes-leaf test (bit ∷ path) = refl

pub nodes-apart : (test : Originator → Bool) (path other : List Bool) (t : Top) → common path other < length path → nodes_on_path test other (tree (grown path t)) ≡ 1 + common path other
nodes-apart test [] other t apart = absurd (omega (arith, apart))
nodes-apart test (false ∷ path) [] t apart = refl
nodes-apart test (true ∷ path) [] t apart = refl
nodes-apart test (false ∷ path) (false ∷ other) t apart = omega (arith, nodes-apart test path other t (omega (arith, apart)))
nodes-apart test (false ∷ path) (true ∷ other) t apart = omega (arith, nodes-leaf test other)
nodes-apart test (true ∷ path) (false ∷ other) t apart = omega (arith, nodes-leaf test other)
nodes-apart test (true ∷ path) (true ∷ other) t apart = omega (arith, nodes-apart test path other t (omega (arith, apart)))

-- ---- a tree is pruned

pub bare-grown : (path : List Bool) (t : Top) → is_bare (tree t) ≡ false → is_bare (tree (grown path t)) ≡ false
bare-grown [] t full = full
bare-grown (false ∷ path) t full = refl
bare-grown (true ∷ path) t full = refl

pub full-grown : (path : List Bool) (t : Top) → (length path ≡ 0 → ⊥) → is_bare (tree (grown path t)) ≡ false
full-grown [] t some = absurd (some refl)
full-grown (false ∷ path) t some = refl
full-grown (true ∷ path) t some = refl

pub pruned-past : (width len end : ℕ) (path : List Bool) (t : Top) → end ≡ len + length path → IsPruned width len (tree (grown path t)) → IsPruned width end (tree t)
pruned-past width len end [] t at pruned =
    let same : len ≡ end = omega arith in
    subst (λ n. IsPruned width n (tree t)) same pruned
pruned-past width len end (false ∷ path) t at pruned = pruned-past width (len + 1) end path t (omega arith) pruned.1.1
pruned-past width len end (true ∷ path) t at pruned = pruned-past width (len + 1) end path t (omega arith) pruned.2.1

no_originators : (width len : ℕ) → len ≤ width → AreOriginators width len []
no_originators width len fits = record { fits = fits; rise = λ i j d less within. absurd (omega arith); lengths = All-nil _ }

pub pruned-grown : (width len end : ℕ) (path : List Bool) (t : Top) → end ≡ len + length path → IsPruned width end (tree t) → is_bare (tree t) ≡ false → IsPruned width len (tree (grown path t))
pruned-grown width len end [] t at pruned full =
    let same : end ≡ len = omega arith in
    subst (λ n. IsPruned width n (tree t)) same pruned
pruned-grown width len end (false ∷ path) t at pruned full = (no_originators width len (omega (arith, pruned.0.fits)), (bare-grown path t full, pruned-grown width (len + 1) end path t (omega arith) pruned full), (refl, tt))
pruned-grown width len end (true ∷ path) t at pruned full = (no_originators width len (omega (arith, pruned.0.fits)), (refl, tt), (bare-grown path t full, pruned-grown width (len + 1) end path t (omega arith) pruned full))

pub pruned-chain : (width len : ℕ) (path : List Bool) (o : Originator) → len + length path ≤ o.max → o.max ≤ width → IsPruned width len (chain path o)
pruned-chain width len path o low high =
    pruned-grown width len (len + length path) path (record { originators = o ∷ []; zero = Leaf; one = Leaf }) refl
    (record { fits = omega arith; rise = λ i j d less within. absurd (omega arith); lengths = All-cons (λ q. (len + length path ≤ q.max) × (q.max ≤ width)) o [] (low, high) (All-nil _) }, (refl, tt), (refl, tt))
    refl

-- what is at the end of the path stays as it was, or something was put in
pub pruned-after : {E : Type 0} (r : Result Bool E) (width len end : ℕ) (path rest : List Bool) (o : Originator) (old new : Top) → end ≡ len + length path → IsPruned width len (tree (grown path old)) → IsPruned width end (tree new) → OnOk r (IsInserted rest o (tree old) (tree new)) → OnErr r (tree new ≡ tree old) → IsPruned width len (tree (grown path new))
pruned-after (Ok is_new) width len end path rest o old new at before pruned ok err = pruned-grown width len end path new at pruned (full-inserted rest o (tree old) (tree new) ok)
pruned-after (Err e) width len end path rest o old new at before pruned ok err = subst (λ t. IsPruned width len (tree (grown path t))) (sym (same_tops new old err)) before

-- ---- nothing is left at the end of the path

none-grown : (path : List Bool) (t : Top) → is_bare (tree t) ≡ true → (other : List Bool) (o : Originator) → has other o (tree (grown path t)) ≡ false
none-grown path t bare other o =
    elim (cases_lt (common path other) (length path)) [
      | inl apart ↦ has-apart path other o t apart
      | inr all ↦
          let rest = drop (common path other) other in
          let begins : path ++ rest ≡ other = ap (λ front. front ++ rest) (sym (take_all _ path all)) ∙ common-front path other in
          subst (λ bits. has bits o (tree (grown path t)) ≡ false) begins (has-grown path rest o t ∙ bare-none (tree t) bare rest o)
    ]

pub removed-last : (path rest : List Bool) (o : Originator) (old new : Top) → is_bare (tree new) ≡ true → IsRemoved rest o (tree old) (tree new) → IsRemoved (path ++ rest) o (tree (grown path old)) (tree new)
removed-last path rest o old new bare is other q =
    bare-none (tree new) bare other q ∙ sym (none-grown path new bare other q) ∙ changed-grown (λ is had. not is && had) (λ had. refl) path rest o old new is other q

-- ---- a path in parts

-- a path is one that ends above a bit, and one below it
pub grown-cut : (path : List Bool) (n : ℕ) (bit : Bool) (rest : List Bool) (t : Top) → drop n path ≡ bit ∷ rest → grown (take n path) (above bit (tree (grown rest t))) ≡ grown path t
grown-cut path n bit rest t cut = sym (ap (λ p. grown p t) (sym (take-append-drop n path) ∙ ap (λ p. take n path ++ p) cut) ∙ grown-append (take n path) (bit ∷ rest) t)
  where
    grown-append : (some more : List Bool) (t : Top) → grown (some ++ more) t ≡ grown some (grown more t)
    grown-append [] more t = refl
    grown-append (bit ∷ some) more t = ap (λ (u : Top). above bit (tree u)) (grown-append some more t)
