-- What a node of a trie is seen as: a tree that branches by the next bit of a prefix.
use Rattle.std.specs.Prelude.{◌≡◌, ℕ, ◌+◌, ◌≤◌, Bool, true, false, not, ◌&&◌, ◌||◌, List, [], ◌∷◌, refl, Option, Some, None, if◌then◌else◌}
use Rattle.std.specs.Coded.{Coded, coded×, coded_ℕ, coded_list}
use Rattle.std.specs.Global.{Box}
use base.Stored.{Gv, gnil, gnum, gcons, coded_via}
use mathlib.Core.Path.{ap}
use Rattle.std.specs.List.{All, AllPairs, list_any}
use Rattle.std.specs.Ordering.{eq_by_cmp, nat_cmp, ordering_then}
use Rattle.std.specs.declared.cmp.Ordering.{Ordering}
use Rattle.std.specs.declared.cmp.Ordering.TheVariants.{Less}
use Rattle.payload.specs.declared.originator.Originator.{Originator}

-- no node, or a node with its originators and what lies below it by bit 0 and by bit 1
pub data Tree : Type 0 where
  Leaf : Tree
  Fork : List Originator → Tree → Tree → Tree

-- a node, by its parts
pub record Top : Type 0 where
  pub originators : List Originator
  pub zero : Tree
  pub one : Tree

abbrev pub bare : Top
bare = record { originators = []; zero = Leaf; one = Leaf }

-- the tree from the node down
abbrev pub tree : Top → Tree
tree top = Fork top.originators top.zero top.one

-- the tree from a child down, where there is one
abbrev pub subtree : Option (Box Top) → Tree
subtree None = Leaf
subtree (Some node) = tree node.value

-- the tree below by the bit
abbrev pub below : Bool → Tree → Tree
below bit Leaf = Leaf
below false (Fork originators zero one) = zero
below true (Fork originators zero one) = one

-- the originators at the node itself
abbrev pub here : Tree → List Originator
here Leaf = []
here (Fork originators zero one) = originators

-- by greatest length, then by AS
abbrev pub originator_cmp : Originator → Originator → Ordering
originator_cmp o q = ordering_then (nat_cmp o.max q.max) (nat_cmp o.asn.0 q.asn.0)

-- the originator is at the end of this path of bits
abbrev pub has : List Bool → Originator → Tree → Bool
has [] o tree = list_any (eq_by_cmp originator_cmp o) (here tree)
has (bit ∷ path) o tree = has path o (below bit tree)

-- only a tree below the bit
abbrev pub above : Bool → Tree → Top
above false tree = record { originators = []; zero = tree; one = Leaf }
above true tree = record { originators = []; zero = Leaf; one = tree }

-- what is at the end of the path, and nothing else
abbrev pub grown : List Bool → Top → Top
grown [] top = top
grown (bit ∷ path) top = above bit (tree (grown path top))

-- the tree with this originator at the end of the path, and nothing else
abbrev pub chain : List Bool → Originator → Tree
chain path o = tree (grown path (record { originators = o ∷ []; zero = Leaf; one = Leaf }))

-- some originator on the path passes the test
abbrev pub has_on_path : (Originator → Bool) → List Bool → Tree → Bool
has_on_path test [] tree = list_any test (here tree)
has_on_path test (bit ∷ path) tree = list_any test (here tree) || has_on_path test path (below bit tree)

-- how many nodes are on the path, up to the first with an originator that passes the test
abbrev pub nodes_on_path : (Originator → Bool) → List Bool → Tree → ℕ
nodes_on_path test path Leaf = 0
nodes_on_path test [] (Fork originators zero one) = 1
nodes_on_path test (bit ∷ path) (Fork originators zero one) =
    1 + (if list_any test originators then 0 else nodes_on_path test path (below bit (Fork originators zero one)))

-- a node without originators and without nodes below it
abbrev pub is_bare : Tree → Bool
is_bare Leaf = false
is_bare (Fork [] Leaf Leaf) = true
is_bare (Fork [] Leaf (Fork originators zero one)) = false
is_bare (Fork [] (Fork originators zero one) other) = false
is_bare (Fork (o ∷ originators) zero one) = false

-- originators of a prefix of `len` bits, in a family of `width` bits: they rise, each once
pub record AreOriginators (width len : ℕ) (originators : List Originator) : Type 0 where
  pub fits : len ≤ width
  pub rise : AllPairs (λ o q. originator_cmp o q ≡ Less) originators
  pub lengths : All (λ o. (len ≤ o.max) × (o.max ≤ width)) originators

-- the root is at `len` bits, and no node below its root is bare
abbrev pub IsPruned : ℕ → ℕ → Tree → Type 0
IsPruned width len Leaf = Unit {0}
IsPruned width len (Fork originators zero one) =
    AreOriginators width len originators
    × ((is_bare zero ≡ false) × IsPruned width (len + 1) zero)
    × ((is_bare one ≡ false) × IsPruned width (len + 1) one)

-- the two originators are one, at the ends of one path
abbrev pub is_place : List Bool → Originator → List Bool → Originator → Bool
is_place [] o [] q = eq_by_cmp originator_cmp q o
is_place [] o (bit ∷ path) q = false
is_place (bit ∷ path) o [] q = false
is_place (false ∷ path) o (false ∷ other) q = is_place path o other q
is_place (false ∷ path) o (true ∷ other) q = false
is_place (true ∷ path) o (false ∷ other) q = false
is_place (true ∷ path) o (true ∷ other) q = is_place path o other q

-- new has what old has, and the originator at the end of the path
abbrev pub IsInserted : List Bool → Originator → Tree → Tree → Type 0
IsInserted path o old new =
    (other : List Bool) (q : Originator) → has other q new ≡ (is_place path o other q || has other q old)

-- new has what old has, except the originator at the end of the path
abbrev pub IsRemoved : List Bool → Originator → Tree → Tree → Type 0
IsRemoved path o old new =
    (other : List Bool) (q : Originator) → has other q new ≡ (not (is_place path o other q) && has other q old)

-- how many nodes the tree has
abbrev pub weight : Tree → ℕ
weight Leaf = 0
weight (Fork originators zero one) = 1 + (weight zero + weight one)

-- ---- a tree is stored as a tree of its lists

abbrev pub originator_numbers : Originator → ℕ × ℕ
originator_numbers o = (o.max, o.asn.0)

pub same_originator : (o q : Originator) → originator_numbers o ≡ originator_numbers q → o ≡ q
same_originator o q e = λ i. record { max = (e i).0; asn = record { 0 = (e i).1 } }

abbrev pub coded_originator : Coded Originator
coded_originator = coded_via (coded× coded_ℕ coded_ℕ) originator_numbers same_originator

abbrev code_of : Tree → Gv
code_of Leaf = gnil
code_of (Fork originators zero one) =
    gcons ((coded_list coded_originator).code originators) (gcons (code_of zero) (code_of one))

abbrev first_part : Gv → Gv
first_part gnil = gnil
first_part (gnum n) = gnil
first_part (gcons a b) = a

abbrev other_part : Gv → Gv
other_part gnil = gnil
other_part (gnum n) = gnil
other_part (gcons a b) = b

pub same_codes : (s t : Tree) → code_of s ≡ code_of t → s ≡ t
same_codes Leaf Leaf e = refl
same_codes Leaf (Fork xs zero one) e = cc
same_codes (Fork xs zero one) Leaf e = cc
same_codes (Fork xs zero one) (Fork ys zero' one') e = λ i.
    Fork ((coded_list coded_originator).inj xs ys (ap first_part e) i)
    (same_codes zero zero' (ap (λ g. first_part (other_part g)) e) i)
    (same_codes one one' (ap (λ g. other_part (other_part g)) e) i)

abbrev pub coded_tree : Coded Tree
coded_tree = record { code = code_of; inj = same_codes }

pub same_tops : (a b : Top) → tree a ≡ tree b → a ≡ b
same_tops a b e = λ i. record { originators = here (e i); zero = below false (e i); one = below true (e i) }

abbrev pub coded_top : Coded Top
coded_top = coded_via coded_tree tree same_tops
