-- Trees, by what is at the end of each path.
use Rattle.payload.proofs.Vocabulary.{◌≡◌, ℕ, ◌≤◌, Bool, true, false, not, ◌&&◌, ◌||◌, List, [], ◌∷◌, ◌++◌, refl, sym, ap, ◌∙◌, subst, Result, Ok, Err, OnOk, OnErr, IsTotalOrder, nat_cmp_total, on_total, then_total, list_any, eq_by_cmp, is_eq, Equal, tied_itself, both_equal, RiseBy, Originator, Tree, Leaf, Fork, Top, tree, AreOriginators, IsInserted, IsRemoved, grown, has, is_bare, is_place, chain, originator_cmp, same_originator, All-inserted, All-removed}
use Rattle.std.specs.FinMap.{nat_cmp-IsAntisymmetric}

abbrev pub is_originator : Originator → Originator → Bool
is_originator o q = eq_by_cmp originator_cmp o q

pub originators_total : IsTotalOrder originator_cmp
originators_total = then_total (on_total (λ o. o.max) nat_cmp_total) (on_total (λ o. o.asn.0) nat_cmp_total)

pub originators_exact : (o q : Originator) → originator_cmp o q ≡ Equal → o ≡ q
originators_exact o q e =
    let parts = both_equal _ _ e in
    let max = nat_cmp-IsAntisymmetric _ _ parts.0 in
    let asn = nat_cmp-IsAntisymmetric _ _ parts.1 in
    same_originator o q (λ i. (max i, asn i))

pub has-leaf : (path : List Bool) (o : Originator) → has path o Leaf ≡ false
has-leaf [] o = refl
has-leaf (bit ∷ path) o = has-leaf path o

-- a tree that has an originator is not bare
pub full-has : (path : List Bool) (o : Originator) (t : Tree) → has path o t ≡ true → is_bare t ≡ false
full-has path o Leaf there = refl
full-has path o (Fork (q ∷ originators) zero one) there = refl
full-has path o (Fork [] (Fork xs z u) one) there = refl
full-has path o (Fork [] Leaf (Fork xs z u)) there = refl
full-has [] o (Fork [] Leaf Leaf) there = cc
full-has (false ∷ path) o (Fork [] Leaf Leaf) there = let none = has-leaf path o in cc
full-has (true ∷ path) o (Fork [] Leaf Leaf) there = let none = has-leaf path o in cc

pub place-itself : (path : List Bool) (o : Originator) → is_place path o path o ≡ true
place-itself [] o = ap is_eq (tied_itself originators_total o)
place-itself (false ∷ path) o = place-itself path o
place-itself (true ∷ path) o = place-itself path o

pub full-inserted : (path : List Bool) (o : Originator) (old new : Tree) → IsInserted path o old new → is_bare new ≡ false
full-inserted path o old new is = full-has path o new (is path o ∙ ap (λ b. b || has path o old) (place-itself path o))

-- ---- a node changes in one child

-- whether the new tree has an originator follows from whether it is the one at the end of the path, and whether the
-- old tree has it
abbrev pub IsChanged : (Bool → Bool → Bool) → List Bool → Originator → Tree → Tree → Type 0
IsChanged now path o old new = (other : List Bool) (q : Originator) → has other q new ≡ now (is_place path o other q) (has other q old)

module _ (now : Bool → Bool → Bool) (stays : (had : Bool) → had ≡ now false had) where
  pub changed-zero : (path : List Bool) (o : Originator) (xs : List Originator) (zero zero' one : Tree) → IsChanged now path o zero zero' → IsChanged now (false ∷ path) o (Fork xs zero one) (Fork xs zero' one)
  changed-zero path o xs zero zero' one is [] q = stays _
  changed-zero path o xs zero zero' one is (false ∷ other) q = is other q
  changed-zero path o xs zero zero' one is (true ∷ other) q = stays _

  pub changed-one : (path : List Bool) (o : Originator) (xs : List Originator) (zero one one' : Tree) → IsChanged now path o one one' → IsChanged now (true ∷ path) o (Fork xs zero one) (Fork xs zero one')
  changed-one path o xs zero one one' is [] q = stays _
  changed-one path o xs zero one one' is (false ∷ other) q = stays _
  changed-one path o xs zero one one' is (true ∷ other) q = is other q

  -- what is at the end of the path changes
  pub changed-grown : (path rest : List Bool) (o : Originator) (old new : Top) → IsChanged now rest o (tree old) (tree new) → IsChanged now (path ++ rest) o (tree (grown path old)) (tree (grown path new))
  changed-grown [] rest o old new is = is
  changed-grown (false ∷ path) rest o old new is = changed-zero _ _ _ _ _ _ (changed-grown path rest o old new is)
  changed-grown (true ∷ path) rest o old new is = changed-one _ _ _ _ _ _ (changed-grown path rest o old new is)

pub and-none : (b : Bool) → false ≡ (b && false)
and-none true = refl
and-none false = refl

-- from no node nothing is taken out
pub removed-leaf : (path : List Bool) (o : Originator) → IsRemoved path o Leaf Leaf
removed-leaf path o other q = has-leaf other q ∙ and-none (not (is_place path o other q)) ∙ ap (λ b. not (is_place path o other q) && b) (sym (has-leaf other q))

pub bare-none : (t : Tree) → is_bare t ≡ true → (path : List Bool) (o : Originator) → has path o t ≡ false
bare-none Leaf bare path o = has-leaf path o
bare-none (Fork [] Leaf Leaf) bare [] o = refl
bare-none (Fork [] Leaf Leaf) bare (false ∷ path) o = has-leaf path o
bare-none (Fork [] Leaf Leaf) bare (true ∷ path) o = has-leaf path o
bare-none (Fork [] Leaf (Fork xs zero one)) bare path o = cc
bare-none (Fork [] (Fork xs zero one) other) bare path o = cc
bare-none (Fork (q ∷ originators) zero one) bare path o = cc

-- a bare node that is let go had nothing
pub removed-bare : (path : List Bool) (o : Originator) (old new : Tree) → is_bare new ≡ true → IsRemoved path o old new → IsRemoved path o old Leaf
removed-bare path o old new bare is other q = has-leaf other q ∙ sym (bare-none new bare other q) ∙ is other q

-- ---- new nodes

pub inserted-chain : (path : List Bool) (o : Originator) → IsInserted path o Leaf (chain path o)
inserted-chain [] o [] q = refl
inserted-chain [] o (false ∷ other) q = refl
inserted-chain [] o (true ∷ other) q = refl
inserted-chain (false ∷ path) o [] q = refl
inserted-chain (false ∷ path) o (false ∷ other) q = inserted-chain path o other q
inserted-chain (false ∷ path) o (true ∷ other) q = refl
inserted-chain (true ∷ path) o [] q = refl
inserted-chain (true ∷ path) o (false ∷ other) q = refl
inserted-chain (true ∷ path) o (true ∷ other) q = inserted-chain path o other q

-- ---- the originators at one node

pub originators-inserted : (width len : ℕ) (xs ys : List Originator) (o : Originator) → AreOriginators width len xs → len ≤ o.max → o.max ≤ width → RiseBy originator_cmp ys → ((q : Originator) → list_any (is_originator q) ys ≡ (is_originator q o || list_any (is_originator q) xs)) → AreOriginators width len ys
originators-inserted width len xs ys o are low high rise members = record {
  fits = are.fits;
  rise = rise;
  lengths = All-inserted originators_total originators_exact (λ q. (len ≤ q.max) × (q.max ≤ width)) xs ys o are.lengths (low, high) members;
}

pub originators-removed : (width len : ℕ) (xs ys : List Originator) (o : Originator) → AreOriginators width len xs → RiseBy originator_cmp ys → ((q : Originator) → list_any (is_originator q) ys ≡ (not (is_originator q o) && list_any (is_originator q) xs)) → AreOriginators width len ys
originators-removed width len xs ys o are rise members = record {
  fits = are.fits;
  rise = rise;
  lengths = All-removed originators_total originators_exact (λ q. (len ≤ q.max) × (q.max ≤ width)) xs ys o are.lengths members;
}

-- a child that something was put in, or that stayed as it was, is not bare
pub full-after : {E : Type 0} (r : Result Bool E) (path : List Bool) (o : Originator) (old new : Top) → OnOk r (IsInserted path o (tree old) (tree new)) → OnErr r (tree new ≡ tree old) → is_bare (tree old) ≡ false → is_bare (tree new) ≡ false
full-after (Ok is_new) path o old new ok err full = full-inserted path o (tree old) (tree new) ok
full-after (Err e) path o old new ok err full = ap is_bare err ∙ full

pub originators-after : {E : Type 0} (r : Result Bool E) (width len : ℕ) (xs ys : List Originator) (o : Originator) → AreOriginators width len xs → len ≤ o.max → o.max ≤ width → RiseBy originator_cmp ys → OnOk r ((q : Originator) → list_any (is_originator q) ys ≡ (is_originator q o || list_any (is_originator q) xs)) → OnErr r (ys ≡ xs) → AreOriginators width len ys
originators-after (Ok is_new) width len xs ys o are low high rise ok err = originators-inserted width len xs ys o are low high rise ok
originators-after (Err e) width len xs ys o are low high rise ok err = subst (AreOriginators width len) (sym err) are
