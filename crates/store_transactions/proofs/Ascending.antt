-- Rows of which each is so to every later one.
use Rattle.store_transactions.proofs.Vocabulary.{List, [], ◌∷◌, IsPermutation, AllByRecursion, IsPermutation-refl, IsPermutation-cons, IsPermutation-middle, IsPermutation-trans, IsAscending, all_both, all-permutation, along_permutation}

-- a relation of each element and each later one, where it holds of all that are so
pub ascending_where : {X : Type 0} (P : X → Type 0) (R S : X → X → Type 0) → ((a b : X) → P a → P b → R a b → S a b) → (xs : List X) → AllByRecursion P xs → IsAscending R xs → IsAscending S xs
ascending_where P R S to [] all up = tt
ascending_where P R S to (x ∷ xs) all up =
    (all_both P (R x) (S x) (λ y p r. to x y all.0 p r) xs all.1 up.0, ascending_where P R S to xs all.1 up.1)

-- and in another order
module _ {X : Type 0} (R : X → X → Type 0) (flips : (x y : X) → R x y → R y x) where
  -- the items are the same, and so to one another if those are
  abbrev StaysSo : List X → List X → Type 0
  StaysSo xs ys = IsPermutation xs ys × (IsAscending R xs → IsAscending R ys)

  stays_so : (xs ys : List X) → IsPermutation xs ys → StaysSo xs ys
  stays_so = along_permutation StaysSo (λ xs. (IsPermutation-refl xs, λ up. up))
      (λ x xs ys same. (IsPermutation-cons x xs ys same.0, λ up. (all-permutation (R x) xs ys same.0 up.0, same.1 up.1)))
      (λ x y xs. (IsPermutation-middle (x ∷ []) y xs, λ up. ((flips x y up.0.0, up.1.0), (up.0.1, up.1.1))))
      (λ xs ys zs p q. (IsPermutation-trans xs ys zs p.0 q.0, λ up. q.1 (p.1 up)))

  pub ascending_moved : (xs ys : List X) → IsPermutation xs ys → IsAscending R xs → IsAscending R ys
  ascending_moved xs ys same = (stays_so xs ys same).1
