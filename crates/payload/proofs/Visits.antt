-- What a sink took in a visit.
use Rattle.payload.proofs.Vocabulary.{◌≡◌, ℕ, ◌+◌, ◌≤◌, ◌<◌, List, [], ◌∷◌, ◌++◌, length, take, get_or, sym, ap, ◌∙◌, subst, arith, Result, Ok, Err, length-append, take-append-le, take_all, take_more, Vrp, TookBeginning}
use Rattle.std.specs.Result.{OnErr}
use Rattle.std.proofs.Math.Seq.{take-append-add, take-append_seam}

pub on-err : {T E : Type 0} (r : Result T E) (P : Type 0) → P → OnErr r P
on-err (Ok x) P p = tt
on-err (Err e) P p = p

-- VRPs that are taken one list after the other are taken as one list
abbrev pub TookThen : {S : Type 0} → (S → List Vrp → S → Type 0) → Type 0
TookThen {S} took = (a b c : S) (vs ws : List Vrp) → took a vs b → took b ws c → took a (vs ++ ws) c

module _ {S : Type 0} (took : S → List Vrp → S → Type 0) where
  pub took-all : (items all : List Vrp) (a b : S) (i : ℕ) → items ≡ all → took a (take i items) b → length items ≤ i → took a all b
  took-all items all a b i same so_far past = subst (λ vs. took a vs b) (take_all i items past ∙ same) so_far

  -- ---- a beginning of a list of several parts

  pub beginning-part : (some rest all : List Vrp) (a b : S) → all ≡ some ++ rest → 0 < length some → took a some b → TookBeginning took all a b
  beginning-part some rest all a b parts full is = (
    length some,
    full,
    omega (arith, ap length parts, length-append some rest),
    subst (λ vs. took a vs b) (sym (ap (take (length some)) parts ∙ take-append_seam some rest)) is,
  )

  pub beginning-longer : (xs ys : List Vrp) (a b : S) → TookBeginning took xs a b → TookBeginning took (xs ++ ys) a b
  beginning-longer xs ys a b (n, full, fits, is) = (
    n,
    full,
    omega (arith, length-append xs ys),
    subst (λ vs. took a vs b) (sym (take-append-le n xs ys fits)) is,
  )

  module _ (took_then : TookThen took) where
    pub beginning-one : (items all : List Vrp) (a b c : S) (i : ℕ) (v : Vrp) → items ≡ all → took a (take i items) b → took b (v ∷ []) c → i < length items → v ≡ get_or items i v → TookBeginning took all a c
    beginning-one items all a b c i v same so_far one within read = (
      i + 1,
      omega arith,
      omega (arith, ap length same),
      subst (λ vs. took a vs c)
          (ap (λ w. take i items ++ w ∷ []) read ∙ sym (take_more items i v within) ∙ ap (take (i + 1)) same)
          (took_then a b c (take i items) (v ∷ []) so_far one),
    )

    pub beginning-later : (xs ys : List Vrp) (a b c : S) → took a xs b → TookBeginning took ys b c → TookBeginning took (xs ++ ys) a c
    beginning-later xs ys a b c first (n, full, fits, is) = (
      length xs + n,
      omega arith,
      omega (arith, length-append xs ys),
      subst (λ vs. took a vs c) (sym (take-append-add xs ys n)) (took_then a b c xs (take n ys) first is),
    )
