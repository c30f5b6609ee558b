-- Equal names, and who holds an address.
use Rattle.registry.proofs.Vocabulary.{◌≡◌, ℕ, true, false, List, Option, Some, None, refl, sym, ap, ◌∙◌, inl, inr, cases_Bool, false≢true, bytes_decides, same_name, is_held_by}

pub same_name-same : (h : List ℕ) → same_name h h ≡ true
same_name-same h = (bytes_decides h h).1 refl

pub same_name-true : (g h : List ℕ) → same_name g h ≡ true → g ≡ h
same_name-true g h is = (bytes_decides g h).0 is

pub held_by_itself : (h : List ℕ) → is_held_by h (Some h) ≡ true
held_by_itself h = same_name-same h

pub is_held_by-true : (h : List ℕ) (o : Option (List ℕ)) → is_held_by h o ≡ true → o ≡ Some h
is_held_by-true h None is = cc
is_held_by-true h (Some g) is = ap Some (same_name-true g h is)

-- an equal answer to "is it held by h" keeps what h holds
pub held_by_same : (h : List ℕ) (o p : Option (List ℕ)) → is_held_by h p ≡ is_held_by h o → o ≡ Some h → p ≡ Some h
held_by_same h o p same is =
    is_held_by-true h p (same ∙ ap (is_held_by h) is ∙ held_by_itself h)

-- two names are two either way round
pub same_name-false : (g h : List ℕ) → same_name g h ≡ false → same_name h g ≡ false
same_name-false g h differ =
    elim (cases_Bool (same_name h g)) [
      | inl t ↦ absurd (false≢true (sym differ ∙ ap (λ k. same_name k h) (sym (same_name-true h g t)) ∙ same_name-same h))
      | inr f ↦ f
    ]
