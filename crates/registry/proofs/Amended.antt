-- Whether an authorization of another number shares an AS, prefix and maxLength with the terms.
use Rattle.registry.proofs.Vocabulary.{ℕ, Bool, not, ◌&&◌, eqb, List, list_any, Auth, share_vrp}

abbrev pub shares_with_other : ℕ → Auth → List Auth → Bool
shares_with_other n z active = list_any (λ y. not (eqb y.number n) && share_vrp z y) active
