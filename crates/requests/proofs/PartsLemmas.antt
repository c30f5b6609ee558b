-- Where one of two parts is made of what was read, both are made of both that were read.
use Rattle.requests.proofs.Vocabulary.{◌≡◌, Result, Ok, Err, refl, both, mapped, fault_order, Fault}

pub mapped-first : {A B C : Type 0} (f : A → C) (one : Result A Fault) (other : Result B Fault) →
    both fault_order (mapped f one) other ≡ mapped (λ p. (f p.0, p.1)) (both fault_order one other)
mapped-first f (Ok a) (Ok b) = refl
mapped-first f (Err m) (Ok b) = refl
mapped-first f one other = refl

pub mapped-second : {A B C : Type 0} (f : B → C) (one : Result A Fault) (other : Result B Fault) →
    both fault_order one (mapped f other) ≡ mapped (λ p. (p.0, f p.1)) (both fault_order one other)
mapped-second f (Ok a) (Ok b) = refl
mapped-second f (Err m) (Ok b) = refl
mapped-second f one other = refl
