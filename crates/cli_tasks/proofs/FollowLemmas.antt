-- What was given of known bytes, or came to them.
use Rattle.cli_tasks.proofs.Vocabulary.{◌≡◌, ℕ, List, ◌++◌, Option, Some, None, refl, sym, Appends, Consumes, prepend_known}
use Rattle.std.proofs.lemmas.Option.{same_Some}

pub given-first : (known left : Option (List ℕ)) (bytes : List ℕ)
    → ((all : List ℕ) → known ≡ Some all → prepend_known bytes left ≡ Some all) → (rest : Option (List ℕ)) × Consumes known rest bytes
given-first None left bytes given = (None, tt)
given-first (Some all) None bytes given = cc (given all refl)
given-first (Some all) (Some rest) bytes given = (Some rest, sym (same_Some (bytes ++ rest) all (given all refl)))

pub taken-after : (known now : Option (List ℕ)) (bytes : List ℕ)
    → ((had : List ℕ) → known ≡ Some had → now ≡ Some (had ++ bytes)) → Appends known now bytes
taken-after None now bytes taken = tt
taken-after (Some had) now bytes taken = rw (taken had refl) refl
