-- VRPs that are gathered in a vector until one finds no room.
use Rattle.std.specs.Prelude.{◌≡◌, Bool, false, List, [], ◌++◌}
use Rattle.std.proofs.Common.{sym, ap, ◌∙◌, append_assoc}
use Rattle.std.proofs.lemmas.List.{append-nil}
use Rattle.addr.specs.declared.vrp.Vrp.{Vrp}

-- where the vector took the last VRP, it took all these
abbrev pub HasGathered : Bool → Bool → List Vrp → List Vrp → List Vrp → Type 0
HasGathered had_failed has_failed before vrps after =
    has_failed ≡ false → (had_failed ≡ false) × (after ≡ before ++ vrps)

pub gathered_none : (failed : Bool) (items : List Vrp) → HasGathered failed failed items [] items
gathered_none failed items well = (well, sym (append-nil items))

pub gathered_then : (one two three : Bool) (xs ys zs vs ws : List Vrp)
    → HasGathered one two xs vs ys → HasGathered two three ys ws zs → HasGathered one three xs (vs ++ ws) zs
gathered_then one two three xs ys zs vs ws first then well =
    let later = then well in
    let earlier = first later.0 in
    (earlier.0, later.1 ∙ ap (λ l. l ++ ws) earlier.1 ∙ append_assoc xs vs ws)
