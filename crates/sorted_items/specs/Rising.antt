-- Lists that rise.
use Rattle.std.specs.Prelude.{◌≡◌, List}
use Rattle.std.specs.Borrow.{Bor}
use Rattle.std.specs.Fn.{Shared}
use Rattle.std.specs.declared.cmp.Ordering.{Ordering}
use Rattle.std.specs.declared.cmp.Ordering.TheVariants.{Less}
use Rattle.std.specs.List.{AllPairs}

-- each item sorts before all later ones
abbrev pub RiseBy : {T : Type 0} → (T → T → Ordering) → List T → Type 0
RiseBy cmp items = AllPairs (λ x y. cmp x y ≡ Less) items

-- the closure's answer at each item is the key `of` it
abbrev pub Gives : {F T K : Type 0} → Shared F (Bor T × Unit {0}) K → F → (T → K) → Type 0
Gives {F} {T} closure f of = (x : Bor T) (k : _) → closure.post f (x, tt) k → k ≡ of x.now
