-- What the authorizations of all holders give together.
use Rattle.std.specs.Prelude.{◌≡◌, ℕ, List, Some, Contains}
use Rattle.addr.specs.declared.vrp.Vrp.{Vrp}
use Rattle.registry.specs.declared.authorization.Auth.{Auth}
use Rattle.registry.specs.Rows.{Rows}
use Rattle.registry.specs.RowsOfAll.{AllRows}
use Rattle.registry.specs.Terms.{IsVrpOf}

-- No VRP is given twice, of whatever holders and on whatever days: two authorizations of one VRP are
-- one, of one holder.
abbrev pub GivenOnce : AllRows → Type 0
GivenOnce rows =
    (h k : List ℕ) (r s : Rows) (x y : Auth) (v : Vrp)
    → rows.of_holder h ≡ Some r → rows.of_holder k ≡ Some s → Contains r.auths x → Contains s.auths y
    → IsVrpOf x v → IsVrpOf y v → (h ≡ k) × (x ≡ y)
