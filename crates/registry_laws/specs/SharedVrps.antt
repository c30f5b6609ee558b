-- No AS, prefix and maxLength is given by two active authorizations, of whatever holders.
use Rattle.std.specs.Prelude.{◌≡◌, ℕ, Bool, true, false, not, List}
use Rattle.std.specs.List.{list_any, list_all}
use Rattle.registry.specs.declared.authorization.Auth.{Auth}
use Rattle.registry.specs.declared.charter.Charter.{Charter}
use Rattle.registry.specs.History.{History, same_name}
use Rattle.registry.specs.Repeats.{has_repeat}
use Rattle.registry.specs.Terms.{share_vrp, AreActive}
use Rattle.registry.specs.Verdict.{IsLegal}

-- nothing of the one list shares a VRP with anything of the other
abbrev pub share_none : List Auth → List Auth → Bool
share_none xs ys = list_all (λ x. not (list_any (λ y. share_vrp x y) ys)) xs

-- no two active authorizations of one holder share a VRP, and none of one holder with one of another
abbrev pub NoSharedVrp : Type 0
NoSharedVrp =
    (charter : Charter) (history : History) → IsLegal charter history
    → ((h : List ℕ) (xs : List Auth) → AreActive history h xs → has_repeat share_vrp xs ≡ false)
    × ((g h : List ℕ) (xs ys : List Auth) → same_name g h ≡ false → AreActive history g xs → AreActive history h ys
    → share_none xs ys ≡ true)
