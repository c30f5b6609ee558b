-- Which authorizations a transfer or a reclaim ends.
use Rattle.std.specs.Prelude.{◌≡◌, ℕ, false, List, ◌∷◌, ◌↔◌}
use Rattle.addr.specs.declared.prefix.Prefix.{Prefix}
use Rattle.registry.specs.declared.authorization.Auth.{Auth}
use Rattle.registry.specs.declared.charter.Charter.{Charter}
use Rattle.registry.specs.declared.command.Command.{Command}
use Rattle.registry.specs.declared.command.Command.TheVariants.{Transfer, Reclaim}
use Rattle.registry.specs.History.{Entry, History}
use Rattle.registry.specs.Terms.{terms_overlap, IsActive}
use Rattle.registry.specs.Verdict.{IsLegal}

-- a transfer or a reclaim, which takes the prefix from the holder
abbrev pub TakesFrom : Command → List ℕ → Prefix → Type 0
TakesFrom (Transfer p giver taker) h q = (h ≡ giver) × (q ≡ p)
TakesFrom (Reclaim holder p) h q = (h ≡ holder) × (q ≡ p)
TakesFrom _ h q = ⊥

-- active afterwards are just those that were active before, without those of the former holder that
-- share an address with the prefix
abbrev pub EndsJustOverlapping : Type 0
EndsJustOverlapping =
    (charter : Charter) (e : Entry) (before : History) (former : List ℕ) (p : Prefix)
    → IsLegal charter (e ∷ before) → TakesFrom e.command former p
    → (h : List ℕ) (x : Auth)
    → IsActive (e ∷ before) h x ↔ (IsActive before h x × (h ≡ former → terms_overlap x p ≡ false))
