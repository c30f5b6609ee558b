-- What is loaded of a holder for hypothetical changes.
use Rattle.std.specs.Prelude.{◌≡◌, ◌+◌, ◌<◌, ◌⊎◌, List, Option, filter, length}
use Rattle.registry.specs.declared.authorization.Auth.{Auth}
use Rattle.registry.specs.declared.command.Proposed.{Proposed}
use Rattle.registry.specs.declared.limits.TheConstants.{MOST_AUTHORIZATIONS}
use Rattle.registry.specs.PartOfRows.{looked_for}
use Rattle.registry.specs.Rows.{Rows, auths_if_any}
use Rattle.store_read.specs.Loads.{AreCounted, AreHoldings, AreInOrder, auths_held, created_if_any}
use Rattle.store.specs.declared.part.Part.{Part}

-- The grants, the counters and the addresses of the holder, and of its authorizations those that the rules of the changes
-- look for, by rising number. `left_out` is how many it has beside these; or 0, where so few were ever made that with as
-- many more it has fewer than it may have.
pub record IsForChanges (changes : List Proposed) (rows : Option Rows) (part : Part) : Type 0 where
  pub counted : AreCounted rows part.rows
  pub holdings : AreHoldings rows part.rows
  pub auths : AreInOrder (λ (x : Auth). x.number) (filter (looked_for changes) (auths_held rows)) (auths_if_any part.rows)
  pub left :
      (part.left_out + length (auths_if_any part.rows) ≡ length (auths_held rows))
      ⊎ ((part.left_out ≡ 0) × (created_if_any rows + length changes < MOST_AUTHORIZATIONS))
