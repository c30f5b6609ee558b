-- Imports: each row makes an authorization, or is already authorized and makes nothing. An import is no
-- entry of a history; it leaves the creates of the rows that made one, in their order.
use Rattle.std.specs.Prelude.{◌≡◌, ℕ, Bool, true, ◌&&◌, ◌==◌, List, Option, Some, None, Result, Ok, Err}
use Rattle.std.specs.List.{list_any}
use Rattle.std.specs.Cmp.Lexicographic.{pointwise}
use Rattle.registry.specs.declared.authorization.Auth.{Auth}
use Rattle.registry.specs.declared.authorization.AuthTerms.{AuthTerms}
use Rattle.registry.specs.declared.authorization.ImportRow.{ImportRow}
use Rattle.addr.specs.declared.roa_prefix.RoaPrefix.{RoaPrefix}
use Rattle.registry.specs.declared.charter.Charter.{Charter}
use Rattle.registry.specs.declared.command.Command.{Command}
use Rattle.registry.specs.declared.command.Command.TheVariants.{Create}
use Rattle.registry.specs.declared.grant.Access.TheVariants.{Alter}
use Rattle.registry.specs.declared.rule.Rule.{Rule}
use Rattle.registry.specs.GrowingHistory.{Grows, IsDeniedAt}
use Rattle.registry.specs.History.{History}
use Rattle.registry.specs.Permission.{are_permitted}
use Rattle.addr.specs.VrpParts.{is_entry}
use Rattle.registry.specs.Terms.{grant_terms, row_terms, OfActive}
use Rattle.registry.specs.Verdict.{Verdict}

-- the command that makes the authorization of a row at a holder
abbrev pub row_command : List ℕ → ImportRow → Command
row_command holder row = Create holder (row_terms row)

-- each entry of the one list has the prefix and maxLength of the entry in its place in the other
abbrev pub are_same : List RoaPrefix → List RoaPrefix → Bool
are_same es ds = pointwise (λ e d. is_entry e.prefix e.max d) es ds

-- the authorization has these terms: the AS, the entries and both days
abbrev pub has_terms : AuthTerms → Auth → Bool
has_terms t x =
    ((x.asn.0 == t.asn.0) && are_same t.entries x.entries)
    && ((x.from == t.from) && (x.until == t.until))

-- Already authorized: rule `scope` holds, and with it `grant`; and an active authorization has the terms. Its
-- days do not matter, nor does any other rule.
abbrev pub IsPresent : ℕ → List ℕ → List ℕ → History → ImportRow → Type 0
IsPresent day caller holder history row =
    (are_permitted (grant_terms history holder) day caller Alter (row_terms row).entries ≡ true)
    × OfActive history holder (λ active. list_any (has_terms (row_terms row)) active ≡ true)

-- a row that is not already authorized is judged as the create of it
abbrev pub JudgesRow :
    Charter → ℕ → List ℕ → List ℕ → History → ImportRow → Result (Option Command) Rule → Type 0
JudgesRow charter day caller holder history row (Ok None) = IsPresent day caller holder history row
JudgesRow charter day caller holder history row (Ok (Some command)) =
    ¬ IsPresent day caller holder history row × (command ≡ row_command holder row)
    × Verdict charter history day caller command None
JudgesRow charter day caller holder history row (Err rule) =
    ¬ IsPresent day caller holder history row
    × Verdict charter history day caller (row_command holder row) (Some rule)

-- the rows of an import at a holder grow a history into this one
abbrev pub ImportGrows : Charter → ℕ → List ℕ → List ℕ → History → List ImportRow → History → Type 0
ImportGrows charter day caller holder = Grows (JudgesRow charter day caller holder) day caller

-- an import is denied for the row in this place, counted from 1
abbrev pub IsImportDenied :
    Charter → ℕ → List ℕ → List ℕ → History → List ImportRow → Rule → ℕ → Type 0
IsImportDenied charter day caller holder = IsDeniedAt (JudgesRow charter day caller holder) day caller
