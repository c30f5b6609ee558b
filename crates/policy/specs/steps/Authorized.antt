-- The rows of an import that are already authorized.
use Rattle.std.specs.Prelude.{◌≡◌, List, [], ◌∷◌, Option, Some, None}
use Rattle.std.specs.List.{list_any}
use Rattle.std.specs.BTreeSet.{BTreeSet, contains}
use Rattle.registry.specs.declared.authorization.Auth.{Auth}
use Rattle.registry.specs.declared.authorization.ImportRow.{ImportRow}
use Rattle.addr.specs.declared.roa_prefix.RoaPrefix.{RoaPrefix}
use Rattle.registry.specs.contracts.authorization.ImportRowOrd.TheImpl as ImportRowOrd
use Rattle.registry.specs.Import.{has_terms}
use Rattle.registry.specs.Terms.{row_terms}

-- the row that makes an authorization of these terms, if that has one entry
abbrev pub row_of_entries : Auth → List RoaPrefix → Option ImportRow
row_of_entries x (e ∷ []) =
    Some (record { asn = x.asn; prefix = e.prefix; max = e.max; from = x.from; until = x.until })
row_of_entries x _ = None

abbrev pub row_of_auth : Auth → Option ImportRow
row_of_auth x = row_of_entries x x.entries

-- the set has the rows of which some authorization has the terms
abbrev pub AreAuthorized : BTreeSet ImportRow → List Auth → Type 0
AreAuthorized rows auths =
    (row : ImportRow)
    → contains ImportRowOrd.ghosts.cmp rows row ≡ list_any (has_terms (row_terms row)) auths
