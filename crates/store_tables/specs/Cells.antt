-- How the rows of a holder and exceptions are written as rows of the tables, without their rowids.
use Rattle.std.specs.Prelude.{ℕ, pos, List, [], ◌∷◌, ◌++◌, codes}
use Rattle.std.specs.Int.{w128, to_be_bytes}
use Rattle.sqlite_value.specs.declared.value.Value.{Value}
use Rattle.sqlite_value.specs.declared.value.Value.TheVariants.{Null, Int, Text, Blob}
use Rattle.sqlite_value.specs.Order.{Row}
use Rattle.addr.specs.declared.asn.Asn.{Asn}
use Rattle.addr.specs.declared.family.Family.{Family}
use Rattle.addr.specs.declared.family.Family.TheVariants.{V4, V6}
use Rattle.addr.specs.declared.prefix.Prefix.{Prefix}
use Rattle.addr.specs.declared.span.Span.{Span}
use Rattle.addr.specs.declared.vrp.Vrp.{Vrp}
use Rattle.addr.specs.declared.roa_prefix.RoaPrefix.{RoaPrefix}
use Rattle.registry.specs.declared.grant.Granted.{Granted}
use Rattle.registry.specs.declared.grant.Role.{Role}
use Rattle.registry.specs.declared.grant.Role.TheVariants.{Manager, Clerk, Auditor}
use Rattle.registry.specs.declared.grant.Scope.{Scope}
use Rattle.registry.specs.declared.grant.Scope.TheVariants.{All, Only}
use Rattle.slurm.specs.declared.filter.Filter.{Filter}
use Rattle.slurm.specs.declared.filter.Filter.TheVariants.{Under, By, Both}
use Rattle.store_tables.specs.declared.claim.Claim.{Claim}
use Rattle.store_tables.specs.declared.entry.EntryRow.{EntryRow}
use Rattle.store_tables.specs.declared.exception.Exception.{Exception}
use Rattle.store_tables.specs.declared.exception.Exception.TheVariants.{Filter as FilterOf, Assertion}
use Rattle.store_tables.specs.declared.exception.ExceptionRow.{ExceptionRow}
use Rattle.store_tables.specs.declared.groups.OfHolder.{OfHolder}
use Rattle.store_tables.specs.declared.meta.TheConstants.{SCHEMA}

abbrev pub number_cell : ℕ → Value
number_cell n = Int (pos n)

abbrev pub family_number : Family → ℕ
family_number V4 = 4
family_number V6 = 6

-- the 16 bytes of an address, the greatest first
unfoldable pub address_bytes : ℕ → List ℕ
address_bytes n = to_be_bytes w128 n

abbrev pub role_number : Role → ℕ
role_number Manager = 1
role_number Clerk = 2
role_number Auditor = 3

abbrev pub prefix_cells : Prefix → Row
prefix_cells p =
    number_cell (family_number p.family) ∷ Blob (address_bytes p.first) ∷ number_cell p.length ∷ []

-- no prefix is all of them
abbrev pub scope_cells : Scope → Row
scope_cells All = Null ∷ Null ∷ Null ∷ []
scope_cells (Only p) = prefix_cells p

-- the first address of the scope's prefix; 0 where there is none
abbrev pub scope_first : Scope → ℕ
scope_first All = 0
scope_first (Only p) = p.first

abbrev pub counter_cells : ℕ → ℕ → Row
counter_cells granted created = number_cell granted ∷ number_cell created ∷ []

abbrev pub span_cells : Span → Row
span_cells s = number_cell (family_number s.family) ∷ Blob (address_bytes s.lo) ∷ Blob (address_bytes s.hi) ∷ []

abbrev pub grant_cells : Granted → Row
grant_cells g =
    number_cell g.number ∷ Text g.caller ∷ number_cell (role_number g.role) ∷ scope_cells g.scope
    ++ number_cell g.until ∷ []

abbrev pub claim_cells : Claim → Row
claim_cells c = number_cell c.number ∷ number_cell c.asn.0 ∷ number_cell c.from ∷ number_cell c.until ∷ []

-- what an entry gives the AS: its prefix and maxLength
abbrev pub given_cells : Asn → RoaPrefix → Row
given_cells asn e = number_cell asn.0 ∷ prefix_cells e.prefix ++ number_cell e.max ∷ []

abbrev pub entry_cells : EntryRow → Row
entry_cells e = number_cell e.number ∷ given_cells e.asn e.entry

-- the one row of the table `meta`, which has the number of the schema, and a row of the table `operator`
abbrev pub schema_row : Row
schema_row = Text (codes "schema") ∷ number_cell SCHEMA ∷ []

abbrev pub operator_row : List ℕ → Row
operator_row name = Text name ∷ []

abbrev pub vrp_cells : Vrp → Row
vrp_cells v = number_cell v.asn.0 ∷ prefix_cells v.prefix ++ number_cell v.max ∷ []

-- the rows of the tables `holder`, `holding`, `granted`, `claim` and `entry`, with the holder's name
abbrev pub holder_row : List ℕ → ℕ → ℕ → Row
holder_row h granted created = Text h ∷ counter_cells granted created

abbrev pub holding_row : List ℕ → Span → Row
holding_row h s = span_cells s ++ Text h ∷ []

abbrev pub granted_row : List ℕ → Granted → Row
granted_row h g = Text h ∷ grant_cells g

abbrev pub claim_row : List ℕ → Claim → Row
claim_row h c = Text h ∷ claim_cells c

abbrev pub entry_row : List ℕ → EntryRow → Row
entry_row h e = Text h ∷ entry_cells e

-- the cells of a row with the name of its holder after them
abbrev pub named_cells : {X : Type 0} → (X → Row) → OfHolder X → Row
named_cells cells x = cells x.row ++ Text x.holder ∷ []

-- how the table `slurm` numbers the kinds of exceptions
abbrev pub kind_number : Exception → ℕ
kind_number (FilterOf f) = 1
kind_number (Assertion v) = 2

-- the prefix of a filter, no maxLength, and its AS; NULL where it has none
abbrev pub filter_cells : Filter → Row
filter_cells (Under p) = prefix_cells p ++ Null ∷ Null ∷ []
filter_cells (By asn) = Null ∷ Null ∷ Null ∷ Null ∷ number_cell asn.0 ∷ []
filter_cells (Both p asn) = prefix_cells p ++ Null ∷ number_cell asn.0 ∷ []

abbrev pub assertion_cells : Vrp → Row
assertion_cells v = prefix_cells v.prefix ++ number_cell v.max ∷ number_cell v.asn.0 ∷ []

abbrev pub exception_cells : Exception → Row
exception_cells (FilterOf f) = filter_cells f
exception_cells (Assertion v) = assertion_cells v

-- the first address of the prefix of an exception; 0 where it has none
abbrev pub filter_first : Filter → ℕ
filter_first (Under p) = p.first
filter_first (By asn) = 0
filter_first (Both p asn) = p.first

abbrev pub exception_first : Exception → ℕ
exception_first (FilterOf f) = filter_first f
exception_first (Assertion v) = v.prefix.first

-- the row of an exception in the table `slurm`
abbrev pub exception_row : ExceptionRow → Row
exception_row r =
    Text r.file ∷ number_cell (kind_number r.exception) ∷ number_cell r.position
    ∷ exception_cells r.exception
