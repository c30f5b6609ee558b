-- What the types of the values of a history promise, and the ranges of the values of rows. Elsewhere a
-- history ranges over all numbers and texts: a day, a number of a `u32` and a name are seen as any
-- number and any text there.
use Rattle.std.specs.Prelude.{◌≡◌, ℕ, ◌+◌, ◌^◌, ◌<◌, ◌≤◌, true, IsTrue, List, [], ◌∷◌, length, Option, Some, None, All, ⊤}
use Rattle.std.specs.List.{AllByRecursion}
use Rattle.addr.specs.Day.{IsDay}
use Rattle.addr.specs.Name.{is_name}
use Rattle.addr.specs.declared.vrp.Vrp.{Vrp}
use Rattle.slurm.specs.Exceptions.{Exceptions}
use Rattle.slurm.specs.SlurmSets.{AreFiles}
use Rattle.slurm.specs.declared.exceptions.TheConstants.{MOST_ENTRIES}
use Rattle.slurm.specs.declared.filter.Filter.{Filter}
use Rattle.slurm.specs.declared.filter.Filter.TheVariants.{Under, By, Both}
use Rattle.slurm.specs.declared.set.NamedSlurm.{NamedSlurm}
use Rattle.registry.specs.declared.limits.TheConstants.{LAST_NUMBER}
use Rattle.registry.specs.declared.asked.Asked.{Asked}
use Rattle.registry.specs.declared.asked.Request.{Request}
use Rattle.registry.specs.declared.asked.Request.TheVariants.{Command as CommandRequest, Query as QueryRequest}
use Rattle.registry.specs.declared.authorization.Auth.{Auth}
use Rattle.registry.specs.declared.authorization.AuthTerms.{AuthTerms}
use Rattle.registry.specs.declared.authorization.ImportRow.{ImportRow}
use Rattle.registry.specs.declared.command.Command.{Command}
use Rattle.registry.specs.declared.command.Command.TheVariants.{Register, Delegate, Transfer, Reclaim, Grant, Revoke, Create, Amend, Withdraw, Import, Slurm}
use Rattle.registry.specs.declared.grant.Granted.{Granted}
use Rattle.registry.specs.History.{Entry, History}
use Rattle.registry.specs.RoaPrefixes.{AreEntries}
use Rattle.registry.specs.Terms.{row_terms}
use Rattle.registry.specs.Verdict.{fit_lengths}
use Rattle.registry.specs.Rows.{Rows}

abbrev pub IsU8 : ℕ → Type 0
IsU8 n = n < 2 ^ 8

abbrev pub IsU32 : ℕ → Type 0
IsU32 n = n < 2 ^ 32

-- a number that a grant or an authorization can get
abbrev pub IsNumber : ℕ → Type 0
IsNumber n = (1 ≤ n) × (n ≤ LAST_NUMBER)

-- how many of them can have been made
abbrev pub IsCount : ℕ → Type 0
IsCount n = n ≤ LAST_NUMBER

-- the AS number of a filter is one, where it has one
abbrev pub FilterFits : Filter → Type 0
FilterFits (Under p) = ⊤
FilterFits (By asn) = IsU32 asn.0
FilterFits (Both p asn) = IsU32 asn.0

-- the other terms of a VRP are in range by its own fields
abbrev pub VrpFits : Vrp → Type 0
VrpFits v = IsU32 v.asn.0

-- what one SLURM file says
pub record ExceptionsFit (exceptions : Exceptions) : Type 0 where
  pub number : length exceptions.filters + length exceptions.assertions ≤ MOST_ENTRIES
  pub filters : All FilterFits exceptions.filters
  pub assertions : All VrpFits exceptions.assertions

-- a SLURM file with its name
pub record FileFits (f : NamedSlurm) : Type 0 where
  pub name : IsTrue (is_name f.name)
  pub file : ExceptionsFit f.file

abbrev pub FilesFit : List NamedSlurm → Type 0
FilesFit files = All FileFits files

-- the terms of an authorization, as they are requested
pub record TermsFit (t : AuthTerms) : Type 0 where
  pub asn : IsU32 t.asn.0
  pub entries : AreEntries t.entries
  pub maxes : AllByRecursion (λ e. IsU8 e.max) t.entries
  pub from : IsDay t.from
  pub until : IsDay t.until

-- a row of an import
abbrev pub ImportRowFits : ImportRow → Type 0
ImportRowFits r = TermsFit (row_terms r)

-- the values of a command are those of their types; prefixes are so anyhow
abbrev pub CommandFits : Command → Type 0
CommandFits (Register holder) = IsTrue (is_name holder)
CommandFits (Delegate holder p) = IsTrue (is_name holder)
CommandFits (Transfer p giver taker) = IsTrue (is_name giver) × IsTrue (is_name taker)
CommandFits (Reclaim holder p) = IsTrue (is_name holder)
CommandFits (Grant holder terms) = IsTrue (is_name holder) × IsTrue (is_name terms.to) × IsDay terms.until
CommandFits (Revoke holder n) = IsTrue (is_name holder) × IsU32 n
CommandFits (Create holder terms) = IsTrue (is_name holder) × TermsFit terms
CommandFits (Amend holder n maxes until) = IsTrue (is_name holder) × IsU32 n × All IsU8 maxes.items × IsDay until
CommandFits (Withdraw holder n) = IsTrue (is_name holder) × IsU32 n
CommandFits (Import holder rows) = IsTrue (is_name holder) × All ImportRowFits rows.items
CommandFits (Slurm files) = AreFiles files × FilesFit files

pub record EntryFits (e : Entry) : Type 0 where
  pub day : IsDay e.day
  pub caller : IsTrue (is_name e.caller)
  pub command : CommandFits e.command

-- a query changes nothing, so its values do not matter
abbrev pub RequestFits : ℕ → List ℕ → Request → Type 0
RequestFits day caller (CommandRequest command) =
    EntryFits (record { day = day; caller = caller; command = command })
RequestFits day caller (QueryRequest query) = ⊤

-- the values of a request that may be added to a history are those of their types
abbrev pub AskedFits : Asked → Type 0
AskedFits asked = RequestFits asked.day asked.caller asked.request

abbrev pub HistoryFits : History → Type 0
HistoryFits [] = Unit {0}
HistoryFits (e ∷ before) = EntryFits e × HistoryFits before

-- each value is of its type and in its range
pub record AuthFits (x : Auth) : Type 0 where
  pub number : IsNumber x.number
  pub asn : IsU32 x.asn.0
  pub entries : AreEntries x.entries
  pub lengths : fit_lengths x.entries ≡ true
  pub from : IsDay x.from
  pub until : IsDay x.until

pub record GrantFits (g : Granted) : Type 0 where
  pub number : IsNumber g.number
  pub caller : IsTrue (is_name g.caller)
  pub until : IsDay g.until

pub record RowsFit (r : Rows) : Type 0 where
  pub granted : IsCount r.granted
  pub created : IsCount r.created
  pub grants : All GrantFits r.grants
  pub auths : All AuthFits r.auths

abbrev pub FitIfAny : Option Rows → Type 0
FitIfAny None = Unit {0}
FitIfAny (Some r) = RowsFit r
