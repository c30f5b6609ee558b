-- Which request a line is: the values that its members read as.
use Rattle.std.specs.Prelude.{◌≡◌, ◌⊎◌, ℕ, List, [], ◌∷◌, IsPermutation, codes, Option, Some, option_and_then}
use Rattle.std.specs.List.{AllZip}
use Rattle.addr.specs.declared.prefix.Prefix.{Prefix}
use Rattle.addr.specs.declared.route.Route.{Route}
use Rattle.registry.specs.declared.authorization.AuthTerms.{AuthTerms}
use Rattle.registry.specs.declared.authorization.ImportRow.{ImportRow}
use Rattle.addr.specs.declared.roa_prefix.RoaPrefix.{RoaPrefix}
use Rattle.registry.specs.RoaPrefixes.{Rise}
use Rattle.registry.specs.declared.command.Command.{Command}
use Rattle.registry.specs.declared.command.Command.TheVariants.{Register, Delegate, Transfer, Reclaim, Grant, Revoke, Create, Amend, Withdraw, Import, Slurm}
use Rattle.registry.specs.declared.command.Proposed.{Proposed}
use Rattle.registry.specs.declared.command.Proposed.TheVariants.{Create as CreateChange, Withdraw as WithdrawChange}
use Rattle.registry.specs.declared.command.Query.{Query}
use Rattle.registry.specs.declared.command.Query.TheVariants.{Show, Content, List as ListQuery, Payloads, Validity, WhatIf}
use Rattle.registry.specs.declared.grant.GrantTerms.{GrantTerms}
use Rattle.serde_json.specs.Data.{Data, Items}
use Rattle.serde_json.specs.Find.{get, as_array}
use Rattle.json_values.specs.Tree.{tree_of, list_of}
use Rattle.slurm.specs.Exceptions.{Exceptions}
use Rattle.slurm.specs.SlurmEntries.{SaysExceptions}
use Rattle.slurm.specs.SlurmSets.{RiseByName}
use Rattle.slurm.specs.declared.set.NamedSlurm.{NamedSlurm}
use Rattle.csv_records.specs.Imports.{IsImportText}
use Rattle.registry.specs.declared.asked.Asked.{Asked}
use Rattle.registry.specs.declared.asked.Request.{Request}
use Rattle.registry.specs.declared.asked.Request.TheVariants.{Command as CommandRequest, Query as QueryRequest}
use Rattle.requests.specs.RequestFaults.{action_in, request_faults, role_at}
use Rattle.json_values.specs.Values.{as_name, as_prefix, as_day, as_asn}
use Rattle.requests.specs.RequestValues.{as_origin, as_max, as_number, as_role, as_scope}
use Rattle.requests.specs.declared.action.Action.{Action}
use Rattle.requests.specs.declared.action.Action.TheVariants.{Register as AskRegister, Delegate as AskDelegate, Transfer as AskTransfer, Reclaim as AskReclaim, Grant as AskGrant, Revoke as AskRevoke, Create as AskCreate, Amend as AskAmend, Withdraw as AskWithdraw, Slurm as AskSlurm, Slurms as AskSlurms, Show as AskShow, Content as AskContent, List as AskList, Export as AskExport, Import as AskImport, WhatIf as AskWhatIf, Payloads as AskPayloads, Validity as AskValidity}

-- the member of this name is there, and reads as this value
abbrev pub HasMember : {A : Type 0} → (Data → Option A) → List ℕ → Data → A → Type 0
HasMember reading name d value = option_and_then reading (get name d) ≡ Some value

abbrev pub HasName : List ℕ → Data → List ℕ → Type 0
HasName = HasMember as_name

abbrev pub HasPrefix : Data → Prefix → Type 0
HasPrefix = HasMember as_prefix (codes "prefix")

abbrev pub HasMax : Data → ℕ → Type 0
HasMax = HasMember as_max (codes "max")

abbrev pub HasDay : List ℕ → Data → ℕ → Type 0
HasDay = HasMember as_day

abbrev pub SaysRoute : Data → Route → Type 0
SaysRoute d route = HasPrefix d route.prefix × HasMember as_origin (codes "origin") d route.origin

-- a row of an import
abbrev pub HasRow : Data → ImportRow → Type 0
HasRow d row =
    HasMember as_asn (codes "asn") d row.asn × HasPrefix d row.prefix × HasMax d row.max
    × HasDay (codes "from") d row.from × HasDay (codes "until") d row.until

-- a member is an array, of which each item says one of these values
abbrev pub HasItems : {A : Type 0} → (Data → A → Type 0) → Option Data → List A → Type 0
HasItems Says member values = (items : Items)
    × (option_and_then as_array member ≡ Some items)
    × AllZip Says (list_of items) values

-- an entry: a prefix with its maxLength
abbrev pub HasEntry : Data → RoaPrefix → Type 0
HasEntry d entry = HasPrefix d entry.prefix × HasMax d entry.max

-- the members of one entry
abbrev pub HasEntryMembers : Data → List RoaPrefix → Type 0
HasEntryMembers d entries = (entry : RoaPrefix) × HasEntry d entry × (entries ≡ entry ∷ [])

-- a list of these entries, in any order
abbrev pub HasEntryList : Option Data → List RoaPrefix → Type 0
HasEntryList member entries = (listed : List RoaPrefix)
    × HasItems HasEntry member listed × IsPermutation listed entries × Rise entries

-- the entries of a create: one, or a list
abbrev pub HasEntries : Data → List RoaPrefix → Type 0
HasEntries d entries = HasEntryMembers d entries ⊎ HasEntryList (get (codes "entries") d) entries

-- the member of one maxLength
abbrev pub HasOneMax : Data → List ℕ → Type 0
HasOneMax d maxes = (max : ℕ) × HasMax d max × (maxes ≡ max ∷ [])

-- the maxLengths of an amendment, in the order of the entries: one, or a list
abbrev pub HasMaxes : Data → List ℕ → Type 0
HasMaxes d maxes =
    HasOneMax d maxes ⊎ HasItems (λ value max. as_max value ≡ Some max) (get (codes "maxes") d) maxes

-- what a grant gives, and to whom
abbrev pub HasGrantTerms : Data → GrantTerms → Type 0
HasGrantTerms d terms =
    HasName (codes "name") d terms.to × HasMember as_role (codes "role") d terms.role
    × HasMember (as_scope (role_at d)) (codes "scope") d terms.scope × HasDay (codes "until") d terms.until

-- what a create is to authorize
abbrev pub HasTerms : Data → AuthTerms → Type 0
HasTerms d terms =
    HasMember as_asn (codes "asn") d terms.asn × HasEntries d terms.entries
    × HasDay (codes "from") d terms.from × HasDay (codes "until") d terms.until

abbrev pub SaysChange : Data → Proposed → Type 0
SaysChange d (CreateChange terms) = (action_in d ≡ Some AskCreate) × HasTerms d terms
SaysChange d (WithdrawChange number) =
    (action_in d ≡ Some AskWithdraw) × HasMember as_number (codes "number") d number

abbrev pub HasRoutes : Data → List Route → Type 0
HasRoutes d = HasItems SaysRoute (get (codes "routes") d)

-- the set of one SLURM file, which is named `main`
abbrev pub main_alone : Exceptions → List NamedSlurm
main_alone file = record { name = codes "main"; file = file } ∷ []

-- one SLURM file
abbrev pub HasMainFile : Option Data → List NamedSlurm → Type 0
HasMainFile found files =
    (file : Exceptions) × SaysExceptions found file × (files ≡ main_alone file)

-- a SLURM file and its name
abbrev pub HasFile : Data → NamedSlurm → Type 0
HasFile d named =
    HasName (codes "name") d named.name × SaysExceptions (get (codes "file") d) named.file

-- a list of these files, in any order
abbrev pub HasFileList : Option Data → List NamedSlurm → Type 0
HasFileList member files = (listed : List NamedSlurm)
    × HasItems HasFile member listed × IsPermutation listed files × RiseByName files

-- the rows of an import: a member of JSON, or a CSV text
pub data RowsBrought : Type 0 where
  in_member : Option Data → RowsBrought
  in_text : List ℕ → RowsBrought

abbrev pub SaysRows : RowsBrought → List ImportRow → Type 0
SaysRows (in_member member) rows = HasItems HasRow member rows
SaysRows (in_text text) rows = IsImportText text rows

-- what a request says outside of the members that lines and bodies have in common: its action, the holder and the
-- number that it names, and the SLURM file, the list of such files or the rows that it brings
pub record Heading : Type 0 where
  pub action : Option Action
  pub holder : Option (List ℕ)
  pub number : Option ℕ
  pub file : Option Data
  pub files : Option Data
  pub rows : RowsBrought

abbrev pub Does : Action → Heading → Type 0
Does action h = h.action ≡ Some action

abbrev pub NamesHolder : Heading → List ℕ → Type 0
NamesHolder h holder = h.holder ≡ Some holder

abbrev pub NamesNumber : Heading → ℕ → Type 0
NamesNumber h number = h.number ≡ Some number

abbrev pub SaysCommand : Heading → Data → Command → Type 0
SaysCommand h d (Register holder) = Does AskRegister h × NamesHolder h holder
SaysCommand h d (Delegate holder prefix) =
    Does AskDelegate h × NamesHolder h holder × HasPrefix d prefix
SaysCommand h d (Transfer prefix giver taker) =
    Does AskTransfer h × HasPrefix d prefix
    × HasName (codes "giver") d giver × HasName (codes "taker") d taker
SaysCommand h d (Reclaim holder prefix) =
    Does AskReclaim h × NamesHolder h holder × HasPrefix d prefix
SaysCommand h d (Grant holder terms) =
    Does AskGrant h × NamesHolder h holder × HasGrantTerms d terms
SaysCommand h d (Revoke holder number) =
    Does AskRevoke h × NamesHolder h holder × NamesNumber h number
SaysCommand h d (Create holder terms) =
    Does AskCreate h × NamesHolder h holder × HasTerms d terms
SaysCommand h d (Amend holder number maxes until) =
    Does AskAmend h × NamesHolder h holder × NamesNumber h number
    × HasMaxes d maxes.items × HasDay (codes "until") d until
SaysCommand h d (Withdraw holder number) =
    Does AskWithdraw h × NamesHolder h holder × NamesNumber h number
SaysCommand h d (Import holder rows) =
    Does AskImport h × NamesHolder h holder × SaysRows h.rows rows.items
SaysCommand h d (Slurm files) =
    (Does AskSlurm h × HasMainFile h.file files)
    ⊎ ((Does AskSlurm h ⊎ Does AskSlurms h) × HasFileList h.files files)

abbrev pub SaysQuery : Heading → Data → Query → Type 0
SaysQuery h d (Show holder number) = Does AskShow h × NamesHolder h holder × NamesNumber h number
SaysQuery h d (Content holder number) =
    Does AskContent h × NamesHolder h holder × NamesNumber h number
SaysQuery h d (ListQuery holder) = (Does AskList h ⊎ Does AskExport h) × NamesHolder h holder
SaysQuery h d Payloads = Does AskPayloads h
SaysQuery h d (Validity routes) = Does AskValidity h × HasRoutes d routes.items
SaysQuery h d (WhatIf holder changes routes) =
    Does AskWhatIf h × NamesHolder h holder
    × HasItems SaysChange (get (codes "changes") d) changes.items × HasRoutes d routes.items

-- a heading and an object say this request
abbrev pub SaysRequest : Heading → Data → Request → Type 0
SaysRequest h d (CommandRequest c) = SaysCommand h d c
SaysRequest h d (QueryRequest q) = SaysQuery h d q

-- a line has members for all of that
abbrev pub line_heading : Data → Heading
line_heading d = record {
  action = action_in d;
  holder = option_and_then as_name (get (codes "holder") d);
  number = option_and_then as_number (get (codes "number") d);
  file = get (codes "file") d;
  files = get (codes "files") d;
  rows = in_member (get (codes "rows") d);
}

-- the line is this request, and has no fault
pub record ReadsLine (line : List ℕ) (asked : Asked) : Type 0 where
  pub tree : Data
  pub is_json : tree_of line ≡ Some tree
  pub day : HasDay (codes "day") tree asked.day
  pub caller : HasName (codes "caller") tree asked.caller
  pub request : SaysRequest (line_heading tree) tree asked.request
  pub faultless : request_faults line ≡ []
