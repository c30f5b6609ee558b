-- What is loaded of the rows that the tables hold.
use Rattle.std.specs.Prelude.{◌≡◌, ◌≤◌, ◌==◌, ◌&&◌, ◌↔◌, ℕ, Bool, true, false, not, nat_le, List, map, filter, flat_map, length, Option, Some, None, is_some, option_map, Contains, IfSome, IsSomeAnd, IsPermutation, IsSortedByKey, IsTrue, Result, Err, IfOk, ⊤}
use Rattle.std.specs.List.{list_any}
use Rattle.std.specs.Ordering.{nat_cmp}
use Rattle.sqlite.specs.Held.{Held, state}
use Rattle.sqlite.specs.State.{State}
use Rattle.sqlite.specs.Store.{Ghosts}
use Rattle.addr.specs.Address.{Address, last_of}
use Rattle.addr.specs.Family.{family_eq}
use Rattle.addr.specs.Spans.{span_has, span_meets, spans_have, AreApart, AreMaximal}
use Rattle.addr.specs.declared.asn.Asn.{Asn}
use Rattle.addr.specs.declared.prefix.Prefix.{Prefix}
use Rattle.addr.specs.declared.span.Span.{Span}
use Rattle.addr.specs.declared.vrp.Vrp.{Vrp}
use Rattle.registry.specs.CharterSets.{CharterSets}
use Rattle.registry.specs.declared.authorization.Auth.{Auth}
use Rattle.registry.specs.declared.authorization.AuthTerms.{AuthTerms}
use Rattle.addr.specs.declared.roa_prefix.RoaPrefix.{RoaPrefix}
use Rattle.registry.specs.declared.command.Command.{Command}
use Rattle.registry.specs.declared.command.Command.TheVariants.{Register, Delegate, Transfer, Reclaim, Grant, Revoke, Create, Amend, Withdraw, Import, Slurm}
use Rattle.registry.specs.declared.grant.Granted.{Granted}
use Rattle.registry.specs.declared.limits.TheConstants.{MOST_AUTHORIZATIONS}
use Rattle.registry.specs.declared.rows.Answers.{Answers}
use Rattle.registry.specs.declared.rows.HolderRows.{HolderRows}
use Rattle.registry.specs.RoaPrefixes.{with_maxes}
use Rattle.registry.specs.Rows.{Rows, grants_if_any, auths_if_any}
use Rattle.registry.specs.RowsOfAll.{AllRows}
use Rattle.addr.specs.VrpParts.{IsVrpOfEntry, is_entry}
use Rattle.registry.specs.Terms.{entries_have, gives_some, terms_overlap}
use Rattle.registry.specs.Values.{FitIfAny, VrpFits}
use Rattle.registry.specs.Verdict.{auth_of_number, maxes_fit}
use Rattle.slurm.specs.Exceptions.{Exceptions}
use Rattle.slurm.specs.declared.set.NamedSlurm.{NamedSlurm}
use Rattle.store_tables.specs.Authorizations.{entry_rows_of}
use Rattle.store_tables.specs.TablesHold.{items_if_any, TablesHold}
use Rattle.store_tables.specs.declared.entry.EntryRow.{EntryRow}
use Rattle.store_transactions.specs.Queries.{IsClean}
use Rattle.store_transactions.specs.declared.fault.StoreFault.{StoreFault}
use Rattle.store_transactions.specs.declared.fault.StoreFault.TheVariants.{Schema}
use Rattle.store_read.specs.declared.answers.Loaded.{Loaded}

-- this holds for all rows, and for those of one holder, whatever charter and rows the tables hold
abbrev pub EachRows : (AllRows → Type 0) → State → Type 0
EachRows so s =
    (charter : CharterSets) (rows : AllRows)
    → TablesHold charter rows s.now.trees → so rows

abbrev pub EachRowsOf : (Option Rows → Type 0) → List ℕ → State → Type 0
EachRowsOf so h s = EachRows (λ rows. so (rows.of_holder h)) s

-- the database could be read, and this holds for all rows
abbrev pub OpenEachRows : (AllRows → Type 0) → State → Type 0
OpenEachRows so s = IsTrue s.is_open × EachRows so s

-- ---- what a read says, where the disk returned what was written

-- what it answers is so of all rows, and of those of the holder
abbrev pub Finds : {S X E : Type 0} → Ghosts S → Held S → Held S → Result X E → (AllRows → X → Type 0) → Type 0
Finds g old new result so = IsClean g new → IfOk result (λ x. EachRows (λ rows. so rows x) (state g old))

abbrev pub FindsOf : {S X E : Type 0} → Ghosts S → Held S → Held S → List ℕ → Result X E → (Option Rows → X → Type 0) → Type 0
FindsOf g old new h result so = IsClean g new → IfOk result (λ x. EachRowsOf (λ rows. so rows x) h (state g old))

-- where it answers fault `Schema`, the database could be read and this holds for all rows
abbrev pub Refuses : {S X : Type 0} → Ghosts S → Held S → Held S → Result X StoreFault → (AllRows → Type 0) → Type 0
Refuses g old new result so = IsClean g new → result ≡ Err Schema → OpenEachRows so (state g old)

-- and there the rows of the holder do not fit
abbrev pub RefusesUnfit : {S X : Type 0} → Ghosts S → Held S → Held S → List ℕ → Result X StoreFault → Type 0
RefusesUnfit g old new h result = Refuses g old new result (λ all. ¬ FitIfAny (all.of_holder h))

-- ---- what is loaded

-- the same items, by rising number
abbrev pub AreInOrder : {X : Type 0} → (X → ℕ) → List X → List X → Type 0
AreInOrder number xs ys = IsPermutation xs ys × IsSortedByKey number nat_cmp ys

-- the runs have the same addresses
abbrev pub HaveSame : List Span → List Span → Type 0
HaveSame spans other = (a : Address) → spans_have other a ≡ spans_have spans a

-- The rows of a holder as they are loaded: its addresses as maximal runs, its grants and its
-- authorizations by rising number, and its counters.
pub record IsLoaded (r : Rows) (loaded : HolderRows) : Type 0 where
  pub maximal : AreMaximal loaded.holdings
  pub holdings : HaveSame r.holdings loaded.holdings
  pub grants : AreInOrder (λ (g : Granted). g.number) r.grants loaded.grants.items
  pub auths : AreInOrder (λ (x : Auth). x.number) r.auths loaded.auths.items
  pub granted : loaded.granted ≡ r.granted
  pub created : loaded.created ≡ r.created

abbrev pub AreLoaded : Option Rows → Option HolderRows → Type 0
AreLoaded None None = ⊤
AreLoaded None (Some loaded) = ⊥
AreLoaded (Some r) None = ⊥
AreLoaded (Some r) (Some loaded) = IsLoaded r loaded

-- the addresses of a holder, as rows exactly where it is registered
pub record AreHoldings (rows : Option Rows) (part : Option HolderRows) : Type 0 where
  pub registered : is_some part ≡ is_some rows
  pub runs : IfSome part (λ p. HaveSame (items_if_any (λ r. r.holdings) rows) p.holdings)

-- the authorizations of a holder; none where it is not registered
abbrev pub auths_held : Option Rows → List Auth
auths_held rows = items_if_any (λ r. r.auths) rows

-- the grants of a holder that are not revoked, by rising number; none where it is not registered
abbrev pub AreGrants : Option Rows → List Granted → Type 0
AreGrants rows grants = AreInOrder (λ (g : Granted). g.number) (items_if_any (λ r. r.grants) rows) grants

-- what is loaded of a holder and a number: the grants, and the authorizations of that number, each by rising number
pub record AreNumbered (n : ℕ) (rows : Option Rows) (part : HolderRows) : Type 0 where
  pub grants : AreGrants rows part.grants.items
  pub auths : AreInOrder (λ (x : Auth). x.number) (filter (λ x. x.number == n) (auths_held rows)) part.auths.items

-- what is loaded of a holder for a list: the grants and the authorizations, each by rising number
pub record AreListed (rows : Option Rows) (part : HolderRows) : Type 0 where
  pub grants : AreGrants rows part.grants.items
  pub auths : AreInOrder (λ (x : Auth). x.number) (auths_held rows) part.auths.items

-- what is loaded of a holder and its counters: the grants, by rising number, and the counters, as rows exactly where it is
-- registered
pub record AreCounted (rows : Option Rows) (part : Option HolderRows) : Type 0 where
  pub grants : AreGrants rows (grants_if_any part)
  pub granted : option_map (λ (p : HolderRows). p.granted) part ≡ option_map (λ (r : Rows). r.granted) rows
  pub created : option_map (λ (p : HolderRows). p.created) part ≡ option_map (λ (r : Rows). r.created) rows

-- ---- the runs of all holders

-- a run of the holder
abbrev pub HasRun : AllRows → List ℕ → Span → Type 0
HasRun rows h s = (r : Rows) × (rows.of_holder h ≡ Some r) × Contains r.holdings s

-- the runs of each holder are apart, and no address is in runs of two holders
pub record AreRunsApart (rows : AllRows) : Type 0 where
  pub each : (h : List ℕ) (r : Rows) → rows.of_holder h ≡ Some r → AreApart r.holdings
  pub once :
      (h k : List ℕ) (s t : Span) (a : Address) → HasRun rows h s → HasRun rows k t
      → span_has s a ≡ true → span_has t a ≡ true → h ≡ k

-- an address of the prefix is in a run of some holder
abbrev pub MeetsSome : AllRows → Prefix → Type 0
MeetsSome rows p =
    (h : List ℕ) × (r : Rows)
    × (rows.of_holder h ≡ Some r) × (list_any (λ s. span_meets s p) r.holdings ≡ true)

-- The answer is yes only if it is so; and if runs are apart, it is yes whenever it is so.
abbrev pub IsToldWhereApart : AllRows → Bool → Type 0 → Type 0
IsToldWhereApart rows told so = (IsTrue told → so) × (AreRunsApart rows → so → IsTrue told)

-- ---- what commands are judged on

-- the number is not the one that is left out, if there is one
abbrev pub is_other : Option ℕ → ℕ → Bool
is_other None m = true
is_other (Some n) m = not (m == n)

-- an authorization, except the one of the number, gives the AS with an entry of the list
abbrev pub some_gives : Option ℕ → Asn → List RoaPrefix → List Auth → Bool
some_gives but asn es auths = list_any (λ y. is_other but y.number && gives_some y asn es) auths

-- the entry of a row gives the AS with this prefix and maxLength
abbrev pub gives_entry : Asn → RoaPrefix → EntryRow → Bool
gives_entry asn e r = (r.asn.0 == asn.0) && is_entry e.prefix e.max r.entry

-- the entries of a holder's authorizations that give it so
abbrev pub entries_given : Asn → RoaPrefix → Rows → List EntryRow
entries_given asn e r = filter (gives_entry asn e) (flat_map entry_rows_of r.auths)

-- the entry of a row begins at or before the last address of the prefix, in its family
abbrev pub begins_up_to : Prefix → EntryRow → Bool
begins_up_to p r = family_eq r.entry.prefix.family p.family && nat_le r.entry.prefix.first (last_of p)

-- the entries of a holder's authorizations that do
abbrev pub entries_up_to : Prefix → Rows → List EntryRow
entries_up_to p r = filter (begins_up_to p) (flat_map entry_rows_of r.auths)

-- every address of the entries lies in one of the runs
abbrev pub AreHeld : List Span → List RoaPrefix → Type 0
AreHeld spans es = (a : Address) → entries_have es a ≡ true → spans_have spans a ≡ true

-- how many authorizations were made at a holder; 0 where it is not registered
abbrev pub created_if_any : Option Rows → ℕ
created_if_any None = 0
created_if_any (Some r) = r.created

-- The answers for a create of the terms at a holder. Whether they are given is answered only if they are held, and
-- whether the holder has as many authorizations as it may have only if they are also not given.
pub record AreAnswers (terms : AuthTerms) (rows : AllRows) (h : List ℕ) (answers : Answers) : Type 0 where
  pub created : answers.created ≡ created_if_any (rows.of_holder h)
  pub holds : IsToldWhereApart rows answers.holds (AreHeld (items_if_any (λ r. r.holdings) (rows.of_holder h)) terms.entries)
  pub gives : IsTrue answers.holds → answers.gives ≡ some_gives None terms.asn terms.entries (auths_held (rows.of_holder h))
  pub is_full :
      IsTrue answers.holds → answers.gives ≡ false
      → answers.is_full
      ≡ (nat_le MOST_AUTHORIZATIONS (created_if_any (rows.of_holder h)) && nat_le MOST_AUTHORIZATIONS (length (auths_held (rows.of_holder h))))

-- What is loaded for a delegation of the prefix: the addresses of the holder, and, if runs are apart, whether an address of
-- the prefix is in a run of some holder.
pub record IsForDelegate (h : List ℕ) (p : Prefix) (rows : AllRows) (loaded : Loaded) : Type 0 where
  pub holdings : AreHoldings (rows.of_holder h) loaded.rows
  pub taken : AreRunsApart rows → (IsTrue loaded.answers.taken ↔ MeetsSome rows p)

-- what is loaded of a holder for a create of the terms: the grants, by rising number, the counters, and those answers
pub record IsForCreate (h : List ℕ) (terms : AuthTerms) (rows : AllRows) (loaded : Loaded) : Type 0 where
  pub counted : AreCounted (rows.of_holder h) loaded.rows
  pub answers : AreAnswers terms rows h loaded.answers

-- What is loaded of a holder for an amendment to these maxLengths: what is loaded of the number, and where they fit its
-- authorization, whether another one gives the AS with an entry of it that has its new maxLength.
pub record IsForAmend (n : ℕ) (maxes : List ℕ) (rows : Option Rows) (loaded : Loaded) : Type 0 where
  pub numbered : IsSomeAnd loaded.rows (AreNumbered n rows)
  pub shared :
      IfSome (auth_of_number n (auths_if_any loaded.rows)) (λ x. maxes_fit maxes x.entries ≡ true
      → loaded.answers.gives ≡ some_gives (Some n) x.asn (with_maxes maxes x.entries) (auths_held rows))

-- Of a holder's authorizations those that share an address with the prefix are loaded, by rising number; no other one has
-- the number of one of these.
pub record AreOverlapping (p : Prefix) (auths loaded : List Auth) : Type 0 where
  pub order : AreInOrder (λ (x : Auth). x.number) (filter (λ x. terms_overlap x p) auths) loaded
  pub once : (x y : Auth) → Contains auths x → Contains loaded y → x.number ≡ y.number → x ≡ y

-- what is loaded of a holder that loses the prefix: its addresses, and those authorizations
pub record IsForLoss (p : Prefix) (rows : Option Rows) (part : Option HolderRows) : Type 0 where
  pub holdings : AreHoldings rows part
  pub auths : AreOverlapping p (auths_held rows) (auths_if_any part)

-- what is loaded for a command
abbrev pub IsLoadedFor : Command → AllRows → Loaded → Type 0
IsLoadedFor (Register h) rows loaded = AreCounted (rows.of_holder h) loaded.rows
IsLoadedFor (Delegate h p) rows loaded = IsForDelegate h p rows loaded
IsLoadedFor (Transfer p giver taker) rows loaded =
    IsForLoss p (rows.of_holder giver) loaded.rows × AreHoldings (rows.of_holder taker) loaded.taker
IsLoadedFor (Reclaim h p) rows loaded = IsForLoss p (rows.of_holder h) loaded.rows
IsLoadedFor (Grant h terms) rows loaded = AreCounted (rows.of_holder h) loaded.rows
IsLoadedFor (Revoke h n) rows loaded = AreCounted (rows.of_holder h) loaded.rows
IsLoadedFor (Create h terms) rows loaded = IsForCreate h terms rows loaded
IsLoadedFor (Amend h n maxes until) rows loaded = IsForAmend n maxes.items (rows.of_holder h) loaded
IsLoadedFor (Withdraw h n) rows loaded = IsSomeAnd loaded.rows (AreNumbered n (rows.of_holder h))
IsLoadedFor (Import h listed) rows loaded = AreLoaded (rows.of_holder h) loaded.rows
IsLoadedFor (Slurm files) rows loaded = ⊤

-- the SLURM files that are loaded, each without its name, by rising name
abbrev pub AreFilesOf : List NamedSlurm → List Exceptions → Type 0
AreFilesOf held files = files ≡ map (λ (f : NamedSlurm). f.file) held

-- each entry of each authorization that is in force on the day gives a VRP
abbrev pub AllGiveOn : AllRows → ℕ → Type 0
AllGiveOn rows day =
    (h : List ℕ) (r : Rows) (x : Auth) (e : RoaPrefix)
    → rows.of_holder h ≡ Some r → Contains r.auths x → Contains x.entries e → x.from ≤ day → day ≤ x.until
    → (v : Vrp) × IsVrpOfEntry e x.asn v × VrpFits v
