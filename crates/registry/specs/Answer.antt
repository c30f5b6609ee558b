-- What the rules answer, for the rows of a history.
use Rattle.std.specs.Prelude.{◌≡◌, ℕ, ◌+◌, ◌<◌, ◌==◌, ◌&&◌, ◌↔◌, ⊤, Bool, true, false, IsTrue, List, ◌∷◌, Option, Some, None, is_some, option_map, Result, Ok, Err, not, MatchBool, IfSome, IsSomeAnd, length, filter}
use Rattle.std.specs.List.{list_all, list_any}
use Rattle.addr.specs.Address.{Address}
use Rattle.addr.specs.Spans.{is_one_of, spans_have}
use Rattle.addr.specs.declared.prefix.Prefix.{Prefix}
use Rattle.addr.specs.declared.span.Span.{Span}
use Rattle.registry.specs.declared.authorization.Auth.{Auth}
use Rattle.registry.specs.declared.authorization.AuthTerms.{AuthTerms}
use Rattle.registry.specs.declared.limits.TheConstants.{MOST_AUTHORIZATIONS}
use Rattle.registry.specs.declared.rows.Answers.{Answers}
use Rattle.registry.specs.declared.charter.Charter.{Charter}
use Rattle.registry.specs.declared.command.Command.{Command}
use Rattle.registry.specs.declared.command.Command.TheVariants.{Register, Delegate, Transfer, Reclaim, Grant, Revoke, Create, Amend, Withdraw, Import, Slurm}
use Rattle.registry.specs.declared.change.Change.{Change}
use Rattle.registry.specs.declared.change.Change.TheVariants.{Holders, Exceptions}
use Rattle.registry.specs.declared.change.Edit.{Edit}
use Rattle.registry.specs.declared.change.Edit.TheVariants.{Hold, Grant as GrantEdit, Create as CreateEdit, Import as ImportEdit}
use Rattle.registry.specs.declared.grant.Access.TheVariants.{Look}
use Rattle.registry.specs.declared.grant.Granted.{Granted}
use Rattle.registry.specs.declared.command.Proposed.{Proposed}
use Rattle.registry.specs.declared.rows.HolderRows.{HolderRows}
use Rattle.registry.specs.declared.rows.View.{View}
use Rattle.registry.specs.declared.rule.Refusal.{Refusal}
use Rattle.registry.specs.declared.rule.Rule.{Rule}
use Rattle.registry.specs.declared.rule.Refusal.TheVariants.{Denied, Memory}
use Rattle.registry.specs.History.{History, is_registered}
use Rattle.registry.specs.HypotheticalHistory.{HypotheticalHistory, IsChangeDenied}
use Rattle.registry.specs.Import.{ImportGrows, IsImportDenied}
use Rattle.registry.specs.Resources.{resource_holder, is_held_by, IsFree}
use Rattle.registry.specs.RoaPrefixes.{with_maxes}
use Rattle.registry.specs.Terms.{AreActive, HoldsEntries, gives_some, share_vrp, terms_overlap, grant_terms, grants_made, authorizations_made, OfActive}
use Rattle.registry.specs.Permission.{is_permitted_terms}
use Rattle.registry.specs.Verdict.{Verdict, ShowVerdict, ListVerdict, IsLegal, auth_of_number, maxes_fit}
use Rattle.registry.specs.Rows.{Rows, rows_of, rows_if_any, grants_if_any, auths_if_any, RowsOf, RowsIfAny, Carries}

abbrev pub is_transfer : Command → Bool
is_transfer (Transfer p giver taker) = true
is_transfer _ = false

-- the holder that the command names: for a transfer the giver, and for SLURM files none
abbrev pub holder_of : Command → Option (List ℕ)
holder_of (Register holder) = Some holder
holder_of (Delegate holder p) = Some holder
holder_of (Transfer p giver taker) = Some giver
holder_of (Reclaim holder p) = Some holder
holder_of (Grant holder terms) = Some holder
holder_of (Revoke holder n) = Some holder
holder_of (Create holder terms) = Some holder
holder_of (Amend holder n maxes until) = Some holder
holder_of (Withdraw holder n) = Some holder
holder_of (Import holder rows) = Some holder
holder_of (Slurm files) = None

-- the taker of a transfer; for another command its holder
abbrev pub taker_of : Command → Option (List ℕ)
taker_of (Transfer p giver taker) = Some taker
taker_of command = holder_of command

-- the number that the new grant or authorization gets; other commands answer none
abbrev pub number_given : History → Command → Option ℕ
number_given history (Grant holder terms) = Some (grants_made history holder + 1)
number_given history (Create holder terms) = Some (authorizations_made history holder + 1)
number_given history _ = None

-- the number of the grant or authorization that an edit makes
abbrev pub edit_number : Edit → Option ℕ
edit_number (GrantEdit g) = Some g.number
edit_number (CreateEdit x) = Some x.number
edit_number _ = None

-- the same of a change
abbrev pub number_made : Change → Option ℕ
number_made (Holders first second) = edit_number first.edit
number_made (Exceptions files) = None

-- how many authorizations an import's edit makes
abbrev pub edit_imported : Edit → ℕ
edit_imported (ImportEdit auths created) = length auths.items
edit_imported _ = 0

-- the same of a change
abbrev pub imported : Change → ℕ
imported (Holders first second) = edit_imported first.edit
imported (Exceptions files) = 0

-- no run of addresses that an edit puts is one that it deletes
abbrev pub PutsNoneBack : Edit → Type 0
PutsNoneBack (Hold removed added ended) = list_all (λ s. not (is_one_of removed.items s)) added.items ≡ true
PutsNoneBack _ = Unit {0}

-- no edit of a change does
abbrev pub IsSparing : Change → Type 0
IsSparing (Holders first second) = PutsNoneBack first.edit × IfSome second (λ c. PutsNoneBack c.edit)
IsSparing (Exceptions files) = Unit {0}

-- `taken` is true exactly where some address of a delegation's prefix has a resource holder; for any
-- other command it may be either
abbrev pub ReportsTaken : History → Command → Bool → Type 0
ReportsTaken history (Delegate holder p) taken = MatchBool taken (IsFree history p → ⊥) (IsFree history p)
ReportsTaken history _ taken = Unit {0}

-- the rows are those of the holder, where one is named
abbrev pub RowsOfNamed : History → Option (List ℕ) → Option Rows → Type 0
RowsOfNamed history holder rows = IfSome holder (λ h. RowsIfAny history h rows)

-- what a command is judged on is that of the history
pub record IsViewOf (history : History) (command : Command) (view : View) : Type 0 where
  pub rows : RowsOfNamed history (holder_of command) (rows_if_any view.holder)
  pub taken : ReportsTaken history command view.taken

-- a change is of holders that the command names, or puts the SLURM files that it brings
abbrev pub IsOfCommand : Command → Change → Type 0
IsOfCommand command (Holders first second) =
    (holder_of command ≡ Some first.holder) × IfSome second (λ c. taker_of command ≡ Some c.holder)
IsOfCommand command (Exceptions files) = command ≡ Slurm files

-- the history that an accepted command leaves: with its own entry, and after an import with those that the
-- rows make
abbrev pub Leaves : Charter → History → ℕ → List ℕ → Command → History → Type 0
Leaves charter before day caller (Import holder rows) after =
    ImportGrows charter day caller holder before rows.items after
Leaves charter before day caller command after =
    Verdict charter before day caller command None
    × (after ≡ record { day = day; caller = caller; command = command } ∷ before)

-- the rule that denies a command, and of an import the row, counted from 1
abbrev pub IsDenied : Charter → History → ℕ → List ℕ → Command → Rule → Option ℕ → Type 0
IsDenied charter history day caller (Import holder rows) rule row =
    IsSomeAnd row (λ place. IsImportDenied charter day caller holder history rows.items rule place)
IsDenied charter history day caller command rule row =
    Verdict charter history day caller command (Some rule) × (row ≡ None)

-- how many authorizations the rows of an import made, and how many of the rows were already authorized
abbrev pub AreCounts : History → Command → History → ℕ → ℕ → Type 0
AreCounts before (Import holder rows) after made present =
    (authorizations_made after holder ≡ authorizations_made before holder + made)
    × (made + present ≡ length rows.items)
AreCounts before _ after made present = ⊥

-- a change has the number that the command is given; that of an import as many authorizations as it makes
abbrev pub IsNumbered : History → Command → History → Change → Type 0
IsNumbered before (Import holder rows) after change =
    (present : ℕ) × AreCounts before (Import holder rows) after (imported change) present
IsNumbered before command after change = number_made change ≡ number_given before command

-- Accepted: the change carries all rows to the history that the command leaves. It is numbered, puts no run of
-- addresses back, and is of what the command names.
pub record IsAccepted (charter : Charter) (history : History) (day : ℕ) (caller : List ℕ)
    (command : Command) (change : Change) : Type 0 where
  pub after : History
  pub leaves : Leaves charter history day caller command after
  pub carries : Carries change history after
  pub numbered : IsNumbered history command after change
  pub sparing : IsSparing change
  pub of_command : IsOfCommand command change

-- no rule denies the command. For an import nothing is said: its rows take memory while they are judged.
abbrev pub IsDeniedByNone : Charter → History → ℕ → List ℕ → Command → Type 0
IsDeniedByNone charter history day caller (Import holder rows) = Unit {0}
IsDeniedByNone charter history day caller command = Verdict charter history day caller command None

-- denied exactly by the rules; otherwise accepted, unless an allocation failed
abbrev pub IsAnswer : Charter → History → ℕ → List ℕ → Command → Result Change Refusal → Type 0
IsAnswer charter history day caller command (Err (Denied rule row)) =
    IsDenied charter history day caller command rule row
IsAnswer charter history day caller command (Err Memory) = IsDeniedByNone charter history day caller command
IsAnswer charter history day caller command (Ok change) = IsAccepted charter history day caller command change

-- the hypothetical rows are those of the history that the changes would leave; or the rule denies the first
-- change that would be denied, and the row is its place
abbrev pub IsHypotheticalAnswer :
    Charter → History → List ℕ → ℕ → List ℕ → List Proposed → Result HolderRows Refusal → Type 0
IsHypotheticalAnswer charter history holder day caller changes (Err (Denied rule row)) =
    IsSomeAnd row (λ place. IsChangeDenied charter day caller holder history changes rule place)
IsHypotheticalAnswer charter history holder day caller changes (Err Memory) = Unit {0}
IsHypotheticalAnswer charter history holder day caller changes (Ok rows) =
    (after : History) × HypotheticalHistory charter day caller holder history changes after
    × RowsOf after holder (rows_of rows)

-- the command moves addresses, makes or changes authorizations, or brings SLURM files; no other takes memory to decide
abbrev pub takes_memory : Command → Bool
takes_memory (Delegate holder p) = true
takes_memory (Transfer p giver taker) = true
takes_memory (Reclaim holder p) = true
takes_memory (Create holder terms) = true
takes_memory (Amend holder n maxes until) = true
takes_memory (Import holder rows) = true
takes_memory (Slurm files) = true
takes_memory _ = false

-- what is shown is the active authorization of that number
abbrev pub IsShown : History → List ℕ → ℕ → List ℕ → ℕ → Auth → Type 0
IsShown history h day caller n x =
    ShowVerdict history h day caller n None × OfActive history h (λ active. auth_of_number n active ≡ Some x)

-- what a request on one authorization is judged on: the grants and the active authorization of the number are those
-- of the history
pub record AnswersNumber (history : History) (h : List ℕ) (n : ℕ) (granted : List Granted) (found : Option Auth) : Type 0 where
  pub grants : granted ≡ grant_terms history h
  pub auth : OfActive history h (λ active. auth_of_number n active ≡ found)

-- what a list is judged on: the grants and the active authorizations are those of the history
pub record ListBasis (history : History) (h : List ℕ) (granted : List Granted) (listed : List Auth) : Type 0 where
  pub grants : granted ≡ grant_terms history h
  pub auths : AreActive history h listed

-- the runs have the addresses that the holder holds, and no others
abbrev pub HasRuns : History → List ℕ → List Span → Type 0
HasRuns history h runs = (a : Address) → spans_have runs a ≡ is_held_by h (resource_holder history a)

-- what a delegation is judged on: there are runs exactly where the holder is registered, and then they have its addresses;
-- `taken` is true exactly where some address of the prefix has a resource holder
pub record AnswersDelegate (history : History) (h : List ℕ) (p : Prefix) (runs : Option (List Span)) (taken : Bool) : Type 0 where
  pub registered : is_some runs ≡ is_registered history h
  pub holdings : IfSome runs (HasRuns history h)
  pub free : MatchBool taken (IsFree history p → ⊥) (IsFree history p)

-- rows exactly where the holder is registered, and then this is so of them
abbrev pub IfRegistered : History → List ℕ → Option HolderRows → (HolderRows → Type 0) → Type 0
IfRegistered history h None so = is_registered history h ≡ false
IfRegistered history h (Some rows) so = (is_registered history h ≡ true) × so rows

-- what the loss of a prefix is judged on: the runs have the addresses of the holder, and the authorizations of the rows that
-- share an address with the prefix are the active ones that do
pub record AnswersLoss (history : History) (h : List ℕ) (p : Prefix) (rows : HolderRows) : Type 0 where
  pub holdings : HasRuns history h rows.holdings
  pub auths :
      OfActive history h (λ active. filter (λ x. terms_overlap x p) rows.auths.items ≡ filter (λ x. terms_overlap x p) active)

-- how many grants were made at the holder; none where it is not registered
abbrev pub IsMadeIfAny : History → List ℕ → Option ℕ → Type 0
IsMadeIfAny history h None = is_registered history h ≡ false
IsMadeIfAny history h (Some made) = (is_registered history h ≡ true) × (made ≡ grants_made history h)

-- what a grant is judged on: the grants and their counter are those of the history
pub record AnswersGrant (history : History) (h : List ℕ) (granted : List Granted) (made : Option ℕ) : Type 0 where
  pub grants : granted ≡ grant_terms history h
  pub counter : IsMadeIfAny history h made

-- What a create of the terms is judged on: the grants and the counter are those of the history. An answer has to be
-- right only if the answers before it deny nothing, so that it need not be looked up otherwise.
pub record AnswersCreate (history : History) (h : List ℕ) (terms : AuthTerms) (granted : List Granted) (answers : Answers) : Type 0 where
  pub grants : granted ≡ grant_terms history h
  pub created : answers.created ≡ authorizations_made history h
  pub holds : IsTrue answers.holds ↔ HoldsEntries history h terms.entries
  pub gives :
      IsTrue answers.holds
      → ((answers.gives ≡ false) ↔ OfActive history h (λ active. list_any (λ y. gives_some y terms.asn terms.entries) active ≡ false))
  pub is_full :
      IsTrue answers.holds → answers.gives ≡ false
      → ((answers.is_full ≡ false) ↔ OfActive history h (λ active. length active < MOST_AUTHORIZATIONS))

-- no active authorization of another number shares an AS, prefix and maxLength with the terms once they have these maxLengths
abbrev pub SharesWithNone : History → List ℕ → ℕ → List ℕ → Auth → Type 0
SharesWithNone history h n maxes x =
    OfActive history h (λ active. list_any (λ y. not (y.number == n) && share_vrp (record x { entries = with_maxes maxes x.entries }) y) active ≡ false)

-- what an amendment to these maxLengths is judged on; whether the amended authorization shares something has to be right
-- only where one was found that they fit
pub record AnswersAmend (history : History) (h : List ℕ) (n : ℕ) (maxes : List ℕ) (granted : List Granted) (found : Option Auth) (is_shared : Bool) : Type 0 where
  pub number : AnswersNumber history h n granted found
  pub shared : IfSome found (λ x. maxes_fit maxes x.entries ≡ true → ((is_shared ≡ false) ↔ SharesWithNone history h n maxes x))

-- What the rules of a command read is that of the history. Of the rows of the holder, and of the taker of a transfer,
-- only what these rules read has to be there.
abbrev pub AreFacts : History → Command → Option HolderRows → Option HolderRows → Answers → Type 0
AreFacts history (Register h) rows other answers = is_some rows ≡ is_registered history h
AreFacts history (Delegate h p) rows other answers =
    AnswersDelegate history h p (option_map (λ (r : HolderRows). r.holdings) rows) answers.taken
AreFacts history (Transfer p giver taker) rows other answers =
    IfRegistered history giver rows (AnswersLoss history giver p)
    × IfRegistered history taker other (λ r. HasRuns history taker r.holdings)
AreFacts history (Reclaim h p) rows other answers = IfRegistered history h rows (AnswersLoss history h p)
AreFacts history (Grant h terms) rows other answers =
    AnswersGrant history h (grants_if_any rows) (option_map (λ (r : HolderRows). r.granted) rows)
AreFacts history (Revoke h n) rows other answers = grants_if_any rows ≡ grant_terms history h
AreFacts history (Create h terms) rows other answers = AnswersCreate history h terms (grants_if_any rows) answers
AreFacts history (Amend h n maxes until) rows other answers =
    AnswersAmend history h n maxes.items (grants_if_any rows) (auth_of_number n (auths_if_any rows)) answers.gives
AreFacts history (Withdraw h n) rows other answers =
    AnswersNumber history h n (grants_if_any rows) (auth_of_number n (auths_if_any rows))
AreFacts history (Import h listed) rows other answers = RowsIfAny history h (rows_if_any rows)
AreFacts history (Slurm files) rows other answers = ⊤

-- what is listed are the active authorizations that the caller may see, by rising number
abbrev pub IsListed : History → List ℕ → ℕ → List ℕ → List Auth → Type 0
IsListed history h day caller listed =
    ListVerdict history h day caller None
    × OfActive history h (λ active. listed ≡ filter (λ x. is_permitted_terms (grant_terms history h) day caller Look x) active)

-- a list is denied exactly by the verdict; if it is not, an allocation may fail
abbrev pub IsListRefusal : History → List ℕ → ℕ → List ℕ → Refusal → Type 0
IsListRefusal history h day caller (Denied rule row) = ListVerdict history h day caller (Some rule) × (row ≡ None)
IsListRefusal history h day caller Memory = ListVerdict history h day caller None

-- a fact about every legal history, at each holder that has these rows in it
abbrev pub AtEachHolder : Charter → Option Rows → (History → List ℕ → Type 0) → Type 0
AtEachHolder charter rows fact =
    (history : History) (h : List ℕ) → IsLegal charter history → RowsIfAny history h rows → fact history h
