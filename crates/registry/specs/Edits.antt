-- Which authorizations an edit ends and begins, and which edits a command makes.
use Rattle.std.specs.Prelude.{◌≡◌, ℕ, ◌==◌, Bool, true, false, List, [], ◌∷◌, map, filter, Option, Some, None, if◌then◌else◌, Contains, ⊤}
use Rattle.std.specs.List.{list_any}
use Rattle.addr.specs.declared.prefix.Prefix.{Prefix}
use Rattle.registry.specs.declared.authorization.Auth.{Auth}
use Rattle.registry.specs.declared.authorization.AuthTerms.{AuthTerms}
use Rattle.registry.specs.declared.authorization.ImportRow.{ImportRow}
use Rattle.registry.specs.declared.command.Command.{Command}
use Rattle.registry.specs.declared.command.Command.TheVariants.{Register, Delegate, Transfer, Reclaim, Grant, Revoke, Create, Amend, Withdraw, Import, Slurm}
use Rattle.registry.specs.declared.change.Change.{Change}
use Rattle.registry.specs.declared.change.Change.TheVariants.{Holders, Exceptions}
use Rattle.registry.specs.declared.change.Edit.{Edit}
use Rattle.registry.specs.declared.change.Edit.TheVariants.{Register as RegisterEdit, Hold, Grant as GrantEdit, Revoke as RevokeEdit, Create as CreateEdit, Import as ImportEdit, Amend as AmendEdit, Withdraw as WithdrawEdit}
use Rattle.registry.specs.declared.rows.Answers.{Answers}
use Rattle.registry.specs.declared.rows.HolderRows.{HolderRows}
use Rattle.registry.specs.Answer.{holder_of}
use Rattle.registry.specs.History.{same_name}
use Rattle.registry.specs.RoaPrefixes.{AreInNumber}
use Rattle.registry.specs.Rows.{auths_if_any}
use Rattle.registry.specs.Terms.{numbered_terms, row_terms, terms_overlap}

-- the edit takes away the authorization of this number, or puts another in its place
abbrev pub ends : Edit → ℕ → Bool
ends RegisterEdit n = true
ends (Hold removed added ended) n = list_any (λ m. n == m) ended.items
ends (AmendEdit x) n = n == x.number
ends (WithdrawEdit m) n = n == m
ends _ n = false

-- of these authorizations of the holder, those that the edit ends
abbrev pub ended : Edit → List Auth → List Auth
ended edit auths = filter (λ x. ends edit x.number) auths

-- the authorizations that the edit puts, where the holder has these; that of an amendment only where one has its number
abbrev pub begun : Edit → List Auth → List Auth
begun (CreateEdit x) auths = x ∷ []
begun (ImportEdit more created) auths = more.items
begun (AmendEdit x) auths = if list_any (λ y. y.number == x.number) auths then x ∷ [] else []
begun _ auths = []

-- the edit exchanges runs of addresses
abbrev pub IsHold : Edit → Type 0
IsHold (Hold removed added ended) = Unit {0}
IsHold _ = ⊥

-- and ends no authorization
abbrev pub IsHoldEndingNone : Edit → Type 0
IsHoldEndingNone (Hold removed added ended) = ended.items ≡ []
IsHoldEndingNone _ = ⊥

-- the authorization has these terms, whatever its number
abbrev pub IsOfTerms : AuthTerms → Auth → Type 0
IsOfTerms t x = x ≡ numbered_terms t x.number

-- each of the authorizations has the terms of one of the rows
abbrev pub AreOfRows : List ImportRow → List Auth → Type 0
AreOfRows rows auths =
    (x : Auth) → Contains auths x → (r : ImportRow) × Contains rows r × IsOfTerms (row_terms r) x

-- the edit puts any number of authorizations, each of the terms of one of the rows
abbrev pub IsImportOf : List ImportRow → Edit → Type 0
IsImportOf rows (ImportEdit auths created) = AreOfRows rows auths.items
IsImportOf rows _ = ⊥

-- The edit is one that the command makes of its one holder's rows; a transfer and SLURM files make none. A create
-- puts an authorization of its terms, an amend one with its last day and number, and an import any of those of its rows.
abbrev pub IsEditOf : Command → Edit → Type 0
IsEditOf (Register holder) edit = edit ≡ RegisterEdit
IsEditOf (Delegate holder p) edit = IsHoldEndingNone edit
IsEditOf (Reclaim holder p) edit = IsHold edit
IsEditOf (Grant holder terms) (GrantEdit g) = Unit {0}
IsEditOf (Revoke holder n) edit = edit ≡ RevokeEdit n
IsEditOf (Create holder terms) (CreateEdit x) = IsOfTerms terms x
IsEditOf (Amend holder n maxes until) (AmendEdit x) = (x.until ≡ until) × (x.number ≡ n)
IsEditOf (Withdraw holder n) edit = edit ≡ WithdrawEdit n
IsEditOf (Import holder rows) edit = IsImportOf rows.items edit
IsEditOf _ _ = ⊥

-- The change has the edits of the command and no others: of a transfer that of the giver and that of another taker,
-- of whom no authorization ends; of SLURM files none; and of any other command one.
abbrev pub HasEditsOf : Command → Change → Type 0
HasEditsOf (Transfer p giver taker) (Holders first (Some second)) =
    (first.holder ≡ giver) × IsHold first.edit × (second.holder ≡ taker) × IsHoldEndingNone second.edit
    × (same_name giver taker ≡ false)
HasEditsOf (Slurm files) (Exceptions more) = more ≡ files
HasEditsOf command (Holders first None) = (holder_of command ≡ Some first.holder) × IsEditOf command first.edit
HasEditsOf _ _ = ⊥

-- the edit exchanges runs of addresses, and ends the authorizations of these numbers
abbrev pub IsHoldEnding : List ℕ → Edit → Type 0
IsHoldEnding numbers (Hold removed added ended) = ended.items ≡ numbers
IsHoldEnding numbers _ = ⊥

-- the first edit of the change ends, of these authorizations, those that share an address with the prefix
abbrev pub EndsOverlapping : Prefix → List Auth → Change → Type 0
EndsOverlapping p auths (Holders first second) =
    IsHoldEnding (map (λ x. x.number) (filter (λ x. terms_overlap x p) auths)) first.edit
EndsOverlapping p auths (Exceptions files) = ⊥

-- what is known of the rows and answers that a command was judged on, and of its change, where no rule denies it
abbrev pub AreRuled : Command → Option HolderRows → Answers → Change → Type 0
AreRuled (Register holder) rows answers change = rows ≡ None
AreRuled (Transfer p giver taker) rows answers change = EndsOverlapping p (auths_if_any rows) change
AreRuled (Reclaim holder p) rows answers change = EndsOverlapping p (auths_if_any rows) change
AreRuled (Create holder terms) rows answers change = (answers.holds ≡ true) × AreInNumber terms.entries
AreRuled _ rows answers change = ⊤
