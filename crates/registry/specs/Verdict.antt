-- The rules of each command in their order, and the verdict: the first rule that does not hold, or
-- none where all hold.
use Rattle.std.specs.Prelude.{◌≡◌, ℕ, ◌<◌, ◌≤◌, Bool, true, false, not, ◌&&◌, ◌||◌, ◌==◌, List, [], ◌∷◌, length, Option, Some, None, find, IsSomeAnd, ◌⊎◌}
use Rattle.std.specs.List.{list_all, list_any}
use Rattle.std.specs.Cmp.Lexicographic.{pointwise}
use Rattle.addr.specs.Address.{fits_max_length}
use Rattle.registry.specs.declared.limits.TheConstants.{MOST_GRANTS, MOST_AUTHORIZATIONS, LAST_NUMBER}
use Rattle.registry.specs.declared.authorization.Auth.{Auth}
use Rattle.addr.specs.declared.roa_prefix.RoaPrefix.{RoaPrefix}
use Rattle.registry.specs.declared.charter.Charter.{Charter}
use Rattle.registry.specs.declared.command.Command.{Command}
use Rattle.registry.specs.declared.command.Command.TheVariants.{Register, Delegate, Transfer, Reclaim, Grant, Revoke, Create, Amend, Withdraw, Import, Slurm}
use Rattle.registry.specs.declared.grant.Access.{Access}
use Rattle.registry.specs.declared.grant.Access.TheVariants.{Manage, Alter, Look}
use Rattle.registry.specs.declared.rule.Rule.{Rule}
use Rattle.registry.specs.declared.rule.Rule.TheVariants.{Operator, Steward, Grant as GrantRule, Holder, Fresh, Number, Scope, Dates, Length, Pool, Free, Distinct, Held, Same, Room, Overlap}
use Rattle.slurm.specs.SlurmSets.{some_overlap}
use Rattle.registry.specs.Charter.{is_operator, pool_of}
use Rattle.registry.specs.Pool.{IsInPool}
use Rattle.registry.specs.History.{History, same_name, is_registered}
use Rattle.registry.specs.Resources.{HoldsPrefix, IsFree}
use Rattle.registry.specs.Terms.{HoldsEntries, gives_some, share_vrp, with_terms, grant_terms, grants_made, authorizations_made, OfActive}
use Rattle.registry.specs.Permission.{has_access, are_permitted, is_permitted_terms}

-- a rule before others: all hold where this one does and the others do; and the first that does not
-- hold is this one where it does not, else the first of the others
abbrev pub check : Rule → Type 0 → (Option Rule → Type 0) → Option Rule → Type 0
check rule P rest None = P × rest None
check rule P rest (Some first) = ((P → ⊥) × (first ≡ rule)) ⊎ (P × rest (Some first))

-- no rule is left
abbrev pub accept : Option Rule → Type 0
accept None = Unit {0}
accept (Some first) = ⊥

-- each maxLength of the entries is one for its prefix
abbrev pub fit_lengths : List RoaPrefix → Bool
fit_lengths es = list_all (λ e. fits_max_length e.prefix e.max) es

-- there are as many maxLengths as entries, each one for the prefix of the entry in its place
abbrev pub maxes_fit : List ℕ → List RoaPrefix → Bool
maxes_fit ms es = pointwise (λ m e. fits_max_length e.prefix m) ms es

-- an operator, or a manager at the holder
abbrev pub is_steward : Charter → History → ℕ → List ℕ → List ℕ → Bool
is_steward charter history day caller holder =
    is_operator charter caller || has_access (grant_terms history holder) day caller Manage

-- the authorization of this number in a list
abbrev pub auth_of_number : ℕ → List Auth → Option Auth
auth_of_number n auths = find (λ x. x.number == n) auths

-- the holder has an active authorization of this number, and of it the fact holds
abbrev pub OfNumber : History → List ℕ → ℕ → (Auth → Type 0) → Type 0
OfNumber history holder n P = OfActive history holder (λ active. IsSomeAnd (auth_of_number n active) P)

-- of an active authorization of this number the caller has the access to each prefix of the terms
abbrev pub HasAccessTo : History → List ℕ → ℕ → List ℕ → Access → ℕ → Type 0
HasAccessTo history holder day caller access n =
    OfNumber history holder n (λ x. is_permitted_terms (grant_terms history holder) day caller access x ≡ true)

abbrev pub Verdict : Charter → History → ℕ → List ℕ → Command → Option Rule → Type 0
Verdict charter history day caller (Register holder) =
    check Operator (is_operator charter caller ≡ true) (
    check Fresh (is_registered history holder ≡ false)
    accept)
Verdict charter history day caller (Delegate holder p) =
    check Operator (is_operator charter caller ≡ true) (
    check Holder (is_registered history holder ≡ true) (
    check Pool (IsInPool (pool_of charter) p) (
    check Free (IsFree history p)
    accept)))
Verdict charter history day caller (Transfer p giver taker) =
    check Operator (is_operator charter caller ≡ true) (
    check Holder ((is_registered history giver ≡ true) × (is_registered history taker ≡ true)) (
    check Distinct (same_name giver taker ≡ false) (
    check Held (HoldsPrefix history giver p)
    accept)))
Verdict charter history day caller (Reclaim holder p) =
    check Operator (is_operator charter caller ≡ true) (
    check Holder (is_registered history holder ≡ true) (
    check Held (HoldsPrefix history holder p)
    accept))
Verdict charter history day caller (Grant holder terms) =
    check Steward (is_steward charter history day caller holder ≡ true) (
    check Holder (is_registered history holder ≡ true) (
    check Dates (day ≤ terms.until) (
    check Room ((length (grant_terms history holder) < MOST_GRANTS)
    × (grants_made history holder < LAST_NUMBER))
    accept)))
Verdict charter history day caller (Revoke holder n) =
    check Steward (is_steward charter history day caller holder ≡ true) (
    check Number (list_any (λ g. g.number == n) (grant_terms history holder) ≡ true)
    accept)
Verdict charter history day caller (Create holder terms) =
    check GrantRule (has_access (grant_terms history holder) day caller Alter ≡ true) (
    check Scope (are_permitted (grant_terms history holder) day caller Alter terms.entries ≡ true) (
    check Dates ((terms.from ≤ terms.until) × (day ≤ terms.until)) (
    check Length (fit_lengths terms.entries ≡ true) (
    check Held (HoldsEntries history holder terms.entries) (
    check Same (OfActive history holder (λ active.
    list_any (λ y. gives_some y terms.asn terms.entries) active ≡ false)) (
    check Room (OfActive history holder (λ active. length active < MOST_AUTHORIZATIONS)
    × (authorizations_made history holder < LAST_NUMBER))
    accept))))))
Verdict charter history day caller (Amend holder n maxes until) =
    check GrantRule (has_access (grant_terms history holder) day caller Alter ≡ true) (
    check Number (HasAccessTo history holder day caller Alter n) (
    check Dates (OfNumber history holder n (λ x. (x.from ≤ until) × (day ≤ until))) (
    check Length (OfNumber history holder n (λ x. maxes_fit maxes.items x.entries ≡ true)) (
    check Same (OfActive history holder (λ active. IsSomeAnd (auth_of_number n active) (λ x.
    list_any (λ y. not (y.number == n) && share_vrp (with_terms maxes.items until x) y) active ≡ false)))
    accept))))
Verdict charter history day caller (Withdraw holder n) =
    check GrantRule (has_access (grant_terms history holder) day caller Alter ≡ true) (
    check Number (HasAccessTo history holder day caller Alter n)
    accept)
-- each row of an import is judged as a create, so an import is no entry of a history
Verdict charter history day caller (Import holder rows) = λ first. ⊥
Verdict charter history day caller (Slurm files) =
    check Operator (is_operator charter caller ≡ true) (
    check Overlap (some_overlap files ≡ false)
    accept)

-- the verdict of showing the authorization of a number
abbrev pub ShowVerdict : History → List ℕ → ℕ → List ℕ → ℕ → Option Rule → Type 0
ShowVerdict history holder day caller n =
    check GrantRule (has_access (grant_terms history holder) day caller Look ≡ true) (
    check Number (HasAccessTo history holder day caller Look n)
    accept)

-- the verdict of listing authorizations
abbrev pub ListVerdict : History → List ℕ → ℕ → List ℕ → Option Rule → Type 0
ListVerdict history holder day caller =
    check GrantRule (has_access (grant_terms history holder) day caller Look ≡ true)
    accept

-- each command of the history was accepted on those before it
abbrev pub IsLegal : Charter → History → Type 0
IsLegal charter [] = Unit {0}
IsLegal charter (e ∷ before) = Verdict charter before e.day e.caller e.command None × IsLegal charter before
