-- A part of the rows of a holder that is enough to judge hypothetical changes on.
use Rattle.std.specs.Prelude.{◌≡◌, ℕ, ◌+◌, ◌<◌, ◌==◌, ⊤, Bool, true, not, List, length, filter, Option, Some, None, ◌⊎◌, Contains}
use Rattle.std.specs.List.{list_any}
use Rattle.addr.specs.Address.{Address}
use Rattle.addr.specs.Spans.{spans_have}
use Rattle.addr.specs.declared.span.Span.{Span}
use Rattle.registry.specs.declared.authorization.Auth.{Auth}
use Rattle.registry.specs.declared.authorization.AuthTerms.{AuthTerms}
use Rattle.addr.specs.declared.roa_prefix.RoaPrefix.{RoaPrefix}
use Rattle.registry.specs.declared.command.Proposed.{Proposed}
use Rattle.registry.specs.declared.command.Proposed.TheVariants.{Create, Withdraw}
use Rattle.registry.specs.declared.limits.TheConstants.{MOST_AUTHORIZATIONS}
use Rattle.registry.specs.Rows.{Rows}
use Rattle.registry.specs.Terms.{entries_have, gives_some}

-- the rules of the change look for this authorization: of a create one that gives the AS with an entry of the terms, and of
-- a withdrawal the one of the number
abbrev pub looks_for : Proposed → Auth → Bool
looks_for (Create terms) x = gives_some x terms.asn terms.entries
looks_for (Withdraw n) x = x.number == n

-- the rules of some of the changes do
abbrev pub looked_for : List Proposed → Auth → Bool
looked_for changes x = list_any (λ change. looks_for change x) changes

-- the authorizations that the test does not keep
abbrev pub not_kept : (Auth → Bool) → List Auth → List Auth
not_kept keep auths = filter (λ x. not (keep x)) auths

-- every address of the entries lies in one of the runs
abbrev pub AreInRuns : List Span → List RoaPrefix → Type 0
AreInRuns runs es = (a : Address) → entries_have es a ≡ true → spans_have runs a ≡ true

-- The part has the grants and the counter of the whole rows, and of their authorizations those that a test keeps, which are
-- at least those that the rules of the changes look for. Its runs tell of each create whether the holder holds its
-- addresses. `left_out` is how many authorizations are not kept; or 0, where the whole has so few that with this many more
-- it has still fewer than it may have.
pub record IsPartFor (changes : List Proposed) (more left_out : ℕ) (keep : Auth → Bool) (whole part : Rows) : Type 0 where
  pub grants : part.grants ≡ whole.grants
  pub created : part.created ≡ whole.created
  pub auths : part.auths ≡ filter keep whole.auths
  pub kept : (change : Proposed) (x : Auth) → Contains changes change → looks_for change x ≡ true → keep x ≡ true
  pub left :
      (left_out ≡ length (not_kept keep whole.auths))
      ⊎ ((left_out ≡ 0) × (length whole.auths + more < MOST_AUTHORIZATIONS))
  pub held : (a : Address) → spans_have part.holdings a ≡ true → spans_have whole.holdings a ≡ true
  pub holds :
      (terms : AuthTerms) → Contains changes (Create terms)
      → AreInRuns whole.holdings terms.entries → AreInRuns part.holdings terms.entries

-- the same where the holder may not be registered; then there is no part either
abbrev pub IsPartIfAny : List Proposed → ℕ → (Auth → Bool) → Option Rows → Option Rows → Type 0
IsPartIfAny changes left_out keep None None = ⊤
IsPartIfAny changes left_out keep None (Some part) = ⊥
IsPartIfAny changes left_out keep (Some whole) None = ⊥
IsPartIfAny changes left_out keep (Some whole) (Some part) =
    IsPartFor changes (length changes) left_out keep whole part
