-- The steps in which a change edits the rows of a holder.
use Rattle.std.specs.Prelude.{ℕ, Bool, true, false, ◌==◌, not, List, ◌++◌, filter}
use Rattle.std.specs.List.{list_any}
use Rattle.addr.specs.Spans.{without_runs}
use Rattle.addr.specs.declared.span.Span.{Span}
use Rattle.registry.specs.declared.authorization.Auth.{Auth}
use Rattle.registry.specs.declared.grant.Granted.{Granted}
use Rattle.registry.specs.declared.change.Edit.{Edit}
use Rattle.registry.specs.declared.change.Edit.TheVariants.{Register}
use Rattle.registry.specs.Rows.{Rows}

abbrev pub with_holdings : List Span → Rows → Rows
with_holdings spans r = record r { holdings = r.holdings ++ spans }

abbrev pub without_holdings : List Span → Rows → Rows
without_holdings spans r = record r { holdings = without_runs spans r.holdings }

abbrev pub with_grants : List Granted → Rows → Rows
with_grants gs r = record r { grants = r.grants ++ gs }

abbrev pub with_auths : List Auth → Rows → Rows
with_auths xs r = record r { auths = r.auths ++ xs }

abbrev pub without_auths : List ℕ → Rows → Rows
without_auths ns r = record r { auths = filter (λ x. not (list_any (λ n. x.number == n) ns)) r.auths }

-- how many grants and authorizations were made
abbrev pub with_granted : ℕ → Rows → Rows
with_granted n r = record r { granted = n }

abbrev pub with_created : ℕ → Rows → Rows
with_created n r = record r { created = n }

-- these authorizations are made, and then so many were
abbrev pub with_new_auths : List Auth → ℕ → Rows → Rows
with_new_auths xs created r = with_created created (with_auths xs r)

-- some runs are held no longer, others are held, and these authorizations end
abbrev pub with_replaced_holdings : List Span → List Span → List ℕ → Rows → Rows
with_replaced_holdings removed added ended r = without_auths ended (with_holdings added (without_holdings removed r))

abbrev pub is_registration : Edit → Bool
is_registration Register = true
is_registration _ = false
