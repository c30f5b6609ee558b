-- How an edit turns the runs that a holder holds into others.
use Rattle.std.specs.Prelude.{◌≡◌, ℕ, List}
use Rattle.std.specs.Global.{Vec}
use Rattle.addr.specs.Spans.{without_runs, AreMaximal}
use Rattle.addr.specs.declared.span.Span.{Span}
use Rattle.registry.specs.declared.change.Edit.{Edit}
use Rattle.registry.specs.declared.change.Edit.TheVariants.{Hold}

-- the edit takes away the maximal runs that are none of those after it, puts those that were none before,
-- and ends these authorizations
pub record Exchanges (before after : List Span) (ended : Vec ℕ) (edit : Edit) : Type 0 where
  pub removed : Vec Span
  pub added : Vec Span
  pub is : edit ≡ Hold removed added ended
  pub maximal_before : AreMaximal before
  pub maximal_after : AreMaximal after
  pub removes : removed.items ≡ without_runs after before
  pub adds : added.items ≡ without_runs before after
