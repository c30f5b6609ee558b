-- The rows of one registered holder, those of a history, and what a change does to rows.
use Rattle.std.specs.Prelude.{◌≡◌, ℕ, true, false, not, ◌==◌, List, [], ◌∷◌, ◌++◌, map, filter, Option, Some, None, if◌then◌else◌}
use Rattle.std.specs.List.{list_any}
use Rattle.addr.specs.Address.{Address}
use Rattle.addr.specs.Spans.{spans_have, without_runs, AreApart}
use Rattle.addr.specs.declared.span.Span.{Span}
use Rattle.registry.specs.declared.authorization.Auth.{Auth}
use Rattle.registry.specs.declared.grant.Granted.{Granted}
use Rattle.registry.specs.declared.rows.HolderRows.{HolderRows}
use Rattle.slurm.specs.SlurmSets.{with_entries}
use Rattle.slurm.specs.declared.set.NamedSlurm.{NamedSlurm}
use Rattle.registry.specs.declared.change.Change.{Change}
use Rattle.registry.specs.declared.change.Change.TheVariants.{Holders, Exceptions as Replace}
use Rattle.registry.specs.declared.change.HolderChange.{HolderChange}
use Rattle.registry.specs.declared.change.Edit.{Edit}
use Rattle.registry.specs.declared.change.Edit.TheVariants.{Register, Hold, Grant, Revoke, Create, Import, Amend, Withdraw}
use Rattle.registry.specs.ExceptionsInForce.{files_in_force}
use Rattle.registry.specs.History.{History, same_name, is_registered}
use Rattle.registry.specs.Resources.{resource_holder, is_held_by}
use Rattle.registry.specs.Terms.{grant_terms, grants_made, authorizations_made, AreActive}

-- the rows of one holder as plain lists
pub record Rows : Type 0 where
  pub holdings : List Span
  pub grants : List Granted
  pub auths : List Auth
  pub granted : ℕ
  pub created : ℕ

abbrev pub rows_of : HolderRows → Rows
rows_of r = record { holdings = r.holdings; grants = r.grants.items; auths = r.auths.items; granted = r.granted; created = r.created }

abbrev pub rows_if_any : Option HolderRows → Option Rows
rows_if_any None = None
rows_if_any (Some r) = Some (rows_of r)

-- the grants of the rows; none where there are no rows
abbrev pub grants_if_any : Option HolderRows → List Granted
grants_if_any None = []
grants_if_any (Some r) = r.grants.items

-- and the authorizations
abbrev pub auths_if_any : Option HolderRows → List Auth
auths_if_any None = []
auths_if_any (Some r) = r.auths.items

-- the rows are those of the holder: the maximal runs of the addresses that it holds, in any order, its
-- grants that are not revoked, its active authorizations, and how many of each were made
pub record RowsOf (history : History) (h : List ℕ) (rows : Rows) : Type 0 where
  pub apart : AreApart rows.holdings
  pub holdings : (a : Address) → spans_have rows.holdings a ≡ is_held_by h (resource_holder history a)
  pub grants : rows.grants ≡ grant_terms history h
  pub auths : AreActive history h rows.auths
  pub granted : rows.granted ≡ grants_made history h
  pub created : rows.created ≡ authorizations_made history h

-- rows exactly where the holder is registered, and then those of the holder
abbrev pub RowsIfAny : History → List ℕ → Option Rows → Type 0
RowsIfAny history h None = is_registered history h ≡ false
RowsIfAny history h (Some rows) = (is_registered history h ≡ true) × RowsOf history h rows

-- the rows of a holder that was just registered
abbrev pub new_rows : Rows
new_rows = record { holdings = []; grants = []; auths = []; granted = 0; created = 0 }

-- the authorization in the place of the one of its number
abbrev pub replaced_by : Auth → Auth → Auth
replaced_by x y = if y.number == x.number then x else y

-- the rows after an edit: what it takes away is gone, what it puts is there, its counters are set, and
-- all else stays
abbrev pub edited : Edit → Rows → Rows
edited Register rows = new_rows
edited (Hold removed added ended) rows = record rows {
  holdings = without_runs removed.items rows.holdings ++ added.items;
  auths = filter (λ x. not (list_any (λ n. x.number == n) ended.items)) rows.auths;
}
edited (Grant g) rows = record rows { grants = rows.grants ++ g ∷ []; granted = g.number }
edited (Revoke n) rows = record rows { grants = filter (λ g. not (g.number == n)) rows.grants }
edited (Create x) rows = record rows { auths = rows.auths ++ x ∷ []; created = x.number }
edited (Import auths created) rows = record rows { auths = rows.auths ++ auths.items; created = created }
edited (Amend x) rows = record rows { auths = map (replaced_by x) rows.auths }
edited (Withdraw n) rows = record rows { auths = filter (λ x. not (x.number == n)) rows.auths }

-- the rows of a holder after an edit of them; only a registration makes rows where there were none
abbrev pub edited_if_any : Edit → Option Rows → Option Rows
edited_if_any edit (Some rows) = Some (edited edit rows)
edited_if_any Register None = Some new_rows
edited_if_any _ None = None

-- the rows of a holder after a change of one holder's
abbrev pub changed_by_one : HolderChange → List ℕ → Option Rows → Option Rows
changed_by_one c h rows = if same_name c.holder h then edited_if_any c.edit rows else rows

abbrev pub changed_by_second : Option HolderChange → List ℕ → Option Rows → Option Rows
changed_by_second None h rows = rows
changed_by_second (Some c) h rows = changed_by_one c h rows

-- what a change means: the rows of a holder after it, from its rows before
abbrev pub changed : Change → List ℕ → Option Rows → Option Rows
changed (Holders first second) h rows = changed_by_second second h (changed_by_one first h rows)
changed (Replace files) h rows = rows

-- and the SLURM files after it, from those before
abbrev pub changed_files : Change → List NamedSlurm → List NamedSlurm
changed_files (Holders first second) before = before
changed_files (Replace files) before = with_entries files

-- the change turns the rows of every holder of the first history into its rows of the second, and the
-- SLURM files in force of the first into those of the second
pub record Carries (change : Change) (before after : History) : Type 0 where
  pub holders :
      (h : List ℕ) (rows : Option Rows)
      → RowsIfAny before h rows → RowsIfAny after h (changed change h rows)
  pub files : files_in_force after ≡ changed_files change (files_in_force before)
