-- What single members of a request read as.
use Rattle.std.specs.Prelude.{ℕ, List, codes, if◌then◌else◌, Option, Some, None, option_map, option_and_then}
use Rattle.std.specs.Str.{bytes_eq}
use Rattle.addr.specs.PrefixText.{spelled_prefix}
use Rattle.addr.specs.declared.route.Origin.{Origin}
use Rattle.addr.specs.declared.route.Origin.TheVariants.{As, None as NoOrigin}
use Rattle.registry.specs.declared.grant.Role.{Role}
use Rattle.registry.specs.declared.grant.Role.TheVariants.{Manager, Clerk, Auditor}
use Rattle.registry.specs.declared.grant.Scope.{Scope}
use Rattle.registry.specs.declared.grant.Scope.TheVariants.{All, Only}
use Rattle.serde_json.specs.Data.{Data, null, boolean, number, string, array, object}
use Rattle.serde_json.specs.Find.{as_str}
use Rattle.json_values.specs.Values.{as_asn, as_number_in}
use Rattle.registry.specs.declared.limits.TheConstants.{LAST_NUMBER}
use Rattle.requests.specs.declared.request.members.TheConstants.{GREATEST_MAX}

-- null, or an AS number
abbrev pub as_origin : Data → Option Origin
as_origin null = Some NoOrigin
as_origin (boolean b) = None
as_origin (number n) = option_map As (as_asn (number n))
as_origin (string s) = None
as_origin (array ds) = None
as_origin (object ms) = None

abbrev pub as_max : Data → Option ℕ
as_max = as_number_in 0 GREATEST_MAX

-- the number of a grant or an authorization
abbrev pub as_number : Data → Option ℕ
as_number = as_number_in 1 LAST_NUMBER

abbrev pub role_of : List ℕ → Option Role
role_of text =
    if bytes_eq text (codes "manager") then Some Manager
    else (if bytes_eq text (codes "clerk") then Some Clerk
    else (if bytes_eq text (codes "auditor") then Some Auditor else None))

abbrev pub as_role : Data → Option Role
as_role d = option_and_then role_of (as_str d)

abbrev pub scope_of : List ℕ → Option Scope
scope_of text =
    if bytes_eq text (codes "all") then Some All else option_map Only (spelled_prefix text)

abbrev pub any_scope : Data → Option Scope
any_scope d = option_and_then scope_of (as_str d)

-- a manager's scope is all
abbrev pub fitting_scope : Option Role → Scope → Option Scope
fitting_scope role All = Some All
fitting_scope None (Only p) = Some (Only p)
fitting_scope (Some Manager) (Only p) = None
fitting_scope (Some Clerk) (Only p) = Some (Only p)
fitting_scope (Some Auditor) (Only p) = Some (Only p)

-- a scope that the role may have, where there is one
abbrev pub as_scope : Option Role → Data → Option Scope
as_scope role d = option_and_then (fitting_scope role) (any_scope d)
