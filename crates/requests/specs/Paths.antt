-- The path of a request's target. A target with a query or a fragment (RFC 3986 section 3), in absolute form, or that is no
-- text has none. Percent signs are not decoded.
use Rattle.std.specs.Prelude.{ℕ, ◌==◌, ◌||◌, Bool, List, [], fold, if◌then◌else◌, Option, None, option_map, Result, Ok, Err}
use Rattle.std.specs.Str.{is_utf8}
use Rattle.std.specs.List.{after_first, before_first, list_any}
use Rattle.matchit.specs.Order.{placed}
use Rattle.matchit.specs.Route.{Scan, parse_route}
use Rattle.matchit.specs.Router.{RouteOf, route_from}
use Rattle.matchit.specs.Rows.{RowsOf}
use Rattle.matchit.specs.Seek.{first}
use Rattle.matchit.specs.declared.error.InsertError.{InsertError}
use Rattle.requests.specs.Routes.{all_paths}
use Rattle.requests.specs.declared.path.Path.{Path}

-- the routes of a router, as its crate keeps them
abbrev pub Router : Type 0
Router = RowsOf (RouteOf Path)

-- the routes with one more
abbrev pub with_route : Result Scan InsertError → Path → Router → Router
with_route (Ok scan) path router = placed (scan.pattern, route_from scan path) router
with_route (Err _) path router = router

abbrev pub with_path : Router → List ℕ × Path → Router
with_path router (template, path) = with_route (parse_route template) path router

-- the routes of all paths; a route elsewhere is one that is announced
unfoldable pub path_routes : Router
path_routes = fold with_path [] all_paths

-- the path that the routes give a text
abbrev pub path_at : List ℕ → Option Path
path_at text = option_map (λ route. route.value) (first path_routes text)

-- the target has a query or a fragment, which 63 (`?`) and 35 (`#`) begin
abbrev pub has_query : List ℕ → Bool
has_query target = list_any (λ b. b == 63 || b == 35) target

-- the path of a target
abbrev pub path_of : List ℕ → Option Path
path_of target = if has_query target then None else (if is_utf8 target then path_at target else None)

-- 47 is a slash
abbrev pub is_slash : ℕ → Bool
is_slash b = b == 47

abbrev pub after_slash : List ℕ → List ℕ
after_slash path = after_first is_slash path

abbrev pub before_slash : List ℕ → List ℕ
before_slash path = before_first is_slash path

-- the piece of a path that names a holder: between its second slash and the next
abbrev pub holder_piece : List ℕ → List ℕ
holder_piece path = before_slash (after_slash (after_slash path))

-- and of a number: between its fourth slash and the next
abbrev pub number_piece : List ℕ → List ℕ
number_piece path = before_slash (after_slash (after_slash (after_slash (after_slash path))))
