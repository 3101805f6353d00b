-- The routes, and what each of them takes: the rows of `ROUTES`, choices of this project.
use Rattle.std.specs.Prelude.{ℕ, ◌+◌, List, [], ◌∷◌, map, Option, None, Some, Result, Ok, Err}
use Rattle.std.specs.List.{slice_get}
use Rattle.matchit.specs.Order.{placed}
use Rattle.matchit.specs.Route.{Scan, parse_route}
use Rattle.matchit.specs.Router.{RouteOf, route_from}
use Rattle.matchit.specs.Rows.{RowsOf}
use Rattle.matchit.specs.Seek.{first}
use Rattle.matchit.specs.declared.error.InsertError.{InsertError}
use Rattle.pid_http.specs.declared.api.route_table.Payload.{Payload}
use Rattle.pid_http.specs.declared.api.route_table.Topic.{Topic}
use Rattle.pid_http.specs.declared.api.route_table.TheConstants.{ROUTES}

-- the path of a route; the names of the fields that the query of a GET may have there, and what it
-- asks about; and what a POST sends
abbrev pub Route : Type 0
Route = List ℕ × List (List ℕ) × Option Topic × Option Payload

-- all routes
abbrev pub all_routes : List Route
all_routes = map (λ row. (row.0.now, map (λ name. name.now) row.1.now, row.2, row.3)) ROUTES.now

abbrev pub paths : List Route → List (List ℕ)
paths routes = map (λ route. route.0) routes

-- the rows with one path more, where it can be read: what is found by it is this place
abbrev pub with_read : Result Scan InsertError → ℕ → RowsOf (RouteOf ℕ) → RowsOf (RouteOf ℕ)
with_read (Ok scan) place rows = placed (scan.pattern, route_from scan place) rows
with_read (Err error) place rows = rows

-- the rows with these paths, as a router keeps them, from this place on
unfoldable pub with_all : List (List ℕ) → ℕ → RowsOf (RouteOf ℕ) → RowsOf (RouteOf ℕ)
with_all [] place rows = rows
with_all (path ∷ rest) place rows = with_all rest (place + 1)
    (with_read (parse_route path) place rows)

-- the route at the place that was found
abbrev pub route_found : Option (RouteOf ℕ) → Option Route
route_found None = None
route_found (Some found) = slice_get all_routes found.value

-- the route of a path
unfoldable pub route_at : List ℕ → Option Route
route_at path = route_found (first (with_all (paths all_routes) 0 []) path)
