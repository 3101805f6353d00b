-- Rows of the table, whose paths come into a router one after another.
use Rattle.std.specs.Prelude.{ℕ, ◌+◌, List, [], ◌∷◌, map, Bool, true, false, ◌&&◌, is_none, Option}
use Rattle.std.specs.Prelude.{Result, Ok, Err}
use Rattle.std.specs.Borrow.{Bor}
use Rattle.matchit.specs.Route.{Scan, parse_route}
use Rattle.matchit.specs.Router.{RouteOf, nearest}
use Rattle.matchit.specs.Rows.{RowsOf}
use Rattle.matchit.specs.declared.error.InsertError.{InsertError}
use Rattle.pid_http.specs.declared.api.route_table.Payload.{Payload}
use Rattle.pid_http.specs.declared.api.route_table.Topic.{Topic}
use Rattle.pid_http.specs.Api.Routes.{Route, paths, with_read}

-- a row as the table has it, and by the bytes of its texts
abbrev pub Entry : Type 0
Entry = Bor (List ℕ) × Bor (List (Bor (List ℕ))) × Option Topic × Option Payload

abbrev pub row_of : Entry → Route
row_of row = (row.0.now, map (λ name. name.now) row.1.now, row.2, row.3)

abbrev pub paths_of : List Entry → List (List ℕ)
paths_of rows = paths (map row_of rows)

-- a path can be read, and no row conflicts with it
abbrev pub reads_new : Result Scan InsertError → RowsOf (RouteOf ℕ) → Bool
reads_new (Ok scan) rows = is_none (nearest scan.pattern rows)
reads_new (Err error) rows = false

-- these paths come in, one after another, and none conflicts with those before
unfoldable pub all_new : List (List ℕ) → ℕ → RowsOf (RouteOf ℕ) → Bool
all_new [] place rows = true
all_new (path ∷ rest) place rows = reads_new (parse_route path) rows
    && all_new rest (place + 1) (with_read (parse_route path) place rows)
