use Rattle.std.proofs.Common.{◌≡◌, drop, true}
use Rattle.pid_http.specs.Api.Routes.{with_all}
use Rattle.pid_http.specs.Api.Steps.Inserting.{all_new, paths_of}
use Rattle.pid_http.proofs.api.router.insert_all.Given as goal

-- the rows still to come lead to the same, and none of them conflicts if none did at first
abbrev pub invariant-loop-place : goal.invariant-loop-place
invariant-loop-place l =
    (with_all (paths_of (drop l.place l.rows)) l.place l.router ≡ with_all (paths_of l.rows) 0 l.fn.router)
    × (all_new (paths_of l.rows) 0 l.fn.router ≡ true → all_new (paths_of (drop l.place l.rows)) l.place l.router ≡ true)
