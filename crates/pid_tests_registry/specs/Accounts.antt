-- The account that a test's reader keeps.
use Rattle.std.specs.Prelude.{List, Option, Some, None, map, if◌then◌else◌}
use Rattle.pid_http_stream.specs.Moments.{Moment}
use Rattle.pid_tests_registry.specs.declared.serving.account.Account.{Account}
use Rattle.pid_tests_registry.specs.declared.serving.account.Kept.{Kept}

-- one of its moments
abbrev pub moment_of : Kept → Moment
moment_of kept = record { to_come = Some kept.to_come.now; taken = Some kept.taken.items }

-- all of them, if memory sufficed
abbrev pub moments_of : Account → Option (List Moment)
moments_of account = if account.is_lost then None else Some (map moment_of account.kept.items)
