-- Tables that show a sound history are those of a registry.
use Rattle.std.proofs.Common.{ℕ, ◌≤◌, List, sym, subst}
use Rattle.sqlite.specs.Effect.{Database}
use Rattle.pid_moderation.specs.CheckTables.{most_revision}
use Rattle.pid_moderation.specs.History.{History}
use Rattle.pid_moderation.specs.Laws.{ItemsAreSorted}
use Rattle.pid_moderation.specs.Sound.{IsSound}
use Rattle.pid_moderation.specs.Views.{revision_of, since_of, views_of}
use Rattle.pid_tables.specs.Rows.Shows.{ShowsIn}
use Rattle.pid_tables.specs.declared.rows.schema_version.Version.{Version}
use Rattle.pid_tables.specs.Check.Checking.{IsRegistry}
use Rattle.pid_tables.specs.Check.Shapes.{HasTables}
use Rattle.pid_tables.proofs.OfCheck.Complete.{has_tables}
use Rattle.pid_tables.proofs.OfCheck.CountsKept.{labels_kept, items_length, submissions_length}
use Rattle.pid_tables.proofs.OfCheck.AccountsKept.{accounts_kept}
use Rattle.pid_tables.proofs.OfCheck.ItemsKept.{items_kept}
use Rattle.pid_tables.proofs.OfCheck.SincesKept.{sinces_kept}
use Rattle.pid_tables.proofs.OfCheck.SubmissionsKept.{submissions_kept}
use Rattle.pid_tables.proofs.OfCheck.RemarksKept.{remarks_kept}
use Rattle.pid_tables.proofs.OfCheck.ReceiptsKept.{receipts_kept}

pub registry_kept : ItemsAreSorted → (h : History) → IsSound h → revision_of h ≤ most_revision → ((path : List ℕ) → since_of path h ≤ revision_of h) → (version : Version) (db : Database) → ShowsIn version db (views_of h)
    → IsRegistry version db
registry_kept sorted h sound limit within version db shows = record {
  tables = subst (HasTables version) (sym shows.schema) (has_tables version);
  rows = record {
    counts = record { revision = revision_of h; limit = limit; labels = labels_kept version db (views_of h) shows; sinces = sinces_kept version sorted h sound within db shows };
    accounts = accounts_kept h sound version db shows;
    items = items_kept sorted h sound version db shows (items_length version db (views_of h) shows);
    submissions = submissions_kept h sound version db shows (submissions_length version db (views_of h) shows);
    remarks = remarks_kept h sound version db shows;
    receipts = receipts_kept h sound version db shows;
  };
}
