-- Connections that were just opened, and what reads leave of what is shown.
use Rattle.std.proofs.Common.{◌≡◌, inl, [], IsTrue, refl, sym, ap, subst, ◌∙◌}
use Rattle.sqlite.specs.Effect.{Database, IsDatabase}
use Rattle.sqlite.specs.Schema.{Schema}
use Rattle.sqlite.specs.State.{State, Opens, IsLive}
use Rattle.sqlite.specs.Tree.{Trees}
use Rattle.sqlite_catalog.proofs.ReadLemmas.{lists_once}
use Rattle.pid_moderation.specs.Views.{Views}
use Rattle.pid_tables.specs.declared.rows.schema_version.Version.{Version}
use Rattle.pid_tables.specs.Rows.Leaves.{as_found, found_in, AtRest, RestsIn}
use Rattle.pid_tables.specs.Rows.Schema.{no_schema, pid_schema, schema_of}
use Rattle.pid_tables.specs.Rows.Shows.{Shows, ShowsIn}
use Rattle.pid_tables.specs.Creation.{AreMade, ListsNoTable, RestsBare}

-- the trees list one schema, so the database that was found is the one that the connection has
found_now : (s : State) (schema : Schema) → Opens s → IsLive s → IsDatabase (record { schema = schema; trees = s.now.trees }) → s.now ≡ record { schema = schema; trees = s.now.trees }
found_now s schema opens live sound = ap (λ x. record { schema = x; trees = s.now.trees }) (lists_once _ s.now.schema schema (live opens.is_open).0.lists sound.lists)

-- while it is open, a crash leaves what is committed
abbrev pub LeavesCommitted : State → Type 0
LeavesCommitted s = (db : Trees) → IsTrue s.is_open → s.may_leave db → db ≡ s.committed.trees

left_now : (s : State) → Opens s → LeavesCommitted s → (db : Trees) → s.may_leave db → db ≡ s.now.trees
left_now s opens law db may = law db opens.is_open may ∙ ap (λ (d : Database). d.trees) (sym opens.clean)

pub opened_shown : (s : State) (v : Views) → LeavesCommitted s → Opens s → IsLive s → Shows (as_found s.now.trees) v → AtRest s v
opened_shown s v law opens live shows = record {
  settled = opens.autocommit;
  same = λ opened. opens.clean;
  shows = λ opened. subst (λ d. Shows d v) (sym (found_now s pid_schema opens live shows.sound)) shows;
  leaves = record { each = λ clean db may. subst (λ t. Shows (as_found t) v) (sym (left_now s opens law db may)) shows };
}

pub opened_rests : (version : Version) (s : State) (v : Views) → LeavesCommitted s → Opens s → IsLive s → ShowsIn version (found_in (schema_of version) s.now.trees) v → RestsIn version s v
opened_rests version s v law opens live shows = record {
  settled = opens.autocommit;
  same = λ opened. opens.clean;
  shows = λ opened. subst (λ d. ShowsIn version d v) (sym (found_now s (schema_of version) opens live shows.sound)) shows;
  leaves = record { each = λ clean db may. (version, subst (λ t. ShowsIn version (found_in (schema_of version) t) v) (sym (left_now s opens law db may)) shows) };
}

pub opened_bare : (s : State) → LeavesCommitted s → Opens s → IsLive s → ListsNoTable s.now.trees → RestsBare s
opened_bare s law opens live bare = record {
  settled = opens.autocommit;
  same = λ opened. opens.clean;
  empty = λ opened. subst (AreMade []) (sym (found_now s no_schema opens live bare)) (record { schema = refl; sound = bare; empty = tt });
  leaves = record { each = λ clean db may. inl (subst ListsNoTable (sym (left_now s opens law db may)) bare) };
}
