-- Steps of Applies.
use Rattle.std.specs.Prelude.{Some, None}
use Rattle.pid_moderation.specs.declared.change.Effect.{Effect}
use Rattle.pid_moderation.specs.declared.change.Effect.TheVariants.{Nothing, Ranked, Submitted}
use Rattle.pid_moderation.specs.declared.change.Effect.TheVariants.{Remarked, Decided, Imported}
use Rattle.pid_moderation.specs.Changes.{FitsEffect}
use Rattle.pid_moderation.specs.Views.{Views}
use Rattle.pid_tables.specs.Rows.Steps.Turns.{Turn}
use Rattle.pid_tables.specs.Rows.Shows.{Counts}

-- the counts that an effect leaves
abbrev pub recounted : Effect → Counts → Counts
recounted (Imported items) c = record c { items = items }
recounted Nothing c = c
recounted (Ranked who rank is_new) c = c
recounted (Submitted number author path proposal note) c = record c { submissions = number }
recounted (Remarked number place author text) c = c
recounted (Decided number state None) c = c
recounted (Decided number state (Some w)) c = record c { items = w.items }

-- an effect on views to which it fits, which makes these of them
abbrev pub turn_of : Effect → (Views → Views) → Turn
turn_of effect next = record {
  IsFor = λ c v. FitsEffect effect v;
  recount = recounted effect;
  next = next;
}
