-- When a change may be applied to tables.
use Rattle.std.specs.Prelude.{◌≡◌, length}
use Rattle.pid_moderation.specs.declared.change.Effect.{Effect}
use Rattle.pid_moderation.specs.declared.change.Effect.TheVariants.{Nothing, Ranked, Submitted}
use Rattle.pid_moderation.specs.declared.change.Effect.TheVariants.{Remarked, Decided, Imported}
use Rattle.pid_moderation.specs.Views.{Views}
use Rattle.pid_tables.specs.Rows.Shows.{Counts, counts_of}

-- meta has the counts of the views; of a file whose items are written one by one it has yet to
-- learn how many there are
abbrev pub CountsFit : Effect → Counts → Views → Type 0
CountsFit (Imported items) c v = c.submissions ≡ length v.submits
CountsFit Nothing c v = c ≡ counts_of v
CountsFit (Ranked who rank is_new) c v = c ≡ counts_of v
CountsFit (Submitted number author path proposal note) c v = c ≡ counts_of v
CountsFit (Remarked number place author text) c v = c ≡ counts_of v
CountsFit (Decided number state write) c v = c ≡ counts_of v
