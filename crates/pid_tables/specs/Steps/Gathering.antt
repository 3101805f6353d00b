-- Facts that are gathered.
use Rattle.std.specs.Prelude.{false, None}
use Rattle.pid_moderation.specs.declared.facts.Facts.{Facts}
use Rattle.pid_tables.specs.declared.gather.KnownFacts.{KnownFacts}

-- the facts of a command of which only this is known
abbrev pub bare : KnownFacts → Facts
bare known = record {
  rank = known.rank;
  kept = known.kept;
  revision = known.revision;
  who = None;
  submissions = 0;
  items = 0;
  named = None;
  remarks = 0;
  present = None;
  has_parent = false;
  has_children = false;
  file = None;
}
