use Rattle.pid_file.specs.PathTexts.{path_text}
use Rattle.pid_lookup.proofs.CacheAgreeing.{Outcome, put_outcome, outcome_agrees}
use Rattle.pid_lookup.proofs.name_cache.NameCache.put.Goals as goal

outcome : (c : goal.After-drop) → Outcome (path_text c.args.path.now) c.args.name.now c.args.self.now c.put.new.self.entries
outcome c = rw (← c.self.view_is, ← c.of.ensures, ← c.in-Ok.ensures)
    (put_outcome c.of.result c.in-Ok.name c.self.inside.answers c.put.new.self c.put.result c.self.invariant c.put.ensures.entries c.put.ensures.err)

pub returns-in-Ok-clause-kept_or_not : goal.returns-in-Ok-clause-kept_or_not
returns-in-Ok-clause-kept_or_not c = outcome c

pub returns-in-Ok-clause-agrees : goal.returns-in-Ok-clause-agrees
returns-in-Ok-clause-agrees c at right agreed =
    outcome_agrees at (path_text c.args.path.now) c.args.name.now c.args.self.now c.put.new.self.entries agreed right (outcome c)
