use Rattle.std.proofs.Common.{sym, ◌∙◌}
use Rattle.std.specs.Cmp.Lexicographic.{texts_ties}
use Rattle.pid_file.specs.PathTexts.{path_text}
use Rattle.pid_lookup.proofs.cache_key.PathKeyPartialEq.eq.Goals as goal

pub returns : goal.returns
returns c = rw (← c.self.view_is, ← c.other.view_is) (c.eq.ensures ∙ sym (texts_ties (path_text c.self.inside.path) (path_text c.other.inside.path)))
