use Rattle.std.proofs.Common.{refl, sym, ◌∙◌}
use Rattle.std.proofs.lemmas.List.Folds.{Any-from_list_any}
use Rattle.std.specs.Ordering.{eq_by_cmp}
use Rattle.pid_file.specs.Steps.Paths.{path_cmp}
use Rattle.pid_lookup.specs.Steps.Kept.{kept_map}
use Rattle.pid_lookup.proofs.Entries.{is_kept, keeps_only, not_asked}
use Rattle.pid_lookup.proofs.asked_names.AskedNamesSink.entry.Goals as goal

pub returns-then-not-is_among-clause-taken : goal.returns-then-not-is_among-clause-taken
returns-then-not-is_among-clause-taken c = record {
  asked = refl;
  names = not_asked (kept_map c.args.self.now) c.args.entry.now.path c.args.entry.now.name.now c.args.self.now.asked (c.is_among.ensures.others c.if-not-is_among.true);
  no_others = λ only. only;
}

pub returns-in-Ok-clause-taken : goal.returns-in-Ok-clause-taken
returns-in-Ok-clause-taken c = record {
  asked = refl;
  names = rw (← c.in_ok-name.ensures) (is_kept c.args.self.now.kept.entries c.insert.new.self.entries c.args.entry.now.path c.in_ok-name.name c.args.self.now.asked c.in-Ok.ensures.entries);
  no_others = keeps_only c.args.self.now.kept.entries c.insert.new.self.entries c.args.entry.now.path c.in_ok-name.name c.args.self.now.asked c.in-Ok.ensures.entries (Any-from_list_any (λ p. eq_by_cmp path_cmp p c.args.entry.now.path) c.args.self.now.asked (sym c.is_among.ensures.among ∙ c.if-not-is_among.false));
}
