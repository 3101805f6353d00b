use Rattle.std.proofs.Common.{Some, sym, ap, ◌∙◌}
use Rattle.pid_file.specs.Trees.{TreeMap}
use Rattle.pid_lookup.specs.Found.{name_in_map}
use Rattle.pid_file.proofs.Maps.{get-tree}
use Rattle.pid_lookup.proofs.asked_names.AskedNamesNames.name_of.Goals as goal

pub returns-in_ok-copy-in-Some-clause-found : goal.returns-in_ok-copy-in-Some-clause-found
returns-in_ok-copy-in-Some-clause-found c honest s same =
    ap Some c.in_ok-copy-in-Some.ensures ∙ c.in-Some.ensures.value ∙ sym (get-tree c.args.self.now.kept.entries c.args.path.now) ∙ ap (λ (m : TreeMap). name_in_map m c.args.path.now) same

pub returns-in-None-clause-found : goal.returns-in-None-clause-found
returns-in-None-clause-found c honest s same = c.in-None.ensures.value ∙ sym (get-tree c.args.self.now.kept.entries c.args.path.now) ∙ ap (λ (m : TreeMap). name_in_map m c.args.path.now) same
