use Rattle.std.proofs.Common.{◌++◌, ◌∙◌, ap, append-nil, map, sym}
use Rattle.std.specs.Prelude.{option_map}
use Rattle.pid_ident.specs.PathTexts.{path_text}
use Rattle.pid_moderation.specs.ItemPairs.{pair_of}
use Rattle.pid_tables.proofs.OfLists.BelowLemmas.{not_top, parent_texts, top_taken}
use Rattle.pid_tables.proofs.lists.children.TopsSink.entry.Goals as goal

pub returns-in-Some-clause-taken : goal.returns-in-Some-clause-taken
returns-in-Some-clause-taken c =
    let was = map pair_of c.args.self.now.kept.items in
    let path = c.args.entry.now.path in
    let below = parent_texts path ∙ ap (option_map path_text) (sym c.parent.ensures.parent ∙ c.in-Some.is) in
    sym (ap (λ l. was ++ l) (not_top (path_text path, c.args.entry.now.name.now) _ below) ∙ append-nil was)

pub returns-in_ok-name-in-None-clause-taken : goal.returns-in_ok-name-in-None-clause-taken
returns-in_ok-name-in-None-clause-taken c =
    let path = c.args.entry.now.path in
    let top = parent_texts path ∙ ap (option_map path_text) (sym c.parent.ensures.parent ∙ c.in-None.is) in
    top_taken (path_text path, c.args.entry.now.name.now) c.args.self.now.kept.items c.push_last.new.list.items _ c.push_last.result c.push_last.ensures.items (λ i. (path_text path, c.in_ok-name-in-None.ensures i)) top

pub returns-in_ok-name-in-None-clause-fault : goal.returns-in_ok-name-in-None-clause-fault
returns-in_ok-name-in-None-clause-fault c = c.push_last.ensures.full
