use Rattle.std.proofs.Common.{◌≡◌, ℕ, List, [], ◌∷◌, ◌++◌, map, rules, ap, ◌∙◌}
use Rattle.std.proofs.lemmas.List.{map-append}
use Rattle.pid_file.specs.PathTexts.{path_text}
use Rattle.pid_service.proofs.Words.{changed_of, ChangedItem}
use Rattle.std.proofs.lemmas.Bool.{false≢true}
use Rattle.pid_service.proofs.changes.add_copy.Goals as goal

pub returns-in-Ok : goal.returns-in-Ok
returns-in-Ok c on =
    let item = c.args.item.now in
    let old = c.args.page.now.items in
    let made : ChangedItem = record { path = item.path; name = c.in-Ok.name; since = item.since } in
    let pushed : c.push.new.self.items ≡ old ++ made ∷ [] = search rules in
    let same : c.in-Ok.name ≡ item.name = c.in-Ok.ensures in
    ap (map changed_of) pushed ∙ map-append changed_of old (made ∷ []) ∙ ap (λ (name : List ℕ). map changed_of old ++ record { path = path_text item.path; name = name; since = item.since } ∷ []) same

pub returns-in-Err : goal.returns-in-Err
returns-in-Err c is = absurd (false≢true is)
