use Rattle.std.proofs.Common.{◌≡◌, ℕ, List, [], ◌∷◌, ◌++◌, map, rules, ap, ◌∙◌}
use Rattle.std.proofs.lemmas.List.{map-append}
use Rattle.pid_file.specs.PathTexts.{path_text}
use Rattle.pid_service.proofs.Words.{Item, pair_of}
use Rattle.std.proofs.lemmas.Bool.{false≢true}
use Rattle.pid_service.proofs.top.add_copy.Goals as goal

pub returns-in-Ok : goal.returns-in-Ok
returns-in-Ok c on =
    let item = c.args.item.now in
    let old = c.args.copy.now.items in
    let made : Item = record { path = item.path; name = c.in-Ok.name } in
    let pushed : c.push.new.self.items ≡ old ++ made ∷ [] = search rules in
    let same : c.in-Ok.name ≡ item.name = c.in-Ok.ensures in
    ap (map pair_of) pushed ∙ map-append pair_of old (made ∷ []) ∙ ap (λ (name : List ℕ). map pair_of old ++ (path_text item.path, name) ∷ []) same

pub returns-in-Err : goal.returns-in-Err
returns-in-Err c is = absurd (false≢true is)
