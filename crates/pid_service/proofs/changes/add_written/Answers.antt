use Rattle.std.proofs.Common.{◌≡◌, List, [], ◌∷◌, ◌++◌, map, rules, ap, sym, ◌∙◌}
use Rattle.std.proofs.lemmas.List.{append-nil, map-append}
use Rattle.pid_file.specs.PathTexts.{path_text}
use Rattle.pid_moderation.specs.ChangePages.{Changed}
use Rattle.pid_service.proofs.Words.{changed_item, changed_of, ChangedItem, Edit}
use Rattle.pid_service.proofs.RenewedChanges.{named_item}
use Rattle.std.proofs.lemmas.Bool.{false≢true}
use Rattle.pid_service.proofs.changes.add_written.Goals as goal

pub returns-in-Ok : goal.returns-in-Ok
returns-in-Ok c on =
    let write = c.args.write.now in
    let old = c.args.page.now.items in
    let made : ChangedItem = record { path = write.path; name = c.in-Ok.name; since = c.args.since } in
    let pushed : c.push.new.self.items ≡ old ++ made ∷ [] = search rules in
    let same : c.in-Ok.name ≡ c.in-Add.name = c.in-Ok.ensures in
    ap (map changed_of) pushed ∙ map-append changed_of old (made ∷ [])
    ∙ ap (λ (l : List Changed). map changed_of old ++ l) (named_item c.args.since (path_text write.path) write.edit c.in-Add.name c.in-Ok.name c.in-Add.is same)

pub returns-in-Remove : goal.returns-in-Remove
returns-in-Remove c on =
    let old = c.args.page.now.items in
    sym (ap (λ (e : Edit). map changed_of old ++ changed_item c.args.since (path_text c.args.write.now.path) e) c.in-Remove.is ∙ append-nil (map changed_of old))

pub returns-in-Err : goal.returns-in-Err
returns-in-Err c is = absurd (false≢true is)
