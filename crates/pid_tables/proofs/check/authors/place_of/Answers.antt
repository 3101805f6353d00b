use Rattle.std.proofs.Common.{◌≡◌, None, btree_map_len, sym, subst, rules}
use Rattle.std.specs.Prelude.{string_bytes}
use Rattle.std.specs.BTreeMap.{get_by_text}
use Rattle.pid_tables.specs.Check.Steps.AuthorSets.{AddsName}
use Rattle.pid_tables.proofs.OfCheck.AuthorFacts.{name_added, name_found, name_looked, one_longer}
use Rattle.pid_tables.proofs.OfCheck.NameFacts.{on_is_ok}
use Rattle.pid_tables.proofs.check.authors.place_of.Goals as goal

pub returns-in-Some-clause-placed : goal.returns-in-Some-clause-placed
returns-in-Some-clause-placed c = name_found c.args.names.now c.args.name.now c.in-Some.place (sym c.in-Some.ensures)

pub returns-clause-placed : goal.returns-clause-placed
returns-clause-placed c =
    let none = sym c.in_default.ensures in
    let old = c.args.names.now in
    let new = c.insert.new.self in
    let place = c.in-Ok.place in
    let owned = c.in_ok-owned.owned in
    let same = c.in_ok-owned.ensures.ok in
    let ok = sym c.if-not-inserted.ensures.value in
    let next : place ≡ btree_map_len old = search rules in
    let adds : AddsName old new (string_bytes owned) place = record {
      looked = name_looked old new owned place (on_is_ok c.insert.result ok c.insert.ensures.entries);
      longer = one_longer (btree_map_len old) (btree_map_len new) _ c.insert.result ok c.insert.ensures.old c.insert.ensures.len (subst (λ t. get_by_text old t ≡ None) (sym same) none);
    } in
    name_added old new c.args.name.now place none next (subst (λ t. AddsName old new t place) same adds)
