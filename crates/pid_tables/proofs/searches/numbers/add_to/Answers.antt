use Rattle.std.proofs.Common.{◌≡◌, inl, inr, rules, arith, string_bytes}
use Rattle.std.specs.Str.{bytes_eq}
use Rattle.std.proofs.lemmas.Bool.{cases_Bool}
use Rattle.std.proofs.lemmas.Grind.{text_groups}
use Rattle.pid_tables.proofs.OfSearches.NumberLists.{of_others, of_this}
use Rattle.pid_tables.proofs.searches.numbers.add_to.Goals as goal

pub returns-in-Ok-entry : goal.returns-in-Ok-entry
returns-in-Ok-entry c texts are count pushed wanted =
    let key : string_bytes c.in-Ok.key ≡ c.args.text.now = search rules in
    let was = are wanted in
    elim (cases_Bool (bytes_eq c.args.text.now wanted)) [
      | inl is ↦ let goes = of_this wanted c.args.text.now c.args.number texts is count in grind (arith, text_groups, goes, was, is, pushed, key)
      | inr other ↦ let goes = of_others wanted c.args.text.now texts other in grind (arith, text_groups, goes, was, other, pushed, key)
    ]
