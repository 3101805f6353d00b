use Rattle.std.proofs.Common.{◌≤◌, sym, ◌∙◌, arith}
use Rattle.pid_moderation.specs.CheckTables.{most_remarks}
use Rattle.pid_tables.proofs.OfCheck.RemarkFacts.{follows_made, follows_back}
use Rattle.pid_tables.proofs.check.remark.follows.Goals as goal

pub returns : goal.returns
returns c =
    let low : 2 ≤ c.args.place = omega (arith, c.if-place-eq0.false, c.if-place-eq1.false) in
    let high : c.args.place ≤ most_remarks = grind (arith, c.if-place.false) in (
      λ yes. follows_made c.args.places.now c.args.submission c.args.place low high (sym c.contains.ensures ∙ yes),
      λ it. c.contains.ensures ∙ follows_back c.args.places.now c.args.submission c.args.place low it,
    )
