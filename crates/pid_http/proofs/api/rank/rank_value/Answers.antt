use Rattle.std.proofs.Common.{ap, ◌∙◌}
use Rattle.serde_json.specs.View.{members_view}
use Rattle.serde_json.specs.Data.{number, unsigned}
use Rattle.pid_http.proofs.api.rank.rank_value.Goals as goal

pub returns : goal.returns
returns c =
    let m1 = c.with_value-members.ensures _ _ (ap members_view c.new.ensures.empty) (c.from.ensures ∙ ap (λ n. number (unsigned n)) c.number.ensures) in
    let m2 = c.with_text-members.ensures _ _ m1 c.as_str.ensures.text in
    c.object_of.ensures _ m2
