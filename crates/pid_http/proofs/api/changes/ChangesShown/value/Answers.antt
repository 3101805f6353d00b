use Rattle.std.proofs.Common.{ap, ◌∙◌}
use Rattle.serde_json.specs.View.{members_view}
use Rattle.std.specs.Prelude.{map}
use Rattle.pid_moderation.specs.ChangePages.{changed_of}
use Rattle.pid_http.specs.Api.Replying.{rows_data}
use Rattle.pid_http.specs.Api.ItemAnswers.{changed_data}
use Rattle.pid_http.proofs.api.changes.ChangesShown.value.Goals as goal

pub returns : goal.returns
returns c =
    let rows = c.in_ok-items.ensures ∙ ap (λ items. rows_data changed_data (map changed_of items)) c.as_slice.ensures.value in
    let m1 = c.with_value-members.ensures _ _ (ap members_view c.new.ensures.empty) rows in
    let m2 = c.with_value-members-2.ensures _ _ m1 c.from.ensures in
    c.object_of.ensures _ m2
