use Rattle.pid_moderation.specs.ChangePages.{changes_in, changed_after}
use Rattle.pid_tables.specs.Lists.Laws.{changed_path}
use Rattle.pid_tables.proofs.OfLists.PageLemmas.{after_page, joined, whole, next_changed, changes_front}
use Rattle.pid_tables.proofs.lists.laws.changes_go_on.Goals as goal

pub returns-clause-next : goal.returns-clause-next
returns-clause-next c most since after v sorted =
    after_page changed_path (λ behind. changed_after since behind v) (next_changed v since sorted) most (λ behind. (changes_in most since behind v).items) (changes_front v since most) after

pub returns-clause-joined : goal.returns-clause-joined
returns-clause-joined c most since count after v sorted =
    joined changed_path (λ behind. changed_after since behind v) (next_changed v since sorted) most (λ behind. (changes_in most since behind v).items) (changes_front v since most) count after

pub returns-clause-whole : goal.returns-clause-whole
returns-clause-whole c most since count after v sorted room =
    whole changed_path (λ behind. changed_after since behind v) (next_changed v since sorted) most (λ behind. (changes_in most since behind v).items) (changes_front v since most) count after room
