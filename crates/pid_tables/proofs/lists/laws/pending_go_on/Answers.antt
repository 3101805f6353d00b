use Rattle.std.proofs.Common.{refl}
use Rattle.pid_tables.specs.Lists.Laws.{pending_number}
use Rattle.pid_moderation.specs.PendingPages.{pending_in, pending_above}
use Rattle.pid_tables.proofs.OfLists.PageLemmas.{goes_on, joined, whole, next_pending}
use Rattle.pid_tables.proofs.lists.laws.pending_go_on.Goals as goal

pub returns-clause-next : goal.returns-clause-next
returns-clause-next c most after v = goes_on pending_number (λ behind. pending_above behind v) (next_pending v) most after

pub returns-clause-joined : goal.returns-clause-joined
returns-clause-joined c most count after v = joined pending_number (λ behind. pending_above behind v) (next_pending v) most (λ behind. pending_in most behind v) (λ behind. refl) count after

pub returns-clause-whole : goal.returns-clause-whole
returns-clause-whole c most count after v room = whole pending_number (λ behind. pending_above behind v) (next_pending v) most (λ behind. pending_in most behind v) (λ behind. refl) count after room
