use Rattle.pid_moderation.proofs.AccountsCounted.{is_its_status, has_its_status}
use Rattle.pid_moderation.proofs.laws.views_tell_status.Goals as goal

pub returns : goal.returns
returns c h status = (is_its_status h status, has_its_status h status)
