use Rattle.std.proofs.Common.{refl}
use Rattle.pid_service.proofs.ForgottenItems.{forgotten}
use Rattle.pid_service.proofs.kept_views.KeptViews.forget_items.Goals as goal

pub returns : goal.returns
returns c v w leaves right = forgotten c.args.self.now _ v w leaves right c.clear.ensures refl refl refl refl refl
