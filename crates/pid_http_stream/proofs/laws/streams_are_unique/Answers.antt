use Rattle.pid_http_stream.proofs.Uniqueness.{one_split, one_ending}
use Rattle.pid_http_stream.proofs.laws.streams_are_unique.Goals as goal

pub returns : goal.returns
returns c = λ stream requests others ending other x y. (one_split stream requests others ending other x y, one_ending stream requests others ending other x y)
