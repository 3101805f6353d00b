use Rattle.std.proofs.Common.{[]}
use Rattle.std.proofs.lemmas.Result.{err_from_is_err_and, IfOk-weaker}
use Rattle.pid_file.proofs.Feeding.{refused_whole}
use Rattle.pid_reader.proofs.feeder.read_ids.Goals as goal

pub returns-in_err-feed-clause-refused : goal.returns-in_err-feed-clause-refused
returns-in_err-feed-clause-refused c =
    let p = err_from_is_err_and c.from_residual.result c.from_residual.ensures.1 in
    rw (p.1, p.2) (refused_whole c.args.text.now _ (c.in_err-feed.ensures.refused [] c.new-feeder.ensures))

pub returns-clause-read : goal.returns-clause-read
returns-clause-read c = IfOk-weaker c.finish.result _ _ (λ t h. h.0) (c.finish.ensures.read c.args.text.now (c.in_ok-feed.ensures.feeds [] c.new-feeder.ensures).0)

pub returns-clause-counted : goal.returns-clause-counted
returns-clause-counted c = IfOk-weaker c.finish.result _ _ (λ t h. h.1) (c.finish.ensures.read c.args.text.now (c.in_ok-feed.ensures.feeds [] c.new-feeder.ensures).0)

pub returns-clause-refused : goal.returns-clause-refused
returns-clause-refused c = c.finish.ensures.refused c.args.text.now (c.in_ok-feed.ensures.feeds [] c.new-feeder.ensures).0
