use Rattle.std.proofs.Common.{arith}
use Rattle.pid_cli_jobs.proofs.serving.ServerStreamServer.serve.Goals as goal

pub returns-clause-answers : goal.returns-clause-answers
returns-clause-answers g c = record {
  served = c.serve_with.ensures.served;
  caught_up = c.serve_with.ensures.caught_up;
  ended = c.serve_with.ensures.ended;
}

pub returns-clause-reads : goal.returns-clause-reads
returns-clause-reads g c = let e = c.serve_with.ensures.ended in omega (arith, e.within, e.reads.most)
