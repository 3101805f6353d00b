use Rattle.std.specs.Prelude.{codes}
use Rattle.std.specs.Io.KnownBytes.{Appends}
use Rattle.std.proofs.Common.{refl, subst}
use Rattle.pid_file.specs.Writing.{FailsWithin, use_of}
use Rattle.pid_cli_jobs.specs.Jobs.{Served, Unheard}
use Rattle.pid_cli_jobs.specs.Lines.{count_line}
use Rattle.pid_cli_jobs.proofs.Writing.{taken_in_part, taken_whole}
use Rattle.pid_cli_jobs.proofs.serving.give_streams.Goals as goal

pub returns-in-Ok-clause-offers : goal.returns-in-Ok-clause-offers
returns-in-Ok-clause-offers g c =
    let w = use_of g.O.Output c.args.output.now c.write_count.new.output in
    let word = codes "listening on 127.0.0.1:" in
    Served (record {
      listener = c.args.listener.now;
      at_port = c.requires;
      between = w.after;
      listens = subst (λ n. Appends w.before w.after (count_line word n)) c.from.ensures
          (taken_whole w (count_line word c.from.result) c.write_count.result
          c.in-Ok.field-0 c.in-Ok.is c.write_count.ensures.sent);
      serving = c.serve-serving.result;
      serves = c.serve-serving.ensures.serving;
      counted = c.serve-serving.ensures.streams;
      lasts = c.serve-serving.ensures.live;
      reports = c.report.ensures;
    })

pub returns-in-Err-clause-offers : goal.returns-in-Err-clause-offers
returns-in-Err-clause-offers g c =
    let w = use_of g.O.Output c.args.output.now c.write_count.new.output in
    let word = codes "listening on 127.0.0.1:" in
    Unheard refl (subst (λ n. FailsWithin w (count_line word n)) c.from.ensures
    (taken_in_part w (count_line word c.from.result) c.write_count.result
    c.in-Err.field-0 c.in-Err.is c.write_count.ensures.sent c.write_count.ensures.fault))
    refl refl
