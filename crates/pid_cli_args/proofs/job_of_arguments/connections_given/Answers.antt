use Rattle.std.proofs.Common.{ℕ, List, Option, codes, ap, ◌∙◌}
use Rattle.std.specs.Option.{option_map_or}
use Rattle.clap.specs.Words.{found_of, one_text}
use Rattle.clap.proofs.WalkLemmas.{one_text-rows}
use Rattle.pid_cli_args.specs.Jobs.{number_written}
use Rattle.pid_cli_args.proofs.Values.{number_got}
use Rattle.pid_cli_args.proofs.job_of_arguments.connections_given.Goals as goal

pub returns : goal.returns
returns c = c.unwrap_or.ensures ∙ number_got 32 (one_text (found_of c.args.given.now) (codes "connections")) c.get_one.result c.get_one.ensures.none c.get_one.ensures.value ∙ ap (λ (o : Option (List ℕ)). option_map_or (number_written 32) o 0) (one_text-rows (found_of c.args.given.now) (codes "connections"))
