use Rattle.std.proofs.Common.{ℕ, List, Option, ap, ◌∙◌, []}
use Rattle.std.specs.Borrow.{Bor}
use Rattle.std.specs.Option.{unwrap_or}
use Rattle.clap.specs.Words.{found_of}
use Rattle.clap.proofs.WalkLemmas.{first_value-rows}
use Rattle.pid_cli_args.proofs.Values.{unwrapped}
use Rattle.pid_cli_args.proofs.job_of_arguments.needed_text.Goals as goal

pub returns : goal.returns
returns c = ap (λ (s : Bor (List ℕ)). s.now) c.unwrap_or.ensures ∙ unwrapped c.get_str.result _ ∙ ap (λ (o : Option (List ℕ)). unwrap_or o []) (c.get_str.ensures ∙ first_value-rows (found_of c.args.given.now) c.args.name.now)
