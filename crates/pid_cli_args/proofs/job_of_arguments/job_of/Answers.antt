use Rattle.std.proofs.Common.{◌≡◌, ℕ, true, List, Result, Err, ap, sym, refl, subst, ◌∙◌, map, string_bytes}
use Rattle.std.proofs.lemmas.Result.{err_from_is_err_and}
use Rattle.clap.specs.Words.{App, is_simple, subcommand_of, fault_of, is_simple_and_free, FailsBy, HasKind}
use Rattle.clap.specs.declared.error.Error.{Error}
use Rattle.pid_cli_args.specs.Commands.{commands}
use Rattle.pid_cli_args.specs.Jobs.{faults_of, task_given}
use Rattle.pid_cli_args.proofs.job_of_arguments.job_of.Goals as goal

all_simple : is_simple commands ≡ true
all_simple = refl

simple : is_simple_and_free commands ≡ true
simple = refl

as_defined : (words : List (List ℕ)) → fault_of commands words ≡ faults_of words
as_defined words = unfold faults_of in refl

-- an error that is handed on has the kinds that it had
handed_on : {T : Type 0} (app : App) (words : List (List ℕ)) (r : Result T Error) (e y : Error) → app ≡ commands → HasKind (fault_of app words) e → r ≡ Err y → y ≡ e → FailsBy (faults_of words) r
handed_on app words r e y same kinds is moved =
    rw (is, moved) (subst (λ k. HasKind k e) (ap (λ (a : App). fault_of a words) same ∙ as_defined words) kinds)

pub returns-in_err-matches-clause-fails : goal.returns-in_err-matches-clause-fails
returns-in_err-matches-clause-fails c =
    let p = err_from_is_err_and c.from_residual-in_err-matches.result c.from_residual-in_err-matches.ensures.1 in
    handed_on _ _ _ _ _ c.in_ok-commands.ensures (c.in_err-matches.ensures.kinds (ap is_simple_and_free c.in_ok-commands.ensures ∙ simple)) p.1 p.2

pub returns-clause-fails : goal.returns-clause-fails
returns-clause-fails c = unfold faults_of in ap (λ a. fault_of a (map string_bytes c.args.words.now)) (sym c.in_ok-commands.ensures) ∙ c.in_ok-matches.ensures.kinds (ap is_simple_and_free c.in_ok-commands.ensures ∙ simple)

pub returns-clause-job : goal.returns-clause-job
returns-clause-job c =
    let meant = (c.in_ok-matches.ensures.matches (ap is_simple c.in_ok-commands.ensures ∙ all_simple)).1 in
    c.job_given.ensures ∙ ap task_given (meant ∙ ap (λ (a : App). subcommand_of a (map string_bytes c.args.words.now)) c.in_ok-commands.ensures)
