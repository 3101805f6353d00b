use Rattle.std.proofs.Common.{List, ℕ, map, ap, sym, subst, ◌∙◌}
use Rattle.std.specs.Option.{option_copied}
use Rattle.pid_tables.specs.Searches.Filings.{filings_in}
use Rattle.pid_tables.specs.Searches.KeptNumbers.{numbers_named}
use Rattle.pid_tables.specs.Searches.Steps.Among.{IsServing}
use Rattle.pid_tables.proofs.OfSearches.ServingLemmas.{path_serves}
use Rattle.pid_tables.proofs.searches.numbers.by_path.Goals as goal

pub returns-in-Ok : goal.returns-in-Ok
returns-in-Ok c author v holds =
    let texts : List (List ℕ) = map (λ (f : List ℕ × List ℕ). f.0) (filings_in v) in
    subst (λ p. IsServing p author c.list_at.result.now v) (sym (ap option_copied c.in_ok-path.was))
    (path_serves v c.in_ok-path.field-0.now author c.list_at.result.now (c.list_at.ensures _ holds.paths ∙ ap (λ t. numbers_named t 1 texts) (c.as_str.ensures.value ∙ c.in-Ok.ensures)))
