use Rattle.std.proofs.Common.{List, ℕ, map, ap, sym, subst, ◌∙◌}
use Rattle.std.specs.Option.{option_copied}
use Rattle.pid_tables.specs.Searches.Filings.{filings_in}
use Rattle.pid_tables.specs.Searches.KeptNumbers.{numbers_named}
use Rattle.pid_tables.specs.Searches.Steps.Among.{IsServing}
use Rattle.pid_tables.proofs.OfSearches.ServingLemmas.{author_serves}
use Rattle.pid_tables.proofs.searches.numbers.by_author.Goals as goal

pub returns : goal.returns
returns c path v holds =
    let texts : List (List ℕ) = map (λ (f : List ℕ × List ℕ). f.1) (filings_in v) in
    subst (λ a. IsServing path a c.list_at.result.now v) (sym (ap option_copied c.in_ok-author.was))
    (author_serves v path c.in_ok-author.field-0.now c.list_at.result.now (c.list_at.ensures _ holds.authors ∙ ap (λ t. numbers_named t 1 texts) c.as_str.ensures.text))
