use Rattle.std.proofs.Common.{◌≡◌, ◌++◌, ◌∷◌, [], List, ℕ, ap, sym, subst, ◌∙◌}
use Rattle.sqlite.specs.Order.{column}
use Rattle.pid_ident.specs.PathTexts.{path_text}
use Rattle.pid_tables.specs.Searches.KeptNumbers.{AreKeptFor}
use Rattle.pid_tables.proofs.OfSearches.FilingLists.{same_text}
use Rattle.pid_tables.proofs.searches.filings.add_row.Goals as goal

pub returns : goal.returns
returns c s filings row are count added =
    let path : c.in-Ok.path.now ≡ path_text s.path = same_text _ _ (sym c.in-Ok.ensures.read ∙ ap (λ r. column r 0) row) in
    let author : c.in-Ok-text_at.author.now ≡ s.author = same_text _ _ (sym c.in-Ok-text_at.ensures.read ∙ ap (λ r. column r 1) row) in
    subst (λ (f : List ℕ × List ℕ). AreKeptFor c.add_number.new.kept (filings ++ f ∷ [])) (λ i. (path i, author i)) (c.add_number.ensures filings are count added)
