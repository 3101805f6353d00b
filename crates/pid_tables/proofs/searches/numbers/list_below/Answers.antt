use Rattle.std.proofs.Common.{inl, inr, sym, subst}
use Rattle.std.specs.Option.{option_copied}
use Rattle.pid_tables.specs.Searches.Steps.Among.{IsServing}
use Rattle.pid_tables.proofs.OfSearches.ServingLemmas.{cut_serves, kept_numbers}
use Rattle.pid_tables.proofs.searches.numbers.list_below.Goals as goal

pub returns-in_ok-other-in-None : goal.returns-in_ok-other-in-None
returns-in_ok-other-in-None c v holds =
    cut_serves v c.args.before (option_copied c.args.path) (option_copied c.args.author) _ c.cut_at.result.now c.cut_at.ensures (c.in_ok-other-in-None.ensures (option_copied c.args.path) v (kept_numbers c.args.numbers.now _ v c.in-Kept.is holds))

pub returns-in-None-other : goal.returns-in-None-other
returns-in-None-other c v holds =
    cut_serves v c.args.before (option_copied c.args.path) (option_copied c.args.author) _ c.cut_at-in-None-other.result.now c.cut_at-in-None-other.ensures (c.in-Some.ensures (option_copied c.args.author) v (kept_numbers c.args.numbers.now _ v c.in-Kept.is holds))

pub returns-in-Some-other : goal.returns-in-Some-other
returns-in-Some-other c v holds =
    cut_serves v c.args.before (option_copied c.args.path) (option_copied c.args.author) _ c.cut_at-in-Some-other.result.now c.cut_at-in-Some-other.ensures
    (elim c.shorter.ensures [
      | inl is ↦ subst (λ l. IsServing (option_copied c.args.path) (option_copied c.args.author) l v) (sym is) (c.in-Some.ensures (option_copied c.args.author) v (kept_numbers c.args.numbers.now _ v c.in-Kept.is holds))
      | inr is ↦ subst (λ l. IsServing (option_copied c.args.path) (option_copied c.args.author) l v) (sym is) (c.in-Some-other.ensures (option_copied c.args.path) v (kept_numbers c.args.numbers.now _ v c.in-Kept.is holds))
    ])
