use Rattle.std.proofs.Common.{is_some, true, false, ◌≡◌, ap, sym, ◌∙◌}
use Rattle.pid_service.proofs.Words.{Accepts, asked, judge, views_of}
use Rattle.pid_service.proofs.Judged.{refusal_told, told_or_memory, leads, fits, newly_accepts, repeated_stays}
use Rattle.pid_service.proofs.judging.judged_by.Goals as goal

pub returns-in-Err-clause-judged : goal.returns-in-Err-clause-judged
returns-in-Err-clause-judged c h reading is marked other = refusal_told h (asked c.args.command.now reading) c.in-Err.refusal ((c.in-Err.ensures.answers (views_of h) reading is).refusal)

pub returns-else-is_some-clause-judged : goal.returns-else-is_some-clause-judged
returns-else-is_some-clause-judged c h reading is marked other =
    let none : is_some c.args.facts.now.kept ≡ false = sym c.is_some.ensures ∙ c.if-is_some.false in
    let asks = asked c.args.command.now reading in
    let accepts : judge (views_of h) asks ≡ Accepts c.in-Ok.reply = newly_accepts h asks c.in-Ok.reply (sym (ap (λ f. is_some f.kept) is) ∙ none) (c.in-Ok.ensures.answers (views_of h) reading is).reply in
    record {
      judged = accepts;
      leads = leads h c.args.command.now reading c.in-Ok.change other (c.in-Ok.ensures.change h reading marked is);
      fits = fits h c.args.command.now reading c.in-Ok.change other (c.in-Ok.ensures.fits h reading is);
    }

pub returns-then-is_some-clause-judged : goal.returns-then-is_some-clause-judged
returns-then-is_some-clause-judged c h reading is marked other =
    let there : is_some c.args.facts.now.kept ≡ true = sym c.is_some.ensures ∙ c.if-is_some.true in
    ((c.in-Ok.ensures.answers (views_of h) reading is).reply, repeated_stays h (asked c.args.command.now reading) (sym (ap (λ f. is_some f.kept) is) ∙ there))

pub returns-in-Err-clause-refused : goal.returns-in-Err-clause-refused
returns-in-Err-clause-refused c h reading is = told_or_memory h (asked c.args.command.now reading) c.in-Err.refusal ((c.in-Err.ensures.answers (views_of h) reading is).refusal)
