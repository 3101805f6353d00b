use Rattle.std.proofs.Common.{refl}
use Rattle.std.proofs.lemmas.Bool.{false≢true}
use Rattle.pid_tables.proofs.OfRows.CauseLemmas.{passed_on}
use Rattle.pid_tables.specs.Check.Steps.Reading.{TellsDamage}
use Rattle.pid_tables.proofs.OfCheck.Judged.{only_store_damage, registry_shown, damage_shown, not_both, not_not}
use Rattle.pid_tables.proofs.OfCheck.LabelFacts.{revision_of}
use Rattle.pid_tables.proofs.check.checking.check_rows.Goals as goal

pub returns-in_err-judged : goal.returns-in_err-judged
returns-in_err-judged g c = record {
  rests = c.in_err-judged.ensures.rests;
  told = λ clean d is has.
      passed_on c.from_residual.result _ _ (TellsDamage c.args.version d) c.from_residual.ensures.1 (only_store_damage c.args.version d _ (c.in_err-judged.ensures.told clean d is has.0));
}

pub returns-then-not-judged : goal.returns-then-not-judged
returns-then-not-judged g c = record {
  rests = c.in_ok-judged.ensures.rests;
  told = λ clean d is has.
      let it = c.in_ok-judged.ensures.told clean d is has.0 in
      let meta = has.1 in
      damage_shown c.args.version c.revision_told-revision.result d c.in_ok-judged.judged meta.0 meta.1 it.0
      (λ items submissions m low good. c.revision_told-revision.ensures.told m low (revision_of items submissions m meta.0 c.args.labels meta.2 good)) (λ good labels. not_both c.in_ok-judged.judged.good c.if-not-judged.true good);
}

pub returns-then-not-are_labels : goal.returns-then-not-are_labels
returns-then-not-are_labels g c = record {
  rests = c.in_ok-judged.ensures.rests;
  told = λ clean d is has.
      let it = c.in_ok-judged.ensures.told clean d is has.0 in
      let meta = has.1 in
      damage_shown c.args.version c.revision_told-revision.result d c.in_ok-judged.judged meta.0 meta.1 it.0
      (λ items submissions m low good. c.revision_told-revision.ensures.told m low (revision_of items submissions m meta.0 c.args.labels meta.2 good)) (λ yes labels.
      let no = (c.if-not-are_labels.ensures meta.0 meta.2).1 labels in
      absurd (false≢true no));
}

pub returns : goal.returns
returns g c = record {
  rests = c.in_ok-judged.ensures.rests;
  told = λ clean d is has.
      let it = c.in_ok-judged.ensures.told clean d is has.0 in
      let judged = c.in_ok-judged.judged in
      let meta = has.1 in
      let labels = (c.if-not-are_labels.ensures meta.0 meta.2).0 refl in
      (registry_shown c.args.version c.revision_told-revision.result d judged meta.0 meta.1 it.0 c.revision_told-revision.ensures.limit (not_not judged.good c.if-not-judged.false) labels, it.1);
}
