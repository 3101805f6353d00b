use Rattle.std.proofs.Common.{refl}
use Rattle.std.proofs.lemmas.Bool.{false≢true}
use Rattle.pid_tables.proofs.OfCheck.Judged.{not_both, not_not}
use Rattle.pid_tables.proofs.OfCheck.LabelFacts.{good_of, items_of, submissions_of, told_of_schema, labels_made}
use Rattle.pid_tables.proofs.check.meta.are_labels.Goals as goal

pub returns-then-not-labels : goal.returns-then-not-labels
returns-then-not-labels c rows are = (λ no. absurd (false≢true no), λ good. absurd (not_both c.args.labels.good c.if-not-labels.true (good_of c.args.items c.args.submissions c.args.revision rows c.args.labels are c.args.version good)))

pub returns-then-not-is_once : goal.returns-then-not-is_once
returns-then-not-is_once c rows are = (λ no. absurd (false≢true no), λ good. c.if-not-is_once.ensures.1 (items_of c.args.items c.args.submissions c.args.revision rows c.args.labels are c.args.version good))

pub returns-then-not-is_once-2 : goal.returns-then-not-is_once-2
returns-then-not-is_once-2 c rows are = (λ no. absurd (false≢true no), λ good. c.if-not-is_once-2.ensures.1 (submissions_of c.args.items c.args.submissions c.args.revision rows c.args.labels are c.args.version good))

pub returns : goal.returns
returns c rows are =
    let it = c.args.labels in (
      λ yes.
          labels_made c.args.items c.args.submissions c.args.revision rows it are (not_not it.good c.if-not-labels.false) (c.if-not-is_once.ensures.0 refl) (c.if-not-is_once-2.ensures.0 refl) c.args.version (c.is_told_of_schema.ensures.0 yes),
      λ good. c.is_told_of_schema.ensures.1 (told_of_schema c.args.items c.args.submissions c.args.revision rows it are c.args.version good),
    )
