use Rattle.std.proofs.Common.{◌≡◌, ℕ, ◌+◌, refl, ap, subst, sym, ◌∙◌}
use Rattle.pid_moderation.specs.Changes.{with_items, with_pairs}
use Rattle.pid_moderation.specs.Items.{imported}
use Rattle.pid_moderation.specs.Views.{Views, views_of}
use Rattle.pid_tables.specs.Rows.Steps.Within.{Within, Written}
use Rattle.pid_tables.specs.Rows.Shows.{counts_of}
use Rattle.pid_reader.specs.Lines.{lines_of}
use Rattle.pid_reader.specs.Reading.{entries_of}
use Rattle.pid_tables.specs.Steps.Putting.{put_in_turn}
use Rattle.pid_tables.proofs.OfRows.GoingLemmas.{earlier}
use Rattle.pid_tables.proofs.BringIn.{refused_apart, failed_apart}
use Rattle.pid_tables.proofs.InTurn.{in_turn}
use Rattle.pid_tables.proofs.Judged.{next_is}
use Rattle.pid_tables.proofs.put_file.apply_file.Goals as goal

pub returns-in-Err : goal.returns-in-Err
returns-in-Err g c = record {
  same_reference = refl;
  clean = λ clean. clean;
  limit = refl;
  holds = λ counts v w within. within.holds;
  applied = λ h text n marked is open_ many was next within. c.in-Err.ensures.judged h text marked is open_ many was;
  reads = refused_apart c.in-Err.refusal;
  alive = c.in-Err.ensures.alive;
}

pub returns-in-Ok-applied : goal.returns-in-Ok-applied
returns-in-Ok-applied g c = record {
  same_reference = c.apply-applied.ensures.same_reference;
  clean = earlier (g.B.Batch.batch.state c.args.batch.now) (g.B.Batch.batch.state c.apply-applied.new.batch) c.apply-applied.ensures.survives;
  limit = c.apply-applied.ensures.survives.limit;
  holds = λ counts v w within. c.apply-applied.ensures.holds counts v w within;
  applied = λ h text n marked is open_ many was next within.
      let v = views_of h in
      let pairs = entries_of (lines_of text) in
      let judged = c.in-Ok.ensures.judged h text marked is open_ many was in
      let number : n ≡ v.revision + 1 = next_is h c.args.command.now c.args.facts.now n open_ next judged.0 in
      let put : put_in_turn n pairs v ≡ with_pairs pairs v = in_turn n pairs v (c.texts_read_to_files.ensures.entries text was.good).apart ∙ ap (λ (m : ℕ). with_items m (imported pairs v.items) v) number in
      let begun = subst (λ (w : Views). Within (counts_of v) (g.B.Batch.batch.state c.args.batch.now) v w) put within in
      let done = c.in-Ok-applied.ensures.applied (counts_of v) v (with_pairs pairs v) begun judged.4 judged.3 in
      (judged.1, subst (λ (w : Views). Written (counts_of w) (g.B.Batch.batch.state c.apply-applied.new.batch) v w) (sym judged.2) done);
  reads = tt;
  alive = tt;
}

pub returns-in-Err-applied : goal.returns-in-Err-applied
returns-in-Err-applied g c = record {
  same_reference = c.apply-applied.ensures.same_reference;
  clean = earlier (g.B.Batch.batch.state c.args.batch.now) (g.B.Batch.batch.state c.apply-applied.new.batch) c.apply-applied.ensures.survives;
  limit = c.apply-applied.ensures.survives.limit;
  holds = λ counts v w within. c.apply-applied.ensures.holds counts v w within;
  applied = λ h text n marked is open_ many was next within. c.refusal_of.ensures.fault;
  reads = failed_apart c.refusal_of.result;
  alive = c.refusal_of.ensures.alive;
}
