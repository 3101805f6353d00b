use Rattle.std.proofs.Common.{sym, subst, MatchResult}
use Rattle.pid_moderation.specs.Items.{name_at}
use Rattle.pid_tables.specs.Rows.Faults.{IsMemoryOrStore}
use Rattle.pid_tables.specs.Rows.Steps.Shows.{ShowsCounting}
use Rattle.pid_tables.proofs.ApplyLemmas.{none_there}
use Rattle.pid_tables.proofs.ChangeLemmas.{removed}
use Rattle.pid_tables.proofs.batch.edit_item.Goals as goal

pub returns-in-Remove : goal.returns-in-Remove
returns-in-Remove g c = record {
  same_reference = c.remove_item.ensures.same_reference;
  goes = c.remove_item.ensures.goes;
  shows = rw c.in-Remove.is (λ clean inside counts v shows fits.
      subst (λ w. MatchResult c.remove_item.result (λ _. ShowsCounting counts (g.B.Batch.batch.state c.remove_item.new.tx).now w) IsMemoryOrStore) (sym (removed c.args.revision c.args.path.now v)) (c.remove_item.ensures.shows clean inside counts v shows tt));
}

pub returns-in-Add : goal.returns-in-Add
returns-in-Add g c = record {
  same_reference = c.add_item.ensures.same_reference;
  goes = c.add_item.ensures.goes;
  shows = rw c.in-Add.is (λ clean inside counts v shows fits. (rw c.as_str.ensures.text at c.add_item.ensures.shows) clean inside counts v shows (none_there (name_at c.args.path.now v.items) fits));
}

pub returns-in-Rename : goal.returns-in-Rename
returns-in-Rename g c = record {
  same_reference = c.rename_item.ensures.same_reference;
  goes = c.rename_item.ensures.goes;
  shows = rw c.in-Rename.is (λ clean inside counts v shows fits. (rw c.as_str-in-Rename.ensures.text at c.rename_item.ensures.shows) clean inside counts v shows fits);
}
