use Rattle.std.proofs.Common.{false, subst, sym}
use Rattle.sqlite.specs.Files.{file_state, IsBlankAs}
use Rattle.sqlite.specs.Start.{FindsIn}
use Rattle.pid_cli_jobs.proofs.host_files.open_database.Goals as goal

pub returns-in-Ok-open_files_with-clause-opened : goal.returns-in-Ok-open_files_with-clause-opened
returns-in-Ok-open_files_with-clause-opened g c =
    let same = c.in-Ok-open.ensures.found in
    record {
      fresh = c.in-Ok-open_files_with.ensures.fresh;
      opened = c.in-Ok-open_files_with.ensures.opened;
      found = λ clean.
          let found = c.in-Ok-open_files_with.ensures.found clean in
          subst (λ i. FindsIn i (file_state c.in-Ok-open_files_with.conn)) same (record { holds = found.holds; reads = found.reads });
      plain = λ clean blank.
          c.in-Ok-open_files_with.ensures.sums clean (subst (IsBlankAs false) (sym same) blank);
    }
