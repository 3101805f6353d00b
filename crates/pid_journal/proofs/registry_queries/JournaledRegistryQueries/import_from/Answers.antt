use Rattle.std.proofs.Common.{inl, inr}
use Rattle.pid_moderation.specs.BeforeFile.{import_of}
use Rattle.pid_moderation.specs.CheckTables.{most_file_bytes}
use Rattle.pid_moderation.specs.Files.{file_reading}
use Rattle.pid_moderation.specs.declared.refusal.Refusal.TheVariants.{BadText, Memory}
use Rattle.pid_journal.proofs.Imported.{broken_leaves, err_imported, long_refused, memory_leaves, nothing_done, ok_imported, too_long}
use Rattle.pid_journal.proofs.registry_queries.JournaledRegistryQueries.import_from.Goals as goal

-- memory ran out
pub returns-in-Ok-None-clause-obeyed : goal.returns-in-Ok-None-clause-obeyed
returns-in-Ok-None-clause-obeyed g c =
    let read = c.in-Ok-None.ensures.read in
    let asks = import_of c.args.account c.args.key (file_reading read.0) in
    record {
      text = read.0;
      consumed = read.1;
      read = inl read.2;
      holds = nothing_done g.R.RegistryCalls g.J.JournalFile g.met.R.RegistryCalls.lives c.args.self.now c.unless_failed-refusal.new.self asks Memory c.unless_failed-refusal.result c.unless_failed-refusal.ensures.honest c.unless_failed-refusal.ensures.told (λ start h shows. memory_leaves g.R.RegistryCalls g.J.JournalFile start h c.unless_failed-refusal.new.self asks shows) c.unless_failed-refusal.ensures.failed;
    }

-- the file is too long
pub returns-in-Err-TooLong-clause-obeyed : goal.returns-in-Err-TooLong-clause-obeyed
returns-in-Err-TooLong-clause-obeyed g c =
    let read = c.read_bytes.ensures.read in
    let asks = import_of c.args.account c.args.key (file_reading read.0) in
    let long = too_long most_file_bytes c.read_bytes.result c.in-Err-TooLong.field-0 (g.I.Input.to_come c.read_bytes.new.input) read.0 c.in-Err-TooLong.is c.in-Err-TooLong.field-0-is read.2 in
    let step = c.unless_failed-refusal-in-Err-TooLong in
    record {
      text = read.0;
      consumed = read.1;
      read = inr (step.ensures.told.either, long);
      holds = nothing_done g.R.RegistryCalls g.J.JournalFile g.met.R.RegistryCalls.lives c.args.self.now step.new.self asks BadText step.result step.ensures.honest step.ensures.told (λ start h shows. broken_leaves g.R.RegistryCalls g.J.JournalFile start h step.new.self asks (long_refused h c.args.account c.args.key read.0 long) shows) step.ensures.failed;
    }

-- the import was obeyed
pub returns-in-Ok-clause-obeyed : goal.returns-in-Ok-clause-obeyed
returns-in-Ok-clause-obeyed g c =
    let read = c.in-Ok-Some.ensures.read in
    record {
      text = read.0;
      consumed = read.1;
      read = read.2;
      holds = ok_imported g.R.RegistryCalls g.J.JournalFile g.met.R.RegistryCalls.lives c.args.self.now c.import_bytes.new.self c.args.account c.args.key c.in-Ok.reply c.in-Ok-Some.bytes.items read.0 (rw c.in-Ok-Some.field-0-is at read.3) c.in-Ok.ensures.honest c.in-Ok.ensures.obeyed c.in-Ok.ensures.failed;
    }

pub returns-in-Err-clause-obeyed : goal.returns-in-Err-clause-obeyed
returns-in-Err-clause-obeyed g c =
    let read = c.in-Ok-Some.ensures.read in
    record {
      text = read.0;
      consumed = read.1;
      read = inl read.2;
      holds = err_imported g.R.RegistryCalls g.J.JournalFile g.met.R.RegistryCalls.lives c.args.self.now c.import_bytes.new.self c.args.account c.args.key c.in-Err.refusal c.in-Ok-Some.bytes.items read.0 (rw c.in-Ok-Some.field-0-is at read.3) c.in-Err.ensures.honest c.in-Err.ensures.obeyed c.in-Err.ensures.failed;
    }
