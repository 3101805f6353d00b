use Rattle.std.proofs.Common.{◌≡◌, ◌≤◌, ◌<◌, [], arith, IfErr, inr, length, refl, rules, sym, subst, true, ◌∙◌}
use Rattle.std.proofs.lemmas.Bool.{false≢true}
use Rattle.pid_service.proofs.Words.{asked, Command, file_reading, Import, is_import, most_file_bytes, Obeys}
use Rattle.pid_service.proofs.ImportCauses.{Faults, bad_text, plain_faults}
use Rattle.pid_service.proofs.Imported.{bytes_obeyed, long_obeyed}
use Rattle.pid_service.proofs.Keeping.{true_not}
use Rattle.pid_service.proofs.Lasting.{lasting, not_failed}
use Rattle.pid_tables.proofs.Judged.{long_refused}
use Rattle.pid_service.proofs.registry.Registry.import.Goals as goal

pub returns-then-not-self : goal.returns-then-not-self
returns-then-not-self g c = record {
  clean = λ clean. clean;
  failed = λ still. (refl, refl);
  form = λ on. true_not c.args.self.now.live on c.if-not-self.true;
  obeyed = λ clean h shows. true_not c.args.self.now.live shows.lives c.if-not-self.true;
  caused = λ clean h shows. true_not c.args.self.now.live shows.lives c.if-not-self.true;
  lasts = record { alive = λ on. true_not c.args.self.now.live on c.if-not-self.true; stays = λ on. true_not c.args.self.now.live on c.if-not-self.true; fails = λ on. true_not c.args.self.now.live on c.if-not-self.true; limit = refl };
}

pub returns-then-file-gt-FILE_BYTES : goal.returns-then-file-gt-FILE_BYTES
returns-then-file-gt-FILE_BYTES g c =
    let over : most_file_bytes < length c.args.file.now = search rules in
    record {
      clean = λ clean. clean;
      failed = true_not c.args.self.now.live c.if-not-self.false;
      form = λ on long. (refl, refl);
      obeyed = λ clean h shows. long_obeyed g.C.Database c.args.self.now h (record { account = c.args.account; key = c.args.key; act = Import [] }) c.args.file.now long_refused refl over shows;
      caused = λ clean h shows reading. bad_text;
      lasts = lasting g.C.Database c.args.self.now c.args.self.now _ (not_failed, inr refl) refl;
    }

pub returns : goal.returns
returns g c =
    let import : is_import c.import_command-command.result.act ≡ true = rw c.import_command-command.ensures refl in
    let short : length c.args.file.now ≤ most_file_bytes = search rules in
    let old = c.args.self.now in
    let new = c.import_act.new.self in
    let result = c.without_body_fault-answer.result in
    let r = c.import_act.ensures.taken in
    let plain = c.without_body_fault-answer.ensures.same in
    record {
      clean = c.import_act.ensures.lasts.clean;
      failed = true_not c.args.self.now.live c.if-not-self.false;
      form = λ on long. absurd (let no : ⊥ = omega (arith, short, long) in no);
      obeyed = λ clean h shows.
          subst (λ (k : Command). Obeys g.C.Database result new h (asked k (file_reading c.args.file.now))) c.import_command-command.ensures
          (bytes_obeyed g.C.Database c.import_act.result result new h c.import_command-command.result c.args.file.now r.text c.import_act.new.input.rest.now plain
          (λ e. absurd (false≢true (c.import_act.ensures.lasts.reads.fault e))) (sym c.new-input.ensures.rest ∙ r.consumed) r.read short (r.holds clean h shows import));
      caused = λ clean h shows reading.
          subst (λ (k : Command). IfErr result (Faults g.C.Database old.tables.conn new.tables.conn new.live h (asked k reading))) c.import_command-command.ensures
          (plain_faults (Faults g.C.Database old.tables.conn new.tables.conn new.live h (asked c.import_command-command.result reading)) c.import_act.result result plain
          (λ e. absurd (false≢true (c.import_act.ensures.lasts.reads.fault e))) (c.import_act.ensures.caused clean h shows reading import));
      lasts = lasting g.C.Database old new result (c.without_body_fault-answer.ensures.held old.live new.live c.import_act.ensures.lasts.live) c.import_act.ensures.lasts.limit;
    }
