use Rattle.std.proofs.Common.{◌≡◌, inl, inr, true, false, Ok, ap, refl, sym, rules, ◌∙◌}
use Rattle.pid_service.specs.Registries.{HasCleanDisk}
use Rattle.pid_service.proofs.Words.{answer, Asked, asks, file_of, file_reading, History, is_broken, is_import, JudgesCommand, Obeys, reading_of, Shows, views_of}
use Rattle.std.proofs.lemmas.Bool.{false≢true}
use Rattle.pid_moderation.specs.History.{asked}
use Rattle.pid_service.proofs.ImportCauses.{Faults, bad_text, plain_faults}
use Rattle.pid_service.proofs.Imported.{bytes_obeyed, file_given}
use Rattle.pid_service.proofs.Keeping.{true_not}
use Rattle.pid_service.proofs.Lasting.{carried, lasting, not_failed}
use Rattle.pid_service.proofs.Obeyed.{broken_form, failed_over, judged_for, only_read, refused, well_made}
use Rattle.pid_service.proofs.ReadFiles.{tells_any}
use Rattle.pid_service.proofs.Reached.{reached_after}
use Rattle.pid_service.proofs.registry.Registry.obey_lent.Goals as goal

-- ---- a registry that has failed

pub returns-then-not-self : goal.returns-then-not-self
returns-then-not-self g c = record {
  clean = λ clean. clean;
  failed = λ still. (refl, refl);
  form = λ on. true_not c.args.self.now.live on c.if-not-self.true;
  obeyed = λ clean h shows. true_not c.args.self.now.live shows.lives c.if-not-self.true;
  caused = λ clean h shows. true_not c.args.self.now.live shows.lives c.if-not-self.true;
  import_caused = λ clean h shows. true_not c.args.self.now.live shows.lives c.if-not-self.true;
  lasts = record { alive = λ on. true_not c.args.self.now.live on c.if-not-self.true; stays = λ on. true_not c.args.self.now.live on c.if-not-self.true; fails = λ on. true_not c.args.self.now.live on c.if-not-self.true; limit = refl };
}

-- ---- what breaks a rule of form

pub returns-then-breaks_form : goal.returns-then-breaks_form
returns-then-breaks_form g c =
    let is = λ (h : History). c.breaks_form.ensures.refused (views_of h) (file_reading (file_of c.args.command.now.act)) (tells_any c.args.command.now.act) c.if-breaks_form.true in
    record {
      clean = λ clean. clean;
      failed = true_not c.args.self.now.live c.if-not-self.false;
      form = λ on broken. (refl, refl);
      obeyed = λ clean h shows. broken_form g.C.Database c.args.self.now h (asks c.args.command.now) shows (is h);
      caused = λ clean h shows other. inl (ap answer (is h));
      import_caused = λ clean h shows import. bad_text;
      lasts = lasting g.C.Database c.args.self.now c.args.self.now _ (not_failed, inr refl) refl;
    }

-- ---- an import

pub returns-in-Import : goal.returns-in-Import
returns-in-Import g c =
    let sound : is_broken c.args.command.now.act ≡ false = sym c.breaks_form.ensures.broken ∙ c.if-breaks_form.false in
    let import : is_import c.args.command.now.act ≡ true = ap is_import c.in-Import.is in
    let r = c.import_act.ensures.taken in
    let plain = c.without_body_fault.ensures.same in
    record {
      clean = c.import_act.ensures.lasts.clean;
      failed = true_not c.args.self.now.live c.if-not-self.false;
      form = λ on broken. true_not (is_broken c.args.command.now.act) broken sound;
      obeyed = λ clean h shows.
          file_given g.C.Database (λ (a : Asked). Obeys g.C.Database c.without_body_fault.result c.import_act.new.self h a) c.args.command.now c.in-Import.file c.as_bytes.result.now c.in-Import.is c.as_bytes.ensures sound
          (λ import short.
          bytes_obeyed g.C.Database c.import_act.result c.without_body_fault.result c.import_act.new.self h c.args.command.now c.as_bytes.result.now r.text c.import_act.new.input.rest.now plain
          (λ e. absurd (false≢true (c.import_act.ensures.lasts.reads.fault e))) (sym c.new-input.ensures.rest ∙ r.consumed) r.read short (r.holds clean h shows import));
      caused = λ clean h shows other. true_not (is_import c.args.command.now.act) import other;
      import_caused = λ clean h shows import.
          let reading = reading_of c.args.command.now.act in
          plain_faults (Faults g.C.Database c.args.self.now.tables.conn c.import_act.new.self.tables.conn c.import_act.new.self.live h (asked c.args.command.now reading)) c.import_act.result c.without_body_fault.result plain
          (λ e. absurd (false≢true (c.import_act.ensures.lasts.reads.fault e))) (c.import_act.ensures.caused clean h shows reading import);
      lasts = lasting g.C.Database c.args.self.now c.import_act.new.self c.without_body_fault.result (c.without_body_fault.ensures.held c.args.self.now.live c.import_act.new.self.live c.import_act.ensures.lasts.live) c.import_act.ensures.lasts.limit;
    }

-- ---- a refusal of the judgement, or a fault

pub returns-in-Err : goal.returns-in-Err
returns-in-Err g c =
    let reading = file_reading (file_of c.args.command.now.act) in
    let other : is_import c.args.command.now.act ≡ false = search rules in
    record {
      clean = c.judge.ensures.rests.clean;
      failed = true_not c.args.self.now.live c.if-not-self.false;
      form = λ on broken. true_not (is_broken c.args.command.now.act) broken (sym c.breaks_form.ensures.broken ∙ c.if-breaks_form.false);
      obeyed = λ clean h shows.
          refused g.C.Database _ h (asks c.args.command.now) c.in-Err.refusal (only_read g.C.Database c.args.self.now _ h refl c.judge.ensures.rests refl shows)
          (c.in-Err.ensures.judged clean h reading shows.history shows.tables other);
      import_caused = λ clean h shows import. true_not (is_import c.args.command.now.act) import other;
      caused = λ clean h shows same. judged_for g.C.Database c.args.self.now.tables.conn c.judge.new.tables.conn c.args.self.now.live h (asks c.args.command.now) c.in-Err.refusal shows.lives (c.in-Err.ensures.caused clean h reading shows.history shows.tables other);
      lasts = lasting g.C.Database c.args.self.now _ _ (c.in-Err.ensures.alive, inr refl) c.judge.ensures.rests.survives.limit;
    }

-- ---- what comes of it otherwise

pub returns-in-Ok : goal.returns-in-Ok
returns-in-Ok g c =
    let reading = file_reading (file_of c.args.command.now.act) in
    let other : is_import c.args.command.now.act ≡ false = search rules in
    let told : (clean : HasCleanDisk g.C.Database c.carry_out-answer.new.self) (h : History) (shows : Shows g.C.Database c.args.self.now h) → JudgesCommand h (asks c.args.command.now) (Ok c.in-Ok.judged) =
    λ clean h shows. c.in-Ok.ensures.judged (c.carry_out-answer.ensures.held.clean clean) h reading shows.history shows.tables other in
    record {
      clean = λ clean. c.judge.ensures.rests.clean (c.carry_out-answer.ensures.held.clean clean);
      failed = true_not c.args.self.now.live c.if-not-self.false;
      form = λ on broken. true_not (is_broken c.args.command.now.act) broken (sym c.breaks_form.ensures.broken ∙ c.if-breaks_form.false);
      obeyed = λ clean h shows.
          c.carry_out-answer.ensures.obeyed h (asks c.args.command.now)
          (record {
            shows = only_read g.C.Database c.args.self.now _ h refl c.judge.ensures.rests refl shows;
            reached = reached_after h (asks c.args.command.now) shows.history (well_made c.args.command.now reading other c.command_is_well_made.ensures);
            comes = told clean h shows;
          });
      import_caused = λ clean h shows import. true_not (is_import c.args.command.now.act) import other;
      caused = λ clean h shows same. failed_over g.C.Database c.args.self.now c.carry_out-answer.new.self c.args.self.now.live h (asks c.args.command.now) c.in-Ok.judged c.carry_out-answer.result c.carry_out-answer.ensures.held.live c.carry_out-answer.ensures.repeated (told clean h shows);
      lasts = lasting g.C.Database c.args.self.now c.carry_out-answer.new.self c.carry_out-answer.result (carried c.carry_out-answer.result c.args.self.now.live c.carry_out-answer.new.self.live c.carry_out-answer.ensures.held.live) (c.carry_out-answer.ensures.held.limit ∙ c.judge.ensures.rests.survives.limit);
    }
