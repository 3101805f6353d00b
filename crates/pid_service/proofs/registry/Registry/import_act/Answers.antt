use Rattle.std.proofs.Common.{refl, ◌∙◌}
use Rattle.pid_service.proofs.Words.{asked, file_reading}
use Rattle.pid_service.proofs.ImportCauses.{Faults, bad_text, early_faults, open_faults, past_faults}
use Rattle.pid_service.proofs.Imported.{past_obeyed}
use Rattle.pid_service.proofs.Lasting.{still_live}
use Rattle.pid_service.proofs.Obeyed.{only_read}
use Rattle.pid_service_laws.proofs.Judging.{outcome_of}
use Rattle.pid_tables.proofs.Readings.{long_alone}
use Rattle.pid_tables.proofs.Judged.{long_refused}
use Rattle.pid_service.proofs.Reached.{reached_after, reached_sound}
use Rattle.pid_service.proofs.registry.Registry.import_act.Goals as goal

pub returns-in-Answered : goal.returns-in-Answered
returns-in-Answered g c = record {
  lasts = record {
    clean = c.judge_import.ensures.rests.clean;
    live = still_live c.answer_past.result (c.answer_past.ensures.alive refl c.in-Answered.ensures.alive) c.args.self.now.live;
    limit = c.judge_import.ensures.rests.survives.limit;
    reads = c.answer_past.ensures.reads;
  };
  taken = let r = c.answer_past.ensures.past in
      record {
        text = r.text;
        consumed = r.consumed;
        read = r.read;
        holds = λ clean h shows import.
            past_obeyed g.C.Database _ h c.args.command.now c.in-Answered.answer c.answer_past.result r.text long_alone long_refused import
            (only_read g.C.Database c.args.self.now _ h refl c.judge_import.ensures.rests refl shows)
            (c.in-Answered.ensures.judged clean h (reached_sound h shows.history) shows.tables) r.holds;
      };
  caused = λ clean h shows reading import.
      let old = c.args.self.now.tables.conn in
      let new = c.judge_import.new.tables.conn in
      let live = c.args.self.now.live in
      past_faults (Faults g.C.Database old new live h (asked c.args.command.now reading)) c.in-Answered.answer c.answer_past.result c.answer_past.ensures.past.text c.answer_past.ensures.past.holds
      (early_faults g.C.Database old new live outcome_of shows.lives h c.args.command.now reading c.in-Answered.answer
      (c.in-Answered.ensures.caused clean h (reached_sound h shows.history) shows.tables))
      bad_text;
}

pub returns-in-Open : goal.returns-in-Open
returns-in-Open g c = record {
  lasts = record {
    clean = λ clean. c.judge_import.ensures.rests.clean (c.carry_in-end.ensures.lasts.clean clean);
    live = c.carry_in-end.ensures.lasts.live;
    limit = c.carry_in-end.ensures.lasts.limit ∙ c.judge_import.ensures.rests.survives.limit;
    reads = c.carry_in-end.ensures.lasts.reads;
  };
  taken = let r = c.carry_in-end.ensures.obeyed in
      record {
        text = r.text;
        consumed = r.consumed;
        read = r.read;
        holds = λ clean h shows import.
            let early = c.in-Open.ensures.judged (c.carry_in-end.ensures.lasts.clean clean) h (reached_sound h shows.history) shows.tables in
            r.holds clean h
            (record {
              shows = only_read g.C.Database c.args.self.now _ h refl c.judge_import.ensures.rests refl shows;
              import = import;
              waits = early.0;
              many = early.1;
              reached = reached_after h (asked c.args.command.now (file_reading r.text)) shows.history (c.command_is_well_made.ensures (file_reading r.text) (c.texts_read_to_files.ensures.readings r.text));
            });
      };
  caused = λ clean h shows reading import.
      let early = c.in-Open.ensures.judged (c.carry_in-end.ensures.lasts.clean clean) h (reached_sound h shows.history) shows.tables in
      open_faults g.C.Database c.args.self.now.tables.conn c.carry_in-end.new.self.tables.conn c.carry_in-end.new.self.live h c.args.command.now reading _ c.carry_in-end.result early.0
      (c.carry_in-end.ensures.caused clean h (only_read g.C.Database c.args.self.now _ h refl c.judge_import.ensures.rests refl shows) shows.history.marked import early.0 early.1);
}
