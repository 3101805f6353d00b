use Rattle.std.proofs.Common.{◌≡◌, IfErr, refl, subst, true}
use Rattle.pid_service.proofs.Words.{asked, Command, file_reading, import_of, is_import, ObeysImport, OfRefusal, OverHistory}
use Rattle.pid_service.proofs.ImportCauses.{Faults}
use Rattle.pid_service.proofs.Keeping.{true_not}
use Rattle.pid_service.proofs.Lasting.{end_lasting}
use Rattle.pid_service.proofs.ImportSessions.{failed_past}
use Rattle.pid_service.proofs.SessionsMet.{sessions_met}
use Rattle.pid_service.proofs.registry_queries.RegistryRegistryQueries.import_from.Goals as goal

pub returns : goal.returns
returns g c = record {
  failed = true_not c.args.self.now.live c.if-not-self.false;
  obeyed =
      let taken = c.import_act-end.ensures.taken in
      let asks = import_of c.args.account c.args.key (file_reading taken.text) in
      let import : is_import c.import_command-command.result.act ≡ true = rw c.import_command-command.ensures refl in
      let leaves : OverHistory g.C.Database c.args.self.now c.import_act-end.new.self (λ h. ObeysImport g.C.Database c.import_act-end.result c.import_act-end.new.self h asks) =
      λ clean h shows. subst (λ (k : Command). ObeysImport g.C.Database c.import_act-end.result c.import_act-end.new.self h (asked k (file_reading taken.text))) c.import_command-command.ensures (taken.holds clean h shows import) in
      record {
        text = taken.text;
        consumed = taken.consumed;
        read = taken.read;
        holds = record {
          calls = (sessions_met g.C.Database).imports c.args.self.now c.import_act-end.new.self asks c.import_act-end.result c.import_act-end.ensures.lasts.clean (true_not c.args.self.now.live c.if-not-self.false) leaves;
          leaves = leaves;
        };
      };
  reads = c.import_act-end.ensures.lasts.reads;
  lasts =
      let import : is_import c.import_command-command.result.act ≡ true = rw c.import_command-command.ensures refl in
      end_lasting g.C.Database c.args.self.now c.import_act-end.new.self (import_of c.args.account c.args.key) c.import_act-end.result c.import_act-end.ensures.lasts.live c.import_act-end.ensures.lasts.limit
      (λ clean h shows reading.
      subst (λ (k : Command). IfErr c.import_act-end.result (OfRefusal (Faults g.C.Database c.args.self.now.tables.conn c.import_act-end.new.self.tables.conn c.import_act-end.new.self.live h (asked k reading)))) c.import_command-command.ensures
      (c.import_act-end.ensures.caused clean h shows reading import));
}

-- ---- it has failed

pub returns-then-not-self : goal.returns-then-not-self
returns-then-not-self g c = record {
  failed = λ off. (failed_past _ _ c.answer_past.ensures.past.holds, refl);
  obeyed =
      let past = c.answer_past.ensures.past in
      record {
        text = past.text;
        consumed = past.consumed;
        read = past.read;
        holds = record {
          calls = (sessions_met g.C.Database).imports c.args.self.now c.args.self.now (import_of c.args.account c.args.key (file_reading past.text)) c.answer_past.result (λ clean. clean) (λ off. (failed_past _ _ past.holds, refl))
              (λ clean h shows. true_not c.args.self.now.live shows.lives c.if-not-self.true);
          leaves = λ clean h shows. true_not c.args.self.now.live shows.lives c.if-not-self.true;
        };
      };
  reads = c.answer_past.ensures.reads;
  lasts = record {
    alive = λ on. true_not c.args.self.now.live on c.if-not-self.true;
    stays = λ on. true_not c.args.self.now.live on c.if-not-self.true;
    fails = λ on. true_not c.args.self.now.live on c.if-not-self.true;
    limit = refl;
    caused = λ clean h shows. true_not c.args.self.now.live shows.lives c.if-not-self.true;
  };
}
