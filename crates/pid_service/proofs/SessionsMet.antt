-- What each call of a registry is to sessions.
use Rattle.pid_tables.specs.declared.database.Database.{Ghosts}
use Rattle.pid_service.specs.SessionLaws.{CallsMeetSessions}
use Rattle.pid_service_laws.proofs.Calling.{obeyed_does, ran_does}
use Rattle.pid_service.specs.Histories.{showing}
use Rattle.pid_service.specs.Registries.{is_live}
use Rattle.pid_service.proofs.QueriesMet.{looks}
use Rattle.pid_service.proofs.Finding.{still_between}
use Rattle.pid_service.proofs.ImportSessions.{ObeysLaw, import_sessions}
use Rattle.pid_service.proofs.RunSessions.{run_sessions}

module _ {S : Type 0} (database : Ghosts S) where
  pub sessions_met : CallsMeetSessions database
  sessions_met =
      let obeys : ObeysLaw database = λ old new asked result clean failed told. obeyed_does (showing database) old new asked result (is_live new) clean told
      (λ h next between. let is = failed between.has_failed in (is.0, still_between database old new h next is.1 between))
      (λ h next between. between.has_failed) in
      let looking = looks database in
      record {
        obeys = obeys;
        imports = import_sessions database obeys looking;
        runs = λ old new commands report clean failed told.
            ran_does (showing database) old new commands report.replies.items report.fault (is_live new) clean (λ disk h shows. run_sessions database report new h commands (told disk h shows))
            (λ h next between. let is = failed between.has_failed in (is.0, is.1, still_between database old new h next is.2 between))
            (λ h next between. between.has_failed);
        looks = looking;
      }
