-- What a question to a registry comes to, as one under moderation.
use Rattle.std.proofs.Common.{Option, Result, ap, subst, ◌∙◌, Bool}
use Rattle.pid_file.specs.declared.io.Output as outputs
use Rattle.pid_service_laws.proofs.Calling.{looked_does}
use Rattle.pid_tables.proofs.OfRows.OnlyReading.{reads_then}
use Rattle.pid_service.proofs.Words.{Answers, AnswersIfThere, connection, ExportFault, Finds, FindsIfThere, Ghosts, History, is_live, IsExported, MayGive, OverHistory, Refusal, Registry, Shows}
use Rattle.pid_service.proofs.Finding.{still_between}
use Rattle.pid_service.proofs.ImportSessions.{LooksLaw}
use Rattle.pid_service.proofs.Questions.{caused_since}
use Rattle.pid_service.specs.Histories.{showing}

module _ {S : Type 0} (database : Ghosts S) where
  -- each call that only looks is a call of the session that sends nothing
  pub looks : LooksLaw database
  looks old new clean failed told =
      looked_does (showing database) old new clean told (λ h next between. still_between database old new h next (failed between.has_failed) between)

  -- what was read answers a question
  pub promised : {X : Type 0} (old new : Registry S database) (result : Result X Refusal) (Says : History → X → Type 0) → Finds database old new result Says → Answers database old new result Says
  promised old new result Says found = record {
    asked = record {
      calls = looks old new found.rests.clean (λ off. (found.failed off).1) (λ good h shows. (found.told good h shows).1);
      failed = found.failed;
      told = found.told;
      beside = tt;
    };
    fault = found.fault;
    lives = found.lives;
    rests = found.rests;
    caused = found.caused;
  }

  pub promised_if_there : {X Y : Type 0} (old new : Registry S database) (result : Result X Refusal) (found : History → Option Y) (means : X → Y) → FindsIfThere database old new result found means → AnswersIfThere database old new result found means
  promised_if_there old new result found means a = record {
    asked = record {
      calls = looks old new a.rests.clean (λ off. (a.failed off).1) (λ good h shows. (a.told good h shows).1);
      failed = a.failed;
      told = a.told;
      beside = tt;
    };
    fault = a.fault;
    lives = a.lives;
    rests = a.rests;
    caused = a.caused;
  }

  -- and the other way round
  pub finds : {X : Type 0} (old new : Registry S database) (result : Result X Refusal) (Says : History → X → Type 0) → Answers database old new result Says → Finds database old new result Says
  finds old new result Says a = record { failed = a.asked.failed; fault = a.fault; lives = a.lives; rests = a.rests; told = a.asked.told; caused = a.caused }

  -- an export behind a question, whatever that answered
  pub exported_then : {X W : Type 0} (writer : outputs.Ghosts W) (old mid new : Registry S database) (before after : W) (first : Result X Refusal) (result : Result (Unit {0}) ExportFault) (Says : History → X → Type 0) → Answers database old mid first Says → IsExported database writer mid new before after result
      → IsExported database writer old new before after result
  exported_then writer old mid new before after first result Says a e =
      let shown : OverHistory database old new (Shows database new) = λ clean h shows. e.shown clean h (a.asked.told (e.rests.clean clean) h shows).1 in record {
        calls = looks old new (λ clean. a.rests.clean (e.rests.clean clean)) (λ off. let same = (a.asked.failed off).1 in (e.failed (ap is_live same ∙ off)).1 ∙ same) shown;
        failed = λ off. let same = (a.asked.failed off).1 in let so = e.failed (ap is_live same ∙ off) in (so.0, so.1 ∙ same, so.2);
        lives = e.lives ∙ a.lives;
        rests = reads_then (database.state (connection old)) (database.state (connection mid)) (database.state (connection new)) a.rests e.rests;
        shown = shown;
        printed = λ clean h shows. e.printed clean h (a.asked.told (e.rests.clean clean) h shows).1;
        refused = λ f is. subst (λ (b : Bool). MayGive b f) a.lives (e.refused f is);
        caused = λ clean h shows f is. caused_since database (connection old) (connection mid) (connection new) f a.rests e.rests clean (e.caused clean h (a.asked.told (e.rests.clean clean) h shows).1 f is);
        fault = e.fault;
      }
