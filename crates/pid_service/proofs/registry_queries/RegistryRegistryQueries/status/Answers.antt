use Rattle.std.proofs.Common.{◌≡◌, ap, refl, true}
use Rattle.pid_service.proofs.Words.{is_live, registry_status_of, RegistryStatus, views_of}
use Rattle.pid_service.proofs.Keeping.{true_not}
use Rattle.pid_service.proofs.QueriesMet.{promised}
use Rattle.pid_service.proofs.Questions.{answers_fault, answers_refused, answers_then, live_after}
use Rattle.pid_moderation.proofs.AccountsCounted.{is_its_status}
use Rattle.pid_service.proofs.Reached.{reached_readable}
use Rattle.pid_service.proofs.registry_queries.RegistryRegistryQueries.status.Goals as goal

pub returns-in-Ok-status_by : goal.returns-in-Ok-status_by
returns-in-Ok-status_by g c =
    let mid = c.keep_pending.new.self in
    let on : is_live mid ≡ true = live_after g.C.Database c.args.self.now mid _ _ c.in-Ok.ensures in
    let found = c.in-Ok-status_by.ensures in
    promised g.C.Database c.args.self.now _ _ _
    (answers_then g.C.Database c.args.self.now mid _ _ _ _ _ c.in-Ok.ensures
    (record {
      failed = true_not (is_live mid) on;
      fault = tt;
      lives = refl;
      rests = found.rests;
      told = λ clean h shows.
          let kept = shows.kept (found.rests.clean clean) in
          let says = found.told clean (views_of h) shows.tables kept.pending kept.accounts in (
            is_its_status h (registry_status_of c.in-Ok-status_by.status) says,
            record {
              lives = shows.lives;
              history = shows.history;
              tables = found.rests.kept (views_of h) shows.tables;
              kept = λ still. record { names = kept.names; text = kept.text; top = kept.top; changes = kept.changes; pending = kept.pending; numbers = kept.numbers; accounts = (says.0, says.1, ap (λ (s : RegistryStatus). s.accounts) says.2) };
            },
          );
      caused = λ clean h shows. tt;
    }))

pub returns-in-Err-status_by : goal.returns-in-Err-status_by
returns-in-Err-status_by g c =
    let mid = c.keep_pending.new.self in
    promised g.C.Database c.args.self.now _ _ _
    (answers_then g.C.Database c.args.self.now mid _ _ _ _ _ c.in-Ok.ensures
    (answers_fault g.C.Database mid _ c.in-Err-status_by.fault c.refusal_of.result _ (live_after g.C.Database c.args.self.now mid _ _ c.in-Ok.ensures) refl refl c.status_by.ensures.rests c.refusal_of.ensures.same c.refusal_of.ensures.fault
    (λ clean h shows. c.in-Err-status_by.ensures.told clean (views_of h) shows.tables (reached_readable h shows.history))))

pub returns-in-Err : goal.returns-in-Err
returns-in-Err g c =
    promised g.C.Database c.args.self.now _ _ _
    (answers_refused g.C.Database c.args.self.now c.keep_pending.new.self c.in-Err.refusal _ _ c.in-Err.ensures)
