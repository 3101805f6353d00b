use Rattle.std.proofs.Common.{ap, map, refl, ◌∙◌}
use Rattle.pid_tables.proofs.OfCheck.Asking.{nothing_read}
use Rattle.pid_service.proofs.Words.{pair_of, views_of}
use Rattle.pid_service.proofs.Keeping.{true_not}
use Rattle.pid_service.proofs.QueriesMet.{promised}
use Rattle.pid_service.proofs.Questions.{answers_fault, failed_here}
use Rattle.pid_service.proofs.Reached.{reached_items, reached_readable}
use Rattle.pid_service.proofs.registry_queries.RegistryRegistryQueries.children.Goals as goal

pub returns-then-not-self : goal.returns-then-not-self
returns-then-not-self g c =
    promised g.C.Database c.args.self.now _ _ _
    (failed_here g.C.Database c.args.self.now _ c.if-not-self.true c.args.self.now.tables.settled)

-- ---- they are kept

pub returns-in-Some : goal.returns-in-Some
returns-in-Some g c =
    promised g.C.Database c.args.self.now _ _ _
    (record {
      failed = true_not c.args.self.now.live c.if-not-self.false;
      fault = tt;
      lives = refl;
      rests = nothing_read (g.C.Database.state c.args.self.now.tables.conn) c.args.self.now.tables.settled;
      told = λ clean h shows.
          let right = shows.kept clean in
          let told = c.in-Some.ensures (views_of h) right in
          (told, record { lives = shows.lives; history = shows.history; tables = shows.tables; kept = λ still. c.keep_top.ensures (views_of h) right (ap (map pair_of) c.as_slice.ensures.value ∙ told) });
      caused = λ clean h shows. tt;
    })

-- ---- they are read

pub returns-in-Ok : goal.returns-in-Ok
returns-in-Ok g c =
    promised g.C.Database c.args.self.now _ _ _
    (let rests = c.children-2.ensures.rests in
    record {
      failed = true_not c.args.self.now.live c.if-not-self.false;
      fault = tt;
      lives = refl;
      rests = rests;
      told = λ clean h shows.
          let told = c.in-Ok.ensures.told clean (views_of h) shows.tables (reached_items h shows.history).0 in (
            told,
            record {
              lives = shows.lives;
              history = shows.history;
              tables = rests.kept (views_of h) shows.tables;
              kept = λ still. c.keep_top-in-Ok.ensures (views_of h) (shows.kept (rests.clean clean)) (ap (map pair_of) c.as_slice-in-Ok.ensures.value ∙ told);
            },
          );
      caused = λ clean h shows. tt;
    })

pub returns-in-Err : goal.returns-in-Err
returns-in-Err g c =
    promised g.C.Database c.args.self.now _ _ _
    (answers_fault g.C.Database c.args.self.now _ c.in-Err.fault c.refusal_of.result _ c.if-not-self.false refl refl c.children-2.ensures.rests c.refusal_of.ensures.same c.refusal_of.ensures.fault
    (λ clean h shows. c.in-Err.ensures.told clean (views_of h) shows.tables (reached_readable h shows.history)))
