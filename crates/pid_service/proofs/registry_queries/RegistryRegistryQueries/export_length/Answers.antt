use Rattle.std.proofs.Common.{◌≡◌, length, rules, refl, ap, ◌∙◌}
use Rattle.pid_tables.proofs.OfCheck.Asking.{nothing_read}
use Rattle.pid_service.proofs.Words.{views_of}
use Rattle.pid_service.proofs.Exported.{text_kept, text_told}
use Rattle.pid_service.proofs.Keeping.{true_not}
use Rattle.pid_service.proofs.QueriesMet.{promised}
use Rattle.pid_service.proofs.Questions.{answers_fault, failed_here}
use Rattle.pid_service.proofs.Reached.{reached_readable, reached_text}
use Rattle.pid_service.proofs.registry_queries.RegistryRegistryQueries.export_length.Goals as goal

-- ---- it has failed

pub returns-then-not-self : goal.returns-then-not-self
returns-then-not-self g c =
    promised g.C.Database c.args.self.now _ _ _
    (failed_here g.C.Database c.args.self.now _ c.if-not-self.true c.args.self.now.tables.settled)

-- ---- the text is kept

pub returns-in-Some : goal.returns-in-Some
returns-in-Some g c =
    promised g.C.Database c.args.self.now _ _ _
    (record {
      failed = true_not c.args.self.now.live c.if-not-self.false;
      fault = tt;
      lives = refl;
      rests = nothing_read (g.C.Database.state c.args.self.now.tables.conn) c.args.self.now.tables.settled;
      told = λ clean h shows.
          let many : c.len.result ≡ length c.in-Some.text.bytes.items = search rules in
          (many ∙ ap length (text_told g.C.Database c.args.self.now h c.in-Some.text c.in-Some.is clean shows (reached_text h)), shows);
      caused = λ clean h shows. tt;
    })

-- ---- the items are read

pub returns-in-Ok : goal.returns-in-Ok
returns-in-Ok g c =
    promised g.C.Database c.args.self.now _ _ _
    (record {
      failed = true_not c.args.self.now.live c.if-not-self.false;
      fault = tt;
      lives = refl;
      rests = c.items_text.ensures.rests;
      told = λ clean h shows.
          let told = c.in-Ok.ensures.told clean (views_of h) shows.tables (reached_readable h shows.history) in
          (told.counted ∙ ap length (reached_text h), text_kept g.C.Database c.args.self.now _ h shows refl refl refl refl refl refl refl c.items_text.ensures.rests told.kept);
      caused = λ clean h shows. tt;
    })

pub returns-in-Err : goal.returns-in-Err
returns-in-Err g c =
    promised g.C.Database c.args.self.now _ _ _
    (answers_fault g.C.Database c.args.self.now _ c.in-Err.fault c.refusal_of.result _ c.if-not-self.false refl refl c.items_text.ensures.rests c.refusal_of.ensures.same c.refusal_of.ensures.fault
    (λ clean h shows. c.in-Err.ensures.told clean (views_of h) shows.tables (reached_readable h shows.history)))
