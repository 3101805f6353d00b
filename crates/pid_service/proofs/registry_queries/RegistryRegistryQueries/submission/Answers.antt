use Rattle.std.proofs.Common.{inl, inr, refl, rules}
use Rattle.pid_tables.proofs.OfCheck.Asking.{nothing_read}
use Rattle.pid_service.proofs.Words.{views_of}
use Rattle.pid_service.proofs.Causes.{caused_by}
use Rattle.pid_service.proofs.QueriesMet.{promised_if_there}
use Rattle.pid_service.proofs.Keeping.{true_not}
use Rattle.pid_service.proofs.Obeyed.{only_read}
use Rattle.pid_service.proofs.Reached.{reached_readable}
use Rattle.pid_service.proofs.registry_queries.RegistryRegistryQueries.submission.Goals as goal

pub returns-then-not-self : goal.returns-then-not-self
returns-then-not-self g c =
    promised_if_there g.C.Database c.args.self.now _ _ _ _
    (record {
      failed = λ still. (refl, refl);
      fault = inr (record { alive = λ on. true_not c.args.self.now.live on c.if-not-self.true; failed = λ still. refl });
      lives = refl;
      rests = nothing_read (g.C.Database.state c.args.self.now.tables.conn) c.args.self.now.tables.settled;
      told = λ clean h shows. true_not c.args.self.now.live shows.lives c.if-not-self.true;
      caused = λ clean h shows. true_not c.args.self.now.live shows.lives c.if-not-self.true;
    })

pub returns-in-Ok-Some : goal.returns-in-Ok-Some
returns-in-Ok-Some g c =
    promised_if_there g.C.Database c.args.self.now _ _ _ _
    (record {
      failed = true_not c.args.self.now.live c.if-not-self.false;
      fault = tt;
      lives = refl;
      rests = c.submission.ensures.rests;
      told = λ clean h shows. (search rules, only_read g.C.Database c.args.self.now _ h refl c.submission.ensures.rests refl shows);
      caused = λ clean h shows. tt;
    })

pub returns-in-Ok-None : goal.returns-in-Ok-None
returns-in-Ok-None g c =
    promised_if_there g.C.Database c.args.self.now _ _ _ _
    (record {
      failed = true_not c.args.self.now.live c.if-not-self.false;
      fault = inl refl;
      lives = refl;
      rests = c.submission.ensures.rests;
      told = λ clean h shows. (inl (refl, search rules), only_read g.C.Database c.args.self.now _ h refl c.submission.ensures.rests refl shows);
      caused = λ clean h shows. inl refl;
    })

pub returns-in-Err : goal.returns-in-Err
returns-in-Err g c =
    promised_if_there g.C.Database c.args.self.now _ _ _ _
    (record {
      failed = true_not c.args.self.now.live c.if-not-self.false;
      fault = inr (record { alive = λ on. c.refusal_of.ensures.fault; failed = true_not c.args.self.now.live c.if-not-self.false });
      lives = refl;
      rests = c.submission.ensures.rests;
      told = λ clean h shows. (inr c.refusal_of.ensures.fault, only_read g.C.Database c.args.self.now _ h refl c.submission.ensures.rests refl shows);
      caused = λ clean h shows.
          inr (caused_by g.C.Database c.args.self.now.tables.conn c.submission.new.self.conn c.in-Err.fault c.refusal_of.result c.refusal_of.ensures.same (c.in-Err.ensures.told clean (views_of h) shows.tables (reached_readable h shows.history)));
    })
