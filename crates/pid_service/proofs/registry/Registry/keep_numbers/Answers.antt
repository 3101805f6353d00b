use Rattle.std.proofs.Common.{refl}
use Rattle.pid_moderation.specs.Views.{views_of}
use Rattle.pid_service.proofs.Keeping.{true_not}
use Rattle.pid_service.proofs.Questions.{answered_here, answers_fault, failed_here}
use Rattle.pid_service.proofs.Reached.{reached_readable}
use Rattle.pid_service.proofs.registry.Registry.keep_numbers.Goals as goal

pub returns-then-not-self : goal.returns-then-not-self
returns-then-not-self g c = failed_here g.C.Database c.args.self.now _ c.if-not-self.true c.args.self.now.tables.settled

pub returns-then-not-wanted : goal.returns-then-not-wanted
returns-then-not-wanted g c = answered_here g.C.Database c.args.self.now _ _ c.if-not-self.false c.args.self.now.tables.settled (λ clean h shows. tt)

pub returns-in_default : goal.returns-in_default
returns-in_default g c = answered_here g.C.Database c.args.self.now _ _ c.if-not-self.false c.args.self.now.tables.settled (λ clean h shows. tt)

pub returns-in-Ok : goal.returns-in-Ok
returns-in-Ok g c =
    let rests = c.read_numbers.ensures.rests in
    record {
      failed = true_not c.args.self.now.live c.if-not-self.false;
      fault = tt;
      lives = refl;
      rests = rests;
      told = λ clean h shows.
          let kept = shows.kept (rests.clean clean) in
          (tt, record { lives = shows.lives; history = shows.history; tables = rests.kept (views_of h) shows.tables; kept = λ still. record { names = kept.names; text = kept.text; top = kept.top; changes = kept.changes; pending = kept.pending; numbers = c.in-Ok.ensures.told clean (views_of h) shows.tables; accounts = kept.accounts } });
      caused = λ clean h shows. tt;
    }

pub returns-in-Err-Memory : goal.returns-in-Err-Memory
returns-in-Err-Memory g c =
    let rests = c.read_numbers.ensures.rests in
    record {
      failed = true_not c.args.self.now.live c.if-not-self.false;
      fault = tt;
      lives = refl;
      rests = rests;
      told = λ clean h shows.
          let kept = shows.kept (rests.clean clean) in
          (tt, record { lives = shows.lives; history = shows.history; tables = rests.kept (views_of h) shows.tables; kept = λ still. record { names = kept.names; text = kept.text; top = kept.top; changes = kept.changes; pending = kept.pending; numbers = tt; accounts = kept.accounts } });
      caused = λ clean h shows. tt;
    }

pub returns-in-Err : goal.returns-in-Err
returns-in-Err g c =
    answers_fault g.C.Database c.args.self.now _ c.in-Err.fault c.refusal_of.result _ c.if-not-self.false refl refl c.read_numbers.ensures.rests c.refusal_of.ensures.same c.refusal_of.ensures.fault
    (λ clean h shows. c.in-Err.ensures.told clean (views_of h) shows.tables (reached_readable h shows.history))
