use Rattle.std.proofs.Common.{rules, refl}
use Rattle.pid_tables.proofs.OfCheck.Asking.{nothing_read}
use Rattle.pid_service.proofs.Words.{Failed, History, OnlyAsked, Shows, tree_of}
use Rattle.pid_service.proofs.QueriesMet.{looks}
use Rattle.pid_service.proofs.Keeping.{true_not}
use Rattle.pid_service.proofs.CallsMet.{failed_gives, looked_up}
use Rattle.pid_service.proofs.registry_calls.RegistryRegistryCalls.lookup.Goals as goal

-- ---- it has failed

pub returns-then-not-self : goal.returns-then-not-self
returns-then-not-self g c = record {
  failed = λ off. (refl, refl);
  lives = refl;
  rests = nothing_read (g.C.Database.state c.args.self.now.tables.conn) c.args.self.now.tables.settled;
  calls = looks g.C.Database c.args.self.now c.args.self.now (λ clean. clean) (λ off. refl) (λ clean h shows. shows);
  answer = λ clean h shows. true_not c.args.self.now.live shows.lives c.if-not-self.true;
  shown = λ h shows. shows;
  bad_flags = λ on. true_not c.args.self.now.live on c.if-not-self.true;
  fault = λ f is. failed_gives c.args.self.now.live c.if-not-self.true Failed f refl (search rules);
  caused = λ clean h shows. true_not c.args.self.now.live shows.lives c.if-not-self.true;
  unasked = λ on. true_not c.args.self.now.live on c.if-not-self.true;
  unrequested = λ on. true_not c.args.self.now.live on c.if-not-self.true;
  told = λ needs. tt;
}

-- ---- it is live

pub returns : goal.returns
returns g c =
    let start : OnlyAsked g.C.Database c.args.self.now c.args.self.now = record { lives = refl; rests = nothing_read (g.C.Database.state c.args.self.now.tables.conn) c.args.self.now.tables.settled; failed = λ off. refl } in
    let asked = c.lookup.ensures.kept.asked c.args.self.now start in
    let shown : (h : History) → Shows g.C.Database c.args.self.now h → Shows g.C.Database c.lookup.new.names h = search rules in
    let bad = c.lookup.ensures.bad_flags in
    record {
      failed = true_not c.args.self.now.live c.if-not-self.false;
      lives = asked.lives;
      rests = asked.rests;
      calls = looks g.C.Database c.args.self.now _ asked.rests.clean (true_not c.args.self.now.live c.if-not-self.false) (λ clean. shown);
      answer = λ clean h shows. looked_up c.lookup.result (tree_of h) c.args.flags c.args.args.now c.args.size c.args.self.now.live shows.lives (c.lookup.ensures.answer clean h shows) (λ on. bad) c.lookup.ensures.asks.fault;
      shown = shown;
      bad_flags = λ on. bad;
      fault = c.lookup.ensures.asks.fault;
      caused = λ clean h shows f. c.lookup.ensures.caused clean h shows c.args.self.now start f;
      unasked = λ on. c.lookup.ensures.asks.unasked;
      unrequested = λ on. c.lookup.ensures.asks.unrequested;
      told = c.lookup.ensures.asks.told;
    }
