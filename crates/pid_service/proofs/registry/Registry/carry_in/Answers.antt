use Rattle.std.proofs.Common.{◌≡◌, inl, inr, Err, refl, rules, ap}
use Rattle.pid_tables.specs.declared.put_file.Stop.TheVariants as stops
use Rattle.pid_service_laws.specs.declared.faults.ImportEnd.TheVariants as imports
use Rattle.pid_service.proofs.Words.{asked, file_reading, views_of}
use Rattle.pid_service.proofs.Imported.{body_carried, body_read, failed_carried, failed_read, failure_not, ok_obeyed, refusal_not, refused_alive, refused_carried, refused_read, stop_not}
use Rattle.pid_service.proofs.ImportCauses.{refused_stays}
use Rattle.pid_service.proofs.ForgottenItems.{all_left, import_leaves}
use Rattle.pid_service.proofs.Keeping.{ok_not}
use Rattle.pid_service.proofs.Lasting.{fault_alive}
use Rattle.pid_service_laws.proofs.Judging.{outcome_of}
use Rattle.pid_service.proofs.registry.Registry.carry_in.Goals as goal

pub returns-in-Ok : goal.returns-in-Ok
returns-in-Ok g c = record {
  lasts = record {
    clean = c.import_file.ensures.ends.clean;
    live = refl;
    limit = c.import_file.ensures.ends.limit;
    reads = record { goes = c.import_file.ensures.goes; fault = λ body. ok_not c.in-Ok.reply imports.Body body; fault_first = λ some. ok_not c.in-Ok.reply stops.Body (c.in-Ok.ensures.read_fault.first some) };
  };
  obeyed = let r = c.in-Ok.ensures.stops in
      record {
        text = r.0;
        consumed = r.1;
        read = r.2;
        holds = λ clean h w. ok_obeyed g.C.Database c.args.self.now _ h (asked c.args.command.now (file_reading r.0)) c.in-Ok.reply w.shows refl w.reached (λ clean. c.forget_items.ensures (views_of h) _ (import_leaves h c.args.command.now (file_reading r.0) w.import) (w.shows.kept (c.import_file.ensures.ends.clean clean))) (r.3 clean h w.shows.tables w.shows.history.marked w.import w.waits w.many);
      };
  caused = λ clean h shows marked import waits many. tt;
}

pub returns-in-Err-Body : goal.returns-in-Err-Body
returns-in-Err-Body g c = record {
  lasts =
      let is : c.in-Err-Body.field-0 ≡ stops.Body = search rules in
      record {
        clean = c.import_file.ensures.ends.clean;
        live = refl;
        limit = c.import_file.ensures.ends.limit;
        reads = record { goes = c.import_file.ensures.goes; fault = λ body. c.in-Err-Body.ensures.read_fault.told (ap Err is); fault_first = λ some. refl };
      };
  obeyed =
      let is : c.in-Err-Body.field-0 ≡ stops.Body = search rules in
      let r = c.in-Err-Body.ensures.stops in
      record {
        text = r.0;
        consumed = r.1;
        read = body_read c.in-Err-Body.field-0 _ r.0 is r.2;
        holds = λ clean h w.
            body_carried g.C.Database c.args.self.now _ h (asked c.args.command.now (file_reading r.0)) c.in-Err-Body.field-0 is w.shows refl (λ clean. c.forget_items.ensures (views_of h) (views_of h) (all_left (views_of h)) (w.shows.kept (c.import_file.ensures.ends.clean clean)))
            (r.3 clean h w.shows.tables w.shows.history.marked w.import w.waits w.many);
      };
  caused = λ clean h shows marked import waits many. tt;
}

pub returns-in-Err-Refused : goal.returns-in-Err-Refused
returns-in-Err-Refused g c = record {
  lasts =
      let is : c.in-Err-Refused.field-0 ≡ stops.Refused c.in-Err-Refused.refusal = search rules in
      record {
        clean = c.import_file.ensures.ends.clean;
        live = (refused_alive c.in-Err-Refused.field-0 c.in-Err-Refused.refusal is c.in-Err-Refused.ensures.alive, inr refl);
        limit = c.import_file.ensures.ends.limit;
        reads = record { goes = c.import_file.ensures.goes; fault = λ body. refusal_not c.in-Err-Refused.refusal body; fault_first = λ some. stop_not c.in-Err-Refused.field-0 c.in-Err-Refused.refusal is (c.in-Err-Refused.ensures.read_fault.first some) };
      };
  obeyed =
      let is : c.in-Err-Refused.field-0 ≡ stops.Refused c.in-Err-Refused.refusal = search rules in
      let r = c.in-Err-Refused.ensures.stops in
      record {
        text = r.0;
        consumed = r.1;
        read = refused_read c.in-Err-Refused.field-0 c.in-Err-Refused.refusal _ r.0 is r.2;
        holds = λ clean h w.
            refused_carried g.C.Database c.args.self.now _ h (asked c.args.command.now (file_reading r.0)) c.in-Err-Refused.field-0 c.in-Err-Refused.refusal is w.shows refl (λ clean. c.forget_items.ensures (views_of h) (views_of h) (all_left (views_of h)) (w.shows.kept (c.import_file.ensures.ends.clean clean)))
            (r.3 clean h w.shows.tables w.shows.history.marked w.import w.waits w.many);
      };
  caused = λ clean h shows marked import waits many.
      let is : c.in-Err-Refused.field-0 ≡ stops.Refused c.in-Err-Refused.refusal = search rules in
      let r = c.in-Err-Refused.ensures.stops in
      refused_stays g.C.Database outcome_of c.import_file.new.self c.args.self.now.live h (asked c.args.command.now (file_reading r.0)) c.in-Err-Refused.field-0 c.in-Err-Refused.refusal is shows.lives (r.3 clean h shows.tables marked import waits many);
}

pub returns-in-Err-Failed : goal.returns-in-Err-Failed
returns-in-Err-Failed g c = record {
  lasts =
      let is : c.in-Err-Failed.field-0 ≡ stops.Failed c.in-Err-Failed.refusal = search rules in
      record {
        clean = c.import_file.ensures.ends.clean;
        live = (fault_alive c.stopping.result c.stopping.ensures.fault, inl c.stopping.ensures.fault);
        limit = c.import_file.ensures.ends.limit;
        reads = record { goes = c.import_file.ensures.goes; fault = λ body. refusal_not c.stopping.result body; fault_first = λ some. failure_not c.in-Err-Failed.field-0 c.in-Err-Failed.refusal is (c.in-Err-Failed.ensures.read_fault.first some) };
      };
  obeyed =
      let is : c.in-Err-Failed.field-0 ≡ stops.Failed c.in-Err-Failed.refusal = search rules in
      let r = c.in-Err-Failed.ensures.stops in
      record {
        text = r.0;
        consumed = r.1;
        read = failed_read c.in-Err-Failed.field-0 c.in-Err-Failed.refusal c.stopping.result _ r.0 is r.2;
        holds = λ clean h w.
            failed_carried g.C.Database c.args.self.now _ h (asked c.args.command.now (file_reading r.0)) c.in-Err-Failed.field-0 c.in-Err-Failed.refusal c.stopping.result is c.stopping.ensures.same w.shows refl c.clear.ensures w.reached
            (r.3 clean h w.shows.tables w.shows.history.marked w.import w.waits w.many);
      };
  caused = λ clean h shows marked import waits many fault. inr refl;
}
