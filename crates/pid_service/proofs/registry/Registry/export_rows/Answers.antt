use Rattle.std.proofs.Common.{◌≡◌, ℕ, List, Some, Err, refl, rules, ap, subst, ◌∙◌}
use Rattle.std.specs.Io.KnownBytes.{Appends}
use Rattle.pid_service_laws.specs.declared.faults.ExportFault.TheVariants.{Refused, Write}
use Rattle.pid_tables.proofs.OfCheck.Asking.{nothing_read}
use Rattle.pid_service.proofs.Words.{Failed, print, SendsFront, tree_of, views_of}
use Rattle.pid_service.proofs.QueriesMet.{looks}
use Rattle.pid_service.proofs.Exported.{same_write, text_told, told_by, told_cause, told_gives, told_tree, told_writes, whole_tree, write_not}
use Rattle.pid_service.proofs.Keeping.{ok_not, true_not}
use Rattle.pid_service.proofs.CallsMet.{exported, failed_gives}
use Rattle.pid_service.proofs.Obeyed.{only_read}
use Rattle.pid_service.proofs.Reached.{reached_readable, reached_text}
use Rattle.pid_service.proofs.registry.Registry.export_rows.Goals as goal

-- ---- it has failed

pub returns-then-not-self : goal.returns-then-not-self
returns-then-not-self g c = record {
  calls = looks g.C.Database c.args.self.now c.args.self.now (λ clean. clean) (λ off. refl) (λ clean h shows. shows);
  failed = λ off. (refl, refl, refl);
  lives = refl;
  rests = nothing_read (g.C.Database.state c.args.self.now.tables.conn) c.args.self.now.tables.settled;
  shown = λ clean h shows. shows;
  printed = λ clean h shows. true_not c.args.self.now.live shows.lives c.if-not-self.true;
  refused = λ e is. failed_gives c.args.self.now.live c.if-not-self.true Failed e refl (search rules);
  caused = λ clean h shows. true_not c.args.self.now.live shows.lives c.if-not-self.true;
  fault = λ f is. absurd (let no : ⊥ = cc in no);
}

-- ---- the text is kept

pub returns-in-Ok : goal.returns-in-Ok
returns-in-Ok g c = record {
  failed = true_not c.args.self.now.live c.if-not-self.false;
  lives = refl;
  rests = nothing_read (g.C.Database.state c.args.self.now.tables.conn) c.args.self.now.tables.settled;
  calls = looks g.C.Database c.args.self.now c.args.self.now (λ clean. clean) (true_not c.args.self.now.live c.if-not-self.false) (λ clean h shows. shows);
  shown = λ clean h shows. shows;
  printed = λ clean h shows.
      let same : c.as_slice.result.now ≡ print (tree_of h) = c.as_slice.ensures.value ∙ text_told g.C.Database c.args.self.now h c.in-Some.text c.in-Some.is clean shows (reached_text h) in
      subst (λ (t : List ℕ). Appends (g.W.Output.taken c.args.output.now) (g.W.Output.taken c.write_all.new.out) t) same c.in-Ok.ensures.sent;
  refused = λ e. ok_not tt (Refused e);
  caused = λ clean h shows e. ok_not tt (Refused e);
  fault = λ f. ok_not tt (Write f);
}

pub returns-in-Err : goal.returns-in-Err
returns-in-Err g c = record {
  failed = true_not c.args.self.now.live c.if-not-self.false;
  lives = refl;
  rests = nothing_read (g.C.Database.state c.args.self.now.tables.conn) c.args.self.now.tables.settled;
  calls = looks g.C.Database c.args.self.now c.args.self.now (λ clean. clean) (true_not c.args.self.now.live c.if-not-self.false) (λ clean h shows. shows);
  shown = λ clean h shows. shows;
  printed = λ clean h shows.
      let same : c.as_slice.result.now ≡ print (tree_of h) = c.as_slice.ensures.value ∙ text_told g.C.Database c.args.self.now h c.in-Some.text c.in-Some.is clean shows (reached_text h) in
      subst (λ (t : List ℕ). SendsFront (g.W.Output.taken c.args.output.now) (g.W.Output.taken c.write_all.new.out) t) same c.in-Err.ensures.sent;
  refused = λ e. write_not c.in-Err.fault e;
  caused = λ clean h shows e. write_not c.in-Err.fault e;
  fault = λ f is. c.in-Err.ensures.fault ∙ ap Some (same_write c.in-Err.fault f is);
}

-- ---- it is printed while the items are read

pub returns-in-Ok-export_items : goal.returns-in-Ok-export_items
returns-in-Ok-export_items g c = record {
  failed = true_not c.args.self.now.live c.if-not-self.false;
  lives = refl;
  rests = c.export_items.ensures.rests;
  calls = looks g.C.Database c.args.self.now _ c.export_items.ensures.rests.clean (true_not c.args.self.now.live c.if-not-self.false) (λ clean h shows. only_read g.C.Database c.args.self.now _ h refl c.export_items.ensures.rests refl shows);
  shown = λ clean h shows. only_read g.C.Database c.args.self.now _ h refl c.export_items.ensures.rests refl shows;
  printed = λ clean h shows. whole_tree _ _ h (reached_text h) (c.in-Ok-export_items.ensures.printed clean (views_of h) shows.tables);
  refused = λ e. ok_not tt (Refused e);
  caused = λ clean h shows e. ok_not tt (Refused e);
  fault = λ f. ok_not tt (Write f);
}

pub returns-in-Err-export_items : goal.returns-in-Err-export_items
returns-in-Err-export_items g c = record {
  failed = true_not c.args.self.now.live c.if-not-self.false;
  lives = refl;
  rests = c.export_items.ensures.rests;
  calls = looks g.C.Database c.args.self.now _ c.export_items.ensures.rests.clean (true_not c.args.self.now.live c.if-not-self.false) (λ clean h shows. only_read g.C.Database c.args.self.now _ h refl c.export_items.ensures.rests refl shows);
  shown = λ clean h shows. only_read g.C.Database c.args.self.now _ h refl c.export_items.ensures.rests refl shows;
  printed = λ clean h shows. exported {X = Unit {0}} (Err c.export_fault.result) _ _ h (reached_text h) (told_tree c.in-Err-export_items.end c.export_fault.result _ _ h (reached_text h) c.export_fault.ensures (c.in-Err-export_items.ensures.printed clean (views_of h) shows.tables));
  refused = λ e is. told_gives c.in-Err-export_items.end c.export_fault.result e c.args.self.now.live c.if-not-self.false c.export_fault.ensures (told_by _ c.export_fault.result e refl is);
  caused = λ clean h shows e is.
      told_cause g.C.Database c.args.self.now.tables.conn c.export_items.new.tables.conn c.in-Err-export_items.end c.export_fault.result e c.export_fault.ensures (told_by _ c.export_fault.result e refl is)
      (c.in-Err-export_items.ensures.caused clean (views_of h) shows.tables (reached_readable h shows.history));
  fault = λ f is. c.in-Err-export_items.ensures.fault f (ap Err (told_writes _ c.in-Err-export_items.end c.export_fault.result f refl is c.export_fault.ensures));
}
