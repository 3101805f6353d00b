use Rattle.std.proofs.Common.{◌≡◌, ◌==◌, ◌&&◌, true, rules, sym, ◌∙◌}
use Rattle.pid_lookup.specs.Found.{name_in_map}
use Rattle.pid_lookup.proofs.FoundTexts.{by_device, by_generic}
use Rattle.pid_lookup.proofs.Questions.{kept_through, of_answer, of_fault}
use Rattle.pid_lookup.proofs.find.find_subsystem.Goals as goal

pub returns-in-Some-2 : goal.returns-in-Some-2
returns-in-Some-2 g c = record {
  asks =
      let first = c.in_ok-name.ensures.asks in
      let second = c.in_ok-name-2.ensures in
      record {
        found = λ honest s shown. by_generic (name_in_map (g.N.Names.map_of s)) c.args.args.now c.in-Some-2.name
            (sym c.in_default.is ∙ first.found (second.kept.was_honest honest) s shown)
            (sym c.in-Some-2.is ∙ second.found honest s (first.kept.shown s shown));
        fault = tt;
        caused = λ honest s shown start only. tt;
        kept = kept_through g.N.Names first.kept second.kept;
      };
  allowed = c.in_ok-name.ensures.asks.kept.told.1 c.in_ok-name-2.ensures.told;
}

pub returns-then-args-2 : goal.returns-then-args-2
returns-then-args-2 g c = record {
  asks =
      let first = c.in_ok-name.ensures.asks in
      let second = c.in_ok-name-2.ensures in
      let third = c.find_device.ensures.asks in
      let same : (c.args.args.now.subvendor == c.args.args.now.vendor && c.args.args.now.subdevice == c.args.args.now.device) ≡ true = search rules in
      record {
        found = λ honest s shown.
            let mid = third.kept.was_honest honest in
            let named = name_in_map (g.N.Names.map_of s) in
            of_answer c.find_device.result _ _
            (λ name is. by_device named c.args.args.now name (sym c.in_default.is ∙ first.found (second.kept.was_honest mid) s shown) (sym c.in_default-2.is ∙ second.found mid s (first.kept.shown s shown)) same is)
            (third.found honest s (second.kept.shown s (first.kept.shown s shown)));
        fault = of_fault c.find_device.result _ _ (λ f may. (first.kept.faults f).1 ((second.kept.faults f).1 may)) third.fault;
        caused = λ honest s shown start only. third.caused honest s (second.kept.shown s (first.kept.shown s shown)) start (second.kept.asked start (first.kept.asked start only));
        kept = kept_through g.N.Names (kept_through g.N.Names first.kept second.kept) third.kept;
      };
  allowed = of_answer c.find_device.result _ _ (λ name may. c.in_ok-name.ensures.asks.kept.told.1 (c.in_ok-name-2.ensures.kept.told.1 may)) c.find_device.ensures.allowed;
}
