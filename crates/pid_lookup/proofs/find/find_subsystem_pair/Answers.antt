use Rattle.pid_lookup.specs.Found.{name_in_map}
use Rattle.pid_lookup.proofs.FoundTexts.{for_subsystem_pair}
use Rattle.pid_lookup.proofs.Questions.{kept_through}
use Rattle.pid_lookup.proofs.find.find_subsystem_pair.Goals as goal

pub returns : goal.returns
returns g c = record {
  asks =
      let first = c.in_ok-vendor.ensures in
      let second = c.in_ok-device.ensures.asks in
      record {
        found = λ honest s shown. for_subsystem_pair (name_in_map (g.N.Names.map_of s)) c.args.args.now c.in_ok-vendor.vendor c.in_ok-device.device
            (first.found (second.kept.was_honest honest) s shown)
            (second.found honest s (first.kept.shown s shown));
        fault = tt;
        caused = λ honest s shown start only. tt;
        kept = kept_through g.N.Names first.kept second.kept;
      };
  allowed = c.in_ok-vendor.ensures.told;
}
