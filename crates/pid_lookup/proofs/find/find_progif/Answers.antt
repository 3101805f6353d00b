use Rattle.std.proofs.Common.{sym, ◌∙◌}
use Rattle.pid_lookup.specs.Found.{name_in_map}
use Rattle.pid_lookup.proofs.FoundTexts.{for_nameless, for_progif, its_entry}
use Rattle.pid_lookup.proofs.find.find_progif.Goals as goal

pub returns-in-Some : goal.returns-in-Some
returns-in-Some g c = record {
  asks =
      record {
        found = λ honest s shown.
            let named = name_in_map (g.N.Names.map_of s) in
            for_progif named c.args.args.now c.in-Some.name
            (sym c.in-Some.is ∙ its_entry named c.args.args.now _ _ _ (c.in_ok-name.ensures.found honest s shown) c.class_byte.ensures c.subclass_byte.ensures);
        fault = tt;
        caused = λ honest s shown start only. tt;
        kept = c.in_ok-name.ensures.kept;
      };
  allowed = c.in_ok-name.ensures.told;
}

pub returns-in-None : goal.returns-in-None
returns-in-None g c = record {
  asks =
      record {
        found = λ honest s shown.
            let named = name_in_map (g.N.Names.map_of s) in
            for_nameless named c.args.args.now c.nameless_progif.result
            (sym c.in-None.is ∙ its_entry named c.args.args.now _ _ _ (c.in_ok-name.ensures.found honest s shown) c.class_byte.ensures c.subclass_byte.ensures)
            c.nameless_progif.ensures;
        fault = tt;
        caused = λ honest s shown start only. tt;
        kept = c.in_ok-name.ensures.kept;
      };
  allowed = c.in_ok-name.ensures.told;
}
