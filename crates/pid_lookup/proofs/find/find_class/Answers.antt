use Rattle.std.proofs.Common.{sym, ◌∙◌}
use Rattle.pid_lookup.specs.Found.{name_in_map}
use Rattle.pid_lookup.proofs.FoundTexts.{for_class, for_no_class, for_subclass, its_class, its_subclass}
use Rattle.pid_lookup.proofs.Questions.{kept_through}
use Rattle.pid_lookup.proofs.find.find_class.Goals as goal

pub returns-in-Some : goal.returns-in-Some
returns-in-Some g c = record {
  asks =
      record {
        found = λ honest s shown.
            let named = name_in_map (g.N.Names.map_of s) in
            for_subclass named c.args.args.now c.in-Some.name
            (sym c.in-Some.is ∙ its_subclass named c.args.args.now _ _ _ (c.in_ok-name.ensures.found honest s shown) c.class_byte-class.ensures c.subclass_byte-subclass.ensures);
        fault = tt;
        caused = λ honest s shown start only. tt;
        kept = c.in_ok-name.ensures.kept;
      };
  allowed = c.in_ok-name.ensures.told;
}

pub returns-in-Some-2 : goal.returns-in-Some-2
returns-in-Some-2 g c = record {
  asks =
      let first = c.in_ok-name.ensures in
      let second = c.in_ok-name-2.ensures in
      record {
        found = λ honest s shown.
            let named = name_in_map (g.N.Names.map_of s) in
            for_class named c.args.args.now c.in-Some-2.name
            (sym c.in_default.is ∙ its_subclass named c.args.args.now _ _ _ (first.found (second.kept.was_honest honest) s shown) c.class_byte-class.ensures c.subclass_byte-subclass.ensures)
            (sym c.in-Some-2.is ∙ its_class named c.args.args.now _ _ (second.found honest s (first.kept.shown s shown)) c.class_byte-class.ensures);
        fault = tt;
        caused = λ honest s shown start only. tt;
        kept = kept_through g.N.Names first.kept second.kept;
      };
  allowed = c.in_ok-name.ensures.told;
}

pub returns-in-None : goal.returns-in-None
returns-in-None g c = record {
  asks =
      let first = c.in_ok-name.ensures in
      let second = c.in_ok-name-2.ensures in
      record {
        found = λ honest s shown.
            let named = name_in_map (g.N.Names.map_of s) in
            for_no_class named c.args.args.now
            (sym c.in_default.is ∙ its_subclass named c.args.args.now _ _ _ (first.found (second.kept.was_honest honest) s shown) c.class_byte-class.ensures c.subclass_byte-subclass.ensures)
            (sym c.in-None.is ∙ its_class named c.args.args.now _ _ (second.found honest s (first.kept.shown s shown)) c.class_byte-class.ensures);
        fault = tt;
        caused = λ honest s shown start only. tt;
        kept = kept_through g.N.Names first.kept second.kept;
      };
  allowed = c.in_ok-name.ensures.told;
}
