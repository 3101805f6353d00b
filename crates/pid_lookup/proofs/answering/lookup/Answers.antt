use Rattle.std.proofs.Common.{◌≡◌, None, sym, ap, rules, ◌∙◌}
use Rattle.pid_lookup.specs.Answers.{requested}
use Rattle.pid_lookup.specs.Flags.{request_of, switches_of}
use Rattle.pid_lookup.specs.Found.{name_in_map}
use Rattle.pid_lookup.proofs.Remembered.{answer_there, not_names, not_there}
use Rattle.pid_lookup.proofs.answering.lookup.Goals as goal

pub returns-in-None-clause-answer : goal.returns-in-None-clause-answer
returns-in-None-clause-answer g c = λ honest s shown.
    let none : request_of c.args.flags ≡ None = search rules in
    answer_there c.answer_whole.result c.or_memory.result _ _ c.or_memory.ensures
    (λ told is. is ∙ ap (λ r. requested (name_in_map (g.N.Names.map_of s)) (switches_of c.args.flags) r c.args.args.now c.args.size) (sym none)) c.answer_whole.ensures

pub returns-in-None-clause-caused : goal.returns-in-None-clause-caused
returns-in-None-clause-caused g c = λ honest s shown start only f. not_names c.answer_whole.result c.or_memory.result c.or_memory.ensures f

pub returns-in-None-clause-asks : goal.returns-in-None-clause-asks
returns-in-None-clause-asks g c =
    let none : request_of c.args.flags ≡ None = search rules in
    record {
      fault = λ f. not_names c.answer_whole.result c.or_memory.result c.or_memory.ensures f;
      unasked = λ on f. not_names c.answer_whole.result c.or_memory.result c.or_memory.ensures f;
      unrequested = λ is f. not_names c.answer_whole.result c.or_memory.result c.or_memory.ensures f;
      told = λ needs. not_there (request_of c.args.flags) none needs.1;
    }
