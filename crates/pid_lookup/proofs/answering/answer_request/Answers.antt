use Rattle.std.proofs.Common.{◌≡◌, true, false, sym, ap, ◌∙◌}
use mathlib.Core.Bool.{true≢false}
use Rattle.pid_lookup.specs.Found.{name_in_map}
use Rattle.pid_lookup.specs.Steps.Styles.{switches}
use Rattle.pid_lookup.proofs.FoundTexts.{shown_found, shown_number}
use Rattle.pid_lookup.proofs.Remembered.{answer_there, not_bad, not_names, told_only}
use Rattle.pid_lookup.proofs.answering.answer_request.Goals as goal

-- ---- the number alone

pub returns-in-Numeric-clause-answer : goal.returns-in-Numeric-clause-answer
returns-in-Numeric-clause-answer g c = λ honest s shown.
    answer_there c.show_number.result c.or_memory.result _ _ c.or_memory.ensures
    (λ told is. rw c.in-Numeric.is (shown_number (name_in_map (g.N.Names.map_of s)) c.args.request c.args.args.now c.args.size told is)) c.show_number.ensures

pub returns-in-Numeric-clause-good_flags : goal.returns-in-Numeric-clause-good_flags
returns-in-Numeric-clause-good_flags g c = not_bad c.show_number.result c.or_memory.result c.or_memory.ensures

pub returns-in-Numeric-clause-told : goal.returns-in-Numeric-clause-told
returns-in-Numeric-clause-told g c = λ off. let on : (switches c.args.style).numeric ≡ true = ap (λ s. (switches s).numeric) c.in-Numeric.is in absurd (true≢false (sym on ∙ off))

pub returns-in-Numeric-clause-unasked : goal.returns-in-Numeric-clause-unasked
returns-in-Numeric-clause-unasked g c = λ on f. not_names c.show_number.result c.or_memory.result c.or_memory.ensures f

pub returns-in-Numeric-clause-fault : goal.returns-in-Numeric-clause-fault
returns-in-Numeric-clause-fault g c = λ f. not_names c.show_number.result c.or_memory.result c.or_memory.ensures f

pub returns-in-Numeric-clause-caused : goal.returns-in-Numeric-clause-caused
returns-in-Numeric-clause-caused g c = λ honest s shown start only f. not_names c.show_number.result c.or_memory.result c.or_memory.ensures f

-- ---- what was found

pub returns-in-Ok-clause-answer : goal.returns-in-Ok-clause-answer
returns-in-Ok-clause-answer g c = λ honest s shown.
    answer_there c.show_found-shown.result c.or_memory-in-Ok.result _ _ c.or_memory-in-Ok.ensures
    (λ told is. shown_found (name_in_map (g.N.Names.map_of s)) (switches c.args.style) c.args.request c.args.args.now c.args.size c.in-Ok.found told is (c.in-Ok.ensures.asks.found honest s shown)) c.show_found-shown.ensures

pub returns-in-Ok-clause-good_flags : goal.returns-in-Ok-clause-good_flags
returns-in-Ok-clause-good_flags g c = not_bad c.show_found-shown.result c.or_memory-in-Ok.result c.or_memory-in-Ok.ensures

pub returns-in-Ok-clause-told : goal.returns-in-Ok-clause-told
returns-in-Ok-clause-told g c = λ off. told_only c.show_found-shown.result c.or_memory-in-Ok.result _ c.or_memory-in-Ok.ensures c.in-Ok.ensures.allowed

pub returns-in-Ok-clause-unasked : goal.returns-in-Ok-clause-unasked
returns-in-Ok-clause-unasked g c = λ on f. not_names c.show_found-shown.result c.or_memory-in-Ok.result c.or_memory-in-Ok.ensures f

pub returns-in-Ok-clause-fault : goal.returns-in-Ok-clause-fault
returns-in-Ok-clause-fault g c = λ f. not_names c.show_found-shown.result c.or_memory-in-Ok.result c.or_memory-in-Ok.ensures f

pub returns-in-Ok-clause-caused : goal.returns-in-Ok-clause-caused
returns-in-Ok-clause-caused g c = λ honest s shown start only f. not_names c.show_found-shown.result c.or_memory-in-Ok.result c.or_memory-in-Ok.ensures f

pub returns-in-Ok-clause-kept : goal.returns-in-Ok-clause-kept
returns-in-Ok-clause-kept g c = c.in-Ok.ensures.asks.kept

-- ---- a fault of the holder

pub returns-in-Err-clause-kept : goal.returns-in-Err-clause-kept
returns-in-Err-clause-kept g c = c.in-Err.ensures.asks.kept
