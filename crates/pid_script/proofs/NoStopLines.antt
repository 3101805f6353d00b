-- No reply is the line of a stop.
use mathlib.Core.Bool.{true≢false}
use Rattle.std.proofs.Common.{◌≡◌, ℕ, Bool, true, false, cond, eqb, get_or, ◌&&◌, ◌||◌, List, [], Option, Some, None, Result, Ok, Err, refl, sym, ap, ◌∙◌}
use Rattle.std.specs.Fmt.{digits}
use Rattle.pid_file.specs.declared.path.Path.{Path}
use Rattle.pid_ident.specs.PathTexts.{path_text}
use Rattle.pid_lookup.specs.declared.answer.Answer.{Answer}
use Rattle.pid_lookup.specs.declared.answer.Answer.TheVariants.{Text, NoAnswer}
use Rattle.pid_lookup.specs.Answers.{answer_of}
use Rattle.pid_lookup.specs.Fields.{Lookup}
use Rattle.pid_lookup.specs.Flags.{is_bad}
use Rattle.pid_moderation.specs.declared.command.Command.{Command}
use Rattle.pid_moderation.specs.declared.command.Reply.{Reply}
use Rattle.pid_moderation.specs.declared.command.Reply.TheVariants.{Done, Numbered, Counts}
use Rattle.pid_moderation.specs.declared.refusal.Refusal.{Refusal}
use Rattle.pid_moderation.specs.declared.refusal.Refusal.TheVariants.{BadPath, BadName, BadText, NoAccount, RankTooLow, NoSubmission, NotPending, NotAuthor, OwnDecision, ParentMissing, HasChildren, NothingToDo, FileFault, Full, Memory, Store, Failed, Changed}
use Rattle.pid_moderation.specs.History.{History}
use Rattle.pid_moderation.specs.Items.{name_at}
use Rattle.pid_moderation.specs.Judgement.{answer, judge}
use Rattle.pid_moderation.specs.ReplyLines.{accepted_line, refused_line, outcome_line}
use Rattle.pid_moderation.specs.Views.{views_of, items_of}
use Rattle.pid_moderation.specs.Writes.{tree_of}
use Rattle.pid_moderation.specs.Files.{asks}
use Rattle.pid_file.specs.Printing.{print}
use Rattle.pid_script.specs.Asking.{command_in_form, path_asked, lookup_in_form}
use Rattle.pid_script.specs.Replies.{line_reply, outcome_of, name_reply, name_line, looked_up, answer_line, BAD_FLAGS}
use Rattle.pid_script.specs.ScriptLines as lines
use Rattle.pid_script.specs.ScriptLines.{Ask}
use Rattle.pid_script.specs.StopLines.{is_stop, IsStopLine}
use Rattle.pid_script.proofs.Causes.{command_no_stop, path_no_stop}
use Rattle.pid_script.proofs.NoStops.{judged_no_stop}

-- the bytes of `r` and of 16, 17 or 18 at their places
stop_bytes : List ℕ → Bool
stop_bytes text = eqb (get_or text 0 0) 114 && (eqb (get_or text 8 0) 49 && (eqb (get_or text 9 0) 54 || (eqb (get_or text 9 0) 55 || eqb (get_or text 9 0) 56)))

-- a stop has them
stop_has : (e : Refusal) → is_stop e ≡ true → stop_bytes (refused_line e) ≡ true
unfolding stop_bytes digits
stop_has BadPath stop = absurd cc
stop_has BadName stop = absurd cc
stop_has BadText stop = absurd cc
stop_has NoAccount stop = absurd cc
stop_has RankTooLow stop = absurd cc
stop_has NoSubmission stop = absurd cc
stop_has NotPending stop = absurd cc
stop_has NotAuthor stop = absurd cc
stop_has OwnDecision stop = absurd cc
stop_has ParentMissing stop = absurd cc
stop_has HasChildren stop = absurd cc
stop_has NothingToDo stop = absurd cc
stop_has (FileFault fault) stop = absurd cc
stop_has Full stop = absurd cc
stop_has Memory stop = refl
stop_has Store stop = refl
stop_has Failed stop = refl
stop_has Changed stop = absurd cc

by_bytes : (text : List ℕ) → stop_bytes text ≡ false → IsStopLine text → ⊥
by_bytes text none (e, stop, is) = true≢false (sym (stop_has e stop) ∙ ap stop_bytes (sym is) ∙ none)

-- a refusal that is no stop has another number
other_number : (e : Refusal) → is_stop e ≡ false → stop_bytes (refused_line e) ≡ false
unfolding stop_bytes digits
other_number BadPath none = refl
other_number BadName none = refl
other_number BadText none = refl
other_number NoAccount none = refl
other_number RankTooLow none = refl
other_number NoSubmission none = refl
other_number NotPending none = refl
other_number NotAuthor none = refl
other_number OwnDecision none = refl
other_number ParentMissing none = refl
other_number HasChildren none = refl
other_number NothingToDo none = refl
other_number (FileFault fault) none = refl
other_number Full none = refl
other_number Memory none = absurd cc
other_number Store none = absurd cc
other_number Failed none = absurd cc
other_number Changed none = refl

refused_no_stop : (e : Refusal) → is_stop e ≡ false → IsStopLine (refused_line e) → ⊥
refused_no_stop e none = by_bytes (refused_line e) (other_number e none)

-- the line of a command that was done begins with ok
done_no_stop : (reply : Reply) → IsStopLine (accepted_line reply) → ⊥
unfolding stop_bytes
done_no_stop Done = by_bytes (accepted_line Done) refl
done_no_stop (Numbered n) = by_bytes (accepted_line (Numbered n)) refl
done_no_stop (Counts added renamed same) = by_bytes (accepted_line (Counts added renamed same)) refl

answer_no_stop : (a : Result Reply Refusal) → ((e : Refusal) → a ≡ Err e → is_stop e ≡ false) → IsStopLine (outcome_line a) → ⊥
answer_no_stop (Ok reply) none = done_no_stop reply
answer_no_stop (Err e) none = refused_no_stop e (none e refl)

outcome_no_stop : (asked : Result Command Refusal) (h : History) → ((e : Refusal) → asked ≡ Err e → is_stop e ≡ false) → IsStopLine (outcome_of asked h) → ⊥
outcome_no_stop (Err e) h none = refused_no_stop e (none e refl)
outcome_no_stop (Ok c) h none = answer_no_stop (answer (judge (views_of h) (asks c))) (judged_no_stop (views_of h) (asks c))

name_no_stop : (name : Option (List ℕ)) → IsStopLine (name_line name) → ⊥
unfolding stop_bytes
name_no_stop None = by_bytes (name_line None) refl
name_no_stop (Some name) = by_bytes (name_line (Some name)) refl

item_no_stop : (asked : Result Path Refusal) (h : History) → ((e : Refusal) → asked ≡ Err e → is_stop e ≡ false) → IsStopLine (name_reply asked h) → ⊥
item_no_stop (Err e) h none = refused_no_stop e (none e refl)
item_no_stop (Ok path) h none = name_no_stop (name_at (path_text path) (items_of h))

text_no_stop : (a : Answer) → IsStopLine (answer_line a) → ⊥
unfolding stop_bytes
text_no_stop NoAnswer = by_bytes (answer_line NoAnswer) refl
text_no_stop (Text text) = by_bytes (answer_line (Text text)) refl

flags_no_stop : (bad : Bool) (a : Answer) → IsStopLine (cond bad BAD_FLAGS (answer_line a)) → ⊥
unfolding stop_bytes
flags_no_stop true a = by_bytes BAD_FLAGS refl
flags_no_stop false a = text_no_stop a

looked_no_stop : (l : Option Lookup) (h : History) → IsStopLine (looked_up l h) → ⊥
looked_no_stop None h = refused_no_stop BadText refl
looked_no_stop (Some l) h = flags_no_stop (is_bad l.flags) (answer_of (tree_of h) l.flags l.args l.size)

-- no reply stops a script
pub reply_no_stop : (ask : Ask) (h : History) → IsStopLine (line_reply ask h) → ⊥
unfolding stop_bytes
reply_no_stop lines.AsksNothing h = by_bytes [] refl
reply_no_stop (lines.AsksCommand verb account fields) h = outcome_no_stop (command_in_form verb account fields) h (command_no_stop verb account fields)
reply_no_stop lines.AsksExport h = by_bytes (print (tree_of h)) refl
reply_no_stop (lines.AsksName fields) h = item_no_stop (path_asked fields) h (path_no_stop fields)
reply_no_stop (lines.AsksLookup fields) h = looked_no_stop (lookup_in_form fields) h
reply_no_stop lines.Unclear h = refused_no_stop BadText refl
reply_no_stop lines.TooLong h = refused_no_stop BadText refl
