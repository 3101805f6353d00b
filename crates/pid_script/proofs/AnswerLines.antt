-- The line of an answer, written whole or not after what was held.
use mathlib.Core.Bool.{true≢false}
use Rattle.std.proofs.Common.{◌≡◌, ℕ, true, false, List, [], ◌++◌, Option, Some, None, Result, Ok, Err, refl, sym, ap, ◌∙◌, subst, inl, inr}
use Rattle.std.specs.Io.KnownBytes.{Appends}
use Rattle.std.specs.Prelude.{◌⊎◌, IsSome}
use Rattle.pid_file.specs.declared.io.WriteFault.{WriteFault as OutputFault}
use Rattle.pid_moderation.specs.declared.command.Reply.{Reply}
use Rattle.pid_moderation.specs.declared.refusal.Refusal.{Refusal}
use Rattle.pid_moderation.specs.ReplyLines.{outcome_line}
use Rattle.pid_script.specs.declared.line_end.LineEnd.{LineEnd}
use Rattle.pid_script.specs.declared.line_end.LineEnd.TheVariants.{Stopped, TooLong, WriteFault}
use Rattle.pid_script.specs.Steps.Output.{Out, HasSaid, GoesOnAfter, SaysFront, IsReplyOrStop, IsGivenRefusal, IsGivenStop, IsNothing, TellsLine, refusal_given}
use Rattle.pid_script.specs.StopLines.{is_stop, IsStopText}
use Rattle.pid_script.proofs.SayLemmas.{all_out}

-- the text of an answer, which is the reply or a stop
part_of : (answer : Result Reply Refusal) (reply : List ℕ) → IsReplyOrStop reply answer → (outcome_line answer ≡ reply) ⊎ IsStopText (IsGivenRefusal (refusal_given answer)) IsNothing (outcome_line answer)
part_of answer reply (inl is) = inl is
part_of answer reply (inr (e, stop, is)) = inr (record { begun = []; front = refl; refusal = e; cause = (ap refusal_given is, stop); is = ap outcome_line is })

-- a writer that failed keeps its fault
pub some_fault : (kept : Option OutputFault) (fault : OutputFault) → kept ≡ Some fault → IsSome kept
some_fault None fault is = cc
some_fault (Some x) fault is = refl

-- an answer that is no stop goes on
pub whole_goes : (answer : Result Reply Refusal) → ((e : Refusal) → answer ≡ Err e → is_stop e ≡ false) → GoesOnAfter (Ok tt) (refusal_given answer)
whole_goes (Ok reply) goes = tt
whole_goes (Err e) goes = goes e refl

-- one that could not be written goes on no further
pub broken_goes : (end : LineEnd) (given : Option Refusal) → end ≡ WriteFault → GoesOnAfter (Err end) given
broken_goes Stopped given is = tt
broken_goes WriteFault given is = tt
broken_goes TooLong given is = absurd cc

-- the writer failed within it
pub said_broken : (end : LineEnd) (answer : Result Reply Refusal) (reply : List ℕ) (old new : Out) → end ≡ WriteFault → SaysFront old new (outcome_line answer) → IsReplyOrStop reply answer → TellsLine (Err end) reply (IsGivenStop (refusal_given answer)) old new
said_broken end answer reply old new write front is = subst (λ e. TellsLine (Err e) reply (IsGivenStop (refusal_given answer)) old new) (sym write) (record { text = outcome_line answer; is = part_of answer reply is; front = front })

-- all went out, and the answer is a stop
pub said_stopped : (answer : Result Reply Refusal) (reply : List ℕ) (e : Refusal) (old new : Out) → Appends old.taken new.taken (old.held ++ outcome_line answer) → answer ≡ Err e → is_stop e ≡ true → TellsLine (Err Stopped) reply (IsGivenStop (refusal_given answer)) old new
said_stopped answer reply e old new went is stop = record {
  text = outcome_line answer;
  stop = record { begun = []; front = refl; refusal = e; cause = (ap refusal_given is, stop); is = ap outcome_line is };
  told = went;
}

-- all went out, and the answer is none
pub said_whole : (answer : Result Reply Refusal) (reply : List ℕ) (old new : Out) → Appends old.taken new.taken (old.held ++ outcome_line answer) → new.held ≡ [] → ((e : Refusal) → answer ≡ Err e → is_stop e ≡ false) → IsReplyOrStop reply answer → HasSaid old new reply
said_whole answer reply old new went none goes (inl is) = subst (HasSaid old new) is (all_out old new (outcome_line answer) none went)
said_whole answer reply old new went none goes (inr (e, stop, is)) = absurd (true≢false (sym stop ∙ goes e is))
