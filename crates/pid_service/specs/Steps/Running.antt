-- Steps of a list of commands.
use Rattle.std.specs.Prelude.{Option, Some, None, Result, Err}
use Rattle.pid_moderation.specs.declared.command.Reply.{Reply}
use Rattle.pid_moderation.specs.declared.refusal.Refusal.{Refusal}
use Rattle.pid_moderation.specs.declared.refusal.Refusal.TheVariants.{Memory, Store}

-- the fault that an answer is, if it is one
abbrev pub fault_in : Result Reply Refusal → Option Refusal
fault_in (Err Memory) = Some Memory
fault_in (Err Store) = Some Store
fault_in answer = None
