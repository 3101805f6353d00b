-- What a line asks, by the code's value of it.
use Rattle.std.specs.Prelude.{ℕ, List, Option}
use Rattle.std.specs.Option.{option_map}
use Rattle.std.specs.Borrow.{Bor}
use Rattle.pid_script.specs.ScriptLines as asks
use Rattle.pid_script.specs.ScriptLines.{Ask}
use Rattle.pid_script.specs.declared.script_line.LineRequest.{LineRequest}
use Rattle.pid_script.specs.declared.script_line.LineRequest.TheVariants.{Nothing, Command, Export, Read}
use Rattle.pid_script.specs.declared.script_line.LineRequest.TheVariants.{Lookup, Unclear, TooLong}

-- the same as an ask of scripts
abbrev pub ask_known : LineRequest → Ask
ask_known Nothing = asks.AsksNothing
ask_known (Command verb account form) = asks.AsksCommand verb account.now form.now
ask_known Export = asks.AsksExport
ask_known (Read form) = asks.AsksName form.now
ask_known (Lookup form) = asks.AsksLookup form.now
ask_known Unclear = asks.Unclear
ask_known TooLong = asks.TooLong

-- two texts by their bytes
abbrev pub parts_known : Option (Bor (List ℕ) × Bor (List ℕ)) → Option (List ℕ × List ℕ)
parts_known pair = option_map (λ p. (p.0.now, p.1.now)) pair
