-- A command that breaks a rule of form by itself is refused so.
use Rattle.std.proofs.Common.{◌≡◌, ℕ, List, Option, true, ap}
use Rattle.std.specs.Prelude.{is_none}
use Rattle.pid_moderation.specs.declared.command.Command.{Command}
use Rattle.pid_moderation.specs.declared.command.Act.{Act}
use Rattle.pid_moderation.specs.declared.command.Act.TheVariants as acts
use Rattle.pid_moderation.specs.declared.refusal.Refusal.TheVariants.{BadText}
use Rattle.pid_moderation.specs.History.{Reading, asked, deed_of}
use Rattle.pid_moderation.specs.Views.{Views}
use Rattle.pid_moderation.specs.FactsOfViews.{facts_of, verdict}
use Rattle.pid_moderation.specs.CheckTables.{is_broken, is_ill_formed, TellsLength}
use Rattle.pid_moderation.specs.Judgement.{judge, Refused}
use Rattle.pid_moderation.proofs.Deciding.{ill_formed}

by_act : (account : List ℕ) (key : Option (List ℕ)) (act : Act) (v : Views) (reading : Reading) → TellsLength act reading → is_broken act ≡ true → is_ill_formed (facts_of v (record { account = account; key = key; deed = deed_of act reading })) (deed_of act reading) ≡ true
by_act account key (acts.Account who rank) v reading tells h = absurd cc
by_act account key (acts.Submit path proposal note) v reading tells h = absurd cc
by_act account key (acts.Comment n text) v reading tells h = h
by_act account key (acts.Withdraw n) v reading tells h = absurd cc
by_act account key (acts.Approve n e) v reading tells h = absurd cc
by_act account key (acts.Reject n reason) v reading tells h = h
by_act account key (acts.Import file) v reading tells h = ap (λ (r : Reading). is_none (verdict v.items r)) (tells h)

pub broken_refused : (command : Command) (v : Views) (reading : Reading) → TellsLength command.act reading → is_broken command.act ≡ true → judge v (asked command reading) ≡ Refused BadText
broken_refused command v reading tells h = ill_formed (facts_of v (asked command reading)) (asked command reading) (by_act command.account command.key command.act v reading tells h)
