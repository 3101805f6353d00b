-- The headline, in one statement: sessions on a registry, stops anywhere, the next opening, and
-- what is exported and looked up there. A choice of this project.
use Rattle.std.specs.Prelude.{◌≡◌, ℕ, List, [], ◌∷◌, ◌++◌, Ok}
use Rattle.std.specs.Io.KnownBytes.{Appends}
use Rattle.pid_file.specs.declared.io.Output as outputs
use Rattle.pid_file.specs.Printing.{print}
use Rattle.pid_lookup.specs.declared.answer.Answer.{Answer}
use Rattle.pid_lookup.specs.declared.args.Args.{Args}
use Rattle.pid_lookup.specs.Answers.{answer_of}
use Rattle.pid_moderation.specs.History.{History}
use Rattle.pid_moderation.specs.Writes.{tree_of}
use Rattle.pid_service_laws.specs.Calls.{Call}
use Rattle.pid_service_laws.specs.Registries.{CallsLead}
use Rattle.pid_tables.specs.declared.database.Database.{Ghosts}
use Rattle.pid_service.specs.declared.registry.Registry.{Registry}
use Rattle.pid_service.specs.Exporting.{IsExported}
use Rattle.pid_service.specs.Sessions.{IsAfterSession, ShowsPrefixes, showing}
use Rattle.pid_service.specs.LookingUp.{IsLookedUp}
use Rattle.pid_service.specs.Opening.{OpensTo}
use Rattle.pid_service.specs.Registries.{HasCleanDisk}

-- A registry shows the history after a prefix of the commands of each session, which holds every
-- acknowledged one, and whose tree its printed text reads back to, and to no other. A whole export
-- writes that text, and a look-up answers the text that the flags define over that tree.
pub record TellsPrefixes {S W : Type 0} (database : Ghosts S) (writer : outputs.Ghosts W)
    (registry : Registry S database) (start : History) (runs : List (List Call)) : Type 0 where
  pub again : ShowsPrefixes database registry start runs
  pub exports : (left : Registry S database) (before after : W)
      → IsExported database writer registry left before after (Ok tt) → HasCleanDisk database left
      → Appends (writer.taken before) (writer.taken after) (print (tree_of again.history))
  pub looks_up : (asked : Registry S database) (flags size : ℕ) (args : Args) (answer : Answer)
      → IsLookedUp database registry asked flags args size (Ok answer) → HasCleanDisk database asked
      → answer ≡ answer_of (tree_of again.history) flags args size

-- Calls led from a registry, which showed prefixes of the sessions before, to its end; a connection
-- comes after that session; and a registry is opened on it, while its disk returns what was written.
abbrev pub OpeningsTellPrefixes : {S T W : Type 0} → Ghosts S → Ghosts T → outputs.Ghosts W → Type 0
OpeningsTellPrefixes {S} {T} from to writer =
    (opened ended : Registry S from) (start : History) (runs : List (List Call)) (calls : List Call)
    → ShowsPrefixes from opened start runs → CallsLead (showing from) opened calls ended
    → (conn : T) → IsAfterSession from to ended conn
    → (next : Registry T to) → OpensTo to conn (Ok next) → HasCleanDisk to next
    → TellsPrefixes to writer next start (runs ++ calls ∷ [])
