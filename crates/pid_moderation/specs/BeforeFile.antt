-- What is known of an import before its file is read.
use Rattle.std.specs.Prelude.{◌≡◌, ◌≢◌, ℕ, List, ◌∷◌, Option, None, is_none, Result}
use Rattle.pid_moderation.specs.declared.command.Reply.{Reply}
use Rattle.pid_moderation.specs.declared.facts.Facts.{Facts}
use Rattle.pid_moderation.specs.declared.refusal.Refusal.{Refusal}
use Rattle.pid_moderation.specs.declared.refusal.Refusal.TheVariants.{NoAccount}
use Rattle.pid_moderation.specs.History.{Reading, TooLong, Imports, Asked, History}
use Rattle.pid_moderation.specs.Views.{views_of}
use Rattle.pid_moderation.specs.CheckTables.{first_failing, import_checks}
use Rattle.pid_moderation.specs.Judgement.{judge, answer, after}

-- an import of an account, under a key if there is one
abbrev pub import_of : List ℕ → Option (List ℕ) → Reading → Asked
import_of account key reading = record { account = account; key = key; deed = Imports reading }

-- the import is answered so whatever its file reads to, if it is not too long, and changes nothing
abbrev pub SettlesImport : History → List ℕ → Option (List ℕ) → Result Reply Refusal → Type 0
SettlesImport h account key told = (reading : Reading) → reading ≢ TooLong
    → (answer (judge (views_of h) (import_of account key reading)) ≡ told)
    × (after h (import_of account key reading) ≡ h)

-- no reply is kept for the import, and no check before those of its file fails
pub record WaitsForFile (f : Facts) : Type 0 where
  pub new : f.kept ≡ None
  pub allowed : first_failing ((is_none f.rank, NoAccount) ∷ import_checks f) ≡ None
