-- A registry and the journal in front of it: what they show. Choices of this project.
use Rattle.std.specs.Prelude.{◌≡◌, ◌⊎◌, ℕ, Bool, true, false, not, ◌&&◌, List, [], ◌++◌, Option, Some}
use Rattle.std.specs.Prelude.{IsSomeAnd, Result, IsErr}
use Rattle.pid_moderation.specs.declared.command.Reply.{Reply}
use Rattle.pid_moderation.specs.declared.refusal.Refusal.{Refusal}
use Rattle.pid_moderation.specs.History.{Asked, History}
use Rattle.pid_service_laws.specs.Registries.{CommandLeaves, Showing}
use Rattle.pid_service_laws.specs.declared.registry_calls.RegistryCalls.{Ghosts}
use Rattle.pid_journal.specs.declared.counts.Counts.{Counts}
use Rattle.pid_journal.specs.declared.file.JournalFile as files
use Rattle.pid_journal.specs.declared.journaled.Journaled.{Journaled}
use Rattle.pid_journal.specs.Doubts.{IsInDoubt, LeavesPart}
use Rattle.pid_journal.specs.Journals.{IsEntry, IsNote, JournalLeads}

-- the registry, the file of its journal, and whether an entry is left whose command was not obeyed
abbrev pub pair_parts : {R J : Type 0} → Journaled R J → R × J × Bool
pair_parts p = (p.registry, p.journal, p.failed)

-- `registry` is `R.RegistryCalls`, and `file` is `J.JournalFile`
module _ {R J : Type 0} (registry : Ghosts R) (file : files.Ghosts J) where
  -- the registry is live, and no entry is left in the journal that could not be cut off
  abbrev pub pair_is_live : Journaled R J → Bool
  pair_is_live p = not p.failed && registry.is_live p.registry

  -- It shows the history to which its journal leads from the one at the start.
  pub record PairShows (start : History) (p : Journaled R J) (h : History) : Type 0 where
    pub shown : registry.showing.shows p.registry h
    pub settled : p.failed ≡ false
    pub leads : IsSomeAnd (file.safe p.journal) (λ text. JournalLeads start text h)

  -- It has failed at a command, whose entry could not be cut off, or is whole where the registry itself has failed.
  pub record PairFailsBetween (start : History) (p : Journaled R J) (h next : History) : Type 0 where
    pub doubt : IsInDoubt start (file.safe p.journal) h next
    pub fails : ((p.failed ≡ true) × registry.showing.shows p.registry h)
        ⊎ ((file.safe p.journal ≡ Some (doubt.text ++ doubt.more)) × registry.showing.fails_between p.registry h next)

  -- The relations by which sessions describe it, wherever its journal begins. A question leaves the journal as it is.
  abbrev pub pair_showing : Showing (Journaled R J)
  pair_showing = record {
    is_clean = λ p. registry.showing.is_clean p.registry;
    shows = λ p h. (start : History) × PairShows start p h;
    fails_between = λ p h next. (start : History) × PairFailsBetween start p h next;
    beside = λ old new. new.journal ≡ old.journal;
  }

  -- A command was obeyed, and the journal begins where it did.
  abbrev pub ObeysAnywhere : Journaled R J → Asked → Result Reply Refusal → Journaled R J → Type 0
  ObeysAnywhere old c result new = registry.showing.is_clean new.registry → (start h : History) → PairShows start old h
      → CommandLeaves (record pair_showing { shows = PairShows start; fails_between = PairFailsBetween start })
      result new h c

-- To what is there a mark may come, and nothing else.
abbrev pub AddsMark : List ℕ → Option (List ℕ) → Type 0
AddsMark text now = (mark : List ℕ) × (now ≡ Some (text ++ mark))
    × ((mark ≡ []) ⊎ ((counts : Counts) × IsNote mark counts []))

-- What is there stays. An entry of the command may come to it, and a mark; or at a fault a prefix of an entry.
abbrev pub AddsEntry : (old now : Option (List ℕ)) → Asked → Result Reply Refusal → Type 0
AddsEntry old now c result = (text : List ℕ) → old ≡ Some text → (now ≡ Some text)
    ⊎ ((entry : List ℕ) × (counts : Counts) × IsEntry entry counts c
    × (AddsMark (text ++ entry) now ⊎ (IsErr result × LeavesPart now text entry)))
