-- What is said of questions to a holder of names, which is given by what its trait says of it.
use Rattle.pid_lookup.specs.declared.names.Names.{Ghosts}
use Rattle.pid_lookup.specs.Holders.{KeepsHolder}

module _ {X F : Type 0} (names : Ghosts X F) where
  -- no question has changed the holder more than it may
  abbrev pub IsStill : X → X → Type 0
  IsStill old new = KeepsHolder names.shows names.is_honest names.may_give names.may_tell
      names.only_asked old new

  -- this is said of what an honest holder shows
  abbrev pub OfShown : X → X → (names.Shown → Type 0) → Type 0
  OfShown old new Says = names.is_honest new → (s : names.Shown) → names.shows old s → Says s

  -- the faults that came have their causes since any start, since which the holder was only asked
  abbrev pub HaveCauses : X → X → (F → Type 0) → Type 0
  HaveCauses old new Came = names.is_honest new → (s : names.Shown) → names.shows old s
      → (start : X) → names.only_asked start old
      → (f : F) → Came f → names.has_cause start new f
