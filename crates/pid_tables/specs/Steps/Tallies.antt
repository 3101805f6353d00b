-- What the paths of a file were to the items, counted while they are put in turn.
use Rattle.std.specs.Prelude.{[], ◌∷◌, ◌+◌}
use Rattle.pid_moderation.specs.Items.{Items, name_at, imported}
use Rattle.pid_tables.specs.Steps.Puts.{put_over}
use Rattle.pid_tables.specs.declared.tally.Tally.{Tally}
use Rattle.pid_tables.specs.declared.putting.Put.{Put}
use Rattle.pid_tables.specs.declared.putting.Put.TheVariants.{Added, Renamed, Same}

-- one path more, which was added, renamed or the same
abbrev pub tallied : Put → Tally → Tally
tallied Added t = record t { added = t.added + 1 }
tallied Renamed t = record t { renamed = t.renamed + 1 }
tallied Same t = record t { same = t.same + 1 }

-- none yet
abbrev pub no_tally : Tally
no_tally = record { added = 0; renamed = 0; same = 0 }

-- the pairs put in turn over items, of which the last is the first here
abbrev pub tally_of : Items → Items → Tally
tally_of items [] = no_tally
tally_of items (pair ∷ pairs) = tallied (put_over pair.1 (name_at pair.0 (imported pairs items)))
    (tally_of items pairs)
