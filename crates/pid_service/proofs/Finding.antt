-- From the end of a session to the next opening.
use Rattle.std.proofs.Common.{◌≡◌, inl, inr, ℕ, List, [], true, Option, Some, None, Result, Ok, Err, option_map, refl, sym, subst, ◌∙◌, arith}
use Rattle.pid_tables.specs.Rows.Clauses as clauses
use Rattle.pid_tables.specs.Rows.Clauses.{AtRest}
use Rattle.pid_tables.specs.Rows.Faults.{IsMemoryOrStore}
use Rattle.pid_tables.specs.Clauses.{ShowsOrBlank}
use Rattle.pid_tables.proofs.OpenLemmas.{LeavesCommitted, opened_bare, opened_rests, opened_shown}
use Rattle.pid_service.proofs.Words.{connection, FailedOpening, FailsBetween, found_in, Ghosts, History, is_live, IsAfterSession, IsAfterStop, IsOpened, IsReached, IsShown, KeepsBetween, KeepsHistory, LeavesTablesTo, ListsNoTable, Migration, moved_to, MovesTo, name_at, new_history, NextStop, One, OpensTo, Registry, revision_of, schema_of, Shows, ShowsAgain, ShowsIn, since_of, Step, TableFault, taken_over, Trees, Two, Version, Views, views_of, without_numbers}
use Rattle.pid_service.proofs.Keeping.{true_not}
use Rattle.pid_service.specs.Histories.{showing}
use Rattle.pid_service.specs.Sessions.{Stop}
use Rattle.pid_service.specs.Registries.{HasCleanDisk}

pub none_reached : IsReached new_history
none_reached = record { mark = 0; commands = []; made = tt; reached = refl; marked = omega arith }

no_number : (name : Option (List ℕ)) (since : ℕ) → option_map (λ (n : List ℕ). 0) name ≡ Some since → since ≡ 0
no_number None since is = absurd (let no : ⊥ = cc in no)
no_number (Some name) since is = cc

-- in schema 1 the numbers are not told
without_shown : (db : Trees) (v : Views) → ShowsIn One (found_in (schema_of One) db) v → ShowsIn One (found_in (schema_of One) db) (without_numbers v)
without_shown db v shows = record {
  schema = shows.schema;
  sound = shows.sound;
  views = record { sorted = shows.views.sorted; paths = shows.views.paths; pending = shows.views.pending };
  meta = shows.meta;
  accounts = shows.accounts;
  items = shows.items;
  submissions = shows.submissions;
  remarks = shows.remarks;
  receipts = shows.receipts;
  sinces = (refl, λ path since is. no_number (name_at path v.items) since is);
}

-- a history that was taken over has none
pub taken_bare : (h : History) → revision_of (taken_over h) ≡ 0 → ((path : List ℕ) → since_of path (taken_over h) ≡ 0) → views_of (taken_over h) ≡ without_numbers (views_of (taken_over h))
taken_bare h none never = λ i. record (views_of (taken_over h)) { revision = none i; since = λ path. never path i }

module _ {S : Type 0} (database : Ghosts S) where
  -- while a connection is open, a crash leaves what was committed
  abbrev pub IsSettled : Type 0
  IsSettled = (conn : S) → LeavesCommitted (database.state conn)

  pub opened_in : IsSettled → (conn : S) (h : History) → IsOpened database.state conn → (version : Version) → ShowsIn version (found_in (schema_of version) (clauses.seen database.state conn).trees) (views_of h) → ShowsOrBlank database.state conn h
  opened_in law conn h opens Two shows = inl (opened_shown (database.state conn) (views_of h) (law conn) opens.0 opens.1 shows)
  opened_in law conn h opens One shows = inr (inl (opened_rests One (database.state conn) (views_of h) (law conn) opens.0 opens.1 shows))

  pub close_finds : (ended : Registry S database) → is_live ended ≡ true → LeavesTablesTo database database ended (connection ended)
  close_finds ended live = record {
    clean = λ clean. clean;
    shown = λ clean h shows. inl shows.tables;
    either = λ clean h next between. true_not (is_live ended) live between.has_failed;
  }

  pub unopened_keeps : (conn back : S) (fault : TableFault) → OpensTo database conn (Err (fault, back)) → KeepsHistory database database conn back
  unopened_keeps conn back fault opens = record {
    clean = opens.clean;
    shown = λ clean h reached shows. (opens.opened h reached shows clean).1;
  }

  pub unopened_only_store : (conn back : S) (fault : TableFault) (h : History) → IsReached h → ShowsOrBlank database.state conn h → OpensTo database conn (Err (fault, back)) → clauses.HasCleanDisk database.state back → IsMemoryOrStore fault
  unopened_only_store conn back fault h reached shows opens clean = (opens.opened h reached shows clean).0

  -- the first opening
  pub bare_shows_none : IsSettled → (conn : S) → IsOpened database.state conn → ListsNoTable (clauses.seen database.state conn).trees → ShowsOrBlank database.state conn new_history
  bare_shows_none law conn opens bare = inr (inr (opened_bare (database.state conn) (law conn) opens.0 opens.1 bare, refl))

  pub shown_rests : IsSettled → (conn : S) (h : History) → IsOpened database.state conn → IsShown (clauses.seen database.state conn).trees (views_of h) → ShowsOrBlank database.state conn h
  shown_rests law conn h opens shown = opened_in law conn h opens shown.0 shown.1

  pub first_shows : (conn : S) (first : Registry S database) (h : History) → IsReached h → ShowsOrBlank database.state conn h → OpensTo database conn (Ok first) → HasCleanDisk database first → Shows database first h
  first_shows conn first h reached shows opens clean = opens.opened h reached shows clean

  -- a migration
  pub move_shows : (conn moved : S) (step : Step) (h : History) → IsReached h → ShowsOrBlank database.state conn h → MovesTo database.state conn (Ok (moved, step)) → clauses.HasCleanDisk database.state moved → AtRest database.state moved (views_of h)
  move_shows conn moved step h reached (inl rest) moves clean = (moves.already h reached rest clean).1
  move_shows conn moved step h reached (inr (inl older)) moves clean = (moves.moved h reached older clean).1
  move_shows conn moved step h reached (inr (inr bare)) moves clean = subst (λ (g : History). AtRest database.state moved (views_of g)) (sym bare.1) (moves.created bare.0 clean).1

  move_leaves : (conn back : S) (fault : TableFault) (h : History) → IsReached h → ShowsOrBlank database.state conn h → MovesTo database.state conn (Err (fault, back)) → clauses.HasCleanDisk database.state back → IsMemoryOrStore fault × ShowsOrBlank database.state back h
  move_leaves conn back fault h reached (inl rest) moves clean = moves.already h reached rest clean
  move_leaves conn back fault h reached (inr (inl older)) moves clean = moves.moved h reached older clean
  move_leaves conn back fault h reached (inr (inr bare)) moves clean = subst (λ (g : History). IsMemoryOrStore fault × ShowsOrBlank database.state back g) (sym bare.1) (moves.created bare.0 clean)

  pub move_only_store : (conn back : S) (fault : TableFault) (h : History) → IsReached h → ShowsOrBlank database.state conn h → MovesTo database.state conn (Err (fault, back)) → clauses.HasCleanDisk database.state back → IsMemoryOrStore fault
  move_only_store conn back fault h reached shows moves clean = (move_leaves conn back fault h reached shows moves clean).0

  pub move_keeps : (conn : S) (result : Result (S × Step) (TableFault × S)) → MovesTo database.state conn result → KeepsHistory database database conn (moved_to result)
  move_keeps conn (Ok (moved, step)) moves = record {
    clean = moves.clean;
    shown = λ clean h reached shows. inl (move_shows conn moved step h reached shows moves clean);
  }
  move_keeps conn (Err (fault, back)) moves = record {
    clean = moves.clean;
    shown = λ clean h reached shows. (move_leaves conn back fault h reached shows moves clean).1;
  }

  pub still_between : (old new : Registry S database) (h next : History) → new ≡ old → FailsBetween database old h next → FailsBetween database new h next
  still_between old new h next same between = subst (λ r. FailsBetween database r h next) (sym same) between

  -- tables of schema 1, before them

  abbrev pub ShowsEarlier : S → Views → Type 0
  ShowsEarlier conn v = ShowsIn One (found_in (schema_of One) (clauses.seen database.state conn).trees) v

  pub taken_there : IsSettled → (conn : S) (v : Views) (h : History) → views_of (taken_over h) ≡ without_numbers (views_of (taken_over h)) → without_numbers (views_of (taken_over h)) ≡ without_numbers (views_of h)
      → IsOpened database.state conn → ShowsEarlier conn v → without_numbers v ≡ without_numbers (views_of h) → ShowsOrBlank database.state conn (taken_over h)
  taken_there law conn v h bare taken opens shows same =
      opened_in law conn (taken_over h) opens One (subst (λ (w : Views). ShowsEarlier conn w) (same ∙ sym taken ∙ sym bare) (without_shown (clauses.seen database.state conn).trees v shows))

module _ {S T : Type 0} (from : Ghosts S) (to : Ghosts T) where
  left_found : IsSettled to → (earlier : S) (conn : T) (h : History) → IsAfterStop from to earlier conn → ShowsOrBlank from.state earlier h → ShowsOrBlank to.state conn h
  left_found law earlier conn h stop (inl rest) = opened_in to law conn h stop.opened Two (rest.leaves.each stop.clean _ stop.found)
  left_found law earlier conn h stop (inr (inl older)) = let shown = older.leaves.each stop.clean _ stop.found in opened_in to law conn h stop.opened shown.0 shown.1
  left_found law earlier conn h stop (inr (inr bare)) = elim (bare.0.leaves.each stop.clean _ stop.found) [
    | inl none ↦ inr (inr (opened_bare (to.state conn) (law conn) stop.opened.0 stop.opened.1 none, bare.1))
    | inr made ↦ opened_in to law conn h stop.opened Two (subst (λ (g : History). ShowsIn Two (found_in (schema_of Two) (clauses.seen to.state conn).trees) (views_of g)) (sym bare.1) made)
  ]

  pub stop_keeps : IsSettled to → (earlier : S) (conn : T) → IsAfterStop from to earlier conn → KeepsHistory from to earlier conn
  stop_keeps law earlier conn stop = record {
    clean = λ clean. stop.clean;
    shown = λ clean h reached shows. left_found law earlier conn h stop shows;
  }

  pub stop_finds : IsSettled to → (ended : Registry S from) (conn : T) → IsAfterStop from to (connection ended) conn → LeavesTablesTo from to ended conn
  stop_finds law ended conn stop =
      let rest : (h : History) → _ → ShowsOrBlank to.state conn h = λ h shows. inl (opened_shown (to.state conn) (views_of h) (law conn) stop.opened.0 stop.opened.1 shows) in
      record {
        clean = λ clean. stop.clean;
        shown = λ clean h shows. rest h (shows.tables.leaves.each stop.clean _ stop.found);
        either = λ clean h next between. elim (between.leaves.each stop.clean _ stop.found) [ inl shows ↦ inl (rest h shows) | inr shows ↦ inr (rest next shows) ];
      }

  pub opening_finds : (ended : Registry S from) (conn : T) (next : Registry T to) → LeavesTablesTo from to ended conn → OpensTo to conn (Ok next) → ShowsAgain (showing from) (showing to) ended next
  opening_finds ended conn next finds opens = record {
    clean = λ clean. finds.clean (opens.clean clean);
    shown = λ clean h shows. opens.opened h shows.history (finds.shown (opens.clean clean) h shows) clean;
    either = λ clean h after between. elim (finds.either (opens.clean clean) h after between) [
      | inl shows ↦ inl (opens.opened h between.before shows clean)
      | inr shows ↦ inr (opens.opened after between.next shows clean)
    ];
  }

module _ {S T U : Type 0} (from : Ghosts S) (by : Ghosts T) (to : Ghosts U) where
  pub keeps_between : KeepsBetween from by to
  keeps_between ended conn next finds keeps = record {
    clean = λ clean. finds.clean (keeps.clean clean);
    shown = λ clean h shows. keeps.shown clean h shows.history (finds.shown (keeps.clean clean) h shows);
    either = λ clean h after between. elim (finds.either (keeps.clean clean) h after between) [
      | inl shows ↦ inl (keeps.shown clean h between.before shows)
      | inr shows ↦ inr (keeps.shown clean after between.next shows)
    ];
  }

module _ {S T : Type 0} (from : Ghosts S) (to : Ghosts T) (law : IsSettled to) where
  -- so the tables are kept over all that comes after a session
  pub session_finds : (ended : Registry S from) (conn : T) → IsAfterSession from to ended conn → LeavesTablesTo from to ended conn
  session_finds ended _ (Stop conn stop) = stop_finds from to law ended conn stop
  session_finds ended _ (NextStop earlier conn before stop) = keeps_between from to to ended earlier conn (session_finds ended earlier before) (stop_keeps to to law earlier conn stop)
  session_finds ended _ (FailedOpening earlier conn fault before opens) = keeps_between from to to ended earlier conn (session_finds ended earlier before) (unopened_keeps to earlier conn fault opens)
  session_finds ended _ (Migration earlier result before moves) = keeps_between from to to ended earlier (moved_to result) (session_finds ended earlier before) (move_keeps to earlier result moves)
