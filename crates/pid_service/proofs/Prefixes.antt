-- What each opening shows is after a prefix of the commands of each session.
use Rattle.std.proofs.Common.{sym, subst, ◌∷◌, ◌++◌, []}
use Rattle.pid_reader.proofs.ReadBack.{read_back as reads_back}
use Rattle.pid_moderation.proofs.KeysOnce.{at_most_once}
use Rattle.pid_moderation.proofs.RevisionLemmas.{mark_stays}
use Rattle.pid_service_laws.proofs.Calling.{session_more, no_session}
use Rattle.pid_service.specs.Histories.{showing}
use Rattle.pid_service.specs.SessionLaws.{ReopeningsShowPrefixes}
use Rattle.pid_service.proofs.Reached.{reached_sound}
use Rattle.pid_service.proofs.Words.{Ghosts, IsAfterPrefixes, tree_of}

module _ {S T : Type 0} (earlier : Ghosts S) (later : Ghosts T) where
  pub prefixes_shown : ReopeningsShowPrefixes earlier later
  prefixes_shown = record {
    none = λ first start shows.
        let from = shows.history in
        let sound = reached_sound start from in
        record {
          from = from;
          history = start;
          shown = shows;
          prefixes = subst (λ h. IsAfterPrefixes h [] h) (sym from.reached) (no_session at_most_once mark_stays from.mark from.commands);
          read_back = λ t. reads_back (tree_of start) t sound.tree;
        };
    more = λ opened ended next start runs calls shows lead again clean.
        let from = shows.from in
        let found = session_more (showing earlier) (showing later) at_most_once mark_stays from.mark from.commands opened ended next shows.history runs calls shows.shown
        (subst (λ h. IsAfterPrefixes h runs shows.history) from.reached shows.prefixes) lead again clean in
        let sound = reached_sound found.0 found.1.history in
        record {
          from = from;
          history = found.0;
          shown = found.1;
          prefixes = subst (λ h. IsAfterPrefixes h (runs ++ calls ∷ []) found.0) (sym from.reached) found.2;
          read_back = λ t. reads_back (tree_of found.0) t sound.tree;
        };
  }
