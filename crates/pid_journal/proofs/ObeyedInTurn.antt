-- Which lines of segments a registry obeys that goes through them in turn.
use Rattle.std.proofs.Common.{◌≡◌, ℕ, Bool, List, [], ◌∷◌, ◌++◌, Some, sym, subst, ◌∙◌}
use Rattle.pid_moderation.specs.History.{History}
use Rattle.pid_service_laws.specs.Registries.{Showing}
use Rattle.pid_journal.specs.declared.folder.JournalFolder as folders
use Rattle.pid_journal.specs.Openings.{FollowsInTurn, StopsAtOne}
use Rattle.pid_journal.specs.Steps.Segments.{IsSameFolder, KeepsShown}
use Rattle.pid_journal.proofs.Along.{stops_as, stops_at}
use Rattle.pid_journal.proofs.InTurn.{IsInTurn}
use Rattle.pid_journal.proofs.ObeyedLines.{obeys_both, obeys_first, obeys_none}

module _ {R F J : Type 0} (w : Showing R) (folder : folders.Ghosts F J) where
  -- what is said of a result where it is a value, and where it is a fault
  abbrev Obeys : R → R → F → List ℕ → Type 0
  Obeys old new f names = w.is_clean new → (all : List ℕ) → folder.names f ≡ Some all → (h : History) → w.shows old h → (g : History) × w.shows new g × FollowsInTurn (folder.text_in f) names h g

  abbrev Stops : R → R → F → List ℕ → Type 0
  Stops old new f names = w.is_clean new → (all : List ℕ) → folder.names f ≡ Some all → (h : History) → w.shows old h → StopsAtOne w (FollowsInTurn (folder.text_in f) names h) new

  -- nothing was obeyed
  pub stops_still : (old new : R) (f : F) (names : List ℕ) → KeepsShown w old new → Stops old new f names
  stops_still old new f names kept clean all known h shown = stops_at w new (FollowsInTurn (folder.text_in f) names h) h (kept clean h shown) (obeys_none (folder.text_in f) names h)

  pub obeys_still : (old new : R) (f : F) (names : List ℕ) → KeepsShown w old new → Obeys old new f names
  obeys_still old new f names kept clean all known h shown = (h, kept clean h shown, obeys_none (folder.text_in f) names h)

  -- the registry was only asked before
  pub obeys_later : (old mid new : R) (f : F) (names : List ℕ) → (w.is_clean new → w.is_clean mid) → KeepsShown w old mid → Obeys mid new f names → Obeys old new f names
  obeys_later old mid new f names honest kept obeys clean all known h shown = obeys clean all known h (kept (honest clean) h shown)

  pub stops_later : (old mid new : R) (f : F) (names : List ℕ) → (w.is_clean new → w.is_clean mid) → KeepsShown w old mid → Stops mid new f names → Stops old new f names
  stops_later old mid new f names honest kept stops clean all known h shown = stops clean all known h (kept (honest clean) h shown)

  -- or only after it
  pub obeys_before : (old mid new : R) (f : F) (names : List ℕ) → (w.is_clean new → w.is_clean mid) → KeepsShown w mid new → Obeys old mid f names → Obeys old new f names
  obeys_before old mid new f names honest kept obeys clean all known h shown = let one = obeys (honest clean) all known h shown in (one.0, kept clean one.0 one.1, one.2)

  pub stops_before : (old mid new : R) (f : F) (names : List ℕ) → (w.is_clean new → w.is_clean mid) → KeepsShown w mid new → Obeys old mid f names → Stops old new f names
  stops_before old mid new f names honest kept obeys clean all known h shown =
      let one = obeys (honest clean) all known h shown in
      stops_at w new (FollowsInTurn (folder.text_in f) names h) one.0 (kept clean one.0 one.1) one.2

  -- the segments from one on, and those before it
  from_one : (text : ℕ → List ℕ) (names front : List ℕ) (name : ℕ) (rest : List ℕ) (h m g : History) → names ≡ front ++ name ∷ rest → FollowsInTurn text front h m → FollowsInTurn text (name ∷ []) m g → FollowsInTurn text names h g
  from_one text names front name rest h m g parts far one = subst (λ (ns : List ℕ). FollowsInTurn text ns h g) (sym parts) (obeys_both text front (name ∷ rest) h m g far (obeys_first text name rest m g one))

  -- one of them, after those before it
  pub obeys_last : (old mid new : R) (f g : F) (names : List ℕ) (name : ℕ) (rest : List ℕ) (moved : Bool) → IsInTurn w folder old mid f g names name rest moved → (w.is_clean new → w.is_clean mid) → Obeys mid new g (name ∷ []) → Obeys old new f names
  obeys_last old mid new f g names name rest moved turn honest obeys clean all known h shown =
      let far = turn.obeys (honest clean) all known h shown in
      let one = obeys clean all (turn.same.0 ∙ known) far.0 far.1 in
      (one.0, one.1, from_one (folder.text_in f) names turn.at.0 name rest h far.0 one.0 turn.at.1 far.2 (subst (λ (text : ℕ → List ℕ). FollowsInTurn text (name ∷ []) far.0 one.0) turn.same.1 one.2))

  pub stops_last : (old mid new : R) (f g : F) (names : List ℕ) (name : ℕ) (rest : List ℕ) (moved : Bool) → IsInTurn w folder old mid f g names name rest moved → (w.is_clean new → w.is_clean mid) → Stops mid new g (name ∷ []) → Stops old new f names
  stops_last old mid new f g names name rest moved turn honest stops clean all known h shown =
      let far = turn.obeys (honest clean) all known h shown in
      stops_as w new (FollowsInTurn (folder.text_in g) (name ∷ []) far.0) (FollowsInTurn (folder.text_in f) names h)
      (λ x one. from_one (folder.text_in f) names turn.at.0 name rest h far.0 x turn.at.1 far.2 (subst (λ (text : ℕ → List ℕ). FollowsInTurn text (name ∷ []) far.0 x) turn.same.1 one))
      (stops clean all (turn.same.0 ∙ known) far.0 far.1)

  -- the names as they were read, of the folder as it was
  pub obeys_at : (old new : R) (f g : F) (names begins : List ℕ) → IsSameFolder folder f g → begins ≡ names → Obeys old new g begins → Obeys old new f names
  obeys_at old new f g names begins same read obeys clean all known h shown =
      let one = obeys clean all (same.0 ∙ known) h shown in
      (one.0, one.1, subst (λ (ns : List ℕ). FollowsInTurn (folder.text_in f) ns h one.0) read (subst (λ (text : ℕ → List ℕ). FollowsInTurn text begins h one.0) same.1 one.2))

  pub stops_found : (old new : R) (f g : F) (names begins : List ℕ) → IsSameFolder folder f g → begins ≡ names → Stops old new g begins → Stops old new f names
  stops_found old new f g names begins same read stops clean all known h shown =
      stops_as w new (FollowsInTurn (folder.text_in g) begins h) (FollowsInTurn (folder.text_in f) names h)
      (λ x one. subst (λ (ns : List ℕ). FollowsInTurn (folder.text_in f) ns h x) read (subst (λ (text : ℕ → List ℕ). FollowsInTurn text begins h x) same.1 one))
      (stops clean all (same.0 ∙ known) h shown)
