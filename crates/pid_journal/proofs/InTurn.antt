-- Segments in turn.
use Rattle.std.proofs.Common.{◌≡◌, ◌⊎◌, inl, inr, ℕ, ◌<◌, ◌≤◌, Bool, true, false, List, [], ◌∷◌, ◌++◌, Option, Some, None, Result, Ok, Err, refl, sym, ap, subst, ◌∙◌, arith, append_assoc, append-nil}
use Rattle.std.specs.Prelude.{IfSome, IsSorted, MatchResult, ◌==◌}
use Rattle.std.specs.Ordering.{nat_cmp}
use Rattle.std.proofs.lemmas.Bool.Decides.{nat_tests}
use Rattle.pid_file.specs.WholeLines.{whole_lines}
use Rattle.pid_moderation.proofs.RevisionLemmas.{grows, marked_stays}
use Rattle.pid_moderation.specs.History.{History}
use Rattle.pid_moderation.specs.Revisions.{IsMarked}
use Rattle.pid_moderation.specs.Views.{revision_of}
use Rattle.pid_script.specs.Replies.{commands_of_lines, history_after}
use Rattle.pid_service_laws.specs.Registries.{Showing}
use Rattle.pid_service_laws.specs.declared.registry_calls.RegistryCalls.{Ghosts}
use Rattle.pid_journal.specs.declared.folder.JournalFolder as folders
use Rattle.pid_journal.specs.declared.open_fault.OpenFault.{OpenFault}
use Rattle.pid_journal.specs.declared.open_fault.OpenFault.TheVariants.{Newer}
use Rattle.pid_journal.specs.declared.segment_text.SegmentText.{SegmentText}
use Rattle.pid_journal.specs.Journals.{AreTrue, JournalLeads, lines_in}
use Rattle.pid_journal.specs.Steps.Ways.{IsAlong, IsInSegments, IsOnWay}
use Rattle.pid_journal.specs.Openings.{FollowsInTurn, StopsAtOne}
use Rattle.pid_journal.specs.Steps.Faults.{IsRefused}
use Rattle.pid_journal.specs.Steps.Places.{IsOpenEnd}
use Rattle.pid_journal.specs.Steps.Reads.{EndsAtLast, EndsAt, held_of}
use Rattle.pid_journal.specs.Steps.Segments.{EndsLast, FaultsAlong, FollowsAll, FollowsSegment, HasBegun, HasComeTo, HasComeToFirst, HasComeToLast, IsSameFolder, KeepsShown, LinesMayBeObeyed, PassesSegment, ShowsWithin, TellsRevision, IsNewName}
use Rattle.pid_journal.proofs.Along.{along_all, segments_along, stops_as, stops_at}
use Rattle.pid_journal.proofs.Appending.{history_both}
use Rattle.pid_journal.proofs.Comparing.{first_two, last_same}
use Rattle.pid_journal.proofs.ObeyedLines.{obeys_both}
use Rattle.pid_journal.proofs.Places.{no_lines_left, same_by_revision}

-- TWO PARTS OF A LIST, TWICE

abbrev pub Parts : {A : Type 0} → (xs ys before later : List A) → Type 0
Parts {A} xs ys before later = ((b : List A) × (before ≡ xs ++ b) × (ys ≡ b ++ later)) ⊎ ((l : List A) × (xs ≡ before ++ l) × (later ≡ l ++ ys))

one_longer : {A : Type 0} (x y : A) (xs ys before later : List A) → x ≡ y → Parts xs ys before later → Parts (x ∷ xs) ys (y ∷ before) later
one_longer x y xs ys before later same (inl (b, is, rest)) = inl (b, (λ i. sym same i ∷ is i), rest)
one_longer x y xs ys before later same (inr (l, is, rest)) = inr (l, (λ i. same i ∷ is i), rest)

pub in_parts : {A : Type 0} (xs ys before later : List A) → xs ++ ys ≡ before ++ later → Parts xs ys before later
in_parts [] ys before later is = inl (before, refl, is)
in_parts (x ∷ xs) ys [] later is = inr (x ∷ xs, refl, sym is)
in_parts (x ∷ xs) ys (b ∷ bs) later is =
    let first : x ≡ b = cc in
    let rest : xs ++ ys ≡ bs ++ later = cc in
    one_longer x b xs ys bs later first (in_parts xs ys bs later rest)

-- ONE SEGMENT

pub lines_marked : (h : History) (lines : List (List ℕ)) → IsMarked h → IsMarked (history_after h lines)
lines_marked h lines marked = marked_stays h (commands_of_lines lines) marked

pub lines_grow : (h : History) (lines : List (List ℕ)) → revision_of h ≤ revision_of (history_after h lines)
lines_grow h lines = grows h (commands_of_lines lines)

squeezed : (a b n : ℕ) → a ≤ b → b ≡ n → n ≤ a → b ≡ a
squeezed a b n le is ge = omega arith

-- The registry is where the next segment begins, or later.
pub skipped : (text : ℕ → List ℕ) (h shown : History) (name next : ℕ) (names : List ℕ) → IsMarked h → IsInSegments text h (name ∷ next ∷ names) shown → next ≤ revision_of shown
    → IsInSegments text (history_after h (whole_lines (text name))) (next ∷ names) shown
skipped text h shown name next names marked way late =
    let lines = whole_lines (text name) in
    let rest = lines_in text (next ∷ names) in
    let end = history_after h lines in
    elim (in_parts lines rest way.before way.later way.parts) [
      | inl (b, is, parts) ↦ record { told = way.told.2; before = b; later = way.later; parts = parts; so_far = sym (history_both h lines b) ∙ ap (history_after h) (sym is) ∙ way.so_far }
      | inr (l, is, parts) ↦
          let on : end ≡ history_after shown l = ap (history_after h) is ∙ history_both h way.before l ∙ ap (λ (g : History). history_after g l) way.so_far in
          let grown : revision_of shown ≤ revision_of end = subst (λ (g : History). revision_of shown ≤ revision_of g) (sym on) (lines_grow shown l) in
          let same : revision_of (history_after shown l) ≡ revision_of shown = ap revision_of (sym on) ∙ squeezed (revision_of shown) (revision_of end) next grown way.told.2.0 late in
          let there : IsMarked shown = subst IsMarked way.so_far (lines_marked h way.before marked) in
          record { told = way.told.2; before = []; later = rest; parts = refl; so_far = on ∙ same_by_revision shown (commands_of_lines l) there same }
    ]

beyond : (a b n : ℕ) → a ≡ n → a ≤ b → b < n → ⊥
beyond a b n is le lt = omega arith

-- The registry is before the next segment, so within this one.
pub within : (text : ℕ → List ℕ) (h shown : History) (name next : ℕ) (names : List ℕ) → IsInSegments text h (name ∷ next ∷ names) shown → revision_of shown < next → IsOnWay h false (whole_lines (text name)) shown
within text h shown name next names way early =
    let lines = whole_lines (text name) in
    let end = history_after h lines in
    elim (in_parts lines (lines_in text (next ∷ names)) way.before way.later way.parts) [
      | inl (b, is, parts) ↦
          let on : history_after end b ≡ shown = sym (history_both h lines b) ∙ ap (history_after h) (sym is) ∙ way.so_far in
          absurd (beyond (revision_of end) (revision_of shown) next way.told.2.0 (subst (λ (g : History). revision_of end ≤ revision_of g) on (lines_grow end b)) early)
      | inr (l, is, parts) ↦ record { told = way.told.1; before = way.before; later = l; parts = is; so_far = way.so_far }
    ]

-- There is no next segment.
pub within_last : (text : ℕ → List ℕ) (h shown : History) (name : ℕ) → IsInSegments text h (name ∷ []) shown → IsOnWay h false (whole_lines (text name)) shown
within_last text h shown name way = record { told = way.told.1; before = way.before; later = way.later; parts = sym (append-nil (whole_lines (text name))) ∙ way.parts; so_far = way.so_far }

-- the next segments, from where this one ends
pub at_next : (text : ℕ → List ℕ) (h shown : History) (name : ℕ) (names : List ℕ) → IsInSegments text h (name ∷ names) shown → IsInSegments text (history_after h (whole_lines (text name))) names (history_after h (whole_lines (text name)))
at_next text h shown name names way = record { told = way.told.2; before = []; later = lines_in text names; parts = refl; so_far = refl }

-- SEGMENTS IN TURN

pub lines_both : (text : ℕ → List ℕ) (xs ys : List ℕ) → lines_in text (xs ++ ys) ≡ lines_in text xs ++ lines_in text ys
lines_both text [] ys = refl
lines_both text (x ∷ xs) ys =
    ap (λ (ls : List (List ℕ)). whole_lines (text x) ++ ls) (lines_both text xs ys) ∙ sym (append_assoc (whole_lines (text x)) (lines_in text xs) (lines_in text ys))

pub one_segment_more : (text : ℕ → List ℕ) (start : History) (front : List ℕ) (name : ℕ) → history_after start (lines_in text (front ++ name ∷ [])) ≡ history_after (history_after start (lines_in text front)) (whole_lines (text name))
one_segment_more text start front name =
    ap (history_after start) (lines_both text front (name ∷ []) ∙ ap (λ (ls : List (List ℕ)). lines_in text front ++ ls) (append-nil (whole_lines (text name))))
    ∙ history_both start (lines_in text front) (whole_lines (text name))

-- the registry is at one of the segments
pub record HasTurn {R : Type 0} (w : Showing R) (text : ℕ → List ℕ) (start : History) (names : List ℕ) (name : ℕ) (rest : List ℕ) (now : R) : Type 0 where
  pub front : List ℕ
  pub parts : names ≡ front ++ name ∷ rest
  pub shows : ShowsWithin w text (history_after start (lines_in text front)) (name ∷ rest) now

pub record IsInTurn {R F J : Type 0} (w : Showing R) (folder : folders.Ghosts F J) (old now : R) (f g : F) (names : List ℕ) (name : ℕ) (rest : List ℕ) (moved : Bool) : Type 0 where
  pub same : IsSameFolder folder f g
  pub clean : w.is_clean now → w.is_clean old
  pub quiet : folder.openings g ≡ folder.openings f
  pub kept : moved ≡ false → KeepsShown w old now
  pub at : (front : List ℕ) × (names ≡ front ++ name ∷ rest)
  pub obeys : w.is_clean now → (all : List ℕ) → folder.names f ≡ Some all → (h : History) → w.shows old h → (m : History) × w.shows now m × FollowsInTurn (folder.text_in f) at.0 h m
  pub past : w.is_clean now → (h : History) → w.shows old h → HasBegun h names → (moved ≡ false) × w.shows now h
  pub begun : IsSorted nat_cmp names → ((at.0 ≡ []) × (moved ≡ false)) ⊎ HasComeToFirst w old now names
  pub turn : w.is_clean now → folder.names f ≡ Some names → (start : History) → IsMarked start → ShowsWithin w (folder.text_in f) start names old → HasTurn w (folder.text_in f) start names name rest now

next_at : (front names : List ℕ) (name next : ℕ) (rest later : List ℕ) → names ≡ front ++ name ∷ rest → rest ≡ next ∷ later → names ≡ (front ++ name ∷ []) ++ next ∷ later
next_at front names name next rest later parts is = parts ∙ ap (λ (ns : List ℕ). front ++ name ∷ ns) is ∙ sym (append_assoc front (name ∷ []) (next ∷ later))

-- THE FIRST ONE

first_alone : (x y : ℕ) (xs ys front : List ℕ) → front ≡ [] → x ∷ xs ≡ front ++ y ∷ ys → x ≡ y
first_alone x y xs ys front none same = let is : x ∷ xs ≡ y ∷ ys = same ∙ ap (λ (ns : List ℕ). ns ++ y ∷ ys) none in cc

pub skip_begun : {R : Type 0} (w : Showing R) (old new : R) (name next n : ℕ) → TellsRevision w old new (Ok n) → name ≤ next → next ≤ n → HasComeTo w old new name
skip_begun w old new name next n told le late clean h shown = through name next n (revision_of h) le late (told clean h shown)
  where
    through : (a b d e : ℕ) → a ≤ b → b ≤ d → d ≡ e → a ≤ e
    through a b d e p q is = omega arith

pub come_later : {R : Type 0} (w : Showing R) (old mid new : R) (name : ℕ) → (w.is_clean new → w.is_clean mid) → KeepsShown w old mid → HasComeTo w mid new name → HasComeTo w old new name
come_later w old mid new name honest kept come clean h shown = come clean h (kept (honest clean) h shown)

pub both_kept : {R : Type 0} (w : Showing R) (old now new : R) → (w.is_clean new → w.is_clean now) → KeepsShown w old now → KeepsShown w now new → KeepsShown w old new
both_kept w old now new honest one two clean h shown = two clean h (one (honest clean) h shown)

module _ {R F J : Type 0} (w : Showing R) (folder : folders.Ghosts F J) where
  pub first_turn : (r : R) (f : F) (names : List ℕ) (name : ℕ) (rest : List ℕ) → names ≡ name ∷ rest → IsInTurn w folder r r f f names name rest false
  first_turn r f names name rest is = record {
    same = (refl, refl);
    clean = λ clean. clean;
    quiet = refl;
    kept = λ off clean h shown. shown;
    at = ([], is);
    obeys = λ clean all known h shown. (h, shown, refl);
    past = λ clean h shown begun. (refl, shown);
    begun = λ sorted. inl (refl, refl);
    turn = λ clean known start marked shows. record { front = []; parts = is; shows = subst (λ (ns : List ℕ). ShowsWithin w (folder.text_in f) start ns r) is shows };
  }

  -- what a step says of the folder as it is then, it says of the folder as it was
  abbrev Steps : (now new : R) (text : ℕ → List ℕ) (name next : ℕ) (later : List ℕ) → Type 0
  Steps now new text name next later = (h : History) → IsMarked h → ShowsWithin w text h (name ∷ next ∷ later) now → ShowsWithin w text (history_after h (whole_lines (text name))) (next ∷ later) new

  next_turn : (text : ℕ → List ℕ) (start : History) (names : List ℕ) (name next : ℕ) (rest later : List ℕ) (now new : R) → IsMarked start → rest ≡ next ∷ later → Steps now new text name next later → HasTurn w text start names name rest now → HasTurn w text start names next later new
  next_turn text start names name next rest later now new marked is steps turn = record {
    front = turn.front ++ name ∷ [];
    parts = turn.parts ∙ ap (λ (ns : List ℕ). turn.front ++ name ∷ ns) is ∙ sym (append_assoc turn.front (name ∷ []) (next ∷ later));
    shows =
        subst (λ (h : History). ShowsWithin w text h (next ∷ later) new) (sym (one_segment_more text start turn.front name))
        (steps (history_after start (lines_in text turn.front)) (lines_marked start (lines_in text turn.front) marked) (subst (λ (ns : List ℕ). ShowsWithin w text (history_after start (lines_in text turn.front)) (name ∷ ns) now) is turn.shows));
  }

  -- one more segment was passed
  first_begun : (old now new : R) (f g : F) (names : List ℕ) (name next : ℕ) (rest later : List ℕ) (moved : Bool) → IsInTurn w folder old now f g names name rest moved → rest ≡ next ∷ later → (w.is_clean new → w.is_clean now) → (name ≤ next → HasComeTo w now new name) → IsSorted nat_cmp names → HasComeToFirst w old new names
  first_begun old now new f g names name next rest later moved turn is honest come sorted first others split clean h shown = elim (turn.begun sorted) [
    | inl (none, off) ↦
        let one : first ≡ name = first_alone first name others rest turn.at.0 none (sym split ∙ turn.at.1) in
        let both : names ≡ name ∷ next ∷ later = turn.at.1 ∙ (λ i. none i ++ name ∷ is i) in
        let le : name ≤ next = first_two name next later (subst (λ (ns : List ℕ). IsSorted nat_cmp ns) both sorted) in
        subst (λ (n : ℕ). n ≤ revision_of h) (sym one) (come le clean h (turn.kept off (honest clean) h shown))
    | inr has ↦ has first others split (honest clean) h shown
  ]

  pub turns : (old now new : R) (f g k : F) (names : List ℕ) (name next : ℕ) (rest later : List ℕ) (moved obeyed next_moved : Bool) → IsInTurn w folder old now f g names name rest moved → rest ≡ next ∷ later
      → IsSameFolder folder g k → folder.openings k ≡ folder.openings g → (w.is_clean new → w.is_clean now) → (obeyed ≡ false → KeepsShown w now new) → (next_moved ≡ false → (moved ≡ false) × (obeyed ≡ false)) → (moved ≡ false → obeyed ≡ false → next_moved ≡ false) → (w.is_clean new → (h : History) → w.shows now h → next ≤ revision_of h → (obeyed ≡ false) × w.shows new h)
      → (name ≤ next → HasComeTo w now new name)
      → (w.is_clean new → (all : List ℕ) → folder.names g ≡ Some all → (h : History) → w.shows now h → (m : History) × w.shows new m × FollowsInTurn (folder.text_in g) (name ∷ []) h m)
      → (w.is_clean new → (all : List ℕ) → folder.names g ≡ Some all → Steps now new (folder.text_in g) name next later)
      → IsInTurn w folder old new f k names next later next_moved
  turns old now new f g k names name next rest later moved obeyed next_moved turn is same quiet honest kept both neither late come obeys steps = record {
    same = (same.0 ∙ turn.same.0, same.1 ∙ turn.same.1);
    quiet = quiet ∙ turn.quiet;
    clean = λ clean. turn.clean (honest clean);
    kept = λ off. let offs = both off in both_kept w old now new honest (turn.kept offs.0) (kept offs.1);
    at = (turn.at.0 ++ name ∷ [], next_at turn.at.0 names name next rest later turn.at.1 is);
    obeys = λ clean all known h shown.
        let far = turn.obeys (honest clean) all known h shown in
        let one = obeys clean all (turn.same.0 ∙ known) far.0 far.1 in
        (one.0, one.1, obeys_both (folder.text_in f) turn.at.0 (name ∷ []) h far.0 one.0 far.2 (subst (λ (text : ℕ → List ℕ). FollowsInTurn text (name ∷ []) far.0 one.0) turn.same.1 one.2));
    past = λ clean h shown begun.
        let past = turn.past (honest clean) h shown begun in
        let passed = late clean h past.1 (begun (turn.at.0 ++ name ∷ []) later next (next_at turn.at.0 names name next rest later turn.at.1 is)) in
        (neither past.0 passed.0, passed.1);
    begun = λ sorted. inr (first_begun old now new f g names name next rest later moved turn is honest come sorted);
    turn = λ clean known start marked shows.
        next_turn (folder.text_in f) start names name next rest later now new marked is
        (subst (λ (text : ℕ → List ℕ). Steps now new text name next later) turn.same.1 (steps clean names (turn.same.0 ∙ known)))
        (turn.turn (honest clean) known start marked shows);
  }

  -- at the end the first one has begun, where the last one has
  pub first_at_end : (old now new : R) (f g : F) (names : List ℕ) (name : ℕ) (rest : List ℕ) (moved : Bool) → IsInTurn w folder old now f g names name rest moved → (w.is_clean new → w.is_clean now) → (moved ≡ false → HasComeTo w now new name) → IsSorted nat_cmp names → HasComeToFirst w old new names
  first_at_end old now new f g names name rest moved turn honest come sorted first others split clean h shown = elim (turn.begun sorted) [
    | inl (none, off) ↦
        let one : first ≡ name = first_alone first name others rest turn.at.0 none (sym split ∙ turn.at.1) in
        subst (λ (n : ℕ). n ≤ revision_of h) (sym one) (come off clean h (turn.kept off (honest clean) h shown))
    | inr has ↦ has first others split (honest clean) h shown
  ]

-- a fault that is not that the registry has more commands is not given as that
pub not_newer : (moved : Bool) (fault given : OpenFault) → given ≡ Newer → (moved ≡ true → LinesMayBeObeyed given) → (moved ≡ false → given ≡ fault) → (fault ≡ Newer → ⊥) → ⊥
not_newer true fault given newer moved same never = subst LinesMayBeObeyed newer (moved refl)
not_newer false fault given newer moved same never = never (sym (same refl) ∙ newer)

pub first_newer : {Q : Type 0} (fault given : OpenFault) → given ≡ Newer → given ≡ fault → LinesMayBeObeyed fault ⊎ Q → Q
first_newer fault given newer same (inl may) = absurd (subst LinesMayBeObeyed (sym same ∙ newer) may)
first_newer fault given newer same (inr says) = says

pub first_found : {R : Type 0} (w : Showing R) (old mid new : R) (names begins : List ℕ) → begins ≡ names → (w.is_clean new → w.is_clean mid) → HasComeToFirst w old mid begins → HasComeToFirst w old new names
first_found w old mid new names begins is honest has name later split clean h shown = has name later (is ∙ split) (honest clean) h shown

pub none_first : {R : Type 0} (w : Showing R) (r : R) (names : List ℕ) → names ≡ [] → HasComeToFirst w r r names
none_first w r names none name later is = let no : ⊥ = cc in absurd no

pub quiet_newer : {Q : Type 0} → LinesMayBeObeyed Newer ⊎ Q → Q
quiet_newer (inl may) = absurd may
quiet_newer (inr quiet) = quiet

-- what a fault says of the lines that were obeyed
pub stays_through : {R : Type 0} (w : Showing R) (old mid new : R) (moved : Bool) (fault given : OpenFault) → (moved ≡ false → KeepsShown w old mid) → (w.is_clean new → w.is_clean mid)
    → LinesMayBeObeyed fault ⊎ KeepsShown w mid new → (moved ≡ true → LinesMayBeObeyed given) → LinesMayBeObeyed given ⊎ (given ≡ fault) → LinesMayBeObeyed given ⊎ KeepsShown w old new
stays_through w old mid new true fault given kept honest stays moved same = inl (moved refl)
stays_through w old mid new false fault given kept honest stays moved (inl says) = inl says
stays_through w old mid new false fault given kept honest (inl says) moved (inr same) = inl (subst LinesMayBeObeyed (sym same) says)
stays_through w old mid new false fault given kept honest (inr still) moved (inr same) = inr (both_kept w old mid new honest (kept refl) still)

-- WHAT CALLS DO

le_along : (a b d : ℕ) → a ≤ b → b ≡ d → a ≤ d
le_along a b d le is = omega arith

lt_along : (a b d : ℕ) → b ≡ a → b < d → a < d
lt_along a b d is lt = omega arith

-- what is said where the names are known
pub if_known : (o : Option (List ℕ)) (names : List ℕ) (P : Type 0) → o ≡ Some names → IfSome o (λ all. P) → P
if_known None names P known said = absurd (let no : ⊥ = cc in no)
if_known (Some all) names P known said = said

pub read_names : (o : Option (List ℕ)) (names items : List ℕ) → o ≡ Some names → IfSome o (λ all. items ≡ all) → items ≡ names
read_names None names items known said = absurd (let no : ⊥ = cc in no)
read_names (Some all) names items known said = let same : all ≡ names = cc in said ∙ same

-- of no names none is the last
pub none_new : (names : List ℕ) (name : ℕ) → names ≡ [] → IsNewName names name
none_new names name none [] is = let both : [] ≡ name ∷ [] = sym none ∙ is in let no : ⊥ = cc in absurd no
none_new names name none (x ∷ xs) is = let both : [] ≡ x ∷ (xs ++ name ∷ []) = sym none ∙ is in let no : ⊥ = cc in absurd no

pub differ : (a b : ℕ) → (a == b) ≡ false → a ≡ b → ⊥
differ a b off is = grind (arith, nat_tests, off, is)

pub other_last : (names front rest : List ℕ) (last name : ℕ) → (last == name) ≡ false → names ≡ front ++ last ∷ [] → names ≡ rest ++ name ∷ [] → ⊥
other_last names front rest last name off parts is = differ last name off (last_same front rest last name (sym parts ∙ is))

pub empty_leads : (h : History) → JournalLeads h [] h
empty_leads h = (refl, tt, refl)

module _ {R : Type 0} (registry : Ghosts R) where
  -- all segments were obeyed
  pub ends_shown : (text : ℕ → List ℕ) (start : History) (names : List ℕ) (new : R) (last : Option SegmentText) → EndsLast registry text start names new last → registry.showing.shows new (history_after start (lines_in text names))
  ends_shown text start names new None ends = subst (λ (ns : List ℕ). registry.showing.shows new (history_after start (lines_in text ns))) (sym ends.0) ends.1
  ends_shown text start names new (Some k) ends = ends.3

  module _ {F J : Type 0} (folder : folders.Ghosts F J) where
    pub skip_passes : (old new : R) (f : F) (name next n : ℕ) (x : Bool) → KeepsShown registry.showing old new → TellsRevision registry.showing old new (Ok n) → next ≤ n → PassesSegment registry folder old new f name next (Ok x)
    skip_passes old new f name next n x kept told late clean names later known h marked shows =
        let shown = kept clean shows.shown shows.shows in
        record { shown = shows.shown; shows = shown; way = skipped (folder.text_in f) h shows.shown name next later marked shows.way (le_along next n (revision_of shows.shown) late (told clean shows.shown shows.shows)) }

    way_of : (old mid : R) (f : F) (name next n : ℕ) (later : List ℕ) (h : History) → registry.showing.is_clean mid → KeepsShown registry.showing old mid → TellsRevision registry.showing old mid (Ok n) → n < next
        → (shows : ShowsWithin registry.showing (folder.text_in f) h (name ∷ next ∷ later) old) → IsOnWay h false (whole_lines (folder.text_in f name)) shows.shown
    way_of old mid f name next n later h clean kept told early shows =
        within (folder.text_in f) h shows.shown name next later shows.way (lt_along (revision_of shows.shown) n next (told clean shows.shown shows.shows) early)

    pub follow_passes : {X : Type 0} (old mid new : R) (f : F) (name next n : ℕ) (k : X) (x : Bool) → (registry.showing.is_clean new → registry.showing.is_clean mid) → KeepsShown registry.showing old mid → TellsRevision registry.showing old mid (Ok n) → n < next
        → FollowsSegment registry folder mid new f name (Ok k) → PassesSegment registry folder old new f name next (Ok x)
    follow_passes old mid new f name next n k x honest kept told early follows clean names later known h marked shows =
        let there = kept (honest clean) shows.shown shows.shows in
        let all = follows clean names known h shows.shown marked shows.way.told.0 there (way_of old mid f name next n later h (honest clean) kept told early shows) in
        record { shown = history_after h (whole_lines (folder.text_in f name)); shows = all; way = at_next (folder.text_in f) h shows.shown name (next ∷ later) shows.way }

    pub fault_passes : (old mid new : R) (f : F) (name next n : ℕ) (fault given : OpenFault) → (registry.showing.is_clean new → registry.showing.is_clean mid) → KeepsShown registry.showing old mid → TellsRevision registry.showing old mid (Ok n) → n < next
        → FollowsSegment registry folder {X = SegmentText} mid new f name (Err fault) → (IsRefused fault → IsRefused given) → PassesSegment registry folder old new f name next (Err given)
    fault_passes old mid new f name next n fault given honest kept told early follows says clean names later known h marked shows =
        let lines = whole_lines (folder.text_in f name) in
        let faults = follows clean names known h shows.shown marked shows.way.told.0 (kept (honest clean) shows.shown shows.shows) (way_of old mid f name next n later h (honest clean) kept told early shows) in
        (says faults.0, stops_as registry.showing new _ _ (λ g along. along_all h h g (lines_in (folder.text_in f) (name ∷ next ∷ later)) [] lines (lines_in (folder.text_in f) (next ∷ later)) refl refl along) faults.1)

    -- a fault before any line
    pub none_passes : (old new : R) (f : F) (name next : ℕ) (fault : OpenFault) → IsRefused fault → KeepsShown registry.showing old new → PassesSegment registry folder old new f name next (Err fault)
    none_passes old new f name next fault is kept clean names later known h marked shows =
        (is, stops_at registry.showing new _ shows.shown (kept clean shows.shown shows.shows) (segments_along (folder.text_in f) h shows.shown (name ∷ next ∷ later) shows.way))

    -- what holds of the segments from one on holds of all
    from_turn : (text : ℕ → List ℕ) (start g : History) (names front : List ℕ) (name : ℕ) (rest : List ℕ) → names ≡ front ++ name ∷ rest → IsAlong (history_after start (lines_in text front)) (lines_in text (name ∷ rest)) g → IsAlong start (lines_in text names) g
    from_turn text start g names front name rest is along =
        along_all start (history_after start (lines_in text front)) g (lines_in text names) (lines_in text front) (lines_in text (name ∷ rest)) []
        (ap (lines_in text) is ∙ lines_both text front (name ∷ rest) ∙ ap (λ (ls : List (List ℕ)). lines_in text front ++ ls) (sym (append-nil (lines_in text (name ∷ rest))))) refl along

    -- at the last segment
    abbrev AtLast : (mid : R) (f g : F) (names : List ℕ) (name : ℕ) (start : History) → Type 0
    AtLast mid f g names name start = (front : List ℕ) × (names ≡ front ++ name ∷ []) × IsMarked (history_after start (lines_in (folder.text_in f) front))
        × (revision_of (history_after start (lines_in (folder.text_in f) front)) ≡ name)
        × ((shown : History) × registry.showing.shows mid shown × IsOnWay (history_after start (lines_in (folder.text_in f) front)) false (whole_lines (folder.text_in g name)) shown)

    at_last : (old mid : R) (f g : F) (names : List ℕ) (name : ℕ) (rest : List ℕ) (moved : Bool) → IsInTurn registry.showing folder old mid f g names name rest moved → rest ≡ []
        → registry.showing.is_clean mid → folder.names f ≡ Some names → (start : History) → IsMarked start → ShowsWithin registry.showing (folder.text_in f) start names old → AtLast mid f g names name start
    at_last old mid f g names name rest moved turn none clean known start marked shows =
        let t = turn.turn clean known start marked shows in
        let h = history_after start (lines_in (folder.text_in f) t.front) in
        let way = subst (λ (ns : List ℕ). IsInSegments (folder.text_in f) h (name ∷ ns) t.shows.shown) none t.shows.way in (
          t.front,
          t.parts ∙ ap (λ (ns : List ℕ). t.front ++ name ∷ ns) none,
          lines_marked start (lines_in (folder.text_in f) t.front) marked,
          way.told.0,
          (t.shows.shown, t.shows.shows, subst (λ (text : ℕ → List ℕ). IsOnWay h false (whole_lines (text name)) t.shows.shown) (sym turn.same.1) (within_last (folder.text_in f) h t.shows.shown name way)),
        )

    pub ok_last : (old mid new : R) (f g : F) (names : List ℕ) (name : ℕ) (rest : List ℕ) (moved : Bool) (k : SegmentText) → IsInTurn registry.showing folder old mid f g names name rest moved → rest ≡ [] → (registry.showing.is_clean new → registry.showing.is_clean mid)
        → k.begin ≡ name → FollowsSegment registry folder mid new g name (Ok k) → FollowsAll registry folder old new f names (Ok (Some k))
    ok_last old mid new f g names name rest moved k turn none honest at follows clean known start marked shows =
        let a = at_last old mid f g names name rest moved turn none (honest clean) known start marked shows in
        let h = history_after start (lines_in (folder.text_in f) a.0) in
        let all = follows clean names (turn.same.0 ∙ known) h a.4.0 a.2 a.3 a.4.1 a.4.2 in
        let end : history_after h (whole_lines (folder.text_in f name)) ≡ history_after start (lines_in (folder.text_in f) names) = sym (ap (λ (ns : List ℕ). history_after start (lines_in (folder.text_in f) ns)) a.1 ∙ one_segment_more (folder.text_in f) start a.0 name) in (
          a.0,
          a.1 ∙ ap (λ (n : ℕ). a.0 ++ n ∷ []) (sym at),
          subst (λ (text : ℕ → List ℕ). AreTrue h false (whole_lines (text k.begin))) turn.same.1 (subst (λ (n : ℕ). AreTrue h false (whole_lines (folder.text_in g n))) (sym at) a.4.2.told),
          subst (λ (x : History). registry.showing.shows new x) end (subst (λ (text : ℕ → List ℕ). registry.showing.shows new (history_after h (whole_lines (text name)))) turn.same.1 all),
        )

    pub err_last : (old mid new : R) (f g : F) (names : List ℕ) (name : ℕ) (rest : List ℕ) (moved : Bool) (fault given : OpenFault) → IsInTurn registry.showing folder old mid f g names name rest moved → rest ≡ [] → (registry.showing.is_clean new → registry.showing.is_clean mid)
        → FollowsSegment registry folder {X = SegmentText} mid new g name (Err fault) → (IsRefused fault → IsRefused given) → FollowsAll registry folder old new f names (Err given)
    err_last old mid new f g names name rest moved fault given turn none honest follows says clean known start marked shows =
        let a = at_last old mid f g names name rest moved turn none (honest clean) known start marked shows in
        let h = history_after start (lines_in (folder.text_in f) a.0) in
        let faults = follows clean names (turn.same.0 ∙ known) h a.4.0 a.2 a.3 a.4.1 a.4.2 in
        let there = subst (λ (text : ℕ → List ℕ). StopsAtOne registry.showing (IsAlong h (whole_lines (text name))) new) turn.same.1 faults.1 in (
          says faults.0,
          stops_as registry.showing new _ _
              (λ g along. from_turn (folder.text_in f) start g names a.0 name [] a.1 (subst (λ (ls : List (List ℕ)). IsAlong h ls g) (sym (append-nil (whole_lines (folder.text_in f name)))) along)) there,
        )

    -- a fault at a segment before the last
    pub err_between : (old mid new : R) (f g : F) (names : List ℕ) (name next : ℕ) (rest later : List ℕ) (moved : Bool) (fault given : OpenFault) → IsInTurn registry.showing folder old mid f g names name rest moved → rest ≡ next ∷ later
        → (registry.showing.is_clean new → registry.showing.is_clean mid) → PassesSegment registry folder mid new g name next (Err fault) → (IsRefused fault → IsRefused given) → FollowsAll registry folder old new f names (Err given)
    err_between old mid new f g names name next rest later moved fault given turn is honest passes says clean known start marked shows =
        let t = turn.turn (honest clean) known start marked shows in
        let h = history_after start (lines_in (folder.text_in f) t.front) in
        let at = subst (λ (ns : List ℕ). ShowsWithin registry.showing (folder.text_in f) h (name ∷ ns) mid) is t.shows in
        let faults = passes clean names later (turn.same.0 ∙ known) h (lines_marked start (lines_in (folder.text_in f) t.front) marked) (subst (λ (text : ℕ → List ℕ). ShowsWithin registry.showing text h (name ∷ next ∷ later) mid) (sym turn.same.1) at) in
        let there = subst (λ (text : ℕ → List ℕ). StopsAtOne registry.showing (IsAlong h (lines_in text (name ∷ next ∷ later))) new) turn.same.1 faults.1 in
        let parts = t.parts ∙ ap (λ (ns : List ℕ). t.front ++ name ∷ ns) is in
        (says faults.0, stops_as registry.showing new _ _ (λ g along. from_turn (folder.text_in f) start g names t.front name (next ∷ later) parts along) there)

    -- the last segment has begun, where the registry has more commands than it
    pub came : (old mid new : R) (f g : F) (names : List ℕ) (name : ℕ) (rest : List ℕ) (moved : Bool) (fault given : OpenFault) → IsInTurn registry.showing folder old mid f g names name rest moved → rest ≡ [] → (registry.showing.is_clean new → registry.showing.is_clean mid)
        → given ≡ Newer → (moved ≡ true → LinesMayBeObeyed given) → (moved ≡ false → given ≡ fault) → LinesMayBeObeyed fault ⊎ HasComeTo registry.showing mid new name → HasComeToLast registry.showing old new names
    came old mid new f g names name rest true fault given turn none honest newer moved same come front last is clean h shown = absurd (subst LinesMayBeObeyed newer (moved refl))
    came old mid new f g names name rest false fault given turn none honest newer moved same (inl may) front last is clean h shown = absurd (subst LinesMayBeObeyed (sym (same refl) ∙ newer) may)
    came old mid new f g names name rest false fault given turn none honest newer moved same (inr come) front last is clean h shown =
        let one : name ≡ last = last_same turn.at.0 front name last (sym (turn.at.1 ∙ ap (λ (ns : List ℕ). turn.at.0 ++ name ∷ ns) none) ∙ is) in
        subst (λ (n : ℕ). n ≤ revision_of h) one (come clean h (turn.kept refl (honest clean) h shown))

    -- there is no segment
    pub none_follows : (r : R) (f : F) (names : List ℕ) → names ≡ [] → FollowsAll registry folder r r f names (Ok None)
    none_follows r f names none clean known start marked shows =
        let way = subst (λ (ns : List ℕ). IsInSegments (folder.text_in f) start ns shows.shown) none shows.way in
        (none, subst (λ (h : History). registry.showing.shows r h) (sym (no_lines_left start shows.shown way.before way.later way.parts way.so_far)) shows.shows)

    -- the same of the folder as it was, and of the names as they were read
    pub at_folder : (old mid : R) (f g : F) (names begins : List ℕ) (result : Result (Option SegmentText) OpenFault) → IsSameFolder folder f g → begins ≡ names → FollowsAll registry folder old mid g begins result → FollowsAll registry folder old mid f names result
    at_folder old mid f g names begins result same is follows clean known start marked shows =
        let there = subst (λ (text : ℕ → List ℕ). ShowsWithin registry.showing text start begins old) (sym same.1) (subst (λ (ns : List ℕ). ShowsWithin registry.showing (folder.text_in f) start ns old) (sym is) shows) in
        let said = follows clean (same.0 ∙ known ∙ ap (λ (ns : List ℕ). Some ns) (sym is)) start marked there in
        subst (λ (text : ℕ → List ℕ). MatchResult result (EndsLast registry text start names mid) (FaultsAlong registry start (lines_in text names) mid)) same.1
        (subst (λ (ns : List ℕ). MatchResult result (EndsLast registry (folder.text_in g) start ns mid) (FaultsAlong registry start (lines_in (folder.text_in g) ns) mid)) is said)

    -- the text of the last one
    pub ends_all : (old mid : R) (f g : F) (names : List ℕ) (name : ℕ) (rest : List ℕ) (moved : Bool) (k : SegmentText) → IsInTurn registry.showing folder old mid f g names name rest moved → rest ≡ [] → k.begin ≡ name → EndsAt folder g k → EndsAtLast folder f names (Some k)
    ends_all old mid f g names name rest moved k turn none at ends = (
      turn.at.0,
      turn.at.1 ∙ (λ i. turn.at.0 ++ sym at i ∷ none i),
      λ all known. subst (λ (text : ℕ → List ℕ). IsOpenEnd (text k.begin) (held_of k)) turn.same.1 (ends all (turn.same.0 ∙ known)),
    )

    pub ends_at : (f g : F) (names begins : List ℕ) (last : Option SegmentText) → IsSameFolder folder f g → begins ≡ names → EndsAtLast folder g begins last → EndsAtLast folder f names last
    ends_at f g names begins None same read none = sym read ∙ none
    ends_at f g names begins (Some k) same read (front, is, ends) = (front, sym read ∙ is, λ all known. subst (λ (text : ℕ → List ℕ). IsOpenEnd (text k.begin) (held_of k)) same.1 (ends all (same.0 ∙ known)))
