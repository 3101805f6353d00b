-- Where a journal goes on after an opening, and what becomes of its folder.
use Rattle.std.proofs.Common.{◌≡◌, ◌≢◌, ◌⊎◌, inl, inr, ℕ, ◌+◌, Bool, true, false, List, [], ◌∷◌, ◌++◌, length, take, drop, take-append-drop, Option, Some, None, Result, Ok, Err, refl, sym, ap, subst, ◌∙◌, append-nil}
use Rattle.std.specs.Prelude.{IfOk, IfSome, ◌==◌}
use Rattle.pid_file.proofs.Cuts.{ended_more, whole_same}
use Rattle.pid_file.specs.WholeLines.{ended_pieces, open_part, whole_lines}
use Rattle.pid_moderation.specs.History.{History}
use Rattle.pid_moderation.specs.Revisions.{IsMarked}
use Rattle.pid_moderation.specs.Views.{revision_of}
use Rattle.pid_script.specs.Replies.{history_after}
use Rattle.pid_service_laws.specs.declared.registry_calls.RegistryCalls.{Ghosts}
use Rattle.pid_journal.specs.declared.file.JournalFile as files
use Rattle.pid_journal.specs.declared.folder.JournalFolder as folders
use Rattle.pid_journal.specs.declared.journaled.Journaled.{Journaled}
use Rattle.pid_journal.specs.Openings.{BeginsNew}
use Rattle.pid_journal.specs.declared.open_fault.OpenFault.{OpenFault}
use Rattle.pid_journal.specs.declared.segment_text.SegmentText.{SegmentText}
use Rattle.pid_journal.specs.Doubts.{LeavesPart}
use Rattle.pid_journal.specs.Journals.{AreTrue, JournalLeads, lines_in}
use Rattle.pid_journal.specs.Steps.Faults.{IsRefused}
use Rattle.pid_journal.specs.Pairs.{AddsMark, PairShows}
use Rattle.pid_journal.specs.Steps.Notes.{IsMark}
use Rattle.pid_journal.specs.Steps.Parts.{MayBeMarked}
use Rattle.pid_journal.specs.Steps.Places.{IsOpenEnd}
use Rattle.pid_journal.specs.Steps.Reads.{EndsAtLast, EndsAt, held_of}
use Rattle.pid_journal.specs.Steps.Reopening.{Begins, BeginsIn, BeginsSegment, CutsTorn, EndsIn, EndsMarked, FindsGap, FindsNext, GoesOnIn, HandsOn, Reopens}
use Rattle.pid_journal.specs.Steps.Segments.{AsksOn, EndsLast, FaultsAlong, FollowsAll, HandsOut, HasComeToLast, IsSameFolder, KeepsLines, KeepsShown, LinesMayBeObeyed, ShowsWithin}
use Rattle.pid_journal.proofs.Along.{stops_after}
use Rattle.pid_journal.proofs.Appending.{is_kept, marked}
use Rattle.pid_journal.proofs.InTurn.{both_kept, differ, empty_leads, ends_shown, if_known, one_segment_more}
use Rattle.pid_journal.proofs.Reading.{nat_same}
use Rattle.pid_journal.proofs.Resuming.{journal_of, lines_kept, refused_moves}

-- WHAT IS CUT OFF

none_first : {A : Type 0} (xs ys : List A) → xs ++ ys ≡ [] → xs ≡ []
none_first [] ys none = refl
none_first (x ∷ xs) ys none = let no : ⊥ = cc in absurd no

-- a part of what has no LF
part_torn : (part gone : List ℕ) → ended_pieces (part ++ gone) ≡ [] → ended_pieces part ≡ []
part_torn part gone torn = none_first (ended_pieces part) (ended_pieces (open_part part ++ gone)) (sym (ended_more part gone) ∙ torn)

same_or_other : (a b : ℕ) (e : Bool) → (a == b) ≡ e → (a ≡ b) ⊎ (a ≢ b)
same_or_other a b true is = inl (nat_same a b is)
same_or_other a b false is = inr (differ a b is)

some_same : {A : Type 0} (x y : A) → Some x ≡ Some y → x ≡ y
some_same x y is = cc

module _ {F J : Type 0} (folder : folders.Ghosts F J) where
  -- the whole lines of the one segment stay, and the others are as they were
  keeps_one : (f g : F) (begin : ℕ) → IfSome (folder.names f) (λ all. (name : ℕ) → name ≢ begin → folder.text_in g name ≡ folder.text_in f name) → ((names : List ℕ) → folder.names f ≡ Some names → whole_lines (folder.text_in g begin) ≡ whole_lines (folder.text_in f begin)) → KeepsLines folder f g
  keeps_one f g begin others one names known name = elim (same_or_other name begin (name == begin) refl) [
    | inl is ↦ subst (λ (n : ℕ). whole_lines (folder.text_in g n) ≡ whole_lines (folder.text_in f n)) (sym is) (one names known)
    | inr other ↦ ap whole_lines (if_known (folder.names f) names ((n : ℕ) → n ≢ begin → folder.text_in g n ≡ folder.text_in f n) known others name other)
  ]

  -- so many bytes at the end were cut off
  abbrev Cut : F → ℕ → ℕ → (List ℕ → List ℕ → Type 0) → Type 0
  Cut f begin count Leaves = IfSome (folder.names f) (λ all. (front behind : List ℕ) → folder.text_in f begin ≡ front ++ behind → length behind ≡ count → Leaves front behind)

  cut_held : (f : F) (t : SegmentText) (count : ℕ) (Leaves : List ℕ → List ℕ → Type 0) → count ≡ length (held_of t) → Cut f t.begin count Leaves → (names : List ℕ) → folder.names f ≡ Some names → (end : IsOpenEnd (folder.text_in f t.begin) (held_of t)) → Leaves end.end.front (held_of t)
  cut_held f t count Leaves is cut names known end =
      if_known (folder.names f) names ((front behind : List ℕ) → folder.text_in f t.begin ≡ front ++ behind → length behind ≡ count → Leaves front behind) known cut end.end.front (held_of t) end.end.parts (sym is)

  pub cut_whole : (f g : F) (t : SegmentText) (begin count : ℕ) → begin ≡ t.begin → count ≡ length (held_of t) → folder.names g ≡ folder.names f → folder.openings g ≡ folder.openings f → IfSome (folder.names f) (λ all. (name : ℕ) → name ≢ begin → folder.text_in g name ≡ folder.text_in f name)
      → Cut f begin count (λ front behind. folder.text_in g begin ≡ front) → CutsTorn folder f g t (Ok tt)
  cut_whole f g t begin count at is same quiet others cut =
      let there = subst (λ (n : ℕ). Cut f n count (λ front behind. folder.text_in g n ≡ front)) at cut in
      let cuts = cut_held f t count (λ front behind. folder.text_in g t.begin ≡ front) is there in
      record {
        same = same;
        quiet = quiet;
        keeps = λ ends. keeps_one f g t.begin (subst (λ (n : ℕ). IfSome (folder.names f) (λ all. (name : ℕ) → name ≢ n → folder.text_in g name ≡ folder.text_in f name)) at others)
            (λ names known. let end = ends names known in ap whole_lines (cuts names known end) ∙ sym (lines_kept (folder.text_in f t.begin) (held_of t) end));
        cut = cuts;
        fault = tt;
      }

  -- or a part of them is left
  pub cut_part : (f g : F) (t : SegmentText) (begin count : ℕ) (fault : OpenFault) → begin ≡ t.begin → count ≡ length (held_of t) → folder.names g ≡ folder.names f → folder.openings g ≡ folder.openings f → IfSome (folder.names f) (λ all. (name : ℕ) → name ≢ begin → folder.text_in g name ≡ folder.text_in f name)
      → Cut f begin count (λ front behind. LeavesPart (Some (folder.text_in g begin)) front behind) → IsRefused fault → CutsTorn folder f g t (Err fault)
  cut_part f g t begin count fault at is same quiet others cut refused =
      let there = subst (λ (n : ℕ). Cut f n count (λ front behind. LeavesPart (Some (folder.text_in g n)) front behind)) at cut in
      record {
        same = same;
        quiet = quiet;
        keeps = λ ends. keeps_one f g t.begin (subst (λ (n : ℕ). IfSome (folder.names f) (λ all. (name : ℕ) → name ≢ n → folder.text_in g name ≡ folder.text_in f name)) at others)
            (λ names known.
            let end = ends names known in
            let left = cut_held f t count (λ front behind. LeavesPart (Some (folder.text_in g t.begin)) front behind) is there names known end in
            ap whole_lines (some_same (folder.text_in g t.begin) (end.end.front ++ take left.0 (held_of t)) left.1)
            ∙ whole_same end.end.front (take left.0 (held_of t)) (part_torn (take left.0 (held_of t)) (drop left.0 (held_of t)) (ap ended_pieces (take-append-drop left.0 (held_of t)) ∙ end.torn))
            ∙ sym (lines_kept (folder.text_in f t.begin) (held_of t) end));
        cut = tt;
        fault = refused;
      }

  -- AFTER ANOTHER CALL

  pub keeps_same : (f g : F) → folder.text_in g ≡ folder.text_in f → KeepsLines folder f g
  keeps_same f g same names known name = ap (λ (text : ℕ → List ℕ). whole_lines (text name)) same

  pub keeps_then : (f g z : F) → folder.names g ≡ folder.names f → KeepsLines folder f g → KeepsLines folder g z → KeepsLines folder f z
  keeps_then f g z same one two names known name = two names (same ∙ known) name ∙ one names known name

  pub hands_then : {X : Type 0} (f g z : F) (result : Result X OpenFault) → folder.openings g ≡ folder.openings f → HandsOut folder g z result → HandsOut folder f z result
  hands_then f g z (Ok x) quiet hands = hands ∙ ap (λ (n : ℕ). n + 1) quiet
  hands_then f g z (Err fault) quiet hands = hands ∙ quiet

late : (fault : OpenFault) → IsRefused fault → IsRefused fault × LinesMayBeObeyed fault
late fault refused = (refused, refused_moves fault refused)

module _ {R F J : Type 0} (registry : Ghosts R) (folder : folders.Ghosts F J) (file : files.Ghosts J) where
  -- AFTER THE LAST SEGMENT

  begins_from : (old mid new : R) (f m g : F) (k : J) → (registry.showing.is_clean new → registry.showing.is_clean mid) → KeepsShown registry.showing old mid → folder.names m ≡ folder.names f → Begins registry folder file mid new m g k → Begins registry folder file old new f g k
  begins_from old mid new f m g k honest kept same begins names known =
      let b = begins names (same ∙ known) in
      record { safe = b.safe; name = b.name; named = b.named; empty = b.empty; told = λ clean h shown. b.told clean h (kept (honest clean) h shown) }

  if_begun : (old mid new : R) (f m g : F) (last : Option SegmentText) (result : Result J OpenFault) → (registry.showing.is_clean new → registry.showing.is_clean mid) → KeepsShown registry.showing old mid → folder.names m ≡ folder.names f → IfOk result (Begins registry folder file mid new m g)
      → IfOk result (λ k. ((t : SegmentText) × (last ≡ Some t) × GoesOnIn registry folder file old new f g t k) ⊎ Begins registry folder file old new f g k)
  if_begun old mid new f m g last (Ok k) honest kept same begun = inr (begins_from old mid new f m g k honest kept same begun)
  if_begun old mid new f m g last (Err fault) honest kept same begun = tt

  -- there is none
  pub next_first : (old new : R) (f g : F) (last : Option SegmentText) (result : Result J OpenFault) → last ≡ None → BeginsSegment registry folder file old new f g result → FindsNext registry folder file old new f g last result
  next_first old new f g last result none begins = record {
    honest = begins.honest;
    kept = begins.kept;
    keeps = λ ends. keeps_same folder f g begins.same;
    hands = begins.hands;
    goes = if_begun old old new f f g last result begins.honest (λ clean h shown. shown) refl begins.begun;
    fault = begins.fault;
  }

  -- it could not be cut
  pub next_uncut : (r : R) (f g : F) (t : SegmentText) (last : Option SegmentText) (fault : OpenFault) → last ≡ Some t → CutsTorn folder f g t (Err fault) → FindsNext registry folder file r r f g last (Err fault)
  next_uncut r f g t last fault is cuts = record {
    honest = λ clean. clean;
    kept = λ clean h shown. shown;
    keeps = λ ends. cuts.keeps (ends t is);
    hands = cuts.quiet;
    goes = tt;
    fault = late fault cuts.fault;
  }

  -- the registry did not say where it is
  pub next_unasked : (old new : R) (f g : F) (t : SegmentText) (last : Option SegmentText) (fault : OpenFault) → last ≡ Some t → CutsTorn folder f g t (Ok tt) → AsksOn registry.showing old new (Err fault) → FindsNext registry folder file old new f g last (Err fault)
  next_unasked old new f g t last fault is cuts asks = record {
    honest = asks.honest;
    kept = asks.kept;
    keeps = λ ends. cuts.keeps (ends t is);
    hands = cuts.quiet;
    goes = tt;
    fault = asks.fault;
  }

  -- a new one begins after it
  pub next_begun : (old mid new : R) (f m g : F) (t : SegmentText) (last : Option SegmentText) (result : Result J OpenFault) → last ≡ Some t → CutsTorn folder f m t (Ok tt) → AsksOn registry.showing old mid (Ok false) → BeginsSegment registry folder file mid new m g result
      → FindsNext registry folder file old new f g last result
  next_begun old mid new f m g t last result is cuts asks begins = record {
    honest = λ clean. asks.honest (begins.honest clean);
    kept = both_kept registry.showing old mid new begins.honest asks.kept begins.kept;
    keeps = λ ends. keeps_then folder f m g cuts.same (cuts.keeps (ends t is)) (keeps_same folder m g begins.same);
    hands = hands_then folder f m g result cuts.quiet begins.hands;
    goes = if_begun old mid new f m g last result begins.honest asks.kept cuts.same begins.begun;
    fault = begins.fault;
  }

  marks_from : (old mid new : R) (safe now : Option (List ℕ)) → (registry.showing.is_clean new → registry.showing.is_clean mid) → KeepsShown registry.showing old mid → MayBeMarked registry.showing mid new safe now → MayBeMarked registry.showing old new safe now
  marks_from old mid new safe now honest kept marks text is = elim (marks text is) [
    | inl left ↦ inl left
    | inr (mark, counts, one, more, told) ↦ inr (mark, counts, one, more, λ clean h shown. told clean h (kept (honest clean) h shown))
  ]

  if_reopened : (old mid new : R) (f m g : F) (t : SegmentText) (last : Option SegmentText) (result : Result J OpenFault) → last ≡ Some t → (registry.showing.is_clean new → registry.showing.is_clean mid) → KeepsShown registry.showing old mid → CutsTorn folder f m t (Ok tt) → IsSameFolder folder m g
      → IfOk result (EndsMarked registry.showing folder file mid new m t)
      → IfOk result (λ k. ((t : SegmentText) × (last ≡ Some t) × GoesOnIn registry folder file old new f g t k) ⊎ Begins registry folder file old new f g k)
  if_reopened old mid new f m g t last (Ok k) is honest kept cuts same ends = inl (
    t,
    is,
    record {
      same = same.0 ∙ cuts.same;
      cut = λ names known end. ap (λ (text : ℕ → List ℕ). text t.begin) same.1 ∙ cuts.cut names known end;
      marked = λ names known. marks_from old mid new (Some (folder.text_in g t.begin)) (file.safe k) honest kept
          (subst (λ (text : ℕ → List ℕ). MayBeMarked registry.showing mid new (Some (text t.begin)) (file.safe k)) (sym same.1) (ends names (sym same.0 ∙ known)));
    },
  )
  if_reopened old mid new f m g t last (Err fault) is honest kept cuts same ends = tt

  -- it goes on
  pub next_reopened : (old mid new : R) (f m g : F) (t : SegmentText) (last : Option SegmentText) (result : Result J OpenFault) → last ≡ Some t → CutsTorn folder f m t (Ok tt) → AsksOn registry.showing old mid (Ok true)
      → Reopens registry.showing folder file mid new m g t result → FindsNext registry folder file old new f g last result
  next_reopened old mid new f m g t last result is cuts asks opens = record {
    honest = λ clean. asks.honest (opens.honest clean);
    kept = both_kept registry.showing old mid new opens.honest asks.kept opens.kept;
    keeps = λ ends. keeps_then folder f m g cuts.same (cuts.keeps (ends t is)) (keeps_same folder m g opens.same.1);
    hands = hands_then folder f m g result cuts.quiet opens.hands;
    goes = if_reopened old mid new f m g t last result is opens.honest asks.kept cuts opens.same opens.marked;
    fault = opens.fault;
  }

  -- A NEW SEGMENT

  pub begins_named : (old new : R) (f g : F) (n : ℕ) (k : J) → (registry.showing.is_clean new → (h : History) → registry.showing.shows old h → n ≡ revision_of h) → folder.text_in g ≡ folder.text_in f
      → IfSome (folder.names f) (λ all. (file.safe k ≡ Some []) × (folder.text_in f n ≡ []) × (folder.names g ≡ Some (all ++ n ∷ []))) → Begins registry folder file old new f g k
  begins_named old new f g n k told same made names known =
      let says = subst (λ (o : Option (List ℕ)). IfSome o (λ all. (file.safe k ≡ Some []) × (folder.text_in f n ≡ []) × (folder.names g ≡ Some (all ++ n ∷ [])))) known made in
      record { safe = says.0; name = n; named = says.2; empty = ap (λ (text : ℕ → List ℕ). text n) same ∙ says.1; told = told }

  -- a gap before it
  pub gap_found : (old mid new : R) (f g z : F) (names : List ℕ) (k : J) → KeepsShown registry.showing old mid → (registry.showing.is_clean new → registry.showing.is_clean mid) → KeepsShown registry.showing mid new → folder.names g ≡ folder.names f → Begins registry folder file mid new g z k
      → ((all : List ℕ) → folder.names f ≡ Some all → names ≡ all) → HasComeToLast registry.showing old mid names → FindsGap registry folder file old new f z k
  gap_found old mid new f g z names k kept honest still same begins read come = (
    begins_from old mid new f g z k honest kept same begins,
    both_kept registry.showing old mid new honest kept still,
    λ all known front name is clean h shown. come front name (read all known ∙ is) (honest clean) h shown,
  )

  -- THE FILE

  -- the journal in it leads to the history that the registry shows
  ends_marked : (r s : R) (start h : History) (front : List ℕ) (now : Option (List ℕ)) → JournalLeads start front h → MayBeMarked registry.showing r s (Some front) now → registry.showing.is_clean s → registry.showing.shows r h → (kept : List ℕ) × (now ≡ Some kept) × JournalLeads start kept h
  ends_marked r s start h front now leads marks clean shown = elim (marks front refl) [
    | inl left ↦ (front, left, leads)
    | inr (mark, counts, is, more, told) ↦ (front ++ mark, more, marked start h front mark leads (subst (IsMark mark) (told clean h shown) is))
  ]

  in_last : (mid new : R) (g z : F) (text : ℕ → List ℕ) (start : History) (names : List ℕ) (t : SegmentText) (k : J) → folder.names g ≡ Some names → folder.text_in g ≡ text → EndsAt folder g t → EndsLast registry text start names mid (Some t) → GoesOnIn registry folder file mid new g z t k
      → registry.showing.is_clean new → registry.showing.is_clean mid → KeepsShown registry.showing mid new → EndsIn registry folder file text start names (folder.names z) new k
  in_last mid new g z text start names t k known same ends last goes clean now kept =
      let all = history_after start (lines_in text names) in
      let first = history_after start (lines_in text last.0) in
      let end = ends names known in
      let told : AreTrue first false (whole_lines (folder.text_in g t.begin)) = subst (λ (x : ℕ → List ℕ). AreTrue first false (whole_lines (x t.begin))) (sym same) last.2 in
      let leads : history_after first (whole_lines (folder.text_in g t.begin)) ≡ all =
      ap (λ (x : ℕ → List ℕ). history_after first (whole_lines (x t.begin))) same
      ∙ sym (ap (λ (ns : List ℕ). history_after start (lines_in text ns)) last.1 ∙ one_segment_more text start last.0 t.begin) in
      let journal : JournalLeads first end.end.front all = subst (λ (h : History). JournalLeads first end.end.front h) leads (journal_of first (folder.text_in g t.begin) (held_of t) end told) in
      let marks : MayBeMarked registry.showing mid new (Some end.end.front) (file.safe k) =
      subst (λ (l : List ℕ). MayBeMarked registry.showing mid new (Some l) (file.safe k)) (goes.cut names known end) (goes.marked names (goes.same ∙ known)) in
      let ended = ends_marked mid new first all end.end.front (file.safe k) journal marks clean last.3 in
      record {
        front = last.0;
        name = t.begin;
        named = goes.same ∙ known ∙ ap (λ (ns : List ℕ). Some ns) last.1;
        last = inr (goes.same ∙ known);
        shown = kept clean all last.3;
        kept = ended.0;
        safe = ended.1;
        leads = ended.2;
      }

  in_new : (mid new : R) (z : F) (text : ℕ → List ℕ) (start : History) (names : List ℕ) (k : J) (g : F) → BeginsIn registry folder file mid new g z k names → registry.showing.is_clean new → KeepsShown registry.showing mid new → registry.showing.shows mid (history_after start (lines_in text names))
      → EndsIn registry folder file text start names (folder.names z) new k
  in_new mid new z text start names k g begins clean kept shown =
      let all = history_after start (lines_in text names) in
      record {
        front = names;
        name = begins.name;
        named = begins.named;
        last = inl (refl, begins.told clean all shown);
        shown = kept clean all shown;
        kept = [];
        safe = begins.safe;
        leads = empty_leads all;
      }

  -- a journal that goes on after the last segment
  pub found : (old mid new : R) (f g z : F) (names : List ℕ) (last : Option SegmentText) (k : J) → FollowsAll registry folder old mid f names (Ok last) → EndsAtLast folder f names last → IsSameFolder folder f g
      → (registry.showing.is_clean new → registry.showing.is_clean mid) → KeepsShown registry.showing mid new
      → ((t : SegmentText) × (last ≡ Some t) × GoesOnIn registry folder file mid new g z t k) ⊎ Begins registry folder file mid new g z k
      → registry.showing.is_clean new → folder.names f ≡ Some names → (start : History) → IsMarked start → ShowsWithin registry.showing (folder.text_in f) start names old → EndsIn registry folder file (folder.text_in f) start names (folder.names z) new k
  found old mid new f g z names last k follows ends same honest kept (inl (t, is, goes)) clean known start marked shows =
      let there = subst (λ (l : Option SegmentText). EndsLast registry (folder.text_in f) start names mid l) is (follows (honest clean) known start marked shows) in
      let end = (subst (λ (l : Option SegmentText). EndsAtLast folder f names l) is ends).2 in
      in_last mid new g z (folder.text_in f) start names t k (same.0 ∙ known) same.1
      (λ all has. subst (λ (text : ℕ → List ℕ). IsOpenEnd (text t.begin) (held_of t)) (sym same.1) (end all (sym same.0 ∙ has)))
      there goes clean (honest clean) kept
  found old mid new f g z names last k follows ends same honest kept (inr says) clean known start marked shows =
      let there = follows (honest clean) known start marked shows in
      in_new mid new z (folder.text_in f) start names k g (says names (same.0 ∙ known)) clean kept (ends_shown registry (folder.text_in f) start names mid last there)

  -- a fault after the last segment
  pub fault_found : (old mid new : R) (f : F) (names : List ℕ) (last : Option SegmentText) (fault : OpenFault) → IsRefused fault → (registry.showing.is_clean new → registry.showing.is_clean mid) → KeepsShown registry.showing mid new → FollowsAll registry folder old mid f names (Ok last)
      → registry.showing.is_clean new → folder.names f ≡ Some names → (start : History) → IsMarked start → ShowsWithin registry.showing (folder.text_in f) start names old → FaultsAlong registry start (lines_in (folder.text_in f) names) new fault
  fault_found old mid new f names last fault is honest kept follows clean known start marked shows =
      let ends = follows (honest clean) known start marked shows in
      (is, stops_after registry.showing new start (lines_in (folder.text_in f) names) (kept clean _ (ends_shown registry (folder.text_in f) start names mid last ends)))

  -- it is that of the last segment
  adds_mark : (r s : R) (text : List ℕ) (now : Option (List ℕ)) → MayBeMarked registry.showing r s (Some text) now → AddsMark text now
  adds_mark r s text now marks = elim (marks text refl) [
    | inl left ↦ ([], left ∙ ap (λ (l : List ℕ). Some l) (sym (append-nil text)), inl refl)
    | inr (mark, counts, is, more, told) ↦ (mark, more, inr (counts, is))
  ]

  pub hands_new : (mid new : R) (f g z : F) (k : J) → folder.names g ≡ folder.names f → Begins registry folder file mid new g z k → (names : List ℕ) → folder.names f ≡ Some names → HandsOn registry folder file z k
  hands_new mid new f g z k same begins names known = let b = begins names (same ∙ known) in (names, b.name, b.named, ([], b.safe ∙ ap (λ (l : List ℕ). Some (l ++ [])) (sym b.empty), inl refl))

  pub hands_on : (mid new : R) (f g z : F) (names : List ℕ) (last : Option SegmentText) (k : J) → EndsAtLast folder f names last → folder.names g ≡ folder.names f
      → ((t : SegmentText) × (last ≡ Some t) × GoesOnIn registry folder file mid new g z t k) ⊎ Begins registry folder file mid new g z k → folder.names f ≡ Some names → HandsOn registry folder file z k
  hands_on mid new f g z names last k ends same (inl (t, is, goes)) known =
      let all = subst (λ (l : Option SegmentText). EndsAtLast folder f names l) is ends in
      (all.0, t.begin, goes.same ∙ same ∙ known ∙ ap (λ (ns : List ℕ). Some ns) all.1, adds_mark mid new (folder.text_in z t.begin) (file.safe k) (goes.marked names (goes.same ∙ same ∙ known)))
  hands_on mid new f g z names last k ends same (inr says) known = hands_new mid new f g z k same says names known

module _ {F J : Type 0} (folder : folders.Ghosts F J) where
  -- what was read of a folder that stays
  pub ends_from : (f g : F) (names : List ℕ) (last : Option SegmentText) → IsSameFolder folder f g → EndsAtLast folder f names last → (t : SegmentText) → last ≡ Some t → EndsAt folder g t
  ends_from f g names last same ends t is all known =
      let end = (subst (λ (l : Option SegmentText). EndsAtLast folder f names l) is ends).2 in
      subst (λ (text : ℕ → List ℕ). IsOpenEnd (text t.begin) (held_of t)) (sym same.1) (end all (sym same.0 ∙ known))

  pub keeps_after : (f g z : F) (names : List ℕ) (last : Option SegmentText) → IsSameFolder folder f g → ((t : SegmentText) → last ≡ Some t → EndsAt folder g t) → (((t : SegmentText) → last ≡ Some t → EndsAt folder g t) → KeepsLines folder g z) → KeepsLines folder f z
  keeps_after f g z names last same ends keeps = keeps_then folder f g z same.0 (keeps_same folder f g same.1) (keeps ends)

pub and_same : {P Q S : Type 0} → S → P ⊎ Q → P ⊎ (Q × S)
and_same same (inl may) = inl may
and_same same (inr quiet) = inr (quiet, same)

-- WHERE IT GOES ON

module _ {R F J : Type 0} (registry : Ghosts R) (folder : folders.Ghosts F J) (file : files.Ghosts J) where
  pub goes_on : (text : ℕ → List ℕ) (start : History) (names : List ℕ) (g : F) (p : Journaled R J) → p.failed ≡ false → EndsIn registry folder file text start names (folder.names g) p.registry p.journal
      → BeginsNew registry folder file names g (history_after start (lines_in text names)) p
      ⊎ ((folder.names g ≡ Some names) × (front : List ℕ) × (name : ℕ) × (names ≡ front ++ name ∷ []) × PairShows registry file (history_after start (lines_in text front)) p (history_after start (lines_in text names)))
  goes_on text start names g p settled ends =
      let all = history_after start (lines_in text names) in
      let shows : PairShows registry file (history_after start (lines_in text ends.front)) p all = record { shown = ends.shown; settled = settled; leads = is_kept (history_after start (lines_in text ends.front)) all (file.safe p.journal) ends.kept ends.safe ends.leads } in
      elim ends.last [
        | inl (same, name) ↦ inl (ends.named ∙ (λ i. Some (sym same i ++ name i ∷ [])), subst (λ (ns : List ℕ). PairShows registry file (history_after start (lines_in text ns)) p all) (sym same) shows)
        | inr still ↦ inr (still, ends.front, ends.name, some_same names (ends.front ++ ends.name ∷ []) (sym still ∙ ends.named), shows)
      ]
