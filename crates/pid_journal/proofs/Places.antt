-- Where in a journal a registry stands: the revision says it.
use Rattle.std.proofs.Common.{◌≡◌, ◌⊎◌, inl, inr, ℕ, ◌+◌, ◌<◌, ◌≤◌, Bool, true, false, cond, List, [], ◌∷◌, ◌++◌, map, Option, Some, None, Result, Ok, Err, refl, sym, ap, subst, ◌∙◌, arith, append_assoc}
use Rattle.std.specs.Prelude.{IfSome, MatchResult, is_some, ◌||◌}
use Rattle.pid_file.proofs.Cuts.{ended_line, open_after}
use Rattle.pid_file.specs.Lines.{drop_cr}
use Rattle.pid_file.specs.WholeLines.{ended_pieces, whole_lines}
use Rattle.pid_moderation.proofs.RevisionLemmas.{counted, grows, marked_stays}
use Rattle.pid_moderation.specs.declared.command.Command.{Command}
use Rattle.pid_moderation.specs.declared.refusal.Refusal.{Refusal}
use Rattle.pid_moderation.specs.Files.{asks}
use Rattle.pid_moderation.specs.History.{Asked, History}
use Rattle.pid_moderation.specs.Judgement.{Outcome, Refused, Repeated, Accepts, added, after, after_all, judge}
use Rattle.pid_moderation.specs.Revisions.{IsMarked}
use Rattle.pid_moderation.specs.Views.{revision_of, views_of}
use Rattle.pid_script.specs.Asking.{command_in_form}
use Rattle.pid_script.specs.Replies.{command_of, commands_of_lines, history_after, those_sent}
use Rattle.pid_script.specs.ScriptLines.{Ask, AsksNothing, AsksCommand, AsksExport, AsksName, AsksLookup, Unclear, TooLong, ask_of, is_idle_line}
use Rattle.pid_journal.specs.declared.counts.Counts.{Counts}
use Rattle.pid_journal.specs.declared.open_fault.OpenFault.{OpenFault}
use Rattle.pid_journal.specs.declared.open_fault.OpenFault.TheVariants.{Newer}
use Rattle.pid_journal.specs.declared.placing.Place.{Place}
use Rattle.pid_journal.specs.Journals.{counts_held, counts_said, AreTrue}
use Rattle.pid_journal.specs.Steps.Faults.{IsRefused}
use Rattle.pid_journal.specs.Steps.Ways.{IsOnWay}
use Rattle.pid_journal.specs.Steps.Places.{IsAt, IsEndOf, IsPlaced}
use Rattle.pid_journal.specs.Steps.Notes.{after_line, noted_after}
use Rattle.pid_journal.proofs.Appending.{after_first, history_both, line_alone}
use Rattle.pid_journal.proofs.Reading.{idle_says_none, said_is_idle}

-- ONE REVISION, ONE HISTORY

outcome_rises : (h : History) (c : Asked) (o : Outcome) → IsMarked h → (added h c o ≡ h) ⊎ (revision_of (added h c o) ≡ revision_of h + 1)
outcome_rises h c (Refused e) marked = inl refl
outcome_rises h c (Repeated reply) marked = inl refl
outcome_rises h c (Accepts reply) marked = inr (counted h c reply (Accepts reply) refl marked)

rises : (h : History) (c : Asked) → IsMarked h → (after h c ≡ h) ⊎ (revision_of (after h c) ≡ revision_of h + 1)
rises h c marked = outcome_rises h c (judge (views_of h) c) marked

too_far : (a b d : ℕ) → b ≡ a + 1 → b ≤ d → d ≡ a → ⊥
too_far a b d rose grown is = omega arith

first_same : (h : History) (c : Asked) (cs : List Asked) → (after h c ≡ h) ⊎ (revision_of (after h c) ≡ revision_of h + 1) → (revision_of (after_all h cs) ≡ revision_of h → after_all h cs ≡ h)
    → revision_of (after_all (after h c) cs) ≡ revision_of h → after_all (after h c) cs ≡ h
first_same h c cs (inl same) rest is = ap (λ (g : History). after_all g cs) same ∙ rest (ap (λ (g : History). revision_of (after_all g cs)) (sym same) ∙ is)
first_same h c cs (inr rose) rest is = absurd (too_far (revision_of h) (revision_of (after h c)) (revision_of (after_all (after h c) cs)) rose (grows (after h c) cs) is)

pub same_by_revision : (h : History) (cs : List Asked) → IsMarked h → revision_of (after_all h cs) ≡ revision_of h → after_all h cs ≡ h
same_by_revision h [] marked is = refl
same_by_revision h (c ∷ cs) marked is = first_same h c cs (rises h c marked) (same_by_revision h cs marked) is

-- where on the way the revision is that of the history shown, it is that history
pub same_place : (h g : History) (noted : Bool) (lines : List (List ℕ)) → IsMarked h → IsOnWay h noted lines g → revision_of g ≡ revision_of h → h ≡ g
same_place h g noted lines marked way is =
    sym (same_by_revision h (commands_of_lines way.before) marked (ap revision_of way.so_far ∙ is)) ∙ way.so_far

pub way_grows : (h g : History) (noted : Bool) (lines : List (List ℕ)) → IsOnWay h noted lines g → revision_of h ≤ revision_of g
way_grows h g noted lines way = subst (λ (x : History). revision_of h ≤ revision_of x) way.so_far (grows h (commands_of_lines way.before))

-- the revision that is counted
pub revision_counted : (h : History) (k : Counts) → counts_held h ≡ k → revision_of h ≡ k.revision
unfolding counts_held
revision_counted h k is = ap (λ (x : Counts). x.revision) is

-- ONE LINE

those_few : (said : Result Command Refusal) → (those_sent said ≡ []) ⊎ ((c : Asked) × (those_sent said ≡ c ∷ []))
those_few (Err e) = inl refl
those_few (Ok c) = inr (asks c, refl)

few : (ask : Ask) → (command_of ask ≡ []) ⊎ ((c : Asked) × (command_of ask ≡ c ∷ []))
few (AsksCommand verb account fields) = those_few (command_in_form verb account fields)
few AsksNothing = inl refl
few AsksExport = inl refl
few (AsksName fields) = inl refl
few (AsksLookup fields) = inl refl
few Unclear = inl refl
few TooLong = inl refl

no_more : (a b : ℕ) → a ≡ b → a ≤ b + 1
no_more a b is = omega arith

one_more : (a b : ℕ) → a ≡ b + 1 → a ≤ b + 1
one_more a b is = omega arith

line_rises : (h : History) (line : List ℕ) → IsMarked h → revision_of (after_line h line) ≤ revision_of h + 1
line_rises h line marked =
    elim (few (ask_of line)) [
      | inl none ↦ no_more (revision_of (after_line h line)) (revision_of h) (ap (λ (cs : List Asked). revision_of (after_all h cs)) none)
      | inr (c, one) ↦
          let is : revision_of (after_line h line) ≡ revision_of (after h c) = ap (λ (cs : List Asked). revision_of (after_all h cs)) one in
          elim (rises h c marked) [
            | inl same ↦ no_more (revision_of (after_line h line)) (revision_of h) (is ∙ ap revision_of same)
            | inr rose ↦ one_more (revision_of (after_line h line)) (revision_of h) (is ∙ rose)
          ]
    ]

pub line_marked : (h : History) (line : List ℕ) → IsMarked h → IsMarked (after_line h line)
line_marked h line marked = marked_stays h (command_of (ask_of line)) marked

pub idle_stays : (h : History) (line : List ℕ) → is_idle_line line ≡ true → after_line h line ≡ h
idle_stays h line idle = ap (after_all h) (idle_says_none line idle)

-- the way from the place behind the line
advanced : (h g : History) (m : Bool) (line : List ℕ) (lines before later : List (List ℕ)) → AreTrue (after_line h line) m lines → (h ≡ g → after_line h line ≡ g) → line ∷ lines ≡ before ++ later → history_after h before ≡ g
    → IsOnWay (after_line h line) m lines g
advanced h g m line lines [] later told stays parts so_far = record { told = told; before = []; later = lines; parts = refl; so_far = stays so_far }
advanced h g m line lines (b ∷ bs) later told stays parts so_far =
    let first : line ≡ b = cc in
    let rest : lines ≡ bs ++ later = cc in
    record {
      told = told;
      before = bs;
      later = later;
      parts = rest;
      so_far = sym (after_first h line bs) ∙ ap (λ (x : List ℕ). history_after h (x ∷ bs)) first ∙ so_far;
    }

advance : (h g : History) (noted m : Bool) (line : List ℕ) (lines : List (List ℕ)) → IsOnWay h noted (line ∷ lines) g → noted_after noted line ≡ m → (h ≡ g → after_line h line ≡ g) → IsOnWay (after_line h line) m lines g
advance h g noted m line lines way is stays =
    advanced h g m line lines way.before way.later (subst (λ (x : Bool). AreTrue (after_line h line) x lines) is way.told.2) stays way.parts way.so_far

if_said : (o : Option Counts) (k l : Counts) → o ≡ Some k → IfSome o (λ x. x ≡ l) → l ≡ k
if_said None k l is says = absurd (let no : ⊥ = cc in no)
if_said (Some x) k l is says = let same : x ≡ k = cc in sym says ∙ same

-- a comment on the way says what the history so far holds
pub says_held : (h g : History) (noted : Bool) (line : List ℕ) (lines : List (List ℕ)) (k : Counts) → IsOnWay h noted (line ∷ lines) g → counts_said line ≡ Some k → counts_held h ≡ k
says_held h g noted line lines k way says = if_said (counts_said line) k (counts_held h) says way.told.0

same_most : (a b d : ℕ) → a ≡ b → b ≡ d → a ≤ d
same_most a b d p q = omega arith

older_still : (a b d : ℕ) → a < b → d ≡ b → a < d
older_still a b d lt is = omega arith

-- a comment that is older than the registry
pub holds_older : (g h : History) (place : Place) (line : List ℕ) (lines : List (List ℕ)) (now k : Counts) → counts_held g ≡ now → counts_said line ≡ Some k → IsPlaced g h place (line ∷ lines) → k.revision < now.revision
    → IsPlaced g (after_line h line) (record { noted = true; most = k.revision }) lines
holds_older g h place line lines now k is says placed older =
    let idle : is_idle_line line ≡ true = said_is_idle line k says in
    let same : after_line h line ≡ h = idle_stays h line idle in
    record {
      marked = line_marked h line placed.marked;
      way = advance h g place.noted true line lines placed.way (λ i. cond (idle i) (is_some (says i) || place.noted) false) (λ e. same ∙ e);
      most = same_most (revision_of (after_line h line)) (revision_of h) k.revision (ap revision_of same) (revision_counted h k (says_held h g place.noted line lines k placed.way says));
      older = λ noted. older_still k.revision now.revision (revision_of g) older (revision_counted g now is);
    }

-- a comment that says what the registry holds
pub holds_here : (g h : History) (place : Place) (line : List ℕ) (lines : List (List ℕ)) (now k : Counts) → counts_held g ≡ now → counts_said line ≡ Some k → IsPlaced g h place (line ∷ lines) → k ≡ now → after_line h line ≡ g
holds_here g h place line lines now k is says placed same =
    let held : counts_held h ≡ now = says_held h g place.noted line lines k placed.way says ∙ same in
    idle_stays h line (said_is_idle line k says)
    ∙ same_place h g place.noted (line ∷ lines) placed.marked placed.way (revision_counted g now is ∙ sym (revision_counted h now held))

both_ways : (a b d e : ℕ) → a ≡ b → d ≡ e → b ≤ d → e ≤ a → d ≡ b
both_ways a b d e p q le ge = omega arith

-- a comment that is no older, and says something else
pub holds_other : (g h : History) (place : Place) (line : List ℕ) (lines : List (List ℕ)) (now k : Counts) → counts_held g ≡ now → counts_said line ≡ Some k → IsPlaced g h place (line ∷ lines) → now.revision ≤ k.revision → (k ≡ now → ⊥) → ⊥
holds_other g h place line lines now k is says placed newer other =
    let held : counts_held h ≡ k = says_held h g place.noted line lines k placed.way says in
    let at : revision_of g ≡ revision_of h = both_ways k.revision (revision_of h) (revision_of g) now.revision (sym (revision_counted h k held)) (revision_counted g now is) (way_grows h g place.noted (line ∷ lines) placed.way) newer in
    let same : h ≡ g = same_place h g place.noted (line ∷ lines) placed.marked placed.way at in
    other (sym held ∙ ap counts_held same ∙ is)

through : (a b d : ℕ) → a ≡ b → b ≤ d → a ≤ d
through a b d p q = omega arith

-- a line that says nothing
pub nothing_said : (g h : History) (place : Place) (line : List ℕ) (lines : List (List ℕ)) → counts_said line ≡ None → is_idle_line line ≡ true → IsPlaced g h place (line ∷ lines) → IsPlaced g (after_line h line) place lines
nothing_said g h place line lines none idle placed =
    let same : after_line h line ≡ h = idle_stays h line idle in
    record {
      marked = line_marked h line placed.marked;
      way = advance h g place.noted place.noted line lines placed.way (λ i. cond (idle i) (is_some (none i) || place.noted) false) (λ e. same ∙ e);
      most = through (revision_of (after_line h line)) (revision_of h) place.most (ap revision_of same) placed.most;
      older = placed.older;
    }

-- a command has a comment above it
pub unnoted : (g h : History) (place : Place) (line : List ℕ) (lines : List (List ℕ)) → is_idle_line line ≡ false → place.noted ≡ false → IsPlaced g h place (line ∷ lines) → ⊥
unnoted g h place line lines off not placed = let on : place.noted ≡ true = placed.way.told.1 off in cc

-- and the registry is newer than that
pub not_older : (g h : History) (place : Place) (line : List ℕ) (lines : List (List ℕ)) (now : Counts) → counts_held g ≡ now → is_idle_line line ≡ false → now.revision ≤ place.most → IsPlaced g h place (line ∷ lines) → ⊥
not_older g h place line lines now is off late placed = later (revision_of g) now.revision place.most (revision_counted g now is) late (placed.older (placed.way.told.1 off))
  where
    later : (a b d : ℕ) → a ≡ b → b ≤ d → d < a → ⊥
    later a b d p q lt = omega arith

next_most : (a b d : ℕ) → a ≤ b + 1 → b ≤ d → a ≤ d + 1
next_most a b d p q = omega arith

apart : (a b d : ℕ) → a ≡ b → a ≤ d → d < b → ⊥
apart a b d p q lt = omega arith

pub command_passed : (g h : History) (place : Place) (line : List ℕ) (lines : List (List ℕ)) → is_idle_line line ≡ false → IsPlaced g h place (line ∷ lines) → IsPlaced g (after_line h line) (record { noted = false; most = place.most + 1 }) lines
command_passed g h place line lines off placed =
    let older : place.most < revision_of g = placed.older (placed.way.told.1 off) in
    record {
      marked = line_marked h line placed.marked;
      way = advance h g place.noted false line lines placed.way (λ i. cond (off i) (is_some (counts_said line) || place.noted) false) (λ e. absurd (apart (revision_of h) (revision_of g) place.most (ap revision_of e) placed.most older));
      most = next_most (revision_of (after_line h line)) (revision_of h) place.most (line_rises h line placed.marked) placed.most;
      older = λ noted. absurd (let no : ⊥ = cc in no);
    }

-- behind all lines
pub no_lines_left : (h g : History) (before later : List (List ℕ)) → [] ≡ before ++ later → history_after h before ≡ g → h ≡ g
no_lines_left h g [] later parts so_far = so_far
no_lines_left h g (b ∷ bs) later parts so_far = absurd (let no : ⊥ = cc in no)

pub at_end : (h g : History) (noted : Bool) (lines : List (List ℕ)) → lines ≡ [] → IsOnWay h noted lines g → h ≡ g
at_end h g noted lines none way = no_lines_left h g way.before way.later (sym none ∙ way.parts) way.so_far

-- ALL LINES

-- from the beginning of the text the lines of the rest are reached
pub record IsReached (start shown : History) (text rest : List ℕ) (place : Place) : Type 0 where
  pub here : History
  pub placed : IsPlaced shown here place (whole_lines rest)
  pub at : IsAt start here text rest

pub record IsFinding (text rest : List ℕ) (now : Counts) (begin : ℕ) (place : Place) : Type 0 where
  pub end : IsEndOf text rest
  pub reached : (start shown : History) → IsMarked start → revision_of start ≡ begin → counts_held shown ≡ now → IsOnWay start false (whole_lines text) shown → IsReached start shown text rest place

pub found_first : (text : List ℕ) (now : Counts) (begin : ℕ) → IsFinding text text now begin (record { noted = false; most = begin })
found_first text now begin = record {
  end = record { front = []; parts = refl; whole = refl };
  reached = λ start shown marked begins is way. record {
    here = start;
    placed = record {
      marked = marked;
      way = way;
      most = no_later (revision_of start) begin begins;
      older = λ noted. absurd (let no : ⊥ = cc in no);
    };
    at = record { far = []; parts = refl; so_far = refl };
  };
}
  where
    no_later : (a b : ℕ) → a ≡ b → a ≤ b
    no_later a b is = omega arith

-- a line more
pub line_first : (rest line behind : List ℕ) → rest ≡ line ++ 10 ∷ behind → ended_pieces line ≡ [] → whole_lines rest ≡ drop_cr line ∷ whole_lines behind
line_first rest line behind parts one = ap whole_lines parts ∙ ap (map drop_cr) (ended_line line behind one)

pub end_more : (text rest line behind : List ℕ) → IsEndOf text rest → rest ≡ line ++ 10 ∷ behind → ended_pieces line ≡ [] → IsEndOf text behind
end_more text rest line behind end parts one = record {
  front = end.front ++ (line ++ 10 ∷ []);
  parts = end.parts ∙ ap (λ (l : List ℕ). end.front ++ l) (parts ∙ sym (append_assoc line (10 ∷ []) behind)) ∙ sym (append_assoc end.front (line ++ 10 ∷ []) behind);
  whole = open_after end.front line one;
}

pub placed_at : (shown h : History) (place : Place) (rest line behind : List ℕ) → rest ≡ line ++ 10 ∷ behind → ended_pieces line ≡ [] → IsPlaced shown h place (whole_lines rest) → IsPlaced shown h place (drop_cr line ∷ whole_lines behind)
placed_at shown h place rest line behind parts one placed = subst (λ (ls : List (List ℕ)). IsPlaced shown h place ls) (line_first rest line behind parts one) placed

at_more : (start here : History) (text rest line behind : List ℕ) → IsAt start here text rest → rest ≡ line ++ 10 ∷ behind → ended_pieces line ≡ [] → IsAt start (after_line here (drop_cr line)) text behind
at_more start here text rest line behind at parts one = record {
  far = at.far ++ drop_cr line ∷ [];
  parts = at.parts ∙ ap (λ (ls : List (List ℕ)). at.far ++ ls) (line_first rest line behind parts one) ∙ sym (append_assoc at.far (drop_cr line ∷ []) (whole_lines behind));
  so_far = history_both start at.far (drop_cr line ∷ []) ∙ ap (λ (g : History). history_after g (drop_cr line ∷ [])) at.so_far ∙ line_alone here (drop_cr line);
}

pub found_on : (text rest line behind : List ℕ) (now : Counts) (begin : ℕ) (place next : Place) → IsFinding text rest now begin place → rest ≡ line ++ 10 ∷ behind → ended_pieces line ≡ []
    → ((shown h : History) → counts_held shown ≡ now → IsPlaced shown h place (drop_cr line ∷ whole_lines behind) → IsPlaced shown (after_line h (drop_cr line)) next (whole_lines behind))
    → IsFinding text behind now begin next
found_on text rest line behind now begin place next finding parts one steps = record {
  end = end_more text rest line behind finding.end parts one;
  reached = λ start shown marked begins is way. let r = finding.reached start shown marked begins is way in
      record {
        here = after_line r.here (drop_cr line);
        placed = steps shown r.here is (placed_at shown r.here place rest line behind parts one r.placed);
        at = at_more start r.here text rest line behind r.at parts one;
      };
}

-- the registry stands here
pub found_here : (start shown : History) (text rest : List ℕ) (place : Place) (r : IsReached start shown text rest place) → r.here ≡ shown → IsAt start shown text rest
found_here start shown text rest place r is = record { far = r.at.far; parts = r.at.parts; so_far = r.at.so_far ∙ is }

-- it stands behind this line
pub found_after : (start shown : History) (text rest line behind : List ℕ) (place : Place) (r : IsReached start shown text rest place) → rest ≡ line ++ 10 ∷ behind → ended_pieces line ≡ [] → after_line r.here (drop_cr line) ≡ shown → IsAt start shown text behind
found_after start shown text rest line behind place r parts one is =
    let at = at_more start r.here text rest line behind r.at parts one in
    record { far = at.far; parts = at.parts; so_far = at.so_far ∙ is }

-- the lines of the rest lead on from the history shown to where all lines lead
pub leads_on : (start shown : History) (text rest : List ℕ) → IsAt start shown text rest → history_after shown (whole_lines rest) ≡ history_after start (whole_lines text)
leads_on start shown text rest at =
    ap (λ (g : History). history_after g (whole_lines rest)) (sym at.so_far) ∙ sym (history_both start at.far (whole_lines rest)) ∙ ap (history_after start) (sym at.parts)

pub none_left : (rest : List ℕ) → ended_pieces rest ≡ [] → whole_lines rest ≡ []
none_left rest none = ap (map drop_cr) none

pub found_last : (start shown : History) (text rest : List ℕ) (place : Place) → IsReached start shown text rest place → ended_pieces rest ≡ [] → IsAt start shown text rest
found_last start shown text rest place r none = found_here start shown text rest place r (at_end r.here shown place.noted (whole_lines rest) (none_left rest none) r.placed.way)

pub found_newer : (start shown : History) (text rest : List ℕ) (now : Counts) (place : Place) → counts_held shown ≡ now → IsReached start shown text rest place → ended_pieces rest ≡ [] → place.most < now.revision → ⊥
found_newer start shown text rest now place is r none newer =
    beyond (revision_of r.here) (revision_of shown) now.revision place.most (ap revision_of (at_end r.here shown place.noted (whole_lines rest) (none_left rest none) r.placed.way)) (revision_counted shown now is) r.placed.most newer
  where
    beyond : (a b d e : ℕ) → a ≡ b → b ≡ d → a ≤ e → e < d → ⊥
    beyond a b d e p q le lt = omega arith

-- behind all lines it stands, or nowhere
pub found_end : {X : Type 0} (result : Result X OpenFault) (start shown : History) (text rest left : List ℕ) (now : Counts) (place : Place) → counts_held shown ≡ now → IsReached start shown text rest place → ended_pieces rest ≡ [] → left ≡ rest
    → MatchResult result (λ x. now.revision ≤ place.most) (λ fault. (fault ≡ Newer) × (place.most < now.revision)) → MatchResult result (λ x. IsAt start shown text left) IsRefused
found_end (Ok x) start shown text rest left now place is r none same says = subst (λ (l : List ℕ). IsAt start shown text l) (sym same) (found_last start shown text rest place r none)
found_end (Err fault) start shown text rest left now place is r none same says = absurd (found_newer start shown text rest now place is r none says.1)
