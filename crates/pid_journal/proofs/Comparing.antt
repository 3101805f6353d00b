-- The counts that a journal says are compared with those of a registry.
use Rattle.std.proofs.Common.{◌≡◌, ◌⊎◌, inl, inr, ℕ, suc, ◌+◌, ◌<◌, ◌≤◌, Bool, true, false, cond, List, [], ◌∷◌, ◌++◌, length, Option, Some, None, Result, Ok, Err, refl, sym, ap, subst, ◌∙◌, arith, append_assoc}
use Rattle.std.specs.Prelude.{nat_le, nat_lt, ◌==◌, find, filter_map, slice_index_or, IsSorted, MatchOption, MatchResult, option_map, unwrap_or}
use Rattle.std.specs.List.{cons_option}
use Rattle.std.specs.Ordering.{is_lt, nat_cmp}
use Rattle.std.specs.declared.cmp.Ordering.TheVariants.{Less, Equal, Greater}
use Rattle.std.proofs.lemmas.Bool.Decides.{nat_tests}
use Rattle.pid_file.specs.WholeLines.{ended_pieces, whole_lines}
use Rattle.pid_moderation.specs.History.{History}
use Rattle.pid_moderation.specs.declared.refusal.Refusal.{Refusal}
use Rattle.pid_moderation.specs.Views.{revision_of}
use Rattle.pid_script.specs.ScriptLines.{is_idle_line}
use Rattle.pid_service_laws.specs.Registries.{Showing}
use Rattle.pid_journal.specs.declared.counts.Counts.{Counts}
use Rattle.pid_journal.specs.declared.folder.JournalFolder as folders
use Rattle.pid_journal.specs.declared.open_fault.OpenFault.{OpenFault}
use Rattle.pid_journal.specs.declared.open_fault.OpenFault.TheVariants.{Refused, Another, Newer, Missing}
use Rattle.pid_journal.specs.declared.placing.Place.{Place}
use Rattle.pid_journal.specs.declared.placing.Step.TheVariants.{Behind, Nowhere}
use Rattle.pid_journal.specs.Journals.{counts_held, counts_said}
use Rattle.pid_journal.specs.Openings.{StandsIn, revision_after}
use Rattle.pid_journal.specs.Steps.Faults.{IsRefused}
use Rattle.pid_journal.specs.Steps.Comparing.{AreOthers, Compares, ComparesOn, FaultsAt, FitsGap, IsNewerThan, IsOlderAt, IsWithin, OfBegun, OfLast, OfSegment, RefusesOther, SkipsLate, said_since}
use Rattle.pid_journal.specs.Steps.Segments.{HasBegun, IsSameFolder, TellsRevision}
use Rattle.pid_journal.proofs.Places.{none_left, revision_counted}
use Rattle.pid_journal.proofs.Reading.{said_is_idle}

-- ONE LINE

not_so : (a b : ℕ) → a < b → nat_le b a ≡ false
not_so a b lt = grind (arith, nat_tests)

is_so : (a b : ℕ) → b ≤ a → nat_le b a ≡ true
is_so a b le = grind (arith, nat_tests)

-- what the first line says, and then the others
abbrev since_with : ℕ → List (List ℕ) → Option Counts → Option Counts
since_with revision lines said = find (λ k. nat_le revision k.revision) (cons_option said (filter_map counts_said lines))

pub since_older : (now k : Counts) (line : List ℕ) (lines : List (List ℕ)) → counts_said line ≡ Some k → k.revision < now.revision → said_since now.revision (line ∷ lines) ≡ said_since now.revision lines
since_older now k line lines says older = ap (since_with now.revision lines) says ∙ (λ i. cond (not_so k.revision now.revision older i) (Some k) (said_since now.revision lines))

pub since_here : (now k : Counts) (line : List ℕ) (lines : List (List ℕ)) → counts_said line ≡ Some k → now.revision ≤ k.revision → said_since now.revision (line ∷ lines) ≡ Some k
since_here now k line lines says newer = ap (since_with now.revision lines) says ∙ (λ i. cond (is_so k.revision now.revision newer i) (Some k) (said_since now.revision lines))

pub since_still : (now : Counts) (line : List ℕ) (lines : List (List ℕ)) → counts_said line ≡ None → said_since now.revision (line ∷ lines) ≡ said_since now.revision lines
since_still now line lines none = ap (since_with now.revision lines) none

off_says_none : (line : List ℕ) (said : Option Counts) → counts_said line ≡ said → is_idle_line line ≡ false → counts_said line ≡ None
off_says_none line None is off = is
off_says_none line (Some k) is off = let no : true ≡ false = sym (said_is_idle line k is) ∙ off in absurd (let never : ⊥ = cc in never)

pub since_off : (now : Counts) (line : List ℕ) (lines : List (List ℕ)) → is_idle_line line ≡ false → said_since now.revision (line ∷ lines) ≡ said_since now.revision lines
since_off now line lines off = since_still now line lines (off_says_none line (counts_said line) refl off)

-- WHAT COMES AFTER IT

pub after_said : (most : ℕ) (k : Counts) (line : List ℕ) (lines : List (List ℕ)) → counts_said line ≡ Some k → revision_after most (line ∷ lines) ≡ revision_after k.revision lines
after_said most k line lines says = λ i. revision_after (cond (said_is_idle line k says i) (unwrap_or (option_map (λ (x : Counts). x.revision) (says i)) most) (most + 1)) lines

pub after_still : (most : ℕ) (line : List ℕ) (lines : List (List ℕ)) → counts_said line ≡ None → is_idle_line line ≡ true → revision_after most (line ∷ lines) ≡ revision_after most lines
after_still most line lines none idle = λ i. revision_after (cond (idle i) (unwrap_or (option_map (λ (x : Counts). x.revision) (none i)) most) (most + 1)) lines

pub after_more : (most : ℕ) (line : List ℕ) (lines : List (List ℕ)) → is_idle_line line ≡ false → revision_after most (line ∷ lines) ≡ revision_after (most + 1) lines
after_more most line lines off = λ i. revision_after (cond (off i) (unwrap_or (option_map (λ (x : Counts). x.revision) (counts_said line)) most) (most + 1)) lines

not_under : (a b : ℕ) → a < b → b ≤ a → ⊥
not_under a b lt le = omega arith

-- below one there is none that is late
pub noted_older : {P : Type 0} (now : Counts) (place : Place) → place.noted ≡ true → IsOlderAt now place → now.revision ≤ place.most → P
noted_older now place noted older late = absurd (not_under place.most now.revision (older noted) late)

-- ALL LINES

-- what is compared in the text is what is compared in its rest
pub record IsComparing (text rest : List ℕ) (now : Counts) (begin : ℕ) (place : Place) : Type 0 where
  pub is : IsOlderAt now place
  pub same : said_since now.revision (whole_lines text) ≡ said_since now.revision (whole_lines rest)
  pub most : revision_after begin (whole_lines text) ≡ revision_after place.most (whole_lines rest)

pub compares_first : (text : List ℕ) (now : Counts) (begin : ℕ) → IsComparing text text now begin (record { noted = false; most = begin })
compares_first text now begin = record { is = λ on. absurd (let no : ⊥ = cc in no); same = refl; most = refl }

pub compares_on : (text rest behind line : List ℕ) (now : Counts) (begin : ℕ) (place next : Place) (at : IsComparing text rest now begin place) → whole_lines rest ≡ line ∷ whole_lines behind
    → ComparesOn (Behind next) now place line (whole_lines behind) → IsComparing text behind now begin next
compares_on text rest behind line now begin place next at first (is, same, far) = record {
  is = is;
  same = at.same ∙ ap (said_since now.revision) first ∙ same;
  most = at.most ∙ ap (revision_after place.most) first ∙ far;
}

pub compares_here : (text rest behind line : List ℕ) (now : Counts) (begin : ℕ) (place : Place) (at : IsComparing text rest now begin place) → whole_lines rest ≡ line ∷ whole_lines behind → said_since now.revision (line ∷ whole_lines behind) ≡ Some now → IsWithin now begin (whole_lines text)
compares_here text rest behind line now begin place at first is = inl (at.same ∙ ap (said_since now.revision) first ∙ is)

pub compares_refused : (now : Counts) (begin : ℕ) (lines : List (List ℕ)) (fault : OpenFault) → IsRefused fault → FaultsAt fault now begin lines
compares_refused now begin lines (Refused e) is = tt
compares_refused now begin lines Another is = absurd is
compares_refused now begin lines Newer is = absurd is
compares_refused now begin lines Missing is = absurd is

pub compares_nowhere : (text rest behind line : List ℕ) (now : Counts) (begin : ℕ) (place : Place) (at : IsComparing text rest now begin place) → whole_lines rest ≡ line ∷ whole_lines behind → ComparesOn Nowhere now place line (whole_lines behind) → FaultsAt Another now begin (whole_lines text)
compares_nowhere text rest behind line now begin place at first others =
    (others.0, at.same ∙ ap (said_since now.revision) first ∙ others.1, others.2)

-- no line is left
since_none : (text rest : List ℕ) (now : Counts) (begin : ℕ) (place : Place) → IsComparing text rest now begin place → ended_pieces rest ≡ [] → said_since now.revision (whole_lines text) ≡ None
since_none text rest now begin place at none = at.same ∙ ap (said_since now.revision) (none_left rest none)

after_last : (text rest : List ℕ) (now : Counts) (begin : ℕ) (place : Place) → IsComparing text rest now begin place → ended_pieces rest ≡ [] → revision_after begin (whole_lines text) ≡ place.most
after_last text rest now begin place at none = at.most ∙ ap (revision_after place.most) (none_left rest none)

pub compares_all : {X : Type 0} (result : Result X OpenFault) (text rest : List ℕ) (now : Counts) (begin : ℕ) (place : Place) → IsComparing text rest now begin place → ended_pieces rest ≡ [] → MatchResult result (λ x. now.revision ≤ place.most) (λ fault. (fault ≡ Newer) × (place.most < now.revision))
    → Compares now begin (whole_lines text) result
compares_all (Ok x) text rest now begin place at none says =
    inr (since_none text rest now begin place at none, subst (λ (n : ℕ). now.revision ≤ n) (sym (after_last text rest now begin place at none)) says)
compares_all (Err fault) text rest now begin place at none says =
    subst (λ (e : OpenFault). FaultsAt e now begin (whole_lines text)) (sym says.0) (since_none text rest now begin place at none, subst (λ (n : ℕ). n < now.revision) (sym (after_last text rest now begin place at none)) says.1)

-- WHERE THE REGISTRY STANDS

up_to : (a b : ℕ) → a ≤ b → false ≡ nat_lt b a
up_to a b le = grind (arith, nat_tests)

past_it : (a b : ℕ) → b < a → true ≡ nat_lt b a
past_it a b lt = grind (arith, nat_tests)

counted : (h : History) → revision_of h ≡ (counts_held h).revision
counted h = revision_counted h (counts_held h) refl

-- what was said since then is said of the revision of the history
since_held : (h : History) (lines : List (List ℕ)) (said : Option Counts) → said_since (counts_held h).revision lines ≡ said → said_since (revision_of h) lines ≡ said
since_held h lines said is = ap (λ (n : ℕ). said_since n lines) (counted h) ∙ is

-- what holds of the counts that are said is what holds where the registry stands
abbrev At : Bool → (ℕ → List ℕ) → ℕ → History → Option Counts → Type 0
At past text name h said = MatchOption said (past ≡ nat_lt (revision_after name (whole_lines (text name))) (revision_of h)) (λ counts. (counts ≡ counts_held h) × (past ≡ false))

by_said : (past : Bool) (text : ℕ → List ℕ) (name : ℕ) (h : History) (o said : Option Counts) → o ≡ said → At past text name h said → At past text name h o
by_said past text name h o said is holds = subst (At past text name h) (sym is) holds

pub within : (text : ℕ → List ℕ) (name : ℕ) (h : History) → name ≤ revision_of h → IsWithin (counts_held h) name (whole_lines (text name)) → StandsIn false text name h
within text name h begun (inl here) = (begun, by_said false text name h _ (Some (counts_held h)) (since_held h (whole_lines (text name)) (Some (counts_held h)) here) (refl, refl))
within text name h begun (inr (none, late)) =
    let most = revision_after name (whole_lines (text name)) in
    (begun, by_said false text name h _ None (since_held h (whole_lines (text name)) None none) (up_to (revision_of h) most (subst (λ (n : ℕ). n ≤ most) (sym (counted h)) late)))

pub beyond : (text : ℕ → List ℕ) (name : ℕ) (h : History) → name ≤ revision_of h → IsNewerThan (counts_held h) name (whole_lines (text name)) → StandsIn true text name h
beyond text name h begun (none, newer) =
    let most = revision_after name (whole_lines (text name)) in
    (begun, by_said true text name h _ None (since_held h (whole_lines (text name)) None none) (past_it (revision_of h) most (subst (λ (n : ℕ). most < n) (sym (counted h)) newer)))

pub neither : (text : ℕ → List ℕ) (name : ℕ) (h : History) → AreOthers (counts_held h) (said_since (counts_held h).revision (whole_lines (text name))) → (past : Bool) → StandsIn past text name h → ⊥
neither text name h (k, says, other) past stands =
    let is = since_held h (whole_lines (text name)) (Some k) says in
    other (by_said past text name h (Some k) _ (sym is) stands.1).0

pub fits : (gap : Bool) (text : ℕ → List ℕ) (name : ℕ) (h : History) → name ≤ revision_of h → FitsGap gap (counts_held h) name (whole_lines (text name)) → StandsIn gap text name h
fits false text name h begun says = within text name h begun (says.0 refl)
fits true text name h begun says = beyond text name h begun (says.1 refl)

pub refused_as : (fault : OpenFault) → IsRefused fault → (refusal : Refusal) × (fault ≡ Refused refusal)
refused_as (Refused refusal) is = (refusal, refl)
refused_as Another is = absurd is
refused_as Newer is = absurd is
refused_as Missing is = absurd is

pub refuses : (fault : OpenFault) (text : ℕ → List ℕ) (name : ℕ) (h : History) → RefusesOther fault (counts_held h) name (whole_lines (text name))
    → ((refusal : Refusal) × (fault ≡ Refused refusal)) ⊎ ((fault ≡ Another) × ((past : Bool) → StandsIn past text name h → ⊥))
refuses fault text name h (inl refused) = inl (refused_as fault refused)
refuses fault text name h (inr (another, others)) = inr (another, neither text name h others)

-- SEGMENTS

pub stands_held : (now held : Counts) (begin : ℕ) (lines : List (List ℕ)) → held ≡ now → IsWithin now begin lines → IsWithin held begin lines
stands_held now held begin lines is says = subst (λ (k : Counts). IsWithin k begin lines) (sym is) says

pub faults_held : (fault : OpenFault) (now held : Counts) (begin : ℕ) (lines : List (List ℕ)) → held ≡ now → FaultsAt fault now begin lines → FaultsAt fault held begin lines
faults_held fault now held begin lines is says = subst (λ (k : Counts). FaultsAt fault k begin lines) (sym is) says

early : (a b d : ℕ) → a ≡ b → d ≤ a → b < d → ⊥
early a b d is le lt = omega arith

pub not_missing : (h : History) (now : Counts) (name : ℕ) (lines : List (List ℕ)) → counts_held h ≡ now → name ≤ revision_of h → now.revision < name → FaultsAt Missing (counts_held h) name lines
not_missing h now name lines is begun lt = absurd (early (revision_of h) now.revision name (revision_counted h now is) begun lt)

pub last_same : (xs ys : List ℕ) (x y : ℕ) → xs ++ x ∷ [] ≡ ys ++ y ∷ [] → x ≡ y
last_same [] [] x y is = cc
last_same [] (b ∷ []) x y is = let no : ⊥ = cc in absurd no
last_same [] (b ∷ d ∷ ys) x y is = let no : ⊥ = cc in absurd no
last_same (a ∷ []) [] x y is = let no : ⊥ = cc in absurd no
last_same (a ∷ d ∷ xs) [] x y is = let no : ⊥ = cc in absurd no
last_same (a ∷ xs) (b ∷ ys) x y is = let rest : xs ++ x ∷ [] ≡ ys ++ y ∷ [] = cc in last_same xs ys x y rest

late_is : (a b d : ℕ) → a ≡ b → d ≤ b → a < d → ⊥
late_is a b d is le lt = omega arith

pub not_late : {R : Type 0} (w : Showing R) (old new : R) (revision next : ℕ) (h : History) → TellsRevision w old new (Ok revision) → w.is_clean new → w.shows old h → next ≤ revision_of h → revision < next → ⊥
not_late w old new revision next h told clean shown late lt = late_is revision (revision_of h) next (told clean h shown) late lt

-- ASCENDING NAMES

le_through : (a b d : ℕ) → a ≤ b → b ≤ d → a ≤ d
le_through a b d one two = omega arith

le_self : (a : ℕ) → a ≤ a
le_self a = omega arith

not_lt : (t e : Bool) → is_lt (cond t Less (cond e Equal Greater)) ≡ false → t ≡ false
not_lt true e is = is
not_lt false e is = refl

le_from : (a b : ℕ) → nat_lt a b ≡ false → b ≤ a
le_from a b is = grind (arith, nat_tests, is)

two_long : (n : ℕ) → 0 + 1 < suc (suc n)
two_long n = omega arith

pub first_two : (a b : ℕ) (ns : List ℕ) → IsSorted nat_cmp (a ∷ b ∷ ns) → a ≤ b
first_two a b ns sorted = le_from b a (not_lt (nat_lt b a) (b == a) (sorted 0 0 (omega arith) (two_long (length ns))))

sorted_rest : (a : ℕ) (ns : List ℕ) → IsSorted nat_cmp (a ∷ ns) → IsSorted nat_cmp ns
sorted_rest a ns sorted i d low lt =
    subst (λ (m : ℕ). is_lt (nat_cmp (slice_index_or (a ∷ ns) m d) (slice_index_or ns i d)) ≡ false) (further i) (sorted (suc i) d (omega arith) (longer i (length ns) lt))
  where
    further : (i : ℕ) → suc i + 1 ≡ suc (i + 1)
    further i = omega arith

    longer : (i n : ℕ) → i + 1 < n → suc i + 1 < suc n
    longer i n lt = omega arith

-- the first one is no later than the last
first_last : (a : ℕ) (front : List ℕ) (last : ℕ) → IsSorted nat_cmp (a ∷ front ++ last ∷ []) → a ≤ last
first_last a [] last sorted = first_two a last [] sorted
first_last a (b ∷ front) last sorted = le_through a b last (first_two a b (front ++ last ∷ []) sorted) (first_last b front last (sorted_rest a (b ∷ front ++ last ∷ []) sorted))

-- nor is any other
up_to_last : (names front above below : List ℕ) (last n : ℕ) → IsSorted nat_cmp names → names ≡ front ++ last ∷ [] → names ≡ above ++ n ∷ below → n ≤ last
up_to_last names front above below last n sorted is split = from names front above sorted is split
  where
    alone : (ns : List ℕ) (x y : ℕ) (bs : List ℕ) → x ∷ [] ≡ y ∷ bs → y ≤ x
    alone ns x y bs same = let one : x ≡ y = cc in subst (λ (z : ℕ). z ≤ x) one (le_self x)

    too_short : (x y : ℕ) (above : List ℕ) (n : ℕ) (below : List ℕ) → x ∷ [] ≡ y ∷ above ++ n ∷ below → ⊥
    too_short x y [] n below same = let no : ⊥ = cc in no
    too_short x y (z ∷ above) n below same = let no : ⊥ = cc in no

    firsts : (x y : ℕ) (xs ys : List ℕ) → x ∷ xs ≡ y ∷ ys → x ≡ y
    firsts x y xs ys same = cc

    rests : (x y : ℕ) (xs ys : List ℕ) → x ∷ xs ≡ y ∷ ys → xs ≡ ys
    rests x y xs ys same = cc

    from : (ns front above : List ℕ) → IsSorted nat_cmp ns → ns ≡ front ++ last ∷ [] → ns ≡ above ++ n ∷ below → n ≤ last
    from ns [] [] sorted is split = alone ns last n below (sym is ∙ split)
    from ns [] (x ∷ above) sorted is split = absurd (too_short last x above n below (sym is ∙ split))
    from ns (y ∷ front) [] sorted is split =
        let first : y ≡ n = firsts y n (front ++ last ∷ []) below (sym is ∙ split) in
        subst (λ (z : ℕ). z ≤ last) first (first_last y front last (subst (λ (l : List ℕ). IsSorted nat_cmp l) is sorted))
    from ns (y ∷ front) (x ∷ above) sorted is split =
        from (front ++ last ∷ []) front above (sorted_rest y (front ++ last ∷ []) (subst (λ (l : List ℕ). IsSorted nat_cmp l) is sorted)) refl (rests y x (front ++ last ∷ []) (above ++ n ∷ below) (sym is ∙ split))

module _ {R F J : Type 0} (w : Showing R) (folder : folders.Ghosts F J) where
  -- the last segment, where the others were passed
  pub last_all : (old mid new : R) (f g : F) (names at : List ℕ) (name : ℕ) (rest : List ℕ) (P : Counts → ℕ → List (List ℕ) → Type 0) → names ≡ at ++ name ∷ rest → rest ≡ [] → IsSameFolder folder f g
      → (w.is_clean new → w.is_clean mid) → (w.is_clean mid → (h : History) → w.shows old h → HasBegun h names → w.shows mid h) → OfSegment w folder mid new g name P → OfLast w folder old new f names P
  last_all old mid new f g names at name rest P parts none same honest passed says clean front last is known h shown begun =
      let all : names ≡ at ++ name ∷ [] = parts ∙ ap (λ (ns : List ℕ). at ++ name ∷ ns) none in
      let one : name ≡ last = last_same at front name last (sym all ∙ is) in
      let there = passed (honest clean) h shown begun in
      let found = says clean names (same.0 ∙ known) h there (begun at [] name all) in
      subst (λ (n : ℕ). P (counts_held h) n (whole_lines (folder.text_in f n))) one (subst (λ (text : ℕ → List ℕ). P (counts_held h) name (whole_lines (text name))) same.1 found)

  -- its fault is handed on as it is, where nothing was obeyed before
  pub fault_all : (old mid new : R) (f g : F) (names at : List ℕ) (name : ℕ) (rest : List ℕ) (moved : Bool) (fault given : OpenFault) → names ≡ at ++ name ∷ rest → rest ≡ [] → IsSameFolder folder f g
      → (w.is_clean new → w.is_clean mid) → (w.is_clean mid → (h : History) → w.shows old h → HasBegun h names → (moved ≡ false) × w.shows mid h) → (moved ≡ false → given ≡ fault)
      → OfSegment w folder mid new g name (FaultsAt fault) → OfLast w folder old new f names (FaultsAt given)
  fault_all old mid new f g names at name rest moved fault given parts none same honest passed gives says clean front last is known h shown begun =
      subst (λ (e : OpenFault). FaultsAt e (counts_held h) last (whole_lines (folder.text_in f last))) (sym (gives (passed (honest clean) h shown begun).0))
      (last_all old mid new f g names at name rest (FaultsAt fault) parts none same honest (λ there x shows began. (passed there x shows began).1) says clean front last is known h shown begun)

  -- a segment before the last one had a fault
  pub refused_all : (old mid new : R) (f : F) (names at : List ℕ) (name next : ℕ) (rest later : List ℕ) (moved : Bool) (fault given : OpenFault) → names ≡ at ++ name ∷ rest → rest ≡ next ∷ later → (w.is_clean new → w.is_clean mid)
      → (w.is_clean mid → (h : History) → w.shows old h → HasBegun h names → (moved ≡ false) × w.shows mid h) → SkipsLate w mid new next (Err fault) → (IsRefused fault → IsRefused given) → OfLast w folder old new f names (FaultsAt given)
  refused_all old mid new f names at name next rest later moved fault given parts is honest passed late gives clean front last split known h shown begun =
      let all : names ≡ (at ++ name ∷ []) ++ next ∷ later = parts ∙ ap (λ (ns : List ℕ). at ++ name ∷ ns) is ∙ sym (append_assoc at (name ∷ []) (next ∷ later)) in
      compares_refused (counts_held h) last (whole_lines (folder.text_in f last)) given (gives (late clean h (passed (honest clean) h shown begun).1 (begun (at ++ name ∷ []) later next all)))

  no_last : (front : List ℕ) (name : ℕ) → front ++ name ∷ [] ≡ [] → ⊥
  no_last [] name same = let no : ⊥ = cc in no
  no_last (x ∷ xs) name same = let no : ⊥ = cc in no

  pub none_all : (r : R) (f : F) (names : List ℕ) (P : Counts → ℕ → List (List ℕ) → Type 0) → names ≡ [] → OfLast w folder r r f names P
  none_all r f names P none clean front name is = absurd (no_last front name (sym is ∙ none))

  -- the names as they were read, of the folder as it was
  all_at : (old mid new : R) (f g : F) (names begins : List ℕ) (P : Counts → ℕ → List (List ℕ) → Type 0) → IsSameFolder folder f g → begins ≡ names → (w.is_clean new → w.is_clean mid) → OfLast w folder old mid g begins P → OfLast w folder old new f names P
  all_at old mid new f g names begins P same read honest says clean front name is known h shown begun =
      subst (λ (text : ℕ → List ℕ). P (counts_held h) name (whole_lines (text name))) same.1
      (says (honest clean) front name (read ∙ is) (same.0 ∙ known ∙ ap (λ (ns : List ℕ). Some ns) (sym read)) h shown (subst (λ (ns : List ℕ). HasBegun h ns) (sym read) begun))

  fault_gap : (now : Counts) (begin : ℕ) (lines : List (List ℕ)) (fault : OpenFault) → (fault ≡ Newer → ⊥) → FaultsAt fault now begin lines → RefusesOther fault now begin lines
  fault_gap now begin lines (Refused e) other says = inl tt
  fault_gap now begin lines Another other says = inr (refl, says)
  fault_gap now begin lines Newer other says = absurd (other refl)
  fault_gap now begin lines Missing other says = absurd says

  -- if the last one has begun, all have, since they ascend
  pub last_begun : (old new : R) (f : F) (names : List ℕ) (P : Counts → ℕ → List (List ℕ) → Type 0) → IsSorted nat_cmp names → OfLast w folder old new f names P → OfBegun w folder old new f names P
  last_begun old new f names P sorted says clean front name is known h shown begun =
      says clean front name is known h shown (λ above below n split. le_through n name (revision_of h) (up_to_last names front above below name n sorted is split) begun)

  -- the file was found after all segments
  pub finds_same : (old mid new : R) (f g : F) (names begins : List ℕ) → IsSameFolder folder f g → begins ≡ names → (w.is_clean new → w.is_clean mid) → OfLast w folder old mid g begins IsWithin → OfLast w folder old new f names (FitsGap false)
  finds_same old mid new f g names begins same read honest says clean front name is known h shown begun =
      ((λ off. all_at old mid new f g names begins IsWithin same read honest says clean front name is known h shown begun), λ on. absurd (let no : ⊥ = cc in no))

  pub finds_newer : (old mid new : R) (f g : F) (names begins : List ℕ) → IsSameFolder folder f g → begins ≡ names → (w.is_clean new → w.is_clean mid) → OfLast w folder old mid g begins (FaultsAt Newer) → OfLast w folder old new f names (FitsGap true)
  finds_newer old mid new f g names begins same read honest says clean front name is known h shown begun =
      ((λ off. absurd (let no : ⊥ = cc in no)), λ on. all_at old mid new f g names begins (FaultsAt Newer) same read honest says clean front name is known h shown begun)

  pub finds_fault : (old mid new : R) (f g : F) (names begins : List ℕ) (fault : OpenFault) → IsSameFolder folder f g → begins ≡ names → (w.is_clean new → w.is_clean mid) → (fault ≡ Newer → ⊥) → OfLast w folder old mid g begins (FaultsAt fault) → OfLast w folder old new f names (RefusesOther fault)
  finds_fault old mid new f g names begins fault same read honest other says clean front name is known h shown begun =
      fault_gap (counts_held h) name (whole_lines (folder.text_in f name)) fault other (all_at old mid new f g names begins (FaultsAt fault) same read honest says clean front name is known h shown begun)

  pub finds_refused : (old new : R) (f : F) (names : List ℕ) (fault : OpenFault) → IsRefused fault → OfBegun w folder old new f names (RefusesOther fault)
  finds_refused old new f names fault refused clean front name is known h shown begun = inl refused
