-- One more line, and one more piece, of a text that comes in pieces.
use Rattle.std.proofs.Common.{◌≡◌, ℕ, ◌+◌, map, length, false, cond, List, [], ◌∷◌, ◌++◌, Option, Some, None, Result, Ok, Err, refl, sym, ap, subst, ◌∙◌, append_assoc, inl, inr}
use mathlib.Core.List.{reverse_aux}
use mathlib.Core.Bool.{true≢false}
use Rattle.std.specs.Prelude.{is_some, is_ok, is_err, reverse, ◌⊎◌, OnOk}
use Rattle.std.proofs.lemmas.List.{append-nil}
use Rattle.pid_file.specs.declared.refusal.ReadRefusal.{ReadRefusal}
use Rattle.pid_file.specs.declared.refusal.ReadRefusal.TheVariants.{Memory}
use Rattle.pid_file.specs.Lines.{lines_of, drop_cr}
use Rattle.std.specs.FinMap.{empty, insert, from_entries}
use Rattle.pid_file.specs.Trees.{TreeMap}
use Rattle.pid_file.specs.declared.tree_sink.TreeSink.{TreeSink}
use Rattle.pid_file.specs.TreeSinks.{SetsItem, tree_so_far}
use Rattle.pid_file.specs.Reading.{Reads, AreGood, refused, refused_from, refused_at, or_else, read_from, entries_of, refusal_of}
use Rattle.pid_file.specs.Faults.{fault_of}
use Rattle.pid_file.specs.LookingBack.{Item, entries_back, entry_of}
use Rattle.pid_file.specs.Numbered.{Numbered, at_line, item_in, numbered_at, numbered_back, numbered_of}
use Rattle.pid_file.specs.declared.open_text.OpenText.{OpenText}
use Rattle.pid_file.specs.declared.sink.CutEnd.{CutEnd}
use Rattle.pid_file.specs.declared.sink.CutEnd.TheVariants.{Refused, Fault}
use Rattle.pid_file.specs.WholeLines.{ended_pieces, open_part, whole_lines}
use Rattle.pid_file.specs.Refusals.{IsRefusal}
use Rattle.pid_file.specs.Steps.LineEnds.{refusal_at}
use Rattle.pid_file.specs.Sinks.{Took, TookSome, Ends}
use Rattle.pid_file.specs.OpenTexts.{IsLeftOpen}
use Rattle.pid_file.specs.LinesRead.{Shows}
use Rattle.pid_file.specs.Steps.LineEnds.{LineEnds, TookLine}
use Rattle.pid_file.proofs.Cuts.{map_append, whole_line, open_after, whole_same, open_longer, lines_split, lines_more, last_line, open_no_lf}

or_else-assoc : (a b c : Option ReadRefusal) → or_else (or_else a b) c ≡ or_else a (or_else b c)
or_else-assoc (Some r) b c = refl
or_else-assoc None b c = refl

refused-append : (earlier xs ys : List (List ℕ)) → refused_from earlier (xs ++ ys) ≡ or_else (refused_from earlier xs) (refused_from (reverse_aux xs earlier) ys)
refused-append earlier [] ys = refl
refused-append earlier (x ∷ xs) ys =
    ap (or_else (refusal_at earlier x)) (refused-append (x ∷ earlier) xs ys) ∙ sym (or_else-assoc (refusal_at earlier x) (refused_from (x ∷ earlier) xs) (refused_from (reverse_aux xs (x ∷ earlier)) ys))

pub good_cases : (a b : Option ReadRefusal) → or_else a b ≡ None → (a ≡ None) × (b ≡ None)
good_cases None b h = (refl, h)
good_cases (Some r) b h = cc

read-append : (earlier xs ys : List (List ℕ)) → refused_from earlier xs ≡ None → read_from earlier (xs ++ ys) ≡ read_from (reverse_aux xs earlier) ys
read-append earlier [] ys h = refl
read-append earlier (x ∷ xs) ys h =
    let p = good_cases (refusal_at earlier x) (refused_from (x ∷ earlier) xs) h in
    ap (λ o. cond (is_some o) earlier (read_from (x ∷ earlier) (xs ++ ys))) p.0 ∙ read-append (x ∷ earlier) xs ys p.1

pub read-good : (earlier xs : List (List ℕ)) → refused_from earlier xs ≡ None → read_from earlier xs ≡ reverse_aux xs earlier
read-good earlier xs h = ap (read_from earlier) (sym (append-nil xs)) ∙ read-append earlier xs [] h

pub reverse_aux-snoc : (xs earlier : List (List ℕ)) (line : List ℕ) → reverse_aux (xs ++ line ∷ []) earlier ≡ line ∷ reverse_aux xs earlier
reverse_aux-snoc [] earlier line = refl
reverse_aux-snoc (x ∷ xs) earlier line = reverse_aux-snoc xs (x ∷ earlier) line

pub entries-good : (lines : List (List ℕ)) → refusal_of lines ≡ None → entries_of lines ≡ entries_back (reverse lines)
entries-good lines h = ap entries_back (read-good [] lines h)

pub numbered-good : (lines : List (List ℕ)) → refusal_of lines ≡ None → numbered_of lines ≡ numbered_back (reverse lines)
numbered-good lines h = ap numbered_back (read-good [] lines h)

-- numbered entries are the entries
items_at : (n : ℕ) (items : List Item) → map item_in (map (at_line n) items) ≡ items
items_at n [] = refl
items_at n (x ∷ xs) = ap (λ (es : List Item). x ∷ es) (items_at n xs)

pub items_in_numbered : (earlier : List (List ℕ)) → map item_in (numbered_back earlier) ≡ entries_back earlier
items_in_numbered [] = refl
items_in_numbered (line ∷ earlier) =
    map_append item_in (numbered_at earlier line) (numbered_back earlier)
    ∙ (λ i. items_at (length earlier + 1) (entry_of earlier line) i ++ items_in_numbered earlier i)

-- at a line after lines that are good
pub refused_line : (front : List (List ℕ)) (line : List ℕ) (ys : List (List ℕ)) → refusal_of front ≡ None → refusal_of (front ++ line ∷ ys) ≡ or_else (refusal_at (reverse front) line) (refused_from (line ∷ reverse front) ys)
refused_line front line ys good = refused-append [] front (line ∷ ys) ∙ ap (λ o. or_else o (refused_from (reverse front) (line ∷ ys))) good

or_else_front : (a b : Option ReadRefusal) → or_else a b ≡ None → a ≡ None
or_else_front a b h = (good_cases a b h).0

entries_line : (front : List (List ℕ)) (line : List ℕ) (ys : List (List ℕ)) → refusal_of front ≡ None → numbered_of (front ++ line ∷ ys) ≡ numbered_back (cond (is_some (refusal_at (reverse front) line)) (reverse front) (read_from (line ∷ reverse front) ys))
entries_line front line ys good = ap numbered_back (read-append [] front (line ∷ ys) good)

pub entries_good_line : (front : List (List ℕ)) (line : List ℕ) (ys : List (List ℕ)) → refusal_of front ≡ None → refusal_at (reverse front) line ≡ None → numbered_of (front ++ line ∷ ys) ≡ numbered_back (read_from (line ∷ reverse front) ys)
entries_good_line front line ys good ok = entries_line front line ys good ∙ ap (λ o. numbered_back (cond (is_some o) (reverse front) (read_from (line ∷ reverse front) ys))) ok

pub took_more : {S : Type 0} (takes : S → Numbered → S → Type 0) (old between new : S) (items more : List Numbered) → Took takes old items between → Took takes between more new → Took takes old (more ++ items) new
took_more takes old between new items [] t u = subst (λ s. Took takes old items s) (sym u) t
took_more takes old between new items (x ∷ more) t u = (u.0, took_more takes old between u.0 items more t u.1, u.2)

-- a refusal or a fault at a line
pub ends_at_err : {S F : Type 0} (takes : S → Numbered → S → Type 0) (faults : S → Numbered → F → S → Type 0) (r : Result (Unit {0}) (CutEnd F)) (e : CutEnd F) (start sink new : S) (front : List (List ℕ)) (line : List ℕ) (ys all : List (List ℕ)) → r ≡ Err e → all ≡ front ++ line ∷ ys → refusal_of front ≡ None → Took takes start (numbered_of front) sink → LineEnds {X = Unit {0}} takes faults (Err e) (reverse front) line sink new → Ends takes faults r start all new
ends_at_err takes faults r (Refused why) start sink new front line ys all r_is all_is good took at =
    subst (λ x. Ends takes faults x start all new) (sym r_is)
    (elim at.refused as (λ _. ((refusal_of all ≡ Some why) × Took takes start (numbered_of all) new) ⊎ ((why ≡ Memory) × TookSome takes start all new)) [
      | inl memory ↦ inr (memory, record { front = front; after = line ∷ ys; parts = all_is; good = good; took = subst (λ s. Took takes start (numbered_of front) s) (sym at.kept) took })
      | inr is ↦ inl (
        ap refusal_of all_is ∙ refused_line front line ys good ∙ ap (λ o. or_else o (refused_from (line ∷ reverse front) ys)) is,
        subst (λ es. Took takes start es new) (sym (ap numbered_of all_is ∙ entries_line front line ys good ∙ ap (λ o. numbered_back (cond (is_some o) (reverse front) (read_from (line ∷ reverse front) ys))) is ∙ sym (numbered-good front good))) (subst (λ s. Took takes start (numbered_of front) s) (sym at.kept) took),
      )
    ])
ends_at_err takes faults r (Fault f) start sink new front line ys all r_is all_is good took at =
    subst (λ x. Ends takes faults x start all new) (sym r_is) (record { front = front; line = line; after = ys; parts = all_is; good = refused_line front line [] good ∙ ap (λ o. or_else o None) at.good; entry = at.entry; is_its = at.is_its; between = sink; took = took; faulted = at.faulted })

-- the last line of all
pub ends_at_last : {S F : Type 0} (takes : S → Numbered → S → Type 0) (faults : S → Numbered → F → S → Type 0) (r : Result (Unit {0}) (CutEnd F)) (start sink new : S) (front : List (List ℕ)) (line : List ℕ) (all : List (List ℕ)) → all ≡ front ++ line ∷ [] → refusal_of front ≡ None → Took takes start (numbered_of front) sink → LineEnds {X = Unit {0}} takes faults r (reverse front) line sink new → Ends takes faults r start all new
ends_at_last takes faults (Err e) start sink new front line all all_is good took ends = ends_at_err takes faults (Err e) e start sink new front line [] all refl all_is good took ends
ends_at_last takes faults (Ok x) start sink new front line all all_is good took ends = (
  ap refusal_of all_is ∙ refused_line front line [] good ∙ ap (λ o. or_else o None) ends.good,
  subst (λ es. Took takes start es new) (sym (ap numbered_of all_is ∙ entries_good_line front line [] good ends.good ∙ ap (λ (es : List Numbered). numbered_at (reverse front) line ++ es) (sym (numbered-good front good)))) (took_more takes start sink new (numbered_of front) (numbered_at (reverse front) line) took ends.took),
)

-- after a line
pub holds_line : (c d : OpenText) (text front line : List ℕ) → IsLeftOpen c text → ended_pieces front ≡ [] → line ≡ drop_cr (open_part text ++ front) → refusal_at (reverse (whole_lines text)) line ≡ None → Shows d.progress (line ∷ reverse (whole_lines text)) → d.line.items ≡ [] → IsLeftOpen d (text ++ (front ++ 10 ∷ []))
holds_line c d text front line h no_lf line_is ok shown none =
    let lines : whole_lines (text ++ (front ++ 10 ∷ [])) ≡ whole_lines text ++ line ∷ [] = whole_line text front [] no_lf ∙ ap (λ (l : List ℕ). whole_lines text ++ l ∷ []) (sym line_is) in
    record {
      open_line = none ∙ sym (open_after text front no_lf);
      good = ap refusal_of lines ∙ refused_line (whole_lines text) line [] h.good ∙ ap (λ o. or_else o None) ok;
      shown = subst (λ ls. Shows d.progress ls) (sym (ap reverse lines ∙ reverse_aux-snoc (whole_lines text) [] line)) shown;
    }

pub on_line : {S F P Q : Type 0} (takes : S → Numbered → S → Type 0) (faults : S → Numbered → F → S → Type 0) (r : Result (Unit {0}) (CutEnd F)) (earlier : List (List ℕ)) (line : List ℕ) (old new : S) → OnOk r P → LineEnds {X = Unit {0}} takes faults r earlier line old new → (P → refusal_at earlier line ≡ None → Q) → OnOk r Q
on_line takes faults (Ok x) earlier line old new p ends f = f p ends.good
on_line takes faults (Err e) earlier line old new p ends f = tt

-- part of the piece was read
pub record IsHalfway {S : Type 0} (takes : S → Numbered → S → Type 0) (before : S) (piece rest : List ℕ) (kept : OpenText) (sink : S) (text : List ℕ) : Type 0 where
  pub gone : List ℕ
  pub parts : piece ≡ gone ++ rest
  pub holds : IsLeftOpen kept (text ++ gone)
  pub took : (start : S) → Took takes start (numbered_of (whole_lines text)) before → Took takes start (numbered_of (whole_lines (text ++ gone))) sink

pub starts : {S : Type 0} (takes : S → Numbered → S → Type 0) (before : S) (piece : List ℕ) (kept : OpenText) (text : List ℕ) → IsLeftOpen kept text → IsHalfway takes before piece piece kept before text
starts takes before piece kept text h = record { gone = []; parts = refl; holds = subst (IsLeftOpen kept) (sym (append-nil text)) h; took = λ start t. subst (λ (l : List ℕ). Took takes start (numbered_of (whole_lines l)) before) (sym (append-nil text)) t }

pub goes_on : {S : Type 0} (takes : S → Numbered → S → Type 0) (before : S) (piece rest front behind : List ℕ) (kept next : OpenText) (sink new : S) (text : List ℕ) (h : IsHalfway takes before piece rest kept sink text) → rest ≡ front ++ 10 ∷ behind → ended_pieces front ≡ [] → IsLeftOpen next ((text ++ h.gone) ++ (front ++ 10 ∷ [])) → TookLine takes (reverse (whole_lines (text ++ h.gone))) (drop_cr (open_part (text ++ h.gone) ++ front)) sink new → IsHalfway takes before piece behind next new text
goes_on takes before piece rest front behind kept next sink new text h rest_is no_lf holds ends =
    let now = append_assoc text h.gone (front ++ 10 ∷ []) in
    let all : whole_lines (text ++ (h.gone ++ (front ++ 10 ∷ []))) ≡ whole_lines (text ++ h.gone) ++ drop_cr (open_part (text ++ h.gone) ++ front) ∷ [] = ap whole_lines (sym now) ∙ whole_line (text ++ h.gone) front [] no_lf in
    record {
      gone = h.gone ++ (front ++ 10 ∷ []);
      parts = h.parts ∙ ap (λ (l : List ℕ). h.gone ++ l) rest_is ∙ simp append_assoc;
      holds = subst (IsLeftOpen next) now holds;
      took = λ start t. (ends_at_last {F = Unit {0}} takes (λ _ _ _ _. Unit {0}) (Ok tt) start sink new (whole_lines (text ++ h.gone)) (drop_cr (open_part (text ++ h.gone) ++ front)) (whole_lines (text ++ (h.gone ++ (front ++ 10 ∷ [])))) all h.holds.good (h.took start t) ends).1;
    }

pub stops : {S F : Type 0} (takes : S → Numbered → S → Type 0) (faults : S → Numbered → F → S → Type 0) (r : Result (Unit {0}) (CutEnd F)) (e : CutEnd F) (before : S) (piece rest front behind : List ℕ) (kept : OpenText) (sink new : S) (text : List ℕ) (h : IsHalfway takes before piece rest kept sink text) → r ≡ Err e → rest ≡ front ++ 10 ∷ behind → ended_pieces front ≡ [] → LineEnds {X = Unit {0}} takes faults (Err e) (reverse (whole_lines (text ++ h.gone))) (drop_cr (open_part (text ++ h.gone) ++ front)) sink new → (start : S) → Took takes start (numbered_of (whole_lines text)) before → Ends takes faults r start (whole_lines (text ++ piece)) new
stops takes faults r e before piece rest front behind kept sink new text h r_is rest_is no_lf ends start t =
    let joined : text ++ piece ≡ (text ++ h.gone) ++ (front ++ 10 ∷ behind) = ap (λ (l : List ℕ). text ++ l) (h.parts ∙ ap (λ (l : List ℕ). h.gone ++ l) rest_is) ∙ sym (append_assoc text h.gone (front ++ 10 ∷ behind)) in
    ends_at_err takes faults r e start sink new (whole_lines (text ++ h.gone)) (drop_cr (open_part (text ++ h.gone) ++ front)) (whole_lines behind) (whole_lines (text ++ piece)) r_is (ap whole_lines joined ∙ whole_line (text ++ h.gone) front behind no_lf) h.holds.good (h.took start t) ends

-- what is left has no LF
rest_joined : (text piece gone rest : List ℕ) → piece ≡ gone ++ rest → text ++ piece ≡ (text ++ gone) ++ rest
rest_joined text piece gone rest parts = ap (λ (l : List ℕ). text ++ l) parts ∙ sym (append_assoc text gone rest)

same_lines : (text piece gone rest : List ℕ) → piece ≡ gone ++ rest → ended_pieces rest ≡ [] → whole_lines (text ++ piece) ≡ whole_lines (text ++ gone)
same_lines text piece gone rest parts no_lf = ap whole_lines (rest_joined text piece gone rest parts) ∙ whole_same (text ++ gone) rest no_lf

pub holds_rest : {S : Type 0} (takes : S → Numbered → S → Type 0) (before : S) (piece rest : List ℕ) (kept next : OpenText) (sink : S) (text : List ℕ) → IsHalfway takes before piece rest kept sink text → ended_pieces rest ≡ [] → next.progress ≡ kept.progress → next.line.items ≡ kept.line.items ++ rest → IsLeftOpen next (text ++ piece)
holds_rest takes before piece rest kept next sink text h no_lf judges open_is =
    let lines = same_lines text piece h.gone rest h.parts no_lf in
    record {
      open_line = open_is ∙ ap (λ (l : List ℕ). l ++ rest) h.holds.open_line ∙ sym (open_longer (text ++ h.gone) rest no_lf) ∙ ap open_part (sym (rest_joined text piece h.gone rest h.parts));
      good = ap refusal_of lines ∙ h.holds.good;
      shown = subst (λ ls. Shows next.progress (reverse ls)) (sym lines) (subst (λ v. Shows v (reverse (whole_lines (text ++ h.gone)))) (sym judges) h.holds.shown);
    }

pub took_rest : {S : Type 0} (takes : S → Numbered → S → Type 0) (before : S) (piece rest : List ℕ) (kept : OpenText) (sink : S) (text : List ℕ) → IsHalfway takes before piece rest kept sink text → ended_pieces rest ≡ [] → (start : S) → Took takes start (numbered_of (whole_lines text)) before → (refusal_of (whole_lines (text ++ piece)) ≡ None) × Took takes start (numbered_of (whole_lines (text ++ piece))) sink
took_rest takes before piece rest kept sink text h no_lf start t =
    let lines = same_lines text piece h.gone rest h.parts no_lf in
    (ap refusal_of lines ∙ h.holds.good, subst (λ ls. Took takes start (numbered_of ls) sink) (sym lines) (h.took start t))

-- at the end of the text
pub finishes : {S F : Type 0} (takes : S → Numbered → S → Type 0) (faults : S → Numbered → F → S → Type 0) (r : Result (Unit {0}) (CutEnd F)) (c : OpenText) (text line : List ℕ) (start sink new : S) → IsLeftOpen c text → (open_part text ≡ [] → ⊥) → line ≡ drop_cr (open_part text) → Took takes start (numbered_of (whole_lines text)) sink → LineEnds {X = Unit {0}} takes faults r (reverse (whole_lines text)) line sink new → Ends takes faults r start (lines_of text) new
finishes takes faults r c text line start sink new h some line_is took ends =
    ends_at_last takes faults r start sink new (whole_lines text) line (lines_of text) (lines_split text ∙ ap (λ ls. whole_lines text ++ ls) (last_line (open_part text) (open_no_lf text) some) ∙ ap (λ (l : List ℕ). whole_lines text ++ l ∷ []) (sym line_is)) h.good took ends

pub finished : {S : Type 0} (takes : S → Numbered → S → Type 0) (c : OpenText) (text : List ℕ) (start sink : S) → IsLeftOpen c text → open_part text ≡ [] → Took takes start (numbered_of (whole_lines text)) sink → (refused text ≡ None) × Took takes start (numbered_of (lines_of text)) sink
finished takes c text start sink h none took =
    let lines : lines_of text ≡ whole_lines text = lines_split text ∙ ap (λ (l : List ℕ). whole_lines text ++ lines_of l) none ∙ append-nil (whole_lines text) in
    (ap refusal_of lines ∙ h.good, subst (λ ls. Took takes start (numbered_of ls) sink) (sym lines) took)

pub extended : {A E : Type 0} (r : Result A E) (v a b : List ℕ) → v ≡ cond (is_ok r) a b → is_err r ≡ false → v ≡ a
extended (Ok x) v a b h e = h
extended (Err x) v a b h e = absurd (true≢false e)

pub good_at : (earlier : List (List ℕ)) (line : List ℕ) → refusal_at earlier line ≡ None → fault_of earlier line ≡ None
good_at earlier line h = elim (fault_of earlier line) as (λ o. refused_at earlier line o ≡ None → o ≡ None) [ None ↦ λ _. refl | Some k ↦ λ e. absurd (true≢false (ap is_some e)) ] h

pub took_tree : (start sink : TreeSink) (items : List Numbered) → tree_so_far start ≡ empty → Took SetsItem start items sink → tree_so_far sink ≡ from_entries (map item_in items)
took_tree start sink [] none t = ap (λ (s : TreeSink). tree_so_far s) t ∙ none
took_tree start sink (x ∷ xs) none t = t.2 ∙ ap (λ (m : TreeMap). insert m (item_in x).0 (item_in x).1) (took_tree start t.0 xs none t.1)

-- what a text reads to, once nothing of it is refused
pub good_lines : (earlier lines : List (List ℕ)) → AreGood earlier → refused_from earlier lines ≡ None → AreGood (reverse_aux lines earlier)
good_lines earlier [] good h = good
good_lines earlier (x ∷ xs) good h =
    let p = good_cases (refusal_at earlier x) (refused_from (x ∷ earlier) xs) h in
    good_lines (x ∷ earlier) xs (good_at earlier x p.0, good) p.1

pub Reads-from_sink : (text : List ℕ) (start sink : TreeSink) → tree_so_far start ≡ empty → (refused text ≡ None) × Took SetsItem start (numbered_of (lines_of text)) sink → Reads text (tree_so_far sink)
Reads-from_sink text start sink none h = record {
  good = good_lines [] (lines_of text) tt h.0;
  tree = took_tree start sink (numbered_of (lines_of text)) none h.1 ∙ ap from_entries (ap (map item_in) (numbered-good (lines_of text) h.0) ∙ items_in_numbered (reverse (lines_of text)));
}

-- what the whole lines are refused for, the text is
pub refused_whole : (text : List ℕ) (r : ReadRefusal) → IsRefusal r (refusal_of (whole_lines text)) → IsRefusal r (refused text)
refused_whole text r (inl memory) = inl memory
refused_whole text r (inr is) =
    inr (ap refusal_of (lines_split text) ∙ refused-append [] (whole_lines text) (lines_of (open_part text)) ∙ ap (λ o. or_else o (refused_from (reverse (whole_lines text)) (lines_of (open_part text)))) is)

-- what the whole lines are refused for, every text that goes on from there is
pub refused_more : (text more : List ℕ) (r : ReadRefusal) → refusal_of (whole_lines text) ≡ Some r → refused (text ++ more) ≡ Some r
refused_more text more r is =
    let lines : lines_of (text ++ more) ≡ whole_lines text ++ lines_of (open_part text ++ more) = lines_more text more in
    ap refusal_of lines ∙ refused-append [] (whole_lines text) (lines_of (open_part text ++ more)) ∙ ap (λ o. or_else o (refused_from (reverse (whole_lines text)) (lines_of (open_part text ++ more)))) is
