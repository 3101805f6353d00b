-- How many entries a text has that is not refused.
use Rattle.std.proofs.Common.{◌≡◌, ℕ, ◌+◌, ◌<◌, ◌≤◌, ◌^◌, ◌-◌, Bool, true, false, cond, ◌&&◌, leb, List, [], ◌∷◌, ◌++◌, length, Some, None, refl, sym, ap, subst, ◌∙◌, arith}
use mathlib.Core.List.{reverse_aux}
use mathlib.Core.Bool.{true≢false}
use Rattle.std.specs.Prelude.{is_some, min}
use Rattle.std.proofs.lemmas.Bool.Decides.{nat_tests}
use Rattle.std.proofs.lemmas.List.{length-map}
use Rattle.pid_file.specs.declared.refusal.ReadRefusal.TheVariants.{TooManyEntries}
use Rattle.pid_file.specs.declared.counter.Counter.{Counter}
use Rattle.pid_file.specs.Lines.{lines_of}
use Rattle.pid_file.specs.LookingBack.{Item, is_entry, path_at, name_at, entries_back}
use Rattle.pid_file.specs.Reading.{history_of, ENTRIES, refused_at, refused_from, refused}
use Rattle.pid_file.specs.Steps.LineEnds.{refusal_at}
use Rattle.pid_file.specs.Numbered.{Numbered, item_in, numbered_back, numbered_of}
use Rattle.pid_file.specs.Sinks.{Took}
use Rattle.pid_file.specs.Steps.Counters.{Counts}
use Rattle.pid_file.proofs.Feeding.{good_cases, good_at, numbered-good, items_in_numbered}

abbrev item : List ℕ → List ℕ → List Item
item path name = (path, name) ∷ []

room : (b : Bool) (n : ℕ) → cond (b && leb ENTRIES n) (Some TooManyEntries) None ≡ None → b ≡ true → n < ENTRIES
room true n h e = elim (leb ENTRIES n) as (λ t. leb ENTRIES n ≡ t → cond t (Some TooManyEntries) None ≡ None → n < ENTRIES) [
  | true ↦ λ f x. absurd (true≢false (ap is_some x))
  | false ↦ λ f x. grind (arith, nat_tests)
] refl h
room false n h e = absurd (true≢false (sym e))

few_more : (earlier : List (List ℕ)) (line : List ℕ) → refusal_at earlier line ≡ None → length (entries_back earlier) ≤ ENTRIES → length (entries_back (line ∷ earlier)) ≤ ENTRIES
few_more earlier line ok few =
    let plain : cond (is_entry earlier line && leb ENTRIES (length (entries_back earlier))) (Some TooManyEntries) None ≡ None = ap (refused_at earlier line) (sym (good_at earlier line ok)) ∙ ok in
    elim (is_entry earlier line) as (λ b. is_entry earlier line ≡ b → length (cond b (item (path_at earlier line) (name_at earlier line)) [] ++ entries_back earlier) ≤ ENTRIES) [
      | true ↦ λ e. let r : length (entries_back earlier) < ENTRIES = room (is_entry earlier line) (length (entries_back earlier)) plain e in omega arith
      | false ↦ λ e. few
    ] refl

pub few_from : (earlier lines : List (List ℕ)) → refused_from earlier lines ≡ None → length (entries_back earlier) ≤ ENTRIES → length (entries_back (reverse_aux lines earlier)) ≤ ENTRIES
few_from earlier [] h few = few
few_from earlier (line ∷ lines) h few =
    let p = good_cases (refusal_at earlier line) (refused_from (line ∷ earlier) lines) h in
    few_from (line ∷ earlier) lines p.1 (few_more earlier line p.0 few)

took_count : (start new : Counter) (items : List Numbered) → start.count ≡ 0 → length items ≤ ENTRIES → Took Counts start items new → new.count ≡ length items
took_count start new [] zero few t = ap (λ (s : Counter). s.count) t ∙ zero
took_count start new (x ∷ xs) zero few t =
    let before : t.0.count ≡ length xs = took_count start t.0 xs zero (omega arith) t.1 in
    let step : new.count ≡ min (t.0.count + 1) (2 ^ 64 - 1) = t.2 in
    omega arith

pub count_is : (text : List ℕ) (start new : Counter) → start.count ≡ 0 → (refused text ≡ None) × Took Counts start (numbered_of (lines_of text)) new → new.count ≡ length (entries_back (history_of text))
count_is text start new zero h =
    let same : numbered_of (lines_of text) ≡ numbered_back (history_of text) = numbered-good (lines_of text) h.0 in
    let many : length (numbered_back (history_of text)) ≡ length (entries_back (history_of text)) = sym (length-map (numbered_back (history_of text)) item_in) ∙ ap length (items_in_numbered (history_of text)) in
    let few = few_from [] (lines_of text) h.0 (omega arith) in
    took_count start new (numbered_back (history_of text)) zero (omega (arith, many, few)) (subst (λ es. Took Counts start es new) same h.1) ∙ many
