-- A text without faults and with few entries is not refused.
use Rattle.std.proofs.Common.{◌≡◌, ℕ, suc, ◌≤◌, true, false, cond, ◌&&◌, leb, List, [], ◌∷◌, ◌++◌, length, Some, None, refl, ap, ◌∙◌, arith}
use mathlib.Core.List.{reverse_aux}
use Rattle.std.proofs.lemmas.Bool.Decides.{nat_tests}
use Rattle.std.proofs.lemmas.List.{length-append}
use Rattle.std.specs.Prelude.{Option, is_some}
use mathlib.Core.Bool.{true≢false}
use Rattle.pid_file.specs.declared.fault_kind.LineKind.{LineKind}
use Rattle.pid_file.specs.declared.refusal.ReadRefusal.{ReadRefusal}
use Rattle.pid_file.specs.Reading.{AreGood, refused_from, refused_at, or_else, ENTRIES}
use Rattle.pid_file.specs.LookingBack.{entries_back, entry_of, is_entry, path_at, name_at}
use Rattle.pid_file.specs.Faults.{fault_of}
use Rattle.pid_file.specs.declared.refusal.ReadRefusal.TheVariants.{TooManyEntries}

good_before : (lines earlier : List (List ℕ)) → AreGood (reverse_aux lines earlier) → AreGood earlier
good_before [] earlier h = h
good_before (line ∷ lines) earlier h = (good_before lines (line ∷ earlier) h).1

fewer : (lines earlier : List (List ℕ)) → length (entries_back earlier) ≤ length (entries_back (reverse_aux lines earlier))
fewer [] earlier = omega arith
fewer (line ∷ lines) earlier = omega (arith, fewer lines (line ∷ earlier), length-append (entry_of earlier line) (entries_back earlier))

room : (n : ℕ) → suc n ≤ ENTRIES → leb ENTRIES n ≡ false
room n h = grind (arith, nat_tests)

pub not_refused : (lines earlier : List (List ℕ)) → AreGood (reverse_aux lines earlier) → length (entries_back (reverse_aux lines earlier)) ≤ ENTRIES → refused_from earlier lines ≡ None
not_refused [] earlier good few = refl
not_refused (line ∷ lines) earlier good few =
    let fault = (good_before lines (line ∷ earlier) good).0 in
    let count = fewer lines (line ∷ earlier) in
    let here : refused_at earlier line None ≡ None =
    elim (is_entry earlier line) as (λ b. length (cond b ((path_at earlier line, name_at earlier line) ∷ []) [] ++ entries_back earlier) ≤ ENTRIES → cond (b && leb ENTRIES (length (entries_back earlier))) (Some TooManyEntries) None ≡ None) [ true ↦ λ n. let full : leb ENTRIES (length (entries_back earlier)) ≡ false = room _ n in rw full refl | false ↦ λ _. refl ] (omega (arith, count)) in
    ap (λ o. or_else (refused_at earlier line o) (refused_from (line ∷ earlier) lines)) fault ∙ ap (λ o. or_else o (refused_from (line ∷ earlier) lines)) here ∙ not_refused lines (line ∷ earlier) good few

-- a text that is not refused has no fault
none_of : (a b : Option ReadRefusal) → or_else a b ≡ None → (a ≡ None) × (b ≡ None)
none_of None b h = (refl, h)
none_of (Some r) b h = absurd (true≢false (ap is_some h))

unfaulted : (earlier : List (List ℕ)) (line : List ℕ) (o : Option LineKind) → refused_at earlier line o ≡ None → o ≡ None
unfaulted earlier line None h = refl
unfaulted earlier line (Some k) h = absurd (true≢false (ap is_some h))

pub good_by_refused : (lines earlier : List (List ℕ)) → AreGood earlier → refused_from earlier lines ≡ None → AreGood (reverse_aux lines earlier)
good_by_refused [] earlier good h = good
good_by_refused (line ∷ lines) earlier good h =
    let parts = none_of (refused_at earlier line (fault_of earlier line)) (refused_from (line ∷ earlier) lines) h in
    good_by_refused lines (line ∷ earlier) (unfaulted earlier line (fault_of earlier line) parts.0, good) parts.1
