-- Whether a request asks to close: the words between commas, and the blanks around them.
use Rattle.std.proofs.Common.{◌≡◌, ℕ, suc, ◌+◌, ◌-◌, ◌<◌, ◌≤◌, Bool, true, false, List, [], ◌∷◌, ◌++◌, length, take, drop, get_or, refl, sym, ap, ◌∙◌, arith, append_assoc, add-one, drop-cons, take-suc}
use Rattle.std.specs.Prelude.{◌||◌, ◌==◌, codes, slice_range, reverse, All, if◌then◌else◌}
use Rattle.std.specs.List.{list_any, slice_split}
use Rattle.std.proofs.lemmas.List.{get_or-drop, length-drop, append-nil, reverse-append, reverse-reverse, take_more, take_all, drop_all}
use Rattle.std.proofs.lemmas.List.Elements.{All-nil, All-push}
use Rattle.std.proofs.lemmas.List.Splits.{slice_split_none, slice_split_at}
use Rattle.std.proofs.lemmas.Bool.{eq-eqb}
use Rattle.httparse.specs.Grammar.{skip_ows, is_ows, trim_ows}
use Rattle.pid_http_stream.specs.FieldValues.{NamedValue, values_of}
use Rattle.pid_http_stream.specs.Connections.{is_close, has_close, asks_to_close}

none_before : (v : List ℕ) (k : ℕ) → slice_range v k k ≡ []
none_before v k = let e : k - k ≡ 0 = omega arith in rw e

one_more : (v : List ℕ) (s i : ℕ) → s ≤ i → i < length v → slice_range v s (i + 1) ≡ slice_range v s i ++ (get_or v i 0 ∷ [])
one_more v s i o h =
    let e : (i + 1) - s ≡ suc (i - s) = omega arith in
    let place : s + (i - s) ≡ i = omega arith in
    let room : i - s < length (drop s v) = simp length-drop (omega arith) in
    ap (λ (n : ℕ). take n (drop s v)) e ∙ take-suc (drop s v) (i - s) 0 room ∙ ap (λ (x : ℕ). take (i - s) (drop s v) ++ (x ∷ [])) (get_or-drop s v (i - s) 0 ∙ ap (λ (n : ℕ). get_or v n 0) place)

or-false : (x : Bool) → (x || false) ≡ x
or-false true = refl
or-false false = refl

or-true : (x : Bool) → (x || true) ≡ true
or-true true = refl
or-true false = refl

-- the scan of the code: before is what came of the word so far
abbrev pub closes_after : List ℕ → List ℕ → Bool
closes_after before [] = is_close before
closes_after before (b ∷ bytes) = if b == 44 then is_close before || closes_after [] bytes else closes_after (before ++ b ∷ []) bytes

abbrev HasNoComma : List ℕ → Type 0
HasNoComma before = All (λ b. (b == 44) ≡ false) before

one_word : (before : List ℕ) → HasNoComma before → is_close before ≡ list_any is_close (slice_split (λ b. b == 44) before)
one_word before none = sym (ap (list_any is_close) (slice_split_none (λ b. b == 44) before none) ∙ or-false (is_close before))

scan_comma : (before rest : List ℕ) (b : ℕ) → HasNoComma before → (b == 44) ≡ true → closes_after [] rest ≡ list_any is_close (slice_split (λ b. b == 44) rest)
    → closes_after before (b ∷ rest) ≡ list_any is_close (slice_split (λ b. b == 44) (before ++ b ∷ rest))
scan_comma before rest b none e on = rw (slice_split_at (λ b. b == 44) before b rest none e, e) (ap (λ (x : Bool). is_close before || x) on)

scan_other : (before rest : List ℕ) (b : ℕ) → (b == 44) ≡ false → closes_after (before ++ b ∷ []) rest ≡ list_any is_close (slice_split (λ b. b == 44) ((before ++ b ∷ []) ++ rest))
    → closes_after before (b ∷ rest) ≡ list_any is_close (slice_split (λ b. b == 44) (before ++ b ∷ rest))
scan_other before rest b e on = rw e (on ∙ ap (λ (l : List ℕ). list_any is_close (slice_split (λ b. b == 44) l)) (append_assoc before (b ∷ []) rest))

scan_next : (before rest : List ℕ) (b : ℕ) → HasNoComma before → (t : Bool) → (b == 44) ≡ t
    → ((front : List ℕ) → HasNoComma front → closes_after front rest ≡ list_any is_close (slice_split (λ b. b == 44) (front ++ rest)))
    → closes_after before (b ∷ rest) ≡ list_any is_close (slice_split (λ b. b == 44) (before ++ b ∷ rest))
scan_next before rest b none true e on = scan_comma before rest b none e (on [] (All-nil _))
scan_next before rest b none false e on = scan_other before rest b e (on (before ++ b ∷ []) (All-push (λ b. (b == 44) ≡ false) before b none e))

-- the scan finds what the definition says
scan_is : (before rest : List ℕ) → HasNoComma before → closes_after before rest ≡ list_any is_close (slice_split (λ b. b == 44) (before ++ rest))
scan_is before [] none = one_word before none ∙ ap (λ (l : List ℕ). list_any is_close (slice_split (λ b. b == 44) l)) (sym (append-nil before))
scan_is before (b ∷ rest) none = scan_next before rest b none (b == 44) refl (λ front quiet. scan_is front rest quiet)

pub scanned : (value : List ℕ) → closes_after [] value ≡ has_close value
scanned value = scan_is [] value (All-nil _)

at_comma : (before rest : List ℕ) (b : ℕ) → b ≡ 44 → is_close before ≡ false → closes_after before (b ∷ rest) ≡ closes_after [] rest
at_comma before rest b e n = rw (eq-eqb b 44 e, n) refl

after_comma : (before rest : List ℕ) (b : ℕ) → (b == 44) ≡ false → closes_after before (b ∷ rest) ≡ closes_after (before ++ b ∷ []) rest
after_comma before rest b e = rw e refl

pub comma_step : (v : List ℕ) (s i : ℕ) → i < length v → get_or v i 0 ≡ 44 → is_close (slice_range v s i) ≡ false
    → closes_after (slice_range v (i + 1) (i + 1)) (drop (i + 1) v) ≡ closes_after (slice_range v s i) (drop i v)
comma_step v s i h e n = rw (none_before v (i + 1), drop-cons v i 0 h, add-one) (sym (at_comma (slice_range v s i) (drop (suc i) v) (get_or v i 0) e n))

pub other_step : (v : List ℕ) (s i : ℕ) → s ≤ i → i < length v → (get_or v i 0 == 44) ≡ false
    → closes_after (slice_range v s (i + 1)) (drop (i + 1) v) ≡ closes_after (slice_range v s i) (drop i v)
other_step v s i o h e = rw (one_more v s i o h, drop-cons v i 0 h, add-one) (sym (after_comma (slice_range v s i) (drop (suc i) v) (get_or v i 0) e))

-- ---- blanks at the start

pub blank_first : (word : List ℕ) (n : ℕ) → n < length word → is_ows (get_or word n 0) ≡ true → skip_ows (drop (n + 1) word) ≡ skip_ows (drop n word)
blank_first word n h e = rw (drop-cons word n 0 h, add-one, e) refl

to_the_end : (word : List ℕ) (n : ℕ) → take (length word - n) (drop n word) ≡ drop n word
to_the_end word n = take_all (length word - n) (drop n word) (simp length-drop (omega arith))

kept_first : (word : List ℕ) (n : ℕ) → n < length word → is_ows (get_or word n 0) ≡ false → drop n word ≡ skip_ows (drop n word)
kept_first word n h e = rw (drop-cons word n 0 h, e) refl

pub other_first : (word : List ℕ) (n : ℕ) → n < length word → is_ows (get_or word n 0) ≡ false → take (length word - n) (drop n word) ≡ skip_ows (drop n word)
other_first word n h e = to_the_end word n ∙ kept_first word n h e

pub all_blank : (word : List ℕ) (n : ℕ) → length word ≤ n → skip_ows (drop n word) ≡ skip_ows word → take (length word - length word) (drop (length word) word) ≡ skip_ows word
all_blank word n h e = to_the_end word (length word) ∙ drop_all (length word) word (omega arith) ∙ sym (ap skip_ows (drop_all n word h)) ∙ e

-- ---- blanks at the end

pub blank_dropped : (word : List ℕ) (end n : ℕ) → n < length word → is_ows (get_or word n 0) ≡ true → skip_ows (reverse (take n word)) ≡ reverse (take end word) → skip_ows (reverse (take (n + 1) word)) ≡ reverse (take end word)
blank_dropped word end n h e before = rw (take_more word n 0 h, reverse-append, e) before

pub other_kept : (word : List ℕ) (n : ℕ) → n < length word → is_ows (get_or word n 0) ≡ false → skip_ows (reverse (take (n + 1) word)) ≡ reverse (take (n + 1) word)
other_kept word n h e = rw (take_more word n 0 h, reverse-append, e) refl

pub all_trimmed : (word : List ℕ) (end n : ℕ) → length word ≤ n → skip_ows (reverse (take n word)) ≡ reverse (take end word) → reverse (take end word) ≡ skip_ows (reverse word)
all_trimmed word end n h e = sym e ∙ ap (λ (l : List ℕ). skip_ows (reverse l)) (take_all n word h)

pub trimmed : (word front both : List ℕ) → front ≡ skip_ows word → reverse both ≡ skip_ows (reverse front) → both ≡ trim_ows word
unfolding trim_ows
trimmed word front both e f = sym (reverse-reverse both) ∙ ap reverse (f ∙ ap (λ (l : List ℕ). skip_ows (reverse l)) e)

-- ---- what a head asks

pub asks_old : (minor : ℕ) (fields : List NamedValue) → minor ≡ 0 → true ≡ asks_to_close minor fields
unfolding asks_to_close
asks_old minor fields e = rw (eq-eqb minor 0 e) refl

pub asks_named : (minor : ℕ) (fields : List NamedValue) → list_any has_close (values_of (codes "connection") fields) ≡ true → true ≡ asks_to_close minor fields
unfolding asks_to_close
asks_named minor fields e = sym (ap (λ (b : Bool). (minor == 0) || b) e ∙ or-true (minor == 0))

pub asks_not : (minor : ℕ) (fields : List NamedValue) → (minor == 0) ≡ false → list_any has_close (values_of (codes "connection") fields) ≡ false → false ≡ asks_to_close minor fields
unfolding asks_to_close
asks_not minor fields n e = sym (ap (λ (b : Bool). b || list_any has_close (values_of (codes "connection") fields)) n ∙ e)
