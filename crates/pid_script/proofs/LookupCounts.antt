-- A form of more fields than a look-up has says none: one of them is unknown, or one is there twice.
use Rattle.std.proofs.Common.{◌≡◌, ℕ, ◌<◌, ◌≤◌, ◌+◌, ◌&&◌, ◌||◌, Bool, true, false, cond, List, [], ◌∷◌, length, Option, Some, None, refl, sym, ap, ◌∙◌, arith}
use Rattle.std.specs.Prelude.{codes, count_by, is_none, nat_lt, not}
use Rattle.std.specs.List.{list_all, list_any, sum_by}
use Rattle.std.specs.Str.{bytes_eq}
use Rattle.std.proofs.lemmas.Bool.{and_parts, ltb-false}
use Rattle.std.proofs.lemmas.List.Sums.{sum_by-cons}
use Rattle.form_urlencoded.specs.Form.{raw_pairs}
use Rattle.pid_form.specs.Fields.{Fields, is_twice, times, value}
use Rattle.pid_form.specs.FormFields.{fields_in}
use Rattle.pid_lookup.specs.Fields.{are_bad, are_known, by_rule, flags_said, is_known, lookup_from, lookup_said, number_said, progif_said, said, size_said}
use Rattle.pid_script.specs.Asking.{lookup_in_form}
use Rattle.pid_script.proofs.FieldCounts.{as_many}

one : Bool → ℕ
one b = cond b 1 0

counted : (p : List ℕ × List ℕ → Bool) (f : List ℕ × List ℕ) (fs : Fields) → count_by p (f ∷ fs) ≡ cond (p f) 1 0 + count_by p fs
counted p f fs = sum_by-cons (λ x. cond (p x) 1 0) f fs

-- how many fields have one of these names
total : List (List ℕ) → Fields → ℕ
total [] fields = 0
total (n ∷ ns) fields = times n fields + total ns fields

total_on : (ns : List (List ℕ)) (f : List ℕ × List ℕ) (fs : Fields) → total ns fs ≤ total ns (f ∷ fs)
unfolding total
total_on [] f fs = omega arith
total_on (n ∷ ns) f fs =
    let more = total_on ns f fs in
    let here = counted (λ g. bytes_eq g.0 n) f fs in
    omega arith

total_more : (ns : List (List ℕ)) (f : List ℕ × List ℕ) (fs : Fields) → list_any (λ n. bytes_eq f.0 n) ns ≡ true → total ns fs + 1 ≤ total ns (f ∷ fs)
unfolding total
total_more [] f fs h = absurd cc
total_more (n ∷ ns) f fs h = by_name (bytes_eq f.0 n) refl (total_more ns f fs) h
  where
    by_name : (is : Bool) → bytes_eq f.0 n ≡ is → (list_any (λ m. bytes_eq f.0 m) ns ≡ true → total ns fs + 1 ≤ total ns (f ∷ fs)) → (is || list_any (λ m. bytes_eq f.0 m) ns) ≡ true → total (n ∷ ns) fs + 1 ≤ total (n ∷ ns) (f ∷ fs)
    by_name true e later h =
        let more = total_on ns f fs in
        let here : times n (f ∷ fs) ≡ 1 + times n fs = counted (λ g. bytes_eq g.0 n) f fs ∙ ap (λ b. cond b 1 0 + times n fs) e in
        omega arith
    by_name false e later h =
        let more = later h in
        let here : times n (f ∷ fs) ≡ 0 + times n fs = counted (λ g. bytes_eq g.0 n) f fs ∙ ap (λ b. cond b 1 0 + times n fs) e in
        omega arith

all_counted : (ns : List (List ℕ)) (fields : Fields) → list_all (λ f. list_any (λ n. bytes_eq f.0 n) ns) fields ≡ true → length fields ≤ total ns fields
all_counted ns [] h = omega arith
all_counted ns (f ∷ fs) h =
    let parts = and_parts (list_any (λ n. bytes_eq f.0 n) ns) (list_all (λ g. list_any (λ n. bytes_eq g.0 n) ns) fs) h in
    let rest = all_counted ns fs parts.1 in
    let more = total_more ns f fs parts.0 in
    omega arith

names : List (List ℕ)
names = codes "flags" ∷ codes "size" ∷ codes "vendor" ∷ codes "device" ∷ codes "subvendor" ∷ codes "subdevice" ∷ codes "class" ∷ codes "progif" ∷ []

one_of_eight : (a b c d e f g h : Bool) → (a || b || c || d || e || f || g || h) ≡ (a || (b || (c || (d || (e || (f || (g || (h || false))))))))
one_of_eight true b c d e f g h = refl
one_of_eight false true c d e f g h = refl
one_of_eight false false true d e f g h = refl
one_of_eight false false false true e f g h = refl
one_of_eight false false false false true f g h = refl
one_of_eight false false false false false true g h = refl
one_of_eight false false false false false false true h = refl
one_of_eight false false false false false false false true = refl
one_of_eight false false false false false false false false = refl

known : (fields : Fields) → list_all (λ f. is_known f.0) fields ≡ list_all (λ f. list_any (λ n. bytes_eq f.0 n) names) fields
unfolding names
known [] = refl
known (f ∷ fs) = λ i. one_of_eight (bytes_eq f.0 (codes "flags")) (bytes_eq f.0 (codes "size")) (bytes_eq f.0 (codes "vendor")) (bytes_eq f.0 (codes "device")) (bytes_eq f.0 (codes "subvendor")) (bytes_eq f.0 (codes "subdevice")) (bytes_eq f.0 (codes "class")) (bytes_eq f.0 (codes "progif")) i && known fs i

neither : (a b : Bool) → (a || b) ≡ false → (a ≡ false) × (b ≡ false)
neither true b h = absurd cc
neither false b h = (refl, h)

not_twice : (rule : List ℕ → Option ℕ) (missing : Option ℕ) (name : List ℕ) (fields : Fields) → is_none (said rule missing name fields) ≡ false → times name fields ≤ 1
not_twice rule missing name fields h = by_test (is_twice name fields) refl h
  where
    by_test : (twice : Bool) → is_twice name fields ≡ twice → is_none (cond twice None (by_rule rule missing (value name fields))) ≡ false → times name fields ≤ 1
    by_test true e h = absurd cc
    by_test false e h = ltb-false 1 (times name fields) e

many_bad : (fields : Fields) → 8 < length fields → are_bad fields ≡ true
unfolding total names
many_bad fields h = by_names (are_known fields) refl
  where
    by_says : (none : Bool) → list_any is_none (flags_said fields ∷ size_said fields ∷ number_said (codes "vendor") fields ∷ number_said (codes "device") fields ∷ number_said (codes "subvendor") fields ∷ number_said (codes "subdevice") fields ∷ number_said (codes "class") fields ∷ progif_said fields ∷ []) ≡ none → are_known fields ≡ true → none ≡ true
    by_says true e all = refl
    by_says false e all =
        let flags = neither _ _ e in
        let size = neither _ _ flags.1 in
        let vendor = neither _ _ size.1 in
        let device = neither _ _ vendor.1 in
        let subvendor = neither _ _ device.1 in
        let subdevice = neither _ _ subvendor.1 in
        let class = neither _ _ subdevice.1 in
        let progif = neither _ _ class.1 in
        let sum = all_counted names fields (sym (known fields) ∙ all) in
        absurd (omega (arith, not_twice _ _ (codes "flags") fields flags.0, not_twice _ _ (codes "size") fields size.0, not_twice _ _ (codes "vendor") fields vendor.0, not_twice _ _ (codes "device") fields device.0, not_twice _ _ (codes "subvendor") fields subvendor.0, not_twice _ _ (codes "subdevice") fields subdevice.0, not_twice _ _ (codes "class") fields class.0, not_twice _ _ (codes "progif") fields progif.0))

    by_names : (all : Bool) → are_known fields ≡ all → are_bad fields ≡ true
    by_names false e = rw e refl
    by_names true e = rw e (by_says _ refl e)

pub no_lookup : (form : List ℕ) → true ≡ nat_lt 8 (length (raw_pairs form)) → None ≡ lookup_in_form form
unfolding lookup_in_form lookup_from
no_lookup form h = sym (ap (λ b. cond b None (Some (lookup_said (fields_in form)))) (many_bad (fields_in form) (as_many 8 form h)))
