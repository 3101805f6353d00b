-- Lines without faults tell a tree.
use Rattle.std.proofs.Common.{◌≡◌, ℕ, suc, ◌<◌, ◌^◌, Bool, true, false, cond, not, ◌&&◌, ◌||◌, eqb, List, [], ◌∷◌, ◌++◌, take, drop, map, Some, None, refl, sym, ap, subst, ◌∙◌, arith}
use mathlib.Core.Bool.{true≢false}
use Rattle.std.specs.Prelude.{IfSome, is_none, codes}
use Rattle.std.specs.Char.{to_ascii_lowercase}
use Rattle.std.proofs.lemmas.Bool.Decides.{nat_tests}
use Rattle.pid_file.specs.declared.path.Path.{Path}
use Rattle.pid_file.specs.declared.path.Path.TheVariants.{Vendor, Device, Subsystem, Class, Subclass, ProgIf, Generic}
use Rattle.pid_file.specs.PathTexts.{IsPath, path_text, parent_of}
use Rattle.pid_file.specs.Identifiers.{hex4, hex2}
use Rattle.pid_file.specs.declared.line.Mark.{Mark}
use Rattle.pid_file.specs.declared.line.Mark.TheVariants.{Devices, Classes, Generics}
use Rattle.pid_file.specs.Marks.{is_idle, depth, body, mark, is_unknown, inside}
use Rattle.pid_file.specs.Levels.{widths}
use Rattle.pid_file.specs.Columns.{begins_with_id, begins_with_ids}
use Rattle.pid_file.specs.Faults.{has}
use Rattle.pid_file.specs.Reading.{AreGood}
use Rattle.pid_file.specs.LookingBack.{is_above, above, parent_line, if_depth, is_entry, head_path, path_at}
use Rattle.pid_file.specs.declared.fault_kind.LineKind.TheVariants.{VendorMissing}
use Rattle.pid_reader.proofs.Written.{both_true, not_true}
use Rattle.pid_reader.proofs.Digits.{Number4, Number2, id4, id2, whole4}
use Rattle.std.proofs.lemmas.Cmp.{nat_list_cmp_total, tied_itself}
use Rattle.pid_reader.proofs.Clean.{IsClean, clean, IsToldBy, told_on, nearest}

-- a path whose parent is told
pub record IsKept (lines : List (List ℕ)) (path : List ℕ) : Type 0 where
  pub p : Path
  pub in_range : IsPath p
  pub same : path ≡ path_text p
  pub parent : IfSome (parent_of p) (λ q. IsToldBy lines (path_text q))

-- the ids of a line are there
first_test : (x : Bool) → (not x || false) ≡ false → x ≡ true
first_test true h = refl
first_test false h = absurd (true≢false h)

nested_ids : (before : List (List ℕ)) (line h ws : List ℕ) (m : Mark) (at : ℕ) → is_idle line ≡ false → depth line ≡ at → eqb at 0 ≡ false → above 1 before ≡ Some h → mark h ≡ m → is_unknown m ≡ false → widths m at ≡ ws → IsClean before line → begins_with_ids ws (inside line) ≡ true
nested_ids before line h ws m at active depth_is nested is_head marked known width c =
    let x = rw (active, depth_is, nested, is_head, marked, known, width) at c.id in
    first_test _ x

ids4 : (bytes : List ℕ) → begins_with_ids (4 ∷ []) bytes ≡ true → Number4 (map to_ascii_lowercase (take 4 bytes))
ids4 bytes h = id4 bytes (both_true (begins_with_id 4 bytes) true h).0

ids2 : (bytes : List ℕ) → begins_with_ids (2 ∷ []) bytes ≡ true → Number2 (map to_ascii_lowercase (take 2 bytes))
ids2 bytes h = id2 bytes (both_true (begins_with_id 2 bytes) true h).0

-- an entry is told behind its line
told_self : (before : List (List ℕ)) (line : List ℕ) → is_entry before line ≡ true → IsToldBy (line ∷ before) (path_at before line)
told_self before line e = rw (e, tied_itself nat_list_cmp_total (path_at before line)) refl

-- a head of four digits: the front of its path, and that of the vendor that is told
record Head4 (lines : List (List ℕ)) (h top vendor : List ℕ) : Type 0 where
  n : ℕ
  in_range : n < 2 ^ 16
  path : head_path h ≡ top ++ hex4 n
  told : IsToldBy lines (vendor ++ hex4 n)

head_device_of : (before : List (List ℕ)) (h : List ℕ) → is_idle h ≡ false → depth h ≡ 0 → mark h ≡ Devices → Number4 (map to_ascii_lowercase (take 4 (body h))) → Head4 (h ∷ before) h (codes "PC/") (codes "PC/")
head_device_of before h active depth_is marked num =
    let entry : is_entry before h ≡ true = rw (active, depth_is, marked) refl in
    let path : head_path h ≡ codes "PC/" ++ hex4 num.n = rw (marked, num.same) refl in
    let same : path_at before h ≡ head_path h = rw depth_is refl in
    record { n = num.n; in_range = num.in_range; path = path; told = subst (λ (k : List ℕ). IsToldBy (h ∷ before) k) (same ∙ path) (told_self before h entry) }

head_device : (before : List (List ℕ)) (h : List ℕ) → is_idle h ≡ false → depth h ≡ 0 → mark h ≡ Devices → IsClean before h → Head4 (h ∷ before) h (codes "PC/") (codes "PC/")
head_device before h active depth_is marked c =
    let x = rw (active, depth_is, marked) at c.id in
    head_device_of before h active depth_is marked (ids4 (body h) (first_test _ x))

second_test : (x : Bool) → not x ≡ false → x ≡ true
second_test true h = refl
second_test false h = absurd (true≢false h)

head_generic_of : (before : List (List ℕ)) (h : List ℕ) → is_idle h ≡ false → depth h ≡ 0 → mark h ≡ Generics → Number4 (map to_ascii_lowercase (take 4 (drop 2 h))) → has VendorMissing before h ≡ false → Head4 (h ∷ before) h (codes "PS/") (codes "PC/")
head_generic_of before h active depth_is marked num missing =
    let path : head_path h ≡ codes "PS/" ++ hex4 num.n = rw (marked, num.same) refl in
    let y = rw (active, depth_is, marked, num.same) at missing in
    record { n = num.n; in_range = num.in_range; path = path; told = told_on before h (codes "PC/" ++ hex4 num.n) (second_test _ y) }

head_generic : (before : List (List ℕ)) (h : List ℕ) → is_idle h ≡ false → depth h ≡ 0 → mark h ≡ Generics → IsClean before h → Head4 (h ∷ before) h (codes "PS/") (codes "PC/")
head_generic before h active depth_is marked c =
    let x = rw (active, depth_is, marked) at c.id in
    head_generic_of before h active depth_is marked (whole4 (drop 2 h) (second_test _ x)) c.vendor

-- a line of depth 1 below a head of devices
record One4 (before : List (List ℕ)) (line h top vendor : List ℕ) : Type 0 where
  n : ℕ
  d : ℕ
  n_range : n < 2 ^ 16
  d_range : d < 2 ^ 16
  path : head_path h ≡ top ++ hex4 n
  digits : map to_ascii_lowercase (take 4 (inside line)) ≡ hex4 d
  told : IsToldBy before (vendor ++ hex4 n)

above_one : (line : List ℕ) → is_above 1 line ≡ true → (is_idle line ≡ false) × (depth line ≡ 0)
above_one line h = let p = both_true _ _ h in (not_true _ p.0, grind (arith, nat_tests, p.1))

one_device : (before : List (List ℕ)) (line h : List ℕ) → AreGood before → IsClean before line → is_idle line ≡ false → depth line ≡ 1 → above 1 before ≡ Some h → mark h ≡ Devices → One4 before line h (codes "PC/") (codes "PC/")
one_device before line h good c active depth_is is_head marked =
    let near = nearest 1 before h good is_head in
    let a = above_one h near.is_near in
    let head = head_device near.before h a.0 a.1 marked (clean near.before h near.good.0) in
    let num = ids4 (inside line) (nested_ids before line h (4 ∷ []) Devices 1 active depth_is refl is_head marked refl refl c) in
    record { n = head.n; d = num.n; n_range = head.in_range; d_range = num.in_range; path = head.path; digits = num.same; told = near.told (codes "PC/" ++ hex4 head.n) head.told }

pub kept_device : (before : List (List ℕ)) (line h : List ℕ) → AreGood before → IsClean before line → is_idle line ≡ false → depth line ≡ 1 → above 1 before ≡ Some h → mark h ≡ Devices → IsKept before (path_at before line)
kept_device before line h good c active depth_is is_head marked =
    let one = one_device before line h good c active depth_is is_head marked in
    record {
      p = Device one.n one.d;
      in_range = (one.n_range, one.d_range);
      same = rw (depth_is, is_head, one.path, marked, one.digits) refl;
      parent = one.told;
    }

pub kept_generic : (before : List (List ℕ)) (line h : List ℕ) → AreGood before → IsClean before line → is_idle line ≡ false → depth line ≡ 1 → above 1 before ≡ Some h → mark h ≡ Generics → IsKept before (path_at before line)
kept_generic before line h good c active depth_is is_head marked =
    let near = nearest 1 before h good is_head in
    let a = above_one h near.is_near in
    let head = head_generic near.before h a.0 a.1 marked (clean near.before h near.good.0) in
    let num = ids4 (inside line) (nested_ids before line h (4 ∷ []) Generics 1 active depth_is refl is_head marked refl refl c) in
    record {
      p = Generic head.n num.n;
      in_range = (head.in_range, num.in_range);
      same = rw (depth_is, is_head, head.path, marked, num.same) refl;
      parent = near.told (codes "PC/" ++ hex4 head.n) head.told;
    }

-- the open line of depth 1
pub record Upper (before : List (List ℕ)) (line : List ℕ) : Type 0 where
  pub upper : List ℕ
  pub is_upper : above 2 before ≡ Some upper
  pub nested : depth upper ≡ 1

depth_one : (d : ℕ) → eqb (suc d) 2 ≡ true → d ≡ 1
depth_one d h = grind (arith, nat_tests)

pub has_upper : (before : List (List ℕ)) (line : List ℕ) → is_entry before line ≡ true → depth line ≡ 2 → IsClean before line → Upper before line
has_upper before line entry depth_is c =
    let x = rw (entry, depth_is) at c.parent in
    elim (above 2 before) as (λ o. above 2 before ≡ o → is_none (if_depth 2 o) ≡ false → Upper before line) [
      | None ↦ λ e h. absurd (true≢false h)
      | Some u ↦ λ e h.
          elim (eqb (suc (depth u)) 2) as (λ b. eqb (suc (depth u)) 2 ≡ b → is_none (cond b (Some u) None) ≡ false → Upper before line) [
            | true ↦ λ t _. record { upper = u; is_upper = e; nested = depth_one (depth u) t }
            | false ↦ λ t n. absurd (true≢false n)
          ] refl h
    ] refl x

-- the lines of an upper line are clean, and its head is the same
pub above_two : (line : List ℕ) → is_above 2 line ≡ true → is_idle line ≡ false
above_two line h = not_true _ (both_true _ _ h).0

kept_subsystem_of : (before : List (List ℕ)) (line h u : List ℕ) (n d : ℕ) → is_idle line ≡ false → depth line ≡ 2 → above 1 before ≡ Some h → above 2 before ≡ Some u → depth u ≡ 1 → mark h ≡ Devices → n < 2 ^ 16 → d < 2 ^ 16 → head_path h ≡ codes "PC/" ++ hex4 n → map to_ascii_lowercase (take 4 (inside u)) ≡ hex4 d → IsToldBy before (path_text (Device n d)) → Number4 (map to_ascii_lowercase (take 4 (inside line))) → Number4 (map to_ascii_lowercase (take 4 (drop 5 (inside line)))) → IsKept before (path_at before line)
kept_subsystem_of before line h u n d active depth_is is_head is_upper nested marked p q path digits told x y =
    let upper_is : parent_line before line ≡ Some u = rw (depth_is, is_upper, nested) refl in
    record {
      p = Subsystem n d x.n y.n;
      in_range = (p, q, x.in_range, y.in_range);
      same = rw (upper_is, depth_is, nested, is_head, path, marked, digits, x.same, y.same) refl;
      parent = told;
    }

pub kept_vendor : (before : List (List ℕ)) (line : List ℕ) → is_idle line ≡ false → depth line ≡ 0 → mark line ≡ Devices → IsClean before line → IsKept before (path_at before line)
kept_vendor before line active depth_is marked c =
    let head = head_device before line active depth_is marked c in
    record { p = Vendor head.n; in_range = head.in_range; same = rw (depth_is, head.path) refl; parent = tt }

-- the same below a class
record Head2 (lines : List (List ℕ)) (h : List ℕ) : Type 0 where
  n : ℕ
  in_range : n < 2 ^ 8
  path : head_path h ≡ codes "PD/" ++ hex2 n
  told : IsToldBy lines (codes "PD/" ++ hex2 n)

head_class_of : (before : List (List ℕ)) (h : List ℕ) → is_idle h ≡ false → depth h ≡ 0 → mark h ≡ Classes → Number2 (map to_ascii_lowercase (take 2 (drop 2 h))) → Head2 (h ∷ before) h
head_class_of before h active depth_is marked num =
    let entry : is_entry before h ≡ true = rw (active, depth_is, marked) refl in
    let path : head_path h ≡ codes "PD/" ++ hex2 num.n = rw (marked, num.same) refl in
    let same : path_at before h ≡ head_path h = rw depth_is refl in
    record { n = num.n; in_range = num.in_range; path = path; told = subst (λ (k : List ℕ). IsToldBy (h ∷ before) k) (same ∙ path) (told_self before h entry) }

head_class : (before : List (List ℕ)) (h : List ℕ) → is_idle h ≡ false → depth h ≡ 0 → mark h ≡ Classes → IsClean before h → Head2 (h ∷ before) h
head_class before h active depth_is marked c =
    let x = rw (active, depth_is, marked) at c.id in
    head_class_of before h active depth_is marked (ids2 (drop 2 h) (first_test _ x))

pub kept_class : (before : List (List ℕ)) (line : List ℕ) → is_idle line ≡ false → depth line ≡ 0 → mark line ≡ Classes → IsClean before line → IsKept before (path_at before line)
kept_class before line active depth_is marked c =
    let head = head_class before line active depth_is marked c in
    record { p = Class head.n; in_range = head.in_range; same = rw (depth_is, head.path) refl; parent = tt }

record One2 (before : List (List ℕ)) (line h : List ℕ) : Type 0 where
  n : ℕ
  d : ℕ
  n_range : n < 2 ^ 8
  d_range : d < 2 ^ 8
  path : head_path h ≡ codes "PD/" ++ hex2 n
  digits : map to_ascii_lowercase (take 2 (inside line)) ≡ hex2 d
  told : IsToldBy before (codes "PD/" ++ hex2 n)

one_class : (before : List (List ℕ)) (line h : List ℕ) → AreGood before → IsClean before line → is_idle line ≡ false → depth line ≡ 1 → above 1 before ≡ Some h → mark h ≡ Classes → One2 before line h
one_class before line h good c active depth_is is_head marked =
    let near = nearest 1 before h good is_head in
    let a = above_one h near.is_near in
    let head = head_class near.before h a.0 a.1 marked (clean near.before h near.good.0) in
    let num = ids2 (inside line) (nested_ids before line h (2 ∷ []) Classes 1 active depth_is refl is_head marked refl refl c) in
    record { n = head.n; d = num.n; n_range = head.in_range; d_range = num.in_range; path = head.path; digits = num.same; told = near.told (codes "PD/" ++ hex2 head.n) head.told }

pub kept_subclass : (before : List (List ℕ)) (line h : List ℕ) → AreGood before → IsClean before line → is_idle line ≡ false → depth line ≡ 1 → above 1 before ≡ Some h → mark h ≡ Classes → IsKept before (path_at before line)
kept_subclass before line h good c active depth_is is_head marked =
    let one = one_class before line h good c active depth_is is_head marked in
    record {
      p = Subclass one.n one.d;
      in_range = (one.n_range, one.d_range);
      same = rw (depth_is, is_head, one.path, marked, one.digits) refl;
      parent = one.told;
    }

kept_progif_of : (before : List (List ℕ)) (line h u : List ℕ) (n d : ℕ) → is_idle line ≡ false → depth line ≡ 2 → above 1 before ≡ Some h → above 2 before ≡ Some u → depth u ≡ 1 → mark h ≡ Classes → n < 2 ^ 8 → d < 2 ^ 8 → head_path h ≡ codes "PD/" ++ hex2 n → map to_ascii_lowercase (take 2 (inside u)) ≡ hex2 d → IsToldBy before (path_text (Subclass n d)) → Number2 (map to_ascii_lowercase (take 2 (inside line))) → IsKept before (path_at before line)
kept_progif_of before line h u n d active depth_is is_head is_upper nested marked p q path digits told x =
    let upper_is : parent_line before line ≡ Some u = rw (depth_is, is_upper, nested) refl in
    record {
      p = ProgIf n d x.n;
      in_range = (p, q, x.in_range);
      same = rw (upper_is, depth_is, nested, is_head, path, marked, digits, x.same) refl;
      parent = told;
    }

-- an upper line below a known head
record UpperTold (before : List (List ℕ)) (u h : List ℕ) : Type 0 where
  earlier : List (List ℕ)
  good : AreGood earlier
  clean_is : IsClean earlier u
  active : is_idle u ≡ false
  is_head : above 1 earlier ≡ Some h
  told : (path : List ℕ) → IsToldBy (u ∷ earlier) path → IsToldBy before path

upper_told : (before : List (List ℕ)) (u h : List ℕ) → AreGood before → above 2 before ≡ Some u → depth u ≡ 1 → above 1 before ≡ Some h → UpperTold before u h
upper_told before u h good is_upper nested is_head =
    let near = nearest 2 before u good is_upper in
    let far : is_above 1 u ≡ false = rw (above_two u near.is_near, nested) refl in
    let skipped : above 1 (u ∷ near.before) ≡ above 1 near.before = ap (λ b. cond b (Some u) (above 1 near.before)) far in
    record { earlier = near.before; good = near.good.1; clean_is = clean near.before u near.good.0; active = above_two u near.is_near; is_head = sym skipped ∙ near.same 1 (omega arith) ∙ is_head; told = near.told }

pub kept_subsystem : (before : List (List ℕ)) (line h u : List ℕ) → AreGood before → IsClean before line → is_idle line ≡ false → depth line ≡ 2 → above 1 before ≡ Some h → above 2 before ≡ Some u → depth u ≡ 1 → mark h ≡ Devices → IsKept before (path_at before line)
kept_subsystem before line h u good c active depth_is is_head is_upper nested marked =
    let t = upper_told before u h good is_upper nested is_head in
    let one = one_device t.earlier u h t.good t.clean_is t.active nested t.is_head marked in
    let entry : is_entry t.earlier u ≡ true = rw (t.active, nested, t.is_head, marked) refl in
    let same : path_at t.earlier u ≡ path_text (Device one.n one.d) = rw (nested, t.is_head, one.path, marked, one.digits) refl in
    let told : IsToldBy before (path_text (Device one.n one.d)) = t.told (path_text (Device one.n one.d)) (subst (λ (k : List ℕ). IsToldBy (u ∷ t.earlier) k) same (told_self t.earlier u entry)) in
    let ids = both_true (begins_with_id 4 (inside line)) (begins_with_id 4 (drop 5 (inside line)) && true) (nested_ids before line h (4 ∷ 4 ∷ []) Devices 2 active depth_is refl is_head marked refl refl c) in
    kept_subsystem_of before line h u one.n one.d active depth_is is_head is_upper nested marked one.n_range one.d_range one.path one.digits told (id4 (inside line) ids.0) (id4 (drop 5 (inside line)) (both_true (begins_with_id 4 (drop 5 (inside line))) true ids.1).0)

pub kept_progif : (before : List (List ℕ)) (line h u : List ℕ) → AreGood before → IsClean before line → is_idle line ≡ false → depth line ≡ 2 → above 1 before ≡ Some h → above 2 before ≡ Some u → depth u ≡ 1 → mark h ≡ Classes → IsKept before (path_at before line)
kept_progif before line h u good c active depth_is is_head is_upper nested marked =
    let t = upper_told before u h good is_upper nested is_head in
    let one = one_class t.earlier u h t.good t.clean_is t.active nested t.is_head marked in
    let entry : is_entry t.earlier u ≡ true = rw (t.active, nested, t.is_head, marked) refl in
    let same : path_at t.earlier u ≡ path_text (Subclass one.n one.d) = rw (nested, t.is_head, one.path, marked, one.digits) refl in
    let told : IsToldBy before (path_text (Subclass one.n one.d)) = t.told (path_text (Subclass one.n one.d)) (subst (λ (k : List ℕ). IsToldBy (u ∷ t.earlier) k) same (told_self t.earlier u entry)) in
    kept_progif_of before line h u one.n one.d active depth_is is_head is_upper nested marked one.n_range one.d_range one.path one.digits told (ids2 (inside line) (nested_ids before line h (2 ∷ []) Classes 2 active depth_is refl is_head marked refl refl c))
