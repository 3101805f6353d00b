-- What a line without a fault keeps, and the lines that it looks back at.
use Rattle.std.proofs.Common.{◌≡◌, ℕ, ◌≤◌, Bool, true, false, cond, not, ◌&&◌, ltb, List, [], ◌∷◌, ◌++◌, Option, Some, None, refl, sym, ap, subst, ◌∙◌, arith}
use mathlib.Core.Bool.{false≢true, true≢false}
use Rattle.std.specs.Prelude.{IsSome, is_some, unwrap_or}
use Rattle.std.specs.FinMap.Entries.{find as value_at}
use Rattle.std.specs.Ordering.{is_eq}
use Rattle.std.proofs.lemmas.Bool.Decides.{nat_tests}
use Rattle.pid_file.specs.declared.fault_kind.LineKind.{LineKind}
use Rattle.pid_file.specs.declared.fault_kind.LineKind.TheVariants.{NotUtf8, TooDeep, NoParent, BadId, NoName, BadName, Duplicate, VendorMissing}
use Rattle.pid_file.specs.Marks.{is_idle, depth}
use Rattle.pid_file.specs.Faults.{has, fault_of}
use Rattle.pid_file.specs.Reading.{AreGood}
use Rattle.pid_file.specs.LookingBack.{is_above, above, entries_back, is_entry, path_at, name_at}
use Rattle.pid_file.specs.Trees.{text_cmp}

cond_none : (b : Bool) (k : LineKind) (r : Option LineKind) → cond b (Some k) r ≡ None → (b ≡ false) × (r ≡ None)
cond_none true k r h = absurd (true≢false (ap is_some h))
cond_none false k r h = (refl, h)

pub record IsClean (earlier : List (List ℕ)) (line : List ℕ) : Type 0 where
  pub shallow : has TooDeep earlier line ≡ false
  pub parent : has NoParent earlier line ≡ false
  pub id : has BadId earlier line ≡ false
  pub name : has BadName earlier line ≡ false
  pub once : has Duplicate earlier line ≡ false
  pub vendor : has VendorMissing earlier line ≡ false

pub clean : (earlier : List (List ℕ)) (line : List ℕ) → fault_of earlier line ≡ None → IsClean earlier line
clean earlier line h =
    let a = cond_none (has NotUtf8 earlier line) NotUtf8 _ h in
    let b = cond_none (has TooDeep earlier line) TooDeep _ a.1 in
    let c = cond_none (has NoParent earlier line) NoParent _ b.1 in
    let d = cond_none (has BadId earlier line) BadId _ c.1 in
    let e = cond_none (has NoName earlier line) NoName _ d.1 in
    let f = cond_none (has BadName earlier line) BadName _ e.1 in
    let g = cond_none (has Duplicate earlier line) Duplicate _ f.1 in
    let i = cond_none (has VendorMissing earlier line) VendorMissing _ g.1 in
    record { shallow = b.0; parent = c.0; id = d.0; name = f.0; once = g.0; vendor = i.0 }

-- what is told stays told
abbrev pub IsToldBy : List (List ℕ) → List ℕ → Type 0
IsToldBy earlier path = IsSome (value_at text_cmp path (entries_back earlier))

pub told_on : (earlier : List (List ℕ)) (line path : List ℕ) → IsToldBy earlier path → IsToldBy (line ∷ earlier) path
told_on earlier line path h =
    elim (is_entry earlier line) as (λ b. IsSome (value_at text_cmp path (cond b ((path_at earlier line, name_at earlier line) ∷ []) [] ++ entries_back earlier))) [
      | true ↦ elim (is_eq (text_cmp path (path_at earlier line))) as (λ b. IsSome (cond b (Some (name_at earlier line)) (value_at text_cmp path (entries_back earlier)))) [ true ↦ refl | false ↦ h ]
      | false ↦ h
    ]

-- the nearest line of a depth below n, with the lines before it
pub record Nearest (n : ℕ) (earlier : List (List ℕ)) (line : List ℕ) : Type 0 where
  pub before : List (List ℕ)
  pub good : AreGood (line ∷ before)
  pub is_near : is_above n line ≡ true
  pub told : (path : List ℕ) → IsToldBy (line ∷ before) path → IsToldBy earlier path
  pub same : (m : ℕ) → m ≤ n → above m (line ∷ before) ≡ above m earlier

pub not_above : (line : List ℕ) (m n : ℕ) → m ≤ n → is_above n line ≡ false → is_above m line ≡ false
not_above line m n le h = elim (is_idle line) as (λ b. (not b && ltb (depth line) n) ≡ false → (not b && ltb (depth line) m) ≡ false) [
  | true ↦ λ _. refl
  | false ↦ λ h. grind (arith, nat_tests)
] h

some_same : (a b : List ℕ) → Some a ≡ Some b → a ≡ b
some_same a b h = ap (λ (o : Option (List ℕ)). unwrap_or o []) h

pub nearest : (n : ℕ) (earlier : List (List ℕ)) (line : List ℕ) → AreGood earlier → above n earlier ≡ Some line → Nearest n earlier line
nearest n [] line good h = absurd (false≢true (ap is_some h))
nearest n (l ∷ earlier) line good h =
    elim (is_above n l) as (λ b. is_above n l ≡ b → cond b (Some l) (above n earlier) ≡ Some line → Nearest n (l ∷ earlier) line) [
      | true ↦ λ e h.
          let same : l ≡ line = some_same l line h in
          subst (λ (k : List ℕ). Nearest n (l ∷ earlier) k) same (record { before = earlier; good = good; is_near = e; told = λ path t. t; same = λ m le. refl })
      | false ↦ λ e h.
          let rest = nearest n earlier line good.1 h in
          record {
            before = rest.before;
            good = rest.good;
            is_near = rest.is_near;
            told = λ path t. told_on earlier l path (rest.told path t);
            same = λ m le. let far : is_above m l ≡ false = not_above l m n le e in rest.same m le ∙ sym (ap (λ b. cond b (Some l) (above m earlier)) far);
          }
    ] refl h
