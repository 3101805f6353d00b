-- Line ends and nothing else: what the code scans, and what the definition says of the bytes.
use Rattle.std.proofs.Common.{◌≡◌, ℕ, Bool, true, false, List, [], ◌∷◌, ◌++◌, refl, sym, ap, ◌∙◌, inl, inr}
use Rattle.std.specs.Prelude.{◌==◌, not, ◌&&◌, if◌then◌else◌, ◌⊎◌}
use Rattle.std.proofs.lemmas.Bool.{eqb-true, eq-eqb}
use Rattle.std.proofs.lemmas.List.Elements.{All-cons, All-nil, All-head, All-tail}
use Rattle.pid_http_stream.specs.Leftovers.{AreLineEnds}
use Rattle.pid_http_stream.specs.Steps.LineScans.{blank_after}

-- what is scanned behind a CR does not begin with another
abbrev Begins : Bool → List ℕ → Type 0
Begins cr s = cr ≡ true → (behind : List ℕ) → ¬ (s ≡ 13 ∷ behind)

abbrev Pairs : List ℕ → Type 0
Pairs s = (front behind : List ℕ) → ¬ (s ≡ front ++ 13 ∷ 13 ∷ behind)

abbrev Ends : ℕ → Type 0
Ends b = (b ≡ 13) ⊎ (b ≡ 10)

none_in_nil : Pairs []
none_in_nil [] behind h = cc
none_in_nil (x ∷ front) behind h = cc

pairs_cons : (b : ℕ) (s : List ℕ) → Pairs s → (b ≡ 13 → (behind : List ℕ) → ¬ (s ≡ 13 ∷ behind)) → Pairs (b ∷ s)
pairs_cons b s later first [] behind h = let one : b ≡ 13 = cc in let rest : s ≡ 13 ∷ behind = cc in first one behind rest
pairs_cons b s later first (x ∷ front) behind h = let rest : s ≡ front ++ 13 ∷ 13 ∷ behind = cc in later front behind rest

both : (x y : Bool) → (x && y) ≡ true → (x ≡ true) × (y ≡ true)
both true true e = (refl, refl)
both true false e = cc
both false true e = cc
both false false e = cc

not_true : (x : Bool) → not x ≡ true → x ≡ false
not_true true e = cc
not_true false e = refl

ten_not_thirteen : (b : ℕ) → b ≡ 10 → b ≡ 13 → ⊥
ten_not_thirteen b e f = let same : 10 ≡ 13 = sym e ∙ f in cc

true_not_false : (x : Bool) → x ≡ true → x ≡ false → ⊥
true_not_false x e f = let same : true ≡ false = sym e ∙ f in cc

lf_first : (cr : Bool) (b : ℕ) (s : List ℕ) → b ≡ 10 → AreLineEnds s → AreLineEnds (b ∷ s) × Begins cr (b ∷ s)
lf_first cr b s e later = (
  record {
    ends = All-cons (λ (y : ℕ). Ends y) b s (inr e) later.ends;
    paired = pairs_cons b s later.paired (λ f. absurd (ten_not_thirteen b e f));
  },
  λ c behind h. let one : b ≡ 13 = cc in ten_not_thirteen b e one,
)

cr_first : (cr : Bool) (b : ℕ) (s : List ℕ) → b ≡ 13 → cr ≡ false → AreLineEnds s × Begins true s → AreLineEnds (b ∷ s) × Begins cr (b ∷ s)
cr_first cr b s e off later = (
  record {
    ends = All-cons (λ (y : ℕ). Ends y) b s (inl e) later.0.ends;
    paired = pairs_cons b s later.0.paired (λ f. later.1 refl);
  },
  λ c. absurd (true_not_false cr c off),
)

says_next : (cr : Bool) (b : ℕ) (s : List ℕ) → ((c : Bool) → blank_after c s ≡ true → AreLineEnds s × Begins c s) → blank_after cr (b ∷ s) ≡ true → AreLineEnds (b ∷ s) × Begins cr (b ∷ s)
says_next cr b s on e = first (b == 10) refl
  where
    second : (y : Bool) → (b == 13 && not cr) ≡ y → (if y then blank_after true s else false) ≡ true → AreLineEnds (b ∷ s) × Begins cr (b ∷ s)
    second true is h = let parts = both (b == 13) (not cr) is in cr_first cr b s (eqb-true b 13 parts.0) (not_true cr parts.1) (on true h)
    second false is h = absurd (true_not_false false h refl)

    first : (x : Bool) → (b == 10) ≡ x → AreLineEnds (b ∷ s) × Begins cr (b ∷ s)
    first true is = lf_first cr b s (eqb-true b 10 is) (on false (rw is at e)).0
    first false is = second (b == 13 && not cr) refl (rw is at e)

-- what the scan passes are line ends
pub says : (cr : Bool) (s : List ℕ) → blank_after cr s ≡ true → AreLineEnds s × Begins cr s
says cr [] e = (record { ends = All-nil _; paired = none_in_nil }, λ c behind h. cc)
says cr (b ∷ s) e = says_next cr b s (λ c. says c s) e

tail_of : (b : ℕ) (s : List ℕ) → AreLineEnds (b ∷ s) → AreLineEnds s
tail_of b s x = record {
  ends = All-tail (λ (y : ℕ). Ends y) b s x.ends;
  paired = λ front behind h. x.paired (b ∷ front) behind (ap (λ (l : List ℕ). b ∷ l) h);
}

at_lf : (cr : Bool) (b : ℕ) (s : List ℕ) → b ≡ 10 → blank_after false s ≡ true → blank_after cr (b ∷ s) ≡ true
at_lf cr b s e h = rw (eq-eqb b 10 e) h

at_cr : (b : ℕ) (s : List ℕ) → b ≡ 13 → blank_after true s ≡ true → blank_after false (b ∷ s) ≡ true
at_cr b s e h = rw e h

pub nothing_before : (s : List ℕ) → Begins false s
nothing_before s c = absurd (true_not_false false c refl)

scanned_next : (cr : Bool) (b : ℕ) (s : List ℕ) → ((c : Bool) → Begins c s → blank_after c s ≡ true) → AreLineEnds (b ∷ s) → Begins cr (b ∷ s) → Ends b → blank_after cr (b ∷ s) ≡ true
scanned_next cr b s on x f (inr lf) = at_lf cr b s lf (on false (nothing_before s))
scanned_next true b s on x f (inl cr13) = absurd (f refl s (ap (λ (y : ℕ). y ∷ s) cr13))
scanned_next false b s on x f (inl cr13) = at_cr b s cr13 (on true (λ c behind h. x.paired [] behind (λ i. cr13 i ∷ h i)))

-- and all of these pass
pub scanned : (cr : Bool) (s : List ℕ) → AreLineEnds s → Begins cr s → blank_after cr s ≡ true
scanned cr [] x f = refl
scanned cr (b ∷ s) x f = scanned_next cr b s (λ c. scanned c s (tail_of b s x)) x f (All-head (λ (y : ℕ). Ends y) b s x.ends)

pub all_scanned : (s : List ℕ) → AreLineEnds s → blank_after false s ≡ true
all_scanned s x = scanned false s x (nothing_before s)

-- the test by the scan is that of the definition
pub all_line_ends : (s : List ℕ) → blank_after false s ≡ true → AreLineEnds s
all_line_ends s e = (says false s e).0

pub no_line_ends : (s : List ℕ) → blank_after false s ≡ false → ¬ (AreLineEnds s)
no_line_ends s e x = true_not_false (blank_after false s) (all_scanned s x) e
