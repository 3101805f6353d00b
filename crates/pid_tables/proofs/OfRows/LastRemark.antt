-- The greatest place of the remarks on a submission is how many there are.
use Rattle.std.proofs.Common.{◌≡◌, ◌⊎◌, inl, inr, ℕ, zero, suc, ◌≤◌, ℤ, pos, List, [], ◌∷◌, length, true, false, Some, Ordering, Less, Equal, Greater, is_gt, refl, sym, ap, subst, ◌∙◌, arith, codes}
use Rattle.sqlite.specs.declared.types.Value.TheVariants.{Int}
use Rattle.sqlite.specs.Term.{Term, col}
use Rattle.sqlite.specs.Listing.{understood, reads_listing}
use Rattle.sqlite.specs.Command.TheVariants.{Select}
use Rattle.sqlite.specs.Collation.TheVariants.{Binary}
use Rattle.sqlite.proofs.Callers.{IsPlain, command_of}
use Rattle.sqlite_tied.specs.Compute.{everything}
use Rattle.sqlite_value.specs.declared.keys.Key.{Key}
use Rattle.std.specs.Ordering.{ordering_then}
use Rattle.std.proofs.lemmas.Bool.{and_parts, and_from}
use Rattle.std.proofs.lemmas.Bool.Decides.{nat_tests}
use Rattle.std.proofs.lemmas.Int.{ints}
use Rattle.std.proofs.lemmas.Option.{slice_get_within}
use Rattle.sqlite.specs.declared.types.Value.TheVariants.{Null}
use Rattle.sqlite.specs.Order.{Row, column, value_cmp}
use Rattle.sqlite.specs.Query.{IsAnswer}
use Rattle.sqlite.specs.Program.{overlay}
use Rattle.sqlite.specs.State.{State, Shown}
use Rattle.sqlite.proofs.Callers.{reads_as}
use Rattle.sqlite_schema.specs.Rules.{equal}
use Rattle.sqlite_rules.specs.Lists.{Has}
use Rattle.sqlite_rules.proofs.ListLemmas.{has_filtered, has_kept}
use Rattle.sqlite_value.proofs.OrderLemmas.{value_cmp-Int}
use Rattle.pid_moderation.specs.Views.{Views, Remark}
use Rattle.pid_tables.specs.Rows.Shows.{Counts, Numbers, ShowsKeeping, counted_from_one}
use Rattle.pid_tables.specs.Rows.TableRows.{number, remark_row}
use Rattle.pid_tables.proofs.OfRows.MapLemmas.{none_over}
use Rattle.pid_tables.proofs.OfRows.Keys.{pos_same}
use Rattle.pid_tables.proofs.OfRows.Select.{passing, shown, integers_equal, integer_equal}
use Rattle.pid_tables.specs.declared.rows.schema_version.Version.{Version}
use Rattle.pid_tables.specs.Rows.Schema.{schema_of}
use Rattle.pid_tables.proofs.OfRows.Statements.{program, first_one, IsAlone, command_alone, plain_alone}
use Rattle.pid_tables.proofs.OfRows.KeyTexts.{by_first}
use Rattle.pid_tables.proofs.OfRows.FirstLemmas.{HasNone, IsFirst, first_found}

abbrev pub select_last : List ℕ
select_last = codes "SELECT seq FROM remark WHERE num = ?1 ORDER BY seq DESC LIMIT 1"

abbrev pub falling : List (Term × Key)
falling = (col 1 2, record { collation = Binary; descending = true }) ∷ []

pub select_last_alone : (version : Version) → IsAlone (schema_of version) select_last (Select (program (first_one 7 by_first (col 1 2 ∷ []) falling)) (codes "seq" ∷ [])) 1
unfolding understood everything
select_last_alone version = refl

pub select_last_is : (version : Version) → command_of (understood (schema_of version) select_last) ≡ Select (program (first_one 7 by_first (col 1 2 ∷ []) falling)) (codes "seq" ∷ [])
select_last_is version = command_alone (schema_of version) select_last _ 1 (select_last_alone version)

pub select_last_plain : (version : Version) → IsPlain (understood (schema_of version) select_last)
select_last_plain version = plain_alone (schema_of version) select_last _ 1 (select_last_alone version)

pub select_last_unlisted : (version : Version) → reads_listing (schema_of version) select_last ≡ false
unfolding understood everything
select_last_unlisted version = refl

-- ---- what it answers

unwound : (o : Ordering) → is_gt (ordering_then o Equal) ≡ false → is_gt o ≡ false
unwound Less h = h
unwound Equal h = h
unwound Greater h = h

at_most : (a b : ℕ) → is_gt (value_cmp (Int (pos a)) (Int (pos b))) ≡ false → a ≤ b
at_most a b h = let e = sym (ap is_gt (value_cmp-Int (pos a) (pos b))) ∙ h in grind (arith, ints, nat_tests)

same_place : (s l : ℕ) → s ≤ l → l ≤ s → s ≡ l
same_place s l a b = omega arith

place_within : {X : Type 0} (xs : List X) (s : ℕ) (x : X) → counted_from_one s xs ≡ Some x → (1 ≤ s) × (s ≤ length xs)
place_within xs zero x e = absurd (let bad : ⊥ = cc in bad)
place_within xs (suc k) x e = let low = slice_get_within xs k x e in (omega arith, omega arith)

last_there : {X : Type 0} (xs : List X) → 1 ≤ length xs → (x : X) × (counted_from_one (length xs) xs ≡ Some x)
last_there [] h = absurd (omega arith)
last_there (x ∷ []) h = (x, refl)
last_there (x ∷ y ∷ xs) h = let more = last_there (y ∷ xs) (omega arith) in (more.0, more.1)

module _ {version : Version} {numbers : Numbers} (old new : State) (c : Counts) (v : Views) (shows : ShowsKeeping version c numbers old.now v) (n : ℕ) where
  abbrev params : Row
  params = number n ∷ []

  abbrev rows : List Row
  rows = old.now.trees 7

  passes_as : (r : Row) → Has (passing by_first params rows) r → (id : ℤ) × (s : ℕ) × (x : Remark) × (r ≡ remark_row id (n, s) x) × (counted_from_one s (v.remarks n) ≡ Some x)
  passes_as r h =
      let kept = has_filtered _ rows r h in
      let pair = shows.remarks.sound r kept.0 in
      let test : equal Binary (column r 1) (number n) ≡ true = (and_parts _ _ kept.1).0 in
      let same : pair.key.0 ≡ n = pos_same pair.key.0 n (integers_equal (pos pair.key.0) (pos n) (rw pair.is at test)) in
      subst (λ m. (id : ℤ) × (s : ℕ) × (x : Remark) × (r ≡ remark_row id (m, s) x) × (counted_from_one s (v.remarks m) ≡ Some x)) same (pair.id, pair.key.1, pair.value, pair.is, pair.maps)

  has_place : (s : ℕ) (x : Remark) → counted_from_one s (v.remarks n) ≡ Some x → (id : ℤ) × Has (passing by_first params rows) (remark_row id (n, s) x)
  has_place s x is =
      let pair = shows.remarks.complete (n, s) x is in
      (pair.0, has_kept _ rows (remark_row pair.0 (n, s) x) pair.1 (and_from _ _ (integer_equal (pos n)) refl))

  abbrev last : ℕ
  last = length (v.remarks n)

  -- no row where there is no remark, else the row of the last place
  pub last_found : (answer : List Row) → Shown select_last (number n ∷ []) old new answer → ((answer ≡ []) × (last ≡ 0)) ⊎ (answer ≡ (number last ∷ []) ∷ [])
  last_found answer h =
      let got = reads_as select_last params old new (schema_of version) shows.schema _ (select_last_is version) (select_last_plain version) (select_last_unlisted version) answer h in
      let a : IsAnswer (first_one 7 by_first (col 1 2 ∷ []) falling) (overlay old.now.trees []) params answer = got.answer Null in
      elim (subst (λ xs. HasNone 7 by_first (col 1 2 ∷ []) falling params xs answer ⊎ IsFirst 7 by_first (col 1 2 ∷ []) falling params xs answer) (none_over old.now.trees 7)
      (first_found 7 by_first (col 1 2 ∷ []) falling params (overlay old.now.trees []) answer a)) [
        | inl none ↦ inl (none.0, empty last refl none.1)
        | inr first ↦
            let it = passes_as first.row first.there in
            let within = place_within (v.remarks n) it.1 it.2 it.4 in
            let top = last_there (v.remarks n) (omega (arith, within.0, within.1)) in
            let there = has_place last top.0 top.1 in
            let least = first.least (remark_row there.0 (n, last) top.0) there.1 in
            let above : last ≤ it.1 = at_most last it.1 (unwound _ (rw it.3 at least)) in
            inr (first.is ∙ ap (λ r. shown (col 1 2 ∷ []) params r ∷ []) it.3 ∙ ap (λ s. (number s ∷ []) ∷ []) (same_place it.1 last within.1 above))
      ]
    where
      empty : (l : ℕ) → last ≡ l → ((r : Row) → Has (passing by_first params rows) r → ⊥) → l ≡ 0
      empty zero is none = refl
      empty (suc l) is none = absurd (let top = last_there (v.remarks n) (omega (arith, is)) in let there = has_place last top.0 top.1 in none _ there.1)
