-- A text is its ended pieces, each with its LF, and its open part; in neither is a LF.
use Rattle.std.specs.List.{AllByRecursion, flat_map}
use Rattle.std.proofs.Common.{◌≡◌, ◌≢◌, ℕ, true, false, cond, eqb, List, [], ◌∷◌, ◌++◌, refl, sym, ap, arith}
use Rattle.std.proofs.lemmas.Bool.Decides.{nat_tests}
use Rattle.pid_file.specs.WholeLines.{ended_pieces, open_part, onto_ended, onto_open}

-- a piece and its LF
abbrev ended : List ℕ → List ℕ
ended piece = piece ++ 10 ∷ []

abbrev HasNoLf : List ℕ → Type 0
HasNoLf bytes = AllByRecursion (λ b. b ≢ 10) bytes

is_lf : (b : ℕ) → eqb b 10 ≡ true → b ≡ 10
is_lf b e = grind (arith, nat_tests)

is_not_lf : (b : ℕ) → eqb b 10 ≡ false → b ≢ 10
is_not_lf b e = grind (arith, nat_tests)

pub text_again : (text : List ℕ) → flat_map ended (ended_pieces text) ++ open_part text ≡ text
text_again [] = refl
text_again (b ∷ bs) =
    elim (eqb b 10) as (λ t. eqb b 10 ≡ t → flat_map ended (cond t ([] ∷ ended_pieces bs) (onto_ended b (ended_pieces bs))) ++ cond t (open_part bs) (onto_open b (ended_pieces bs) (open_part bs)) ≡ b ∷ bs) [
      | true ↦ λ e. (λ i. sym (is_lf b e) i ∷ text_again bs i)
      | false ↦ λ e. elim (ended_pieces bs) as (λ ls. flat_map ended ls ++ open_part bs ≡ bs → flat_map ended (onto_ended b ls) ++ onto_open b ls (open_part bs) ≡ b ∷ bs) [
        | [] ↦ λ h. ap (λ l. b ∷ l) h
        | l ∷ ls ↦ λ h. ap (λ l. b ∷ l) h
      ] (text_again bs)
    ] refl

pub ended_without_lf : (text : List ℕ) → AllByRecursion HasNoLf (ended_pieces text)
ended_without_lf [] = tt
ended_without_lf (b ∷ bs) =
    elim (eqb b 10) as (λ t. eqb b 10 ≡ t → AllByRecursion HasNoLf (cond t ([] ∷ ended_pieces bs) (onto_ended b (ended_pieces bs)))) [
      | true ↦ λ e. (tt, ended_without_lf bs)
      | false ↦ λ e. elim (ended_pieces bs) as (λ ls. AllByRecursion HasNoLf ls → AllByRecursion HasNoLf (onto_ended b ls)) [
        | [] ↦ λ h. tt
        | l ∷ ls ↦ λ h. ((is_not_lf b e, h.0), h.1)
      ] (ended_without_lf bs)
    ] refl

pub open_without_lf : (text : List ℕ) → HasNoLf (open_part text)
open_without_lf [] = tt
open_without_lf (b ∷ bs) =
    elim (eqb b 10) as (λ t. eqb b 10 ≡ t → HasNoLf (cond t (open_part bs) (onto_open b (ended_pieces bs) (open_part bs)))) [
      | true ↦ λ e. open_without_lf bs
      | false ↦ λ e. elim (ended_pieces bs) as (λ ls. HasNoLf (onto_open b ls (open_part bs))) [
        | [] ↦ (is_not_lf b e, open_without_lf bs)
        | l ∷ ls ↦ open_without_lf bs
      ]
    ] refl
