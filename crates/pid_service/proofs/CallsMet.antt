-- What a registry exports and answers to look-ups, as one under moderation.
use Rattle.std.proofs.Common.{◌≡◌, ◌↔◌, ℕ, Bool, true, false, List, [], ◌∷◌, ◌++◌, Option, Result, Ok, Err, IfOk, refl, sym, ap, subst, ◌∙◌, append_assoc}
use Rattle.std.specs.Prelude.{IsErrOf}
use Rattle.pid_service.proofs.Words.{Answer, answer_of, Args, BadFlags, ended, ExportFault, ExportsText, ExportsTree, Failed, header, History, is_bad, IsWholeFront, Items, items_of, lines_after, LooksUp, LookupRefusal, MayGive, Names, open_part, print, Refusal, text_behind, text_of_items, tree_of, TreeMap}
use Rattle.pid_service.proofs.ItemLines.{last_path, text_joined}
use Rattle.pid_lookup.specs.declared.answering.LookupRefusal.TheVariants.{Memory}
use Rattle.pid_service.proofs.Keeping.{true_not}
use Rattle.pid_file.proofs.Cuts.{open_line, open_more, open_no_lf}
use Rattle.pid_file.proofs.LineLemmas.{by_bool}
use Rattle.pid_service_laws.specs.declared.faults.ExportFault.TheVariants.{Refused, Write}

-- no line is open behind lines that each have their LF
none_open : (lines : List (List ℕ)) → open_part (ended lines) ≡ []
none_open [] = refl
none_open (line ∷ lines) = open_more line (10 ∷ ended lines) ∙ (open_line (open_part line) (ended lines) (open_no_lf line) ∙ none_open lines)

-- the text of some items is whole lines of the text of these and more
whole_items : (front behind : Items) → IsWholeFront (text_of_items (front ++ behind)) (text_of_items front)
whole_items front behind =
    let rest = text_behind (last_path [] front) behind in record {
      behind = rest;
      is = ap (λ (l : List ℕ). header ++ 10 ∷ l) (text_joined [] front behind) ∙ sym (append_assoc header (10 ∷ text_behind [] front) rest);
      whole = none_open (header ∷ lines_after [] front);
    }

-- an export of a registry
pub exported : {X : Type 0} (result : Result X ExportFault) (old new : Option (List ℕ)) (h : History) → text_of_items (items_of h) ≡ print (tree_of h) → ExportsTree result old new h → ExportsText result old new (print (tree_of h))
exported (Ok x) old new h same told = told
exported (Err (Write fault)) old new h same told = told
exported (Err (Refused e)) old new h same (fault, (front, behind, is, told)) = (
  fault,
  record { front = text_of_items front; whole = subst (λ (text : List ℕ). IsWholeFront text (text_of_items front)) (ap text_of_items (sym is) ∙ same) (whole_items front behind); told = told },
)

-- flags are good or bad

-- a look-up of a live registry
pub looked_up : (result : Result Answer (LookupRefusal Refusal)) (tree : TreeMap) (flags : ℕ) (args : Args) (size : ℕ) (live : Bool) → live ≡ true
    → IfOk result (λ found. found ≡ answer_of tree flags args size) → (live ≡ true → IsErrOf result BadFlags ↔ (is_bad flags ≡ true)) → ((e : Refusal) → IsErrOf result (Names e) → MayGive live e)
    → LooksUp result tree flags args size
looked_up (Ok found) tree flags args size live lives told bad fault = (by_bool (is_bad flags) (λ is. let other = (bad lives).1 is in absurd cc), told)
looked_up (Err BadFlags) tree flags args size live lives told bad fault = (bad lives).0 refl
looked_up (Err (Names e)) tree flags args size live lives told bad fault = (fault e refl).alive lives
looked_up (Err Memory) tree flags args size live lives told bad fault = tt

-- what a registry that has failed may give
pub failed_gives : (live : Bool) → live ≡ false → (is e : Refusal) → is ≡ Failed → is ≡ e → MayGive live e
failed_gives live off is e failed same = record { alive = λ on. true_not live on off; failed = λ still. sym same ∙ failed }
