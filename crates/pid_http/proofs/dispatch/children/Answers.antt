use Rattle.std.proofs.Common.{◌≡◌, ℕ, List, refl, ap, ◌∙◌, map, Option, None, Some, Ok, arith}
use Rattle.std.specs.Prelude.{Vec, option_map}
use Rattle.std.specs.Option.{option_map_or}
use Rattle.std.specs.declared.alloc.Global.{Global}
use Rattle.pid_ident.specs.PathTexts.{path_text}
use Rattle.pid_file.specs.declared.path.Path.{Path}
use Rattle.pid_moderation.specs.Children.{children_of}
use Rattle.pid_moderation.specs.History.{History}
use Rattle.pid_moderation.specs.Items.{Items, name_at}
use Rattle.pid_moderation.specs.Views.{items_of}
use Rattle.pid_moderation.specs.ItemPairs.{pair_of}
use Rattle.pid_moderation.specs.declared.lists.Item.{Item}
use Rattle.pid_http_stream.specs.Replies.{Answer}
use Rattle.pid_http.specs.declared.api.format.Format.{Format}
use Rattle.pid_http.specs.Api.ItemAnswers.{item_data, child_line}
use Rattle.pid_http.specs.Api.Outcomes.{missing_answer}
use Rattle.pid_http.specs.Api.Replying.{list_answer}
use Rattle.pid_http.specs.Answering.{children_below, Asks}
use Rattle.pid_http.specs.declared.api.question.Question.TheVariants as questions
use Rattle.pid_http.proofs.Meeting.{IsQuestion, answers_by, answers_so, question_met, question_then, refused_call, replied, shows}
use Rattle.pid_http.proofs.dispatch.children.Goals as goal
use Rattle.pid_http.proofs.dispatch.children.Goals.{in-None, in-Some+in-Ok-Some}

abbrev children_or_missing : Format → Option Items → Answer
children_or_missing format items = option_map_or (list_answer item_data child_line format) items (missing_answer format)

question : (above : Option Path) (format : Format) → IsQuestion format (λ (items : Vec Item Global). list_answer item_data child_line format (map pair_of items.items)) (λ h (items : Vec Item Global). Some (map pair_of items.items) ≡ children_below above (items_of h)) (Asks (questions.Children above) format)
question above format = shows format (children_or_missing format) (λ items. Some (map pair_of items.items)) (λ h. children_below above (items_of h)) (questions.Children above) (λ h. refl) refl

-- where nothing is at the path
missing : (path : Path) (format : Format) → IsQuestion format (λ (x : Unit {0}). children_or_missing format None) (λ h (x : Unit {0}). None ≡ children_below (Some path) (items_of h)) (Asks (questions.Children (Some path)) format)
missing path format = shows format (children_or_missing format) (λ x. None) (λ h. children_below (Some path) (items_of h)) (questions.Children (Some path)) (λ h. refl) refl

at_top : (under : Option Path) → under ≡ None → (h : History) (items : Vec Item Global) → map pair_of items.items ≡ children_of (option_map path_text under) (items_of h) → Some (map pair_of items.items) ≡ children_below None (items_of h)
at_top under e h items says = ap Some (says ∙ ap (λ (u : Option Path). children_of (option_map path_text u) (items_of h)) e)

below : (path : Path) (under : Option Path) → under ≡ Some path → (name : List ℕ) (h : History) (items : Vec Item Global) → Some name ≡ name_at (path_text path) (items_of h) → map pair_of items.items ≡ children_of (option_map path_text under) (items_of h)
    → Some (map pair_of items.items) ≡ children_below (Some path) (items_of h)
below path under e name h items is says =
    ap Some (says ∙ ap (λ (u : Option Path). children_of (option_map path_text u) (items_of h)) e)
    ∙ ap (λ (n : Option (List ℕ)). option_map (λ (x : List ℕ). children_of (Some (path_text path)) (items_of h)) n) is

pub returns-in-Ok-None : goal.returns-in-Ok-None
returns-in-Ok-None g c =
    rw c.in-Some.is (replied _ _ _ _ _ _ c.missing_reply.ensures (question_met _ g.met.R.RegistryCalls.lives _ _ (Ok tt) _ _ _ _ (missing c.in-Some.path c.args.format)
    (answers_so _ _ _ None tt _ _ (λ h is. ap (λ (n : Option (List ℕ)). option_map (λ (x : List ℕ). children_of (Some (path_text c.in-Some.path)) (items_of h)) n) is) (rw c.in-Ok-None.field-0-is at c.in-Ok-None.ensures))))

pub returns-in-Err : goal.returns-in-Err
returns-in-Err g c =
    let q = question (Some c.in-Some.path) c.args.format in
    rw c.in-Some.is (replied _ _ _ _ _ _ c.refusal_reply.ensures (refused_call _ g.met.R.RegistryCalls.lives _ _ _ _ c.args.format (Asks (questions.Children (Some c.in-Some.path)) c.args.format) q.refused q.no_command c.in-Err.ensures))

pub returns : goal.returns
returns g c = elim c.match-above.branch [
  | in-None w ↦ (rw w.in-None.is (replied _ _ _ _ _ _ c.list_reply.ensures (question_met _ g.met.R.RegistryCalls.lives _ _ _ _ _ _ _ (question None c.args.format) (answers_by _ _ _ _ _ _ (at_top c.match-above.above (w.above-is ∙ w.in-None.is)) (rw w.registry-is at c.children.ensures)))))
  | in-Some+in-Ok-Some w ↦ (rw w.in-Some.is (replied _ _ _ _ _ _ c.list_reply.ensures
      (question_then _ g.met.R.RegistryCalls.lives _ _ _ _ _ _ _ _ _ _ _ (question (Some w.in-Some.path) c.args.format) (omega arith) (below w.in-Some.path c.match-above.above w.above-is _) (rw w.in-Ok-Some.field-0-is at w.in-Ok-Some.ensures) (rw w.registry-is at c.children.ensures))))
]
