use Rattle.std.proofs.Common.{◌∷◌, ◌++◌, [], Some, ap, sym, ◌∙◌, filter, map, take, take_all, append_assoc, append-nil, length, arith}
use Rattle.std.proofs.lemmas.List.{length-map}
use Rattle.std.proofs.lemmas.List.Elements.{filter-append}
use Rattle.pid_ident.specs.PathTexts.{path_text}
use Rattle.pid_tables.specs.Rows.Steps.Answers.{item_shown}
use Rattle.pid_moderation.specs.ItemPairs.{pair_of}
use Rattle.pid_tables.specs.Rows.Steps.Unread.{IsDamagedRow}
use Rattle.pid_tables.proofs.OfRows.CauseLemmas.{passed_on}
use Rattle.pid_tables.proofs.OfRows.ReadBack.{among}
use Rattle.pid_tables.proofs.OfRows.UnreadLemmas.{unread_more}
use Rattle.pid_moderation.specs.WellMade.{AllItems}
use Rattle.pid_moderation.specs.Children.{stands_below}
use Rattle.pid_tables.proofs.OfLists.RowLists.{next_of}
use Rattle.pid_tables.proofs.lists.children.add_children.Goals as goal

pub loop-row-preserved : goal.loop-row-preserved
loop-row-preserved c items is =
    let next = next_of item_shown items c.args.rows.now c.loop-row.row-index c.row-item.result is c.loop-row-test.true in
    c.in_ok-add_child.ensures next.it (c.row-item.is ∙ next.is) ∙ ap (λ l. l ++ filter (λ e. stands_below (Some (path_text c.args.path)) e.0) (next.it ∷ [])) (c.loop-row.invariant items is)
    ∙ append_assoc (map pair_of c.args.kept.now.items) (filter (λ e. stands_below (Some (path_text c.args.path)) e.0) (take c.loop-row.row-index items)) (filter (λ e. stands_below (Some (path_text c.args.path)) e.0) (next.it ∷ []))
    ∙ ap (λ l. map pair_of c.args.kept.now.items ++ l) (sym (filter-append (λ e. stands_below (Some (path_text c.args.path)) e.0) (take c.loop-row.row-index items) (next.it ∷ []))
    ∙ ap (filter (λ e. stands_below (Some (path_text c.args.path)) e.0)) (sym next.more))

pub returns-in_err-add_child : goal.returns-in_err-add_child
returns-in_err-add_child c items is =
    let next = next_of item_shown items c.args.rows.now c.loop-row.row-index c.row-item.result is c.loop-row-test.true in
    passed_on c.from_residual.result _ _ (IsDamagedRow (AllItems items)) c.from_residual.ensures.1
    (unread_more c.in_err-add_child.field-0.0 (λ all. among items next.it all next.there) (c.in_err-add_child.ensures next.it (c.row-item.is ∙ next.is)))

pub loop-row-init : goal.loop-row-init
loop-row-init c items is = sym (append-nil (map pair_of c.args.kept.now.items))

pub returns : goal.returns
returns c items is =
    c.loop-row.invariant items is
    ∙ ap (λ l. map pair_of c.args.kept.now.items ++ filter (λ e. stands_below (Some (path_text c.args.path)) e.0) l)
    (take_all c.loop-row.row-index items (let done = c.loop-row-test.false in let long = ap length is ∙ length-map items item_shown in omega (arith, done, long)))
