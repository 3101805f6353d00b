use Rattle.std.proofs.Common.{◌++◌, ◌∷◌, [], map, ap, sym, arith, ◌∙◌}
use Rattle.std.proofs.lemmas.List.{map-append, take_all}
use Rattle.serde_json.specs.Data.{array}
use Rattle.serde_json.specs.View.{items_of, view}
use Rattle.serde_json.proofs.Views.{view-Array}
use Rattle.pid_http.proofs.OfApi.ListTexts.{holds_more}
use Rattle.pid_http.proofs.api.list.rows_value.Goals as goal

pub loop-row-preserved : goal.loop-row-preserved
loop-row-preserved g c =
    ap (map view) c.in_ok-push.ensures.items ∙ (map-append view _ _ ∙ ((λ k. c.loop-row.invariant k ++ c.in_ok-value.ensures k ∷ [])
    ∙ sym (holds_more g.R.Shown.json g.R.Shown.seen c.args.rows.now c.loop-row.row-index c.row-item.result (omega (arith, c.loop-row-test.true)) (sym c.row-item.is))))

pub returns : goal.returns
returns g c =
    view-Array c.loop-row.values
    ∙ ap (λ ds. array (items_of ds)) (c.loop-row.invariant ∙ ap (λ rows. map g.R.Shown.json (map g.R.Shown.seen rows)) (take_all c.loop-row.row-index c.args.rows.now (omega (arith, c.loop-row-test.false))))
