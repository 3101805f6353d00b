use Rattle.std.proofs.Common.{string_bytes, sym, arith}
use Rattle.pid_http.proofs.OfApi.ListTexts.{row_step, has_more, list_ends}
use Rattle.pid_http.proofs.api.list.push_rows.Goals as goal

pub loop-row-preserved : goal.loop-row-preserved
loop-row-preserved g c = record {
  rows = row_step g.R.Shown.json g.R.Shown.seen c.args.rows.now c.loop-row.row-index _ (string_bytes c.loop-row.text) _ c.loop-row.later c.row-item.result
      (omega (arith, c.loop-row-test.true)) (sym c.row-item.is) c.loop-row.invariant.rows c.loop-row.invariant.later c.in_ok-push_row.ensures;
  later = has_more g.R.Shown.json g.R.Shown.seen c.args.rows.now c.loop-row.row-index c.row-item.result (omega (arith, c.loop-row-test.true)) (sym c.row-item.is);
}

pub returns : goal.returns
returns g c = list_ends g.R.Shown.json g.R.Shown.seen c.args.rows.now c.loop-row.row-index (string_bytes c.args.text.now) (string_bytes c.push_str.new.self) (string_bytes c.loop-row.text) _
    (omega (arith, c.loop-row-test.false)) c.in_ok-push_str.ensures.bytes c.loop-row.invariant.rows c.in_ok-push_str-2.ensures.bytes
