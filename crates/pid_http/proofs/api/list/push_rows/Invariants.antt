use Rattle.std.proofs.Common.{◌≡◌, ◌++◌, false, map, take, string_bytes}
use Rattle.pid_http.proofs.OfApi.ListTexts.{rows_text, has_rows}
use Rattle.pid_http.proofs.api.list.push_rows.Given as goal

abbrev pub invariant-loop-row : goal.invariant-loop-row
invariant-loop-row g l = record {
  rows : string_bytes l.text ≡ string_bytes l.initial.text ++ rows_text false (map g.R.Shown.json (map g.R.Shown.seen (take l.row-index l.rows)));
  later : l.later ≡ has_rows (take l.row-index l.rows);
}
