use Rattle.std.proofs.Common.{◌≡◌, ◌++◌, ap, sym, ◌∙◌, append-nil, string_bytes}
use Rattle.serde_json.specs.Written.{comma_if}
use Rattle.pid_http.proofs.api.list.push_row.Goals as goal

pub returns : goal.returns
returns g c =
    let begun : string_bytes c.if-later.text ≡ string_bytes c.args.text.now ++ comma_if c.args.later = elim c.if-later.branch [
      | goal.then-later+in_ok-push_str w ↦ ap string_bytes w.text-is ∙ (w.in_ok-push_str.ensures.bytes ∙ ap (λ b. string_bytes c.args.text.now ++ comma_if b) (sym w.if-later.true))
      | goal.else-later w ↦ ap string_bytes w.text-is ∙ (sym (append-nil _) ∙ ap (λ b. string_bytes c.args.text.now ++ comma_if b) (sym w.if-later.false))
    ] in
    rw (← begun) (c.push_value.ensures _ c.in_ok-value.ensures (g.met.R.Shown.no_float _))
