use Rattle.std.proofs.Common.{◌≡◌, List, ℕ, rules, sym, subst, ◌∙◌}
use Rattle.std.specs.Str.{IsUtf8}
use Rattle.std.proofs.lemmas.Str.{IsUtf8-from_is_utf8}
use Rattle.sqlite.specs.Order.{column}
use Rattle.sqlite.specs.declared.types.Value.TheVariants.{Text}
use Rattle.pid_tables.proofs.rows.value.text_at.Goals as goal

same_text : (s t : List ℕ) → Text s ≡ Text t → s ≡ t
same_text s t e = cc

pub returns-in-Err-clause-unread : goal.returns-in-Err-clause-unread
returns-in-Err-clause-unread c good =
    let at : column c.args.row.now c.args.at ≡ Text c.in-Text.bytes.now = search rules in
    let same : c.in-Text.bytes.now ≡ good.0 = same_text _ _ (sym at ∙ good.2) in
    c.in-Err.ensures.cases.0 (subst IsUtf8 (sym same) (IsUtf8-from_is_utf8 good.0 good.1))
