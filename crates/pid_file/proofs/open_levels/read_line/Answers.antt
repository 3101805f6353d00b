use Rattle.std.proofs.Common.{◌≡◌, ◌==◌, ◌∙◌, sym, false, true, Ok, Err, Some, None}
use Rattle.std.proofs.lemmas.Result.{err_from_is_err_and}
use Rattle.std.specs.Str.{is_utf8}
use Rattle.pid_file.specs.Marks.{is_idle}
use Rattle.pid_file.specs.Steps.OpenLevels.{below}
use Rattle.pid_file.proofs.LineSays.{below_fault, skipped_says, entry_read, fault_read, place_is, inside_nested, not_flat}
use Rattle.pid_file.proofs.open_levels.read_line.Goals as goal

pub returns-then-depth-eq0 : goal.returns-then-depth-eq0
returns-then-depth-eq0 c earlier shown = c.read_head.ensures c.args.levels earlier

pub returns-in_err-place : goal.returns-in_err-place
returns-in_err-place c earlier shown =
    let p = err_from_is_err_and c.from_residual.result c.from_residual.ensures.1 in
    let text : is_utf8 c.args.line.now ≡ true = sym c.is_utf8.ensures ∙ c.if-not-is_utf8.false in
    let active : is_idle c.args.line.now ≡ false = sym c.is_idle.ensures ∙ c.if-is_idle.false in
    let nested : (c.split_depth-depth.result.0 == 0) ≡ false = not_flat c.split_depth-depth.result.0 c.if-depth-eq0.false in
    let found : below c.args.levels c.split_depth-depth.result.0 ≡ Err c.in_err-place.field-0.0 = cc (c.place_below.ensures, c.in_err-place.was) in
    rw (p.1, p.2) (below_fault c.args.levels c.split_depth-depth.result.0 _ earlier c.args.line.now text active nested (sym c.split_depth-depth.ensures.depth) shown found)

pub returns-in_default : goal.returns-in_default
returns-in_default c earlier shown =
    let text : is_utf8 c.args.line.now ≡ true = sym c.is_utf8.ensures ∙ c.if-not-is_utf8.false in
    let active : is_idle c.args.line.now ≡ false = sym c.is_idle.ensures ∙ c.if-is_idle.false in
    let nested : (c.split_depth-depth.result.0 == 0) ≡ false = not_flat c.split_depth-depth.result.0 c.if-depth-eq0.false in
    let found : below c.args.levels c.split_depth-depth.result.0 ≡ Ok None = cc (c.place_below.ensures, c.in_ok-place.was, c.in_default.is) in
    skipped_says c.args.levels c.split_depth-depth.result.0 earlier c.args.line.now text active nested (sym c.split_depth-depth.ensures.depth) shown found

pub returns-in_err-named : goal.returns-in_err-named
returns-in_err-named c earlier shown =
    let p = err_from_is_err_and c.from_residual-in_err-named.result c.from_residual-in_err-named.ensures.1 in
    let text : is_utf8 c.args.line.now ≡ true = sym c.is_utf8.ensures ∙ c.if-not-is_utf8.false in
    let active : is_idle c.args.line.now ≡ false = sym c.is_idle.ensures ∙ c.if-is_idle.false in
    let nested : (c.split_depth-depth.result.0 == 0) ≡ false = not_flat c.split_depth-depth.result.0 c.if-depth-eq0.false in
    let deep = rw c.split_depth-depth.ensures.depth at nested in
    let found : below c.args.levels c.split_depth-depth.result.0 ≡ Ok (Some c.in-Some.place) = cc (c.place_below.ensures, c.in_ok-place.was, c.in-Some.is) in
    rw (p.1, p.2) (fault_read c.in-Some.place earlier c.args.line.now c.split_depth-depth.result.1.now _ text active (place_is c.args.levels c.split_depth-depth.result.0 c.in-Some.place earlier c.args.line.now (sym c.split_depth-depth.ensures.depth) shown found) (c.split_depth-depth.ensures.body ∙ sym (inside_nested c.args.line.now deep)) c.in_err-named.ensures.fault)

pub returns : goal.returns
returns c earlier shown =
    let e = c.in_ok-named.ensures in
    let text : is_utf8 c.args.line.now ≡ true = sym c.is_utf8.ensures ∙ c.if-not-is_utf8.false in
    let active : is_idle c.args.line.now ≡ false = sym c.is_idle.ensures ∙ c.if-is_idle.false in
    let nested : (c.split_depth-depth.result.0 == 0) ≡ false = not_flat c.split_depth-depth.result.0 c.if-depth-eq0.false in
    let deep = rw c.split_depth-depth.ensures.depth at nested in
    let found : below c.args.levels c.split_depth-depth.result.0 ≡ Ok (Some c.in-Some.place) = cc (c.place_below.ensures, c.in_ok-place.was, c.in-Some.is) in
    entry_read c.args.levels c.in-Some.place earlier c.args.line.now c.split_depth-depth.result.1.now c.in_ok-named.named text active (place_is c.args.levels c.split_depth-depth.result.0 c.in-Some.place earlier c.args.line.now (sym c.split_depth-depth.ensures.depth) shown found) (c.split_depth-depth.ensures.body ∙ sym (inside_nested c.args.line.now deep)) e.path e.name e.good
