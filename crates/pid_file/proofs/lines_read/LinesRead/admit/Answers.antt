use Rattle.std.proofs.Common.{◌≡◌, false, [], ◌∙◌, sym, refl, arith, inr}
use mathlib.Core.Logic.{⊎_elim}
use Rattle.pid_file.specs.LookingBack.{entry_of, is_block}
use Rattle.pid_file.specs.Steps.OpenLevels.{open_after}
use Rattle.pid_file.specs.SeenPaths.{has_seen}
use Rattle.pid_file.proofs.OneMoreLine.{block_refused, block_good, quiet_good, quiet_taken, kept_by, duplicate_refused, many_refused, item_taken, not_true, not_false}
use Rattle.pid_file.proofs.lines_read.LinesRead.admit.Goals as goal

pub returns-then-not-has_vendor : goal.returns-then-not-has_vendor
returns-then-not-has_vendor c earlier line shown at says =
    let s = rw c.in-Block.is at says in
    let p = c.args.self.now in
    inr (block_refused p.levels (has_seen p.seen) p.entries p.lines c.args.number earlier line c.in-Block.vendor c.has_vendor.ensures.in_range shown.shown at s.good s.entry s.block.0 s.block.1 (sym c.has_vendor.ensures.seen ∙ c.if-not-has_vendor.true))

pub returns-else-not-has_vendor : goal.returns-else-not-has_vendor
returns-else-not-has_vendor c earlier line shown at says =
    let s = rw c.in-Block.is at says in
    let p = c.args.self.now in
    let good = block_good p.levels (has_seen p.seen) p.entries p.lines earlier line c.in-Block.vendor c.has_vendor.ensures.in_range shown.shown s.good s.entry s.block.0 s.block.1 (sym c.has_vendor.ensures.seen ∙ c.if-not-has_vendor.false) in
    let taken = quiet_taken p.levels (open_after p.levels c.args.said) (has_seen p.seen) p.entries p.lines c.args.number earlier line shown.shown at s.entry good says.after in
    rw c.pass-in-Block.ensures (record { rising = shown.rising; shown = taken.0 }, taken.1, taken.2)

pub returns-in-Ok-false : goal.returns-in-Ok-false
returns-in-Ok-false c earlier line shown at says =
    let s = rw c.in-Entry.is at says in
    let p = c.args.self.now in
    let path = c.in-Entry.named.path in
    inr (duplicate_refused p.levels (has_seen p.seen) p.entries p.lines c.args.number earlier line c.in-Entry.named.name.now path c.insert.ensures.in_range (kept_by path earlier line s.after) shown.shown at s.good s.entry s.block (not_false (has_seen p.seen path) (sym (c.in-Ok-false.ensures.added shown.rising) ∙ c.in-Ok-false.field-0-test)))

pub returns-then-self-ge-ENTRIES : goal.returns-then-self-ge-ENTRIES
returns-then-self-ge-ENTRIES c earlier line shown at says =
    let s = rw c.in-Entry.is at says in
    let p = c.args.self.now in
    let path = c.in-Entry.named.path in
    inr (many_refused p.levels (has_seen p.seen) p.entries p.lines earlier line c.in-Entry.named.name.now path c.insert.ensures.in_range (kept_by path earlier line s.after) shown.shown s.good s.entry s.block (not_true (has_seen p.seen path) (sym (c.in-Ok-true.ensures.added shown.rising) ∙ c.in-Ok-true.field-0-test)) (omega (arith, c.if-self-ge-ENTRIES.true)))

pub returns-else-self-ge-ENTRIES : goal.returns-else-self-ge-ENTRIES
returns-else-self-ge-ENTRIES c earlier line shown at says =
    let s = rw c.in-Entry.is at says in
    let p = c.args.self.now in
    let path = c.in-Entry.named.path in
    let taken = item_taken p.levels (open_after p.levels c.args.said) (has_seen p.seen) (has_seen c.insert.new.self) p.entries p.lines c.args.number earlier line c.in-Entry.named.name.now path c.insert.ensures.in_range (rw c.in-Entry.is refl) shown.shown at s.good s.entry s.block (not_true (has_seen p.seen path) (sym (c.in-Ok-true.ensures.added shown.rising) ∙ c.in-Ok-true.field-0-test)) (omega (arith, c.if-self-ge-ENTRIES.false)) (c.in-Ok-true.ensures.updates shown.rising c.in-Ok-true.field-0-test) says.after in
    rw c.pass-in-Entry.ensures (record { rising = c.insert.ensures.rising shown.rising; shown = taken.0 }, taken.1, taken.2)

pub returns-in-Nothing : goal.returns-in-Nothing
returns-in-Nothing c earlier line shown at says =
    let p = c.args.self.now in
    let parts : ([] ≡ entry_of earlier line) × (is_block line ≡ false) = ⊎_elim (λ e. let s = rw e at says in (s.entry, s.block)) (λ e. let s = rw e at says in (s.entry, s.block)) c.in-Nothing.is in
    let good = quiet_good earlier line says.good parts.0 parts.1 in
    let taken = quiet_taken p.levels (open_after p.levels c.args.said) (has_seen p.seen) p.entries p.lines c.args.number earlier line shown.shown at parts.0 good says.after in
    rw c.pass.ensures (record { rising = shown.rising; shown = taken.0 }, taken.1, taken.2)
