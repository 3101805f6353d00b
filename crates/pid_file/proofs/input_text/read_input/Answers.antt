use Rattle.std.proofs.Common.{◌≡◌, Err, sym, ap, subst}
use Rattle.pid_file.specs.Reading.{Reads}
use Rattle.pid_file.proofs.Feeding.{Reads-from_sink}
use Rattle.pid_file.specs.TreeSinks.{SetsItem}
use Rattle.pid_file.proofs.InputTexts.{read_whole, unread, leaves_as, ok_no_fault, is_read_fault}
use Rattle.pid_file.proofs.input_text.read_input.Goals as goal

pub returns-in-Ok-into_tree-clause-end : goal.returns-in-Ok-into_tree-clause-end
returns-in-Ok-into_tree-clause-end g c =
    let read = c.in-Ok.ensures.read in
    let tree = Reads-from_sink read.0 c.new-sink.result c.cut_input.new.sink c.new-sink.ensures read.2.1 in
    read_whole Reads c.args.limit c.in-Ok-into_tree.tree _ _ read.0 read.1 read.2.0 read.2.1.0 (subst (Reads read.0) (sym c.in-Ok-into_tree.ensures.ok) tree)

pub returns-in-Err-clause-end : goal.returns-in-Err-clause-end
returns-in-Err-clause-end g c =
    let read = c.in-Err.ensures.read in
    rw c.end_without_fault.ensures.end (unread SetsItem (λ s entry f t. t.items.items ≡ s.items.items) c.args.limit c.in-Err.end _ _ read.0 _ _ read.1 read.2)

pub returns-in-Ok-into_tree-clause-leaves : goal.returns-in-Ok-into_tree-clause-leaves
returns-in-Ok-into_tree-clause-leaves g c = leaves_as g.I.Input c.args.limit _ _ _ _ (λ e. absurd (ok_no_fault _ e)) (λ e. absurd (ok_no_fault _ e)) c.in-Ok.ensures.leaves

pub returns-in-Err-into_tree-clause-leaves : goal.returns-in-Err-into_tree-clause-leaves
returns-in-Err-into_tree-clause-leaves g c = leaves_as g.I.Input c.args.limit _ _ _ _ (λ e. absurd (ok_no_fault _ e)) (λ e. absurd cc) c.in-Ok.ensures.leaves

pub returns-in-Err-clause-leaves : goal.returns-in-Err-clause-leaves
returns-in-Err-clause-leaves g c =
    let same = c.end_without_fault.ensures.fault in
    leaves_as g.I.Input c.args.limit _ _ _ _ (λ e. ap Err (same.1 (is_read_fault c.in-Err.end e))) (λ e. ap Err (same.0 (is_read_fault _ e))) c.in-Err.ensures.leaves
