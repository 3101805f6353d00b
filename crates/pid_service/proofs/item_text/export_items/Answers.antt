use Rattle.std.proofs.Common.{◌≡◌, rules, [], ◌∷◌, Some, Result, Err, ap, ◌∙◌}
use Rattle.std.specs.Io.KnownBytes.{Appends}
use Rattle.pid_tables.specs.declared.lists.walk.EachEnd.{EachEnd}
use Rattle.pid_tables.specs.declared.lists.walk.EachEnd.TheVariants as ends
use Rattle.pid_tables.proofs.OfCheck.Asking.{nothing_read}
use Rattle.pid_service.proofs.Words.{ended, header, WriteFault, WritesItems}
use Rattle.pid_service.proofs.WalkEnds.{exported, fault_told, header_stopped, walk_same}
use Rattle.pid_service.proofs.item_text.export_items.Goals as goal

same_end : (f told : WriteFault) → ◌≡◌ {A = Result (Unit {0}) (EachEnd WriteFault)} (Err (ends.Fault f)) (Err (ends.Fault told)) → f ≡ told
same_end f told is = cc

pub returns-in-Err : goal.returns-in-Err
returns-in-Err g c = record {
  rests = nothing_read (g.C.Database.state c.args.tables.now.conn) c.args.tables.now.settled;
  printed = λ clean v rest. header_stopped _ _ v.items c.in-Err.ensures.sent;
  fault = λ f is. c.in-Err.ensures.fault ∙ ap Some (same_end c.in-Err.fault f is);
  caused = λ clean v rest readable. tt;
}

-- the writer is the sink's once the walk has kept its name
pub returns-in-Ok : goal.returns-in-Ok
returns-in-Ok g c =
    let taken = g.W.Output.taken in
    let write_fault = g.W.Output.write_fault in
    let start = c.new-sink.result in
    let end = c.each_item.new.sink in
    let name : end.out.ghost_name ≡ start.out.ghost_name = walk_same taken write_fault c.each_item.result start end c.each_item.ensures.some in
    record {
      rests = c.each_item.ensures.rests;
      printed = λ clean v rest.
          let head : Appends (taken c.args.out.now) (taken start.out.now) (ended (header ∷ [])) = rw c.new-sink.ensures.now c.in-Ok.ensures.sent in
          let told : WritesItems c.each_item.result (taken c.args.out.now) (taken end.out.now) v.items =
          exported taken write_fault (taken c.args.out.now) start c.new-sink.ensures.first head c.each_item.result end v.items (c.each_item.ensures.told clean v rest) in
          search rules;
      fault = λ f is.
          let told : write_fault end.out.now ≡ Some f = fault_told taken write_fault c.each_item.result f start end is c.each_item.ensures.some in
          search rules;
      caused = c.each_item.ensures.caused;
    }
