use Rattle.std.proofs.Common.{refl}
use Rattle.pid_service.proofs.CountedLines.{all_counted, all_kept}
use Rattle.pid_service.proofs.items_text.walked_text.Goals as goal

pub returns-in-Ok : goal.returns-in-Ok
returns-in-Ok g c = record {
  rests = c.each_item.ensures.rests;
  told = λ clean v rest readable.
      let took = c.in-Ok.ensures.told clean v rest in
      record {
        counted = all_counted _ c.each_item.new.sink v.items refl refl took readable.items readable.item_count;
        kept = all_kept _ c.each_item.new.sink v.items c.kept_of.result refl c.requires.first took c.kept_of.ensures;
      };
}
