use Rattle.std.proofs.Common.{◌≡◌, ℕ, ◌+◌, [], map, refl, arith, sym, ap, ◌∙◌}
use Rattle.std.specs.Prelude.{option_map, Vec}
use Rattle.std.specs.declared.alloc.Global.{Global}
use Rattle.pid_file.specs.PathTexts.{path_text}
use Rattle.pid_service.proofs.Words.{children_of, extent_in, extents_after, Item, pair_of, stands_below, text_of_items}
use Rattle.pid_service.proofs.KeptNames.{all_taken, none_more, one_more}
use Rattle.pid_service.proofs.Places.{before_more, start_more}
use Rattle.pid_service.proofs.kept_children.children_in.Goals as goal
use Rattle.pid_service.proofs.kept_children.children_in.Goals.{then-is_below+else-not-add_child, else-is_below}

pub loop-extent-preserved : goal.loop-extent-preserved
loop-extent-preserved c =
    let i = c.loop-extent.invariant in
    let extents = c.as_slice-extents.result.now in
    let bytes = c.as_slice-bytes.result.now in
    record {
      few = omega (arith, c.if-end-gt-MOST_BYTES.false);
      start = start_more extents c.loop-extent.extent-index _ c.loop-extent-test.true c.loop-extent.start c.from.result i.start c.from.ensures;
      before = before_more extents c.loop-extent.extent-index _ c.loop-extent-test.true;
      found = λ items kept.
          let text : bytes ≡ text_of_items items = c.as_slice-bytes.ensures.value ∙ kept.text in
          let are : map extent_in extents ≡ extents_after [] items = ap (map extent_in) c.as_slice-extents.ensures.value ∙ kept.extents in
          elim c.if-is_below.branch [
            | then-is_below+else-not-add_child w ↦
                ap (λ (v : Vec Item Global). map pair_of v.items) w.found-is
                ∙ one_more bytes extents items text are c.loop-extent.extent-index _ c.loop-extent-test.true (stands_below (option_map path_text c.args.above)) c.loop-extent.found.items (i.found items kept) (sym c.is_below.ensures ∙ w.if-is_below.true)
                c.loop-extent.start w.before_name_length.result _ _ c.loop-extent.before w.add_child.new.found.items i.start i.before w.before_name_length.ensures.exact refl (ap (λ (n : ℕ). c.loop-extent.start + n) c.from.ensures) (w.add_child.ensures w.if-not-add_child.false)
            | else-is_below w ↦
                ap (λ (v : Vec Item Global). map pair_of v.items) w.found-is
                ∙ none_more bytes extents items text are c.loop-extent.extent-index _ c.loop-extent-test.true (stands_below (option_map path_text c.args.above)) c.loop-extent.found.items (i.found items kept) (sym c.is_below.ensures ∙ w.if-is_below.false)
          ];
    }

pub returns : goal.returns
returns c items kept =
    let text : c.as_slice-bytes.result.now ≡ text_of_items items = c.as_slice-bytes.ensures.value ∙ kept.text in
    let are : map extent_in c.as_slice-extents.result.now ≡ extents_after [] items = ap (map extent_in) c.as_slice-extents.ensures.value ∙ kept.extents in
    c.loop-extent.invariant.found items kept ∙ ap (children_of (option_map path_text c.args.above)) (all_taken c.as_slice-bytes.result.now c.as_slice-extents.result.now items text are c.loop-extent.extent-index (omega (arith, c.loop-extent-test.false)))
