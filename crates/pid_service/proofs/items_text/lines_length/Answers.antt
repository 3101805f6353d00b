use Rattle.std.proofs.Common.{arith, refl}
use Rattle.pid_ident.specs.PathTexts.{path_text}
use Rattle.pid_service.proofs.Words.{block_after, label_of, text_or_none}
use Rattle.pid_service.proofs.CountedLines.{added_up, block_short, label_short}
use Rattle.pid_service.proofs.items_text.lines_length.Goals as goal

pub overflow_add-result : goal.overflow_add-result
overflow_add-result c =
    let block = block_short c.block_length.result (text_or_none c.args.before) (path_text c.args.path) c.block_length.ensures in
    let label = label_short c.label_length.result c.args.path c.label_length.ensures in
    omega (arith, block, label)

pub overflow_add-result-2 : goal.overflow_add-result-2
overflow_add-result-2 c =
    let block = block_short c.block_length.result (text_or_none c.args.before) (path_text c.args.path) c.block_length.ensures in
    let label = label_short c.label_length.result c.args.path c.label_length.ensures in
    omega (arith, block, label)

pub overflow_add-result-3 : goal.overflow_add-result-3
overflow_add-result-3 c =
    let block = block_short c.block_length.result (text_or_none c.args.before) (path_text c.args.path) c.block_length.ensures in
    let label = label_short c.label_length.result c.args.path c.label_length.ensures in
    omega (arith, block, label)

pub returns : goal.returns
returns c = added_up (block_after (text_or_none c.args.before) (path_text c.args.path)) (label_of (path_text c.args.path)) c.args.name.now _ _ _ c.block_length.ensures c.label_length.ensures refl
