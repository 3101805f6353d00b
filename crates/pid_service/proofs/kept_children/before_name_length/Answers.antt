use Rattle.std.proofs.Common.{◌≡◌, ℕ, ◌+◌, List, ◌++◌, length, refl, arith, length-append}
use Rattle.std.specs.Prelude.{codes}
use Rattle.pid_ident.specs.PathTexts.{path_text}
use Rattle.pid_service.proofs.Words.{block_after, ended, label_of, text_or_none}
use Rattle.pid_service.proofs.CountedLines.{block_short, label_short}
use Rattle.pid_service.proofs.kept_children.before_name_length.Goals as goal

counted : (block label space : List ℕ) (b l : ℕ) → length space ≡ 2 → b ≡ length block → l ≡ length label → b + l + 2 ≡ length (block ++ (label ++ space))
counted block label space b l two blocks labels = omega (arith, two, blocks, labels, length-append {A = ℕ})

pub overflow_add-result : goal.overflow_add-result
overflow_add-result c =
    let block = block_short c.block_length.result (text_or_none c.args.before) (path_text c.args.path) c.block_length.ensures in
    let label = label_short c.label_length.result c.args.path c.label_length.ensures in
    omega (arith, block, label)

pub overflow_add-result-2 : goal.overflow_add-result-2
overflow_add-result-2 c =
    let block = block_short c.block_length.result (text_or_none c.args.before) (path_text c.args.path) c.block_length.ensures in
    let label = label_short c.label_length.result c.args.path c.label_length.ensures in
    omega (arith, block, label)

pub returns : goal.returns
returns c = record {
  exact = counted (ended (block_after (text_or_none c.args.before) (path_text c.args.path))) (label_of (path_text c.args.path)) (codes "  ") _ _ refl c.block_length.ensures c.label_length.ensures;
  few =
      let block = block_short c.block_length.result (text_or_none c.args.before) (path_text c.args.path) c.block_length.ensures in
      let label = label_short c.label_length.result c.args.path c.label_length.ensures in
      omega (arith, block, label);
}
