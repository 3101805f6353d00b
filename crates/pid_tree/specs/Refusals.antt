-- The numbers of the refusals of a tree: choices of this project.
use Rattle.std.specs.Prelude.{ℕ}
use Rattle.pid_tree.specs.declared.refusal.TreeRefusal.{TreeRefusal}
use Rattle.pid_tree.specs.declared.refusal.TreeRefusal.TheVariants.{ParentMissing, Memory}
use Rattle.pid_tree.specs.declared.refusal.TreeRefusal.TheVariants.{HasChildren, Absent}

abbrev pub tree_refusal_number : TreeRefusal → ℕ
tree_refusal_number ParentMissing = 1
tree_refusal_number Memory = 2
tree_refusal_number HasChildren = 3
tree_refusal_number Absent = 4
