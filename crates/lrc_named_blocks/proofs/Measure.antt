-- How large statements are.
use Rattle.std.proofs.Common.{ℕ, ◌+◌}
use Rattle.lrc_named_tree.specs.Tree.{Statement, Block, Arms}
use Rattle.lrc_named_tree.specs.Tree.{assign, acquire, release, with_do, barrier, print, assert, if_else, while_do, for_do, empty, next, no_arm, arm}

abbrev mutual
  pub size : Statement → ℕ
  size (assign p update value) = 1
  size (acquire at p) = 1
  size (release at p) = 1
  size (with_do at p inside close) = 1 + sizes inside
  size (barrier at) = 1
  size (print at values) = 1
  size (assert at condition) = 1
  size (if_else at condition then others otherwise) = 1 + (sizes then + (arm_sizes others + sizes otherwise))
  size (while_do at condition inside) = 1 + sizes inside
  size (for_do at name first end inside) = 1 + sizes inside

  pub sizes : Block → ℕ
  sizes empty = 0
  sizes (next statement others) = 1 + (size statement + sizes others)

  pub arm_sizes : Arms → ℕ
  arm_sizes no_arm = 0
  arm_sizes (arm at condition block others) = 1 + (sizes block + arm_sizes others)
