-- How large an expression is.
use Rattle.std.proofs.Common.{ℕ, ◌+◌}
use Rattle.lrc_named_core.specs.Tree.{Expression, number, private, me, nodes, binary}

abbrev pub size : Expression → ℕ
size (number n) = 0
size (private name) = 0
size me = 0
size nodes = 0
size (binary left o right) = 1 + (size left + size right)
