-- The warnings so far have their places.
use Rattle.std.proofs.Common.{◌≡◌, map, take}
use Rattle.lrc_lint_warnings.specs.Order.{of_found}
use Rattle.lrc_lint_warnings.proofs.order.placed.Given as goal

abbrev pub invariant-loop-f : goal.invariant-loop-f
invariant-loop-f l = l.all.items ≡ map (of_found l.spots) (take l.f-index l.found)
