use Rattle.std.proofs.Common.{◌≡◌, map, take}
use Rattle.std.specs.Prelude.{option_map, slice_get}
use Rattle.lrc_weave.proofs.order.first_stamps.Given as goal

abbrev pub invariant-loop-log : goal.invariant-loop-log
invariant-loop-log l = l.stamps.items ≡ map (λ log. option_map (λ entry. entry.stamp) (slice_get log.items 0)) (take l.log-index l.logs)
