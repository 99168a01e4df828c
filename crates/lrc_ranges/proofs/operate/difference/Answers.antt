use Rattle.std.proofs.Common.{◌+◌, ◌-◌, ◌%◌, ◌^◌}
use Rattle.lrc_ranges.proofs.operate.difference.Goals as goal

pub returns-then-not-is_bounded : goal.returns-then-not-is_bounded
returns-then-not-is_bounded c = λ a b p q. c.any.ensures ((a + (2 ^ 64 - b)) % 2 ^ 64)
