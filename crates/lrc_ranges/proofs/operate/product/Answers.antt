use Rattle.std.proofs.Common.{◌*◌, ◌%◌, ◌^◌}
use Rattle.lrc_ranges.proofs.operate.product.Goals as goal

pub returns-then-not-is_bounded : goal.returns-then-not-is_bounded
returns-then-not-is_bounded c = λ a b p q. c.any.ensures ((a * b) % 2 ^ 64)

pub returns-in-None : goal.returns-in-None
returns-in-None c = λ a b p q. c.any-in-None.ensures ((a * b) % 2 ^ 64)
