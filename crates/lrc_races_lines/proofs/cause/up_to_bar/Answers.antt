-- The front, or all.
use Rattle.std.proofs.Common.{subst, sym}
use Rattle.lrc_races_lines.specs.Cause.{IsUpTo, up_to_byte, up_to_end}
use Rattle.lrc_races_lines.proofs.cause.up_to_bar.Goals as goal

pub returns-in-Some : goal.returns-in-Some
returns-in-Some c = subst (λ t. IsUpTo 124 c.in-Some.front.now t) (sym c.in-Some.ensures.0) (up_to_byte c.in-Some._behind.now c.in-Some.ensures.1)

pub returns-in-None : goal.returns-in-None
returns-in-None c = up_to_end c.in-None.ensures
