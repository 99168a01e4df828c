-- Too long, or marked.
use Rattle.std.proofs.Common.{arith}
use Rattle.lrc_races_lines.specs.Cause.{line_long, line_marked}
use Rattle.lrc_races_lines.proofs.cause.cause_of_any.Goals as goal

pub returns-then-line-gt-LONGEST_LINE : goal.returns-then-line-gt-LONGEST_LINE
returns-then-line-gt-LONGEST_LINE c = line_long (omega arith)

pub returns-then-is_first_marked : goal.returns-then-is_first_marked
returns-then-is_first_marked c =
    let both = c.is_first_marked.ensures.0 c.if-is_first_marked.true in
    line_marked (omega arith) both.0 both.1

pub returns : goal.returns
returns c = (
  omega arith,
  λ both. let e = c.is_first_marked.ensures.1 both in let f = c.if-is_first_marked.false in let never : ⊥ = cc in never,
)
