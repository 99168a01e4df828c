-- The first that is wrong.
use Rattle.std.proofs.Common.{arith}
use Rattle.lrc_races_lines.specs.Cause.{signature_long, signature_followed}
use Rattle.lrc_races_lines.proofs.Caused.{nil-by, not-nil, text-by}
use Rattle.lrc_races_lines.proofs.cause.ended_cause.Goals as goal

pub returns-then-text-gt-LONGEST_NAME : goal.returns-then-text-gt-LONGEST_NAME
returns-then-text-gt-LONGEST_NAME c = signature_long c.args.text.now c.args.rest.now c.requires (omega arith)

pub returns-then-not-is_empty : goal.returns-then-not-is_empty
returns-then-not-is_empty c = signature_followed c.args.text.now c.args.rest.now c.requires (omega arith)
    (not-nil c.args.rest.now (grind (arith, c.is_empty.ensures, c.if-not-is_empty.true)))

pub returns : goal.returns
returns c = (
  λ bars feeds. text-by c.args.text.now (omega arith) bars feeds,
  nil-by c.args.rest.now (grind (arith, c.is_empty.ensures, c.if-not-is_empty.false)),
)
