-- The first that is wrong.
use Rattle.std.proofs.Common.{arith}
use Rattle.lrc_races_lines.specs.Cause.{thread_lacking, thread_long, thread_bad}
use Rattle.lrc_races_lines.proofs.Caused.{name-by, nil-by}
use Rattle.lrc_races_lines.proofs.cause.thread_cause.Goals as goal

pub returns-then-is_empty : goal.returns-then-is_empty
returns-then-is_empty c = thread_lacking (nil-by c.args.thread.now (grind (arith, c.is_empty.ensures, c.if-is_empty.true)))

pub returns-then-thread-gt-LONGEST_NAME : goal.returns-then-thread-gt-LONGEST_NAME
returns-then-thread-gt-LONGEST_NAME c = thread_long (omega arith)

pub returns-then-not-lacks : goal.returns-then-not-lacks
returns-then-not-lacks c = thread_bad (grind (arith, c.is_empty.ensures, c.if-is_empty.false)) (omega arith)
    (λ both. let e = c.lacks.ensures.1 both.0 in let f = c.if-not-lacks.true in let never : ⊥ = cc in never)

pub returns-then-not-lacks-2 : goal.returns-then-not-lacks-2
returns-then-not-lacks-2 c = thread_bad (grind (arith, c.is_empty.ensures, c.if-is_empty.false)) (omega arith)
    (λ both. let e = c.lacks-2.ensures.1 both.1 in let f = c.if-not-lacks-2.true in let never : ⊥ = cc in never)

pub returns : goal.returns
returns c = λ bars feeds. name-by c.args.thread.now (grind (arith, c.is_empty.ensures, c.if-is_empty.false)) (omega arith)
    (c.lacks.ensures.0 (let f = c.if-not-lacks.false in cc)) (c.lacks-2.ensures.0 (let f = c.if-not-lacks-2.false in cc)) bars feeds
