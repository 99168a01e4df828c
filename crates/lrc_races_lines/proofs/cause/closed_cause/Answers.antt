-- The first that is wrong.
use Rattle.std.proofs.Common.{◌∷◌, ◌++◌, arith, subst, sym}
use Rattle.lrc_races_lines.specs.Cause.{IsTargetCause, no_target, target_lacking, target_long, target_bad, target_followed}
use Rattle.lrc_races_lines.proofs.Caused.{name-by, nil-by, not-nil}
use Rattle.lrc_races_lines.proofs.cause.closed_cause.Goals as goal

pub returns-then-is_empty : goal.returns-then-is_empty
returns-then-is_empty c =
    subst (λ t. IsTargetCause (t ++ 41 ∷ c.args.rest.now) no_target)
    (sym (nil-by c.args.target.now (grind (arith, c.is_empty.ensures, c.if-is_empty.true)))) (target_lacking c.args.rest.now)

pub returns-then-target-gt-LONGEST_NAME : goal.returns-then-target-gt-LONGEST_NAME
returns-then-target-gt-LONGEST_NAME c = target_long c.args.target.now c.args.rest.now c.requires (omega arith)

pub returns-then-not-lacks : goal.returns-then-not-lacks
returns-then-not-lacks c = target_bad c.args.target.now c.args.rest.now c.requires (grind (arith, c.is_empty.ensures, c.if-is_empty.false)) (omega arith)
    (λ l. let e = c.lacks.ensures.1 l in let f = c.if-not-lacks.true in let never : ⊥ = cc in never)

pub returns-then-not-is_empty : goal.returns-then-not-is_empty
returns-then-not-is_empty c = target_followed c.args.target.now c.args.rest.now c.requires (grind (arith, c.is_empty.ensures, c.if-is_empty.false)) (omega arith)
    (c.lacks.ensures.0 (let f = c.if-not-lacks.false in cc))
    (not-nil c.args.rest.now (grind (arith, c.is_empty-2.ensures, c.if-not-is_empty.true)))

pub returns : goal.returns
returns c = (
  λ bars feeds. name-by c.args.target.now (grind (arith, c.is_empty.ensures, c.if-is_empty.false)) (omega arith)
      (c.lacks.ensures.0 (let f = c.if-not-lacks.false in cc)) c.requires bars feeds,
  nil-by c.args.rest.now (grind (arith, c.is_empty-2.ensures, c.if-not-is_empty.false)),
)
