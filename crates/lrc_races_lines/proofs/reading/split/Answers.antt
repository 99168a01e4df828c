-- What stands before the byte lacks it.
use Rattle.std.proofs.Common.{◌∷◌, ◌++◌, ◌+◌, take, sym, ap, ◌∙◌, arith}
use Rattle.lrc_races_lines.proofs.Spelled.{all-lacks, take-seam, take-lacks, take-rest}
use Rattle.lrc_races_lines.proofs.reading.split.Goals as goal

pub returns-then-other-byte : goal.returns-then-other-byte
returns-then-other-byte c =
    let text = c.args.text.now in
    let at = c.loop-at.at in (
      take-seam text at c.args.byte c.loop-at-test.true c.if-other-byte.true ∙ ap (λ r. take at text ++ c.args.byte ∷ r) (sym (take-rest text (at + 1))),
      take-lacks text at c.args.byte c.loop-at.invariant,
    )

pub returns : goal.returns
returns c = all-lacks c.args.byte c.args.text.now (λ k lt. c.loop-at.invariant k (let past = c.loop-at-test.false in omega arith))
