-- One number more, and last the one to which they go.
use Rattle.std.proofs.Common.{◌≡◌, ◌+◌, ◌∙◌, rules, ap, arith, Vec, Global, ℕ}
use Rattle.std.specs.List.{range_with_len}
use Rattle.lrc_lines.proofs.Numbering.{one_more}
use Rattle.lrc_explain_waits.proofs.traps.numbers_to.Goals as goal
use Rattle.lrc_explain_waits.proofs.traps.numbers_to.Goals.{else-loop-number-test, then-loop-number-test+in_ok-push+else-number-last}

pub loop-number-preserved : goal.loop-number-preserved
loop-number-preserved c =
    one_more c.loop-number.numbers.items c.push.new.self.items c.loop-number.number c.loop-number.invariant c.in_ok-push.ensures.items

pub returns : goal.returns
returns c = elim c.loop-number-test.branch [
  | else-loop-number-test w ↦ absurd (omega (arith, w.loop-number-test.false, c.loop-number.auto.number-end))
  | then-loop-number-test+in_ok-push+else-number-last w ↦
      let last : c.loop-number.number ≡ c.args.last = search rules in
      ap (λ (v : Vec ℕ Global). v.items) w.numbers-is
      ∙ one_more c.loop-number.numbers.items w.push.new.self.items c.loop-number.number c.loop-number.invariant w.in_ok-push.ensures.items
      ∙ ap (λ n. range_with_len 0 (n + 1)) last
]
