use Rattle.std.proofs.Common.{◌≡◌, ◌∙◌, sym, true, false, arith}
use Rattle.lrc_explore.proofs.Ending.{no_end_at}
use Rattle.lrc_explore_less.proofs.less.Less.end_with.Goals as goal

pub returns-then-is_end : goal.returns-then-is_end
returns-then-is_end c = (c.in_ok-is_end.ensures.0 c.if-is_end.true, c.loop-place.invariant)

pub loop-place-preserved : goal.loop-place-preserved
loop-place-preserved c =
    no_end_at c.args.task.now c.args.self.now.found c.args.notes.now c.loop-place.place
    (λ is. let t = c.in_ok-is_end.ensures.1 is in let x : true ≡ false = sym t ∙ c.if-is_end.false in cc) c.loop-place.invariant

pub returns : goal.returns
returns c = λ k lt. c.loop-place.invariant k (omega (arith, lt, c.loop-place-test.false, c.len-place-end.ensures.len))
