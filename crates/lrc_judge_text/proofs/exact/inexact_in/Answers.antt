use Rattle.std.proofs.Common.{◌≡◌, ◌<◌, All, arith, subst}
use Rattle.lrc_judge_text.proofs.Nobody.{found-in-none}
use Rattle.lrc_judge_text.specs.Judgement.{exact_shape}
use Rattle.lrc_judge_text.proofs.exact.inexact_in.Goals as goal

pub returns-then-nodes-eq0 : goal.returns-then-nodes-eq0
returns-then-nodes-eq0 c =
    let none : c.args.nodes ≡ 0 = omega (arith, c.if-nodes-eq0.true) in
    found-in-none (exact_shape c.args.nodes c.args.memory) c.args.acts.now
    (subst (λ n. All (λ act. act.node < n) c.args.acts.now) none c.requires.acts)
