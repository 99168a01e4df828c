use Rattle.std.proofs.Common.{◌-◌, ◌∙◌, ap, arith, sym}
use Rattle.lrc_control.specs.Text.{TextRecord}
use Rattle.lrc_control.proofs.Texts.{begun_paid}
use Rattle.lrc_control.proofs.text.Text.begin.Goals as goal

pub overflow_sub-self : goal.overflow_sub-self
overflow_sub-self c =
    let now = c.args.self.now in
    omega (arith, (begun_paid now.left now.course c.args.ask c.requires).0, ap (λ (t : TextRecord). t.left) c.self.view_is, c.cost.ensures)

pub returns : goal.returns
returns c =
    let now = c.args.self.now in
    ap (λ (t : TextRecord). record t { left = t.left - c.cost.result }) c.self.view_is
    ∙ ap (λ cost. record now { left = now.left - cost }) (c.cost.ensures ∙ sym (begun_paid now.left now.course c.args.ask c.requires).1)
