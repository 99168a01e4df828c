use Rattle.std.proofs.Common.{ap, ◌∙◌}
use Rattle.lrc_control.specs.Text.{TextRecord, asked_in}
use Rattle.lrc_control.proofs.Texts.{quiet_takes, quiet_answered}
use Rattle.lrc_control.proofs.text.Text.go_on_quietly.Goals as goal

pub answer-requires : goal.answer-requires
answer-requires c =
    let n = c.self.inside in
    quiet_takes n.standing n.machine (ap (λ (t : TextRecord). asked_in t.course) c.self.view_is ∙ c.requires)

pub returns : goal.returns
returns c =
    let n = c.self.inside in
    quiet_answered n.standing n.machine _ n.left c.args.self.now c.self.view_is c.requires c.answer.ensures.answered
