use Rattle.std.proofs.Common.{sym, ◌∙◌, ap}
use Rattle.std.specs.Prelude.{option_map}
use Rattle.lrc_exec.specs.Ask.{ask_of}
use Rattle.lrc_control.specs.declared.text.TextStanding.{TextStanding}
use Rattle.lrc_control.specs.Text.{allowed_with, begun_by, course_in}
use Rattle.lrc_control.proofs.Texts.{begins_next}
use Rattle.lrc_control.proofs.text.Text.begins.Goals as goal

pub returns-in-Running-clause-asked : goal.returns-in-Running-clause-asked
returns-in-Running-clause-asked c =
    let n = c.self.inside in
    c.allowed.ensures.asked
    ∙ ap (allowed_with n.left) c.ask.ensures.asked
    ∙ sym (begins_next n.machine n.left c.self.invariant)
    ∙ sym (ap (λ (s : TextStanding). option_map ask_of (begun_by (record { course = course_in s n.machine; left = n.left }))) c.in-Running.is)
    ∙ ap (λ text. option_map ask_of (begun_by text)) c.self.view_is
