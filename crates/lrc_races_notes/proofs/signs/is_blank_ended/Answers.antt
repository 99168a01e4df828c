-- The body of the line ends with a blank, or it does not.
use Rattle.std.proofs.Common.{◌∙◌, sym, true≢false}
use Rattle.lrc_races_notes.proofs.SignLemmas.{blank_event, no_blank}
use Rattle.lrc_races_notes.proofs.signs.is_blank_ended.Goals as goal

pub returns-then-ends_blank : goal.returns-then-ends_blank
returns-then-ends_blank c =
    blank_event c.args.line.now c.body_of.result.now c.is_event.result c.body_of.ensures (c.ends_blank.ensures.0 c.if-ends_blank.true) c.is_event.ensures

pub returns : goal.returns
returns c = (
  (λ e. absurd (true≢false (sym e))),
  (λ b. absurd (no_blank c.args.line.now c.body_of.result.now c.body_of.ensures
      (λ is. true≢false (sym (c.ends_blank.ensures.1 is) ∙ c.if-ends_blank.false)) b)),
)
