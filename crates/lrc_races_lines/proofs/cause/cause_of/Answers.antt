-- Whatever its form, or of its body.
use Rattle.lrc_races_lines.specs.Cause.{line_any, line_other}
use Rattle.lrc_races_lines.proofs.Caused.{bad-spells, bad-blank, body-lacks}
use Rattle.lrc_races_lines.proofs.cause.cause_of.Goals as goal

pub returns-in-Some : goal.returns-in-Some
returns-in-Some c = λ feeds bad. line_any c.in-Some.ensures

pub returns-in-None : goal.returns-in-None
returns-in-None c = λ feeds bad.
    let short = c.in-None.ensures.0 in
    let of = c.body_of.ensures in
    line_other short c.in-None.ensures.1 (record {
      body = c.body_of.result.now;
      of = of;
      cause = c.body_cause.ensures (body-lacks of feeds)
          (λ thread kind target location spells. bad-spells bad short of thread kind target location spells (λ blank. bad-blank bad short of blank));
    })
