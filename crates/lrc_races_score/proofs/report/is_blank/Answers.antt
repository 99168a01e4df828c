-- Whether the first byte begins a comment.
use Rattle.std.proofs.Common.{refl}
use Rattle.lrc_races_lines.proofs.Spelled.{blank-first, blank-none}
use Rattle.lrc_races_score.proofs.report.is_blank.Goals as goal

pub returns-in-Some : goal.returns-in-Some
returns-in-Some c = blank-first c.args.body.now _ c.in-Some.first.now c.in-Some.ensures.cases.0

pub returns-in-None : goal.returns-in-None
returns-in-None c = (λ t. blank-none c.args.body.now c.in-None.ensures.cases, λ h. refl)
