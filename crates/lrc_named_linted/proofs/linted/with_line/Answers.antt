use Rattle.std.proofs.Common.{ap, ◌∙◌}
use Rattle.lrc_text.specs.Parts.{whole_text}
use Rattle.lrc_named_linted.proofs.Telling.{one_part_more}
use Rattle.lrc_named_linted.proofs.linted.with_line.Goals as goal

pub returns-clause-parts : goal.returns-clause-parts
returns-clause-parts c = ap whole_text c.in_ok-push.ensures.items ∙ one_part_more c.args.linted.parts.items c.args.line
