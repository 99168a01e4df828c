use Rattle.std.proofs.Common.{◌∙◌, append_assoc}
use Rattle.std.specs.Prelude.{codes, decimal}
use Rattle.lrc_lines.proofs.Following.{on_ok}
use Rattle.lrc_explain_waits.specs.Circles.{first_text}
use Rattle.lrc_explain_waits.proofs.circles.push_first.Goals as goal

pub returns-clause-ok : goal.returns-clause-ok
unfolding first_text
returns-clause-ok c = on_ok c.push_number.result (λ e. e ∙ append_assoc c.args.text.now.items (codes "deadlock: node ") (decimal c.args.first)) c.push_number.ensures.ok
