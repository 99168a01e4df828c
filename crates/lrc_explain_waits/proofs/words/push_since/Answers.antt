use Rattle.std.proofs.Common.{◌∙◌, append_assoc}
use Rattle.std.specs.Prelude.{codes, decimal}
use Rattle.lrc_lines.proofs.Following.{on_ok}
use Rattle.lrc_explain_waits.specs.Words.{since_words}
use Rattle.lrc_explain_waits.proofs.words.push_since.Goals as goal

pub returns-clause-ok : goal.returns-clause-ok
unfolding since_words
returns-clause-ok c = on_ok c.push_number.result (λ e. e ∙ append_assoc c.args.text.now.items (codes " since line ") (decimal c.args.line)) c.push_number.ensures.ok
