use Rattle.std.proofs.Common.{◌∙◌, append_assoc}
use Rattle.std.specs.Prelude.{codes, decimal}
use Rattle.lrc_lines.proofs.Following.{on_ok}
use Rattle.lrc_explain_waits.specs.Words.{by_words}
use Rattle.lrc_explain_waits.proofs.words.push_by.Goals as goal

pub returns-clause-ok : goal.returns-clause-ok
unfolding by_words
returns-clause-ok c = on_ok c.push_number.result (λ e. e ∙ append_assoc c.args.text.now.items (codes ", held by node ") (decimal c.args.node)) c.push_number.ensures.ok
