use Rattle.std.proofs.Common.{◌∙◌, append_assoc}
use Rattle.std.specs.Prelude.{codes, decimal}
use Rattle.lrc_lines.proofs.Following.{on_ok}
use Rattle.lrc_explain.specs.Access.{reads_words}
use Rattle.lrc_explain.proofs.access.push_reads.Goals as goal

pub returns : goal.returns
unfolding reads_words
returns c = on_ok c.push_number.result (λ e. e ∙ append_assoc c.args.text.now.items (codes " reads ") (decimal c.args.number)) c.push_number.ensures.ok
