use Rattle.std.proofs.Common.{ℕ, Option, subst}
use Rattle.lrc_text.specs.Parts.{whole_text}
use Rattle.lrc_judge_all.specs.JudgesAll.{JudgesAll}
use Rattle.lrc_cli.proofs.judged.judged_all.Goals as goal

pub returns-clause-ok : goal.returns-clause-ok
returns-clause-ok c = (
  c.memory_of.result,
  c.memory_of.ensures,
  subst (λ (nodes : Option ℕ). JudgesAll nodes c.memory_of.result c.args.judging.now.pairs c.args.text.now (whole_text c.in_ok-judged.judged.parts.items)
      c.in_ok-judged.judged.status) c.nodes_of.ensures.value c.in_ok-judged.ensures.ok,
)
