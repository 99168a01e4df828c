use Rattle.std.proofs.Common.{ℕ, Option, subst, true}
use Rattle.lrc_judge_text.specs.Judgement.{Judges}
use Rattle.lrc_judge_text.specs.PairsTold.{told_text}
use Rattle.lrc_cli.proofs.judged.judged_with_pairs.Goals as goal

pub returns-clause-ok : goal.returns-clause-ok
returns-clause-ok c = (
  c.memory_of.result,
  c.memory_of.ensures,
  subst (λ (nodes : Option ℕ). Judges nodes c.memory_of.result true c.args.text.now (told_text c.in_ok-judgement.judgement)
      c.in_ok-judgement.judgement.status) c.nodes_of.ensures.value c.in_ok-judgement.ensures.judges,
)
