use Rattle.std.proofs.Common.{List, subst, take_all, arith}
use Rattle.std.proofs.lemmas.List.Elements.{All-nil}
use Rattle.lrc_trace.specs.declared.act.Act.{Act}
use Rattle.lrc_judge_text.specs.Judgement.{IsNodeCount}
use Rattle.lrc_judge_text.proofs.Within.{counted_more}
use Rattle.lrc_judge_text.proofs.judge.node_count.Goals as goal

pub loop-act-init : goal.loop-act-init
loop-act-init c = record { some = omega arith; above = All-nil _; least = λ other some all. omega (arith, some) }

pub loop-act-preserved : goal.loop-act-preserved
loop-act-preserved c =
    counted_more c.args.acts.now c.loop-act.act-index c.loop-act.count c.greater-count.result _ c.loop-act-test.true c.loop-act.invariant
    c.greater-count.ensures.first c.greater-count.ensures.second c.greater-count.ensures.one

pub returns-clause-count : goal.returns-clause-count
returns-clause-count c = subst (λ (acts : List Act). IsNodeCount acts c.loop-act.count) (take_all c.loop-act.act-index c.args.acts.now c.loop-act-test.false)
    c.loop-act.invariant

pub returns-clause-bound : goal.returns-clause-bound
returns-clause-bound c = (returns-clause-count c).least 16 (omega arith) c.requires
