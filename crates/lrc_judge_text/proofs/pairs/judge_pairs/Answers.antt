use Rattle.std.proofs.Common.{◌≡◌, ◌<◌, List, All, inr, subst, sym}
use Rattle.lrc_trace.specs.declared.act.Act.{Act}
use Rattle.lrc_acts.specs.declared.reading.ActsFault.TheVariants.{NoMemory}
use Rattle.lrc_judge_text.specs.Judgement.{CountsNodes, MayRunOut}
use Rattle.lrc_judge_text.proofs.Judged.{judged-pairs}
use Rattle.lrc_judge_text.proofs.Within.{acts_below, acts_ranged, as_many, fault_up}
use Rattle.lrc_judge_text.proofs.pairs.judge_pairs.Goals as goal

pub nodes_of-count-requires-clause-acts : goal.nodes_of-count-requires-clause-acts
nodes_of-count-requires-clause-acts c =
    subst (λ (acts : List Act). All (λ act. act.node < 16) acts) (sym c.deref.ensures.value) (acts_ranged c.in_ok-lined.ensures.ok.1)

pub judgement_of-requires-clause-acts : goal.judgement_of-requires-clause-acts
judgement_of-requires-clause-acts c = acts_ranged c.in_ok-lined.ensures.ok.1

pub judgement_of-requires-clause-below : goal.judgement_of-requires-clause-below
judgement_of-requires-clause-below c =
    acts_below c.args.nodes c.nodes_of-count.result c.in_ok-lined.ensures.ok.1
    (subst (λ (acts : List Act). CountsNodes c.args.nodes acts c.nodes_of-count.result) c.deref.ensures.value c.nodes_of-count.ensures.nodes)

pub judgement_of-requires-clause-lines : goal.judgement_of-requires-clause-lines
judgement_of-requires-clause-lines c = as_many c.in_ok-lined.ensures.ok.1

pub returns-in_err-judgement-clause-memory : goal.returns-in_err-judgement-clause-memory
returns-in_err-judgement-clause-memory c =
    fault_up c.from_residual-in_err-judgement.result NoMemory (λ f. f ≡ NoMemory → MayRunOut c.args.nodes c.args.text.now)
    c.from_residual-in_err-judgement.ensures.1 (λ _. (c.in_ok-lined.ensures.ok.0, inr (c.in_ok-lined.lined, c.in_ok-lined.ensures.ok)))

pub returns-clause-ok : goal.returns-clause-ok
returns-clause-ok c = record {
  lined = c.in_ok-lined.lined;
  count = c.nodes_of-count.result;
  says = c.in_ok-lined.ensures.ok;
  counted = subst (λ (acts : List Act). CountsNodes c.args.nodes acts c.nodes_of-count.result) c.deref.ensures.value c.nodes_of-count.ensures.nodes;
  of = c.in_ok-judgement.ensures;
}

pub returns-clause-judges : goal.returns-clause-judges
returns-clause-judges c =
    judged-pairs c.args.nodes c.args.memory c.args.text.now c.in_ok-judgement.judgement (returns-clause-ok c)
