use Rattle.std.proofs.Common.{◌≡◌, ◌∙◌, ◌<◌, ℕ, List, All, length, ap, false, inl, inr, subst, sym}
use Rattle.lrc_trace.specs.declared.act.Act.{Act}
use Rattle.lrc_text.specs.Parts.{whole_text}
use Rattle.lrc_acts.specs.declared.reading.ActsFault.TheVariants.{NoMemory}
use Rattle.lrc_judge_text.specs.Judgement.{CountsNodes, IsJudgement, MayRunOut}
use Rattle.lrc_judge_text.proofs.Within.{acts_below, acts_ranged, as_many, fault_up}
use Rattle.lrc_judge_text.proofs.judge.judge.Goals as goal

pub nodes_of-requires-clause-acts : goal.nodes_of-requires-clause-acts
nodes_of-requires-clause-acts c =
    subst (λ (acts : List Act). All (λ act. act.node < 16) acts) (sym c.deref-3.ensures.value) (acts_ranged c.in_ok-lined.ensures.ok.1)

pub judgement-requires-clause-acts : goal.judgement-requires-clause-acts
judgement-requires-clause-acts c =
    subst (λ (acts : List Act). All (λ act. act.node < 16) acts) (sym c.deref.ensures.value) (acts_ranged c.in_ok-lined.ensures.ok.1)

pub judgement-requires-clause-below : goal.judgement-requires-clause-below
judgement-requires-clause-below c =
    let count = c.nodes_of.result in
    let counted = subst (λ (acts : List Act). CountsNodes c.args.nodes acts count) c.deref-3.ensures.value c.nodes_of.ensures.nodes in
    subst (λ (acts : List Act). All (λ act. act.node < count) acts) (sym c.deref.ensures.value)
    (acts_below c.args.nodes count c.in_ok-lined.ensures.ok.1 counted)

pub judgement-requires-clause-lines : goal.judgement-requires-clause-lines
judgement-requires-clause-lines c =
    ap (λ (acts : List Act). length acts) c.deref.ensures.value ∙ as_many c.in_ok-lined.ensures.ok.1
    ∙ sym (ap (λ (lines : List ℕ). length lines) c.deref-2.ensures.value)

pub returns-clause-ok : goal.returns-clause-ok
returns-clause-ok c =
    let count = c.nodes_of.result in
    let lined = c.in_ok-lined.lined in
    let out = whole_text c.in_ok-printout.printout.parts.items in
    let status = c.in_ok-printout.printout.status in
    record {
      lined = lined;
      count = count;
      says = c.in_ok-lined.ensures.ok;
      counted = subst (λ (acts : List Act). CountsNodes c.args.nodes acts count) c.deref-3.ensures.value c.nodes_of.ensures.nodes;
      judgement = subst (λ (acts : List Act). IsJudgement count c.args.memory acts lined.lines.items false out status) c.deref.ensures.value
          (subst (λ (lines : List ℕ). IsJudgement count c.args.memory c.deref.result.now lines false out status) c.deref-2.ensures.value
          c.in_ok-printout.ensures);
    }

pub returns-in_err-lined-clause-memory : goal.returns-in_err-lined-clause-memory
returns-in_err-lined-clause-memory c =
    fault_up c.from_residual.result c.in_err-lined.field-0.0 (λ f. f ≡ NoMemory → MayRunOut c.args.nodes c.args.text.now) c.from_residual.ensures.1
    (λ is. let some = c.in_err-lined.ensures.memory is in (some.0, inl some.1))

pub returns-in_err-printout-clause-memory : goal.returns-in_err-printout-clause-memory
returns-in_err-printout-clause-memory c =
    let lined = c.in_ok-lined.lined in
    fault_up c.from_residual-in_err-printout.result NoMemory (λ f. f ≡ NoMemory → MayRunOut c.args.nodes c.args.text.now)
    c.from_residual-in_err-printout.ensures.1 (λ _. (c.in_ok-lined.ensures.ok.0, inr (lined, c.in_ok-lined.ensures.ok)))
