use Rattle.std.proofs.Common.{rules, ◌≡◌, ◌<◌, List, ℕ, All, length, subst, sym}
use Rattle.lrc_trace.specs.declared.act.Act.{Act}
use Rattle.lrc_labels.specs.declared.cut.Divider.TheVariants.{LineFeed}
use Rattle.lrc_labels.specs.Cut.{cut, divides}
use Rattle.lrc_judge_text.specs.Judgement.{CountsNodes}
use Rattle.lrc_judge_text.proofs.Within.{acts_ranged}
use Rattle.lrc_why_text.specs.Answers.{IsMissing, IsShownPlainly, IsThere}
use Rattle.lrc_acts_lines.specs.Named.{AreLinesTold}
use Rattle.lrc_why_text.proofs.acts.why_acts.Goals as goal

pub returns-in-Some-clause-err : goal.returns-in-Some-clause-err
returns-in-Some-clause-err c =
    let lined = c.in_ok-lined.lined in
    let many : c.len-count.result ≡ length lined.acts.items = search rules in
    (lined, c.in_ok-lined.ensures.ok, many, c.in-Some.ensures)

pub nodes_of-requires-clause-acts : goal.nodes_of-requires-clause-acts
nodes_of-requires-clause-acts c =
    subst (λ (acts : List Act). All (λ act. act.node < 16) acts) (sym c.deref-4.ensures.value) (acts_ranged c.in_ok-lined.ensures.ok.1)

pub told-requires-clause-nodes : goal.told-requires-clause-nodes
told-requires-clause-nodes c =
    subst (λ (acts : List Act). All (λ act. act.node < 16) acts) (sym c.deref-2.ensures.value) (acts_ranged c.in_ok-lined.ensures.ok.1)

pub returns-clause-ok : goal.returns-clause-ok
returns-clause-ok c =
    let lined = c.in_ok-lined.lined in
    let text = c.args.text.now in
    let lines = c.in_ok-lines.lines.items in
    let many : c.len-count.result ≡ length lined.acts.items = search rules in
    let (shown, is_shown, tells) = c.in_ok-parts.ensures in
    record {
      lined = lined;
      says = c.in_ok-lined.ensures.ok;
      there = subst (λ n. IsThere c.args.asked.act c.args.asked.and n) many c.in_default.ensures;
      count = c.nodes_of.result;
      counted = subst (λ (acts : List Act). CountsNodes c.args.nodes acts c.nodes_of.result) c.deref-4.ensures.value c.nodes_of.ensures.nodes;
      lines = lines;
      told = subst (λ (numbers : List ℕ). AreLinesTold (cut (divides LineFeed) text) numbers lines) c.deref.ensures.value c.in_ok-lines.ensures;
      shown = shown;
      is_shown = subst (λ (acts : List Act). IsShownPlainly shown acts lines) c.deref-2.ensures.value
          (subst (λ (ls : List ℕ). IsShownPlainly shown c.deref-2.result.now ls) c.deref-3.ensures.value is_shown);
      tells = tells;
    }
