use Rattle.std.proofs.Common.{rules, ◌≡◌, ◌∙◌, ◌<◌, ◌≤◌, ℕ, All, List, Option, Some, None, IfSome, ap, arith, length, subst, sym}
use Rattle.lrc_trace.specs.declared.act.Act.{Act}
use Rattle.lrc_labels.specs.declared.cut.Divider.TheVariants.{LineFeed}
use Rattle.lrc_labels.specs.Cut.{cut, divides}
use Rattle.lrc_judge_text.specs.Judgement.{CountsNodes}
use Rattle.lrc_judge_text.proofs.Within.{acts_ranged}
use Rattle.lrc_acts_lines.specs.Named.{AreLinesTold}
use Rattle.lrc_chart_build.specs.Portrait.{MOST_SHOWN}
use Rattle.lrc_chart_build.specs.declared.part.Place.{Place}
use Rattle.lrc_chart_acts.specs.Picture.{IsPortraitOfActs}
use Rattle.lrc_chart_acts.specs.Shown.{acts_shown}
use Rattle.lrc_chart_acts.proofs.portrait.portrait_of_acts.Goals as goal

-- there is a node
some_node : (nodes : Option ℕ) (acts : List Act) (count : ℕ) → IfSome nodes (λ n. 1 ≤ n) → CountsNodes nodes acts count → 1 ≤ count
some_node (Some n) acts count some is = omega (arith, some, is)
some_node None acts count some is = omega (arith, is.some)

pub nodes_of-count-requires-clause-acts : goal.nodes_of-count-requires-clause-acts
nodes_of-count-requires-clause-acts c =
    subst (λ (acts : List Act). All (λ act. act.node < 16) acts) (sym c.as_slice-acts.ensures.value) (acts_ranged c.in_ok-lined.ensures.ok.1)

pub portrait_in-requires-clause-some : goal.portrait_in-requires-clause-some
portrait_in-requires-clause-some c =
    some_node c.args.nodes c.as_slice-acts.result.now c.nodes_of-count.result c.requires.some c.nodes_of-count.ensures.nodes

pub portrait_in-requires-clause-acts : goal.portrait_in-requires-clause-acts
portrait_in-requires-clause-acts c =
    subst (λ (acts : List Act). All (λ act. act.node < 16) acts) (sym c.as_slice-acts.ensures.value) (acts_ranged c.in_ok-lined.ensures.ok.1)

pub returns-then-len-gt-MOST_ROWS-clause-err : goal.returns-then-len-gt-MOST_ROWS-clause-err
returns-then-len-gt-MOST_ROWS-clause-err c =
    let many : c.len.result ≡ length c.in_ok-places.places.items = search rules in (
      c.in_ok-lined.lined,
      c.in_ok-lined.ensures.ok,
      subst (λ (l : List Place). MOST_SHOWN < length l) (c.in_ok-places.ensures ∙ ap (acts_shown c.args.part) c.as_slice-acts.ensures.value)
          (subst (λ n. MOST_SHOWN < n) many c.if-len-gt-MOST_ROWS.true),
    )

pub returns-clause-ok : goal.returns-clause-ok
returns-clause-ok c =
    let lined = c.in_ok-lined.lined in
    let text = c.args.text.now in
    let part = c.args.part in
    let lines = c.in_ok-lines.lines.items in
    let picture = c.in_ok-picture.picture in
    let count = c.nodes_of-count.result in
    let many : c.len.result ≡ length c.in_ok-places.places.items = search rules in
    record {
      lined = lined;
      says = c.in_ok-lined.ensures.ok;
      count = count;
      counted = subst (λ (acts : List Act). CountsNodes c.args.nodes acts count) c.as_slice-acts.ensures.value c.nodes_of-count.ensures.nodes;
      lines = lines;
      told = subst (λ (numbers : List ℕ). AreLinesTold (cut (divides LineFeed) text) numbers lines) c.deref.ensures.value c.in_ok-lines.ensures;
      few = subst (λ (l : List Place). length l ≤ MOST_SHOWN) (c.in_ok-places.ensures ∙ ap (acts_shown part) c.as_slice-acts.ensures.value)
          (subst (λ n. n ≤ MOST_SHOWN) many c.if-len-gt-MOST_ROWS.false);
      portrait = subst (λ (acts : List Act). IsPortraitOfActs c.args.title.now count acts lines part picture) c.as_slice-acts.ensures.value
          (subst (λ (ls : List ℕ). IsPortraitOfActs c.args.title.now count c.as_slice-acts.result.now ls part picture) c.as_slice.ensures.value
          (c.in_ok-picture.ensures part (c.as_slice-2.ensures.value ∙ c.in_ok-places.ensures)));
    }
