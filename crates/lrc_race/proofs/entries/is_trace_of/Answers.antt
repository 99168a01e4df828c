use Rattle.std.proofs.Common.{◌≡◌, ◌<◌, ◌∙◌, get_or, length, refl, sym, ap, arith}
use Rattle.std.proofs.lemmas.Bool.{false≢true}
use Rattle.lrc_trace.specs.declared.trace.Segment.{Segment}
use Rattle.lrc_race.proofs.Found.{each-more, each-all}
use Rattle.lrc_race.proofs.entries.is_trace_of.Goals as goal

pub returns-then-nodes : goal.returns-then-nodes
returns-then-nodes c =
    let segments = c.args.trace.now.segments in
    let s = c.segment-item.result in
    let within : c.loop-segment.segment-index < length segments = rw c.segments-segment-items.ensures.all at c.loop-segment-test.true in
    let is : s ≡ get_or segments c.loop-segment.segment-index s = rw c.segments-segment-items.ensures.all at c.segment-item.is in
    (λ no. absurd (false≢true no), λ of. absurd (c.if-nodes.true (c.nodes.ensures.all ∙ of.1 s (c.loop-segment.segment-index, within, sym is))))

pub loop-segment-preserved : goal.loop-segment-preserved
loop-segment-preserved c =
    let segments = c.args.trace.now.segments in
    let s = c.segment-item.result in
    let within : c.loop-segment.segment-index < length segments = rw c.segments-segment-items.ensures.all at c.loop-segment-test.true in
    let is : s ≡ get_or segments c.loop-segment.segment-index s = rw c.segments-segment-items.ensures.all at c.segment-item.is in
    each-more (λ (t : Segment). length t.time ≡ c.args.nodes) segments c.loop-segment.segment-index s within is c.loop-segment.invariant
    (sym c.nodes.ensures.all ∙ c.if-nodes.false)

pub returns : goal.returns
returns c = (
  λ yes. (
    omega (arith, c.node.ensures, c.if-node-nodes.false),
    each-all (λ (t : Segment). length t.time ≡ c.args.nodes) c.args.trace.now.segments c.loop-segment.segment-index
        (omega (arith, ap length c.segments-segment-items.ensures.all)) c.loop-segment.invariant,
  ),
  λ of. refl,
)
