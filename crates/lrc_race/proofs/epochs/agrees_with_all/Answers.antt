use Rattle.std.proofs.Common.{◌≢◌, ◌∙◌, refl, sym, arith}
use Rattle.std.proofs.lemmas.Bool.{false≢true}
use Rattle.lrc_trace.specs.Trace.{TraceRecord}
use Rattle.lrc_race.specs.Epochs.{AgreesBetween}
use Rattle.lrc_race.proofs.Found.{each-more, each-all}
use Rattle.lrc_race.proofs.epochs.agrees_with_all.Goals as goal
use Rattle.lrc_race.proofs.epochs.agrees_with_all.Goals.{else-node-via-then-node+else-not-agrees_between, else-node-via-else-node}

pub agrees_between-requires : goal.agrees_between-requires
agrees_between-requires c =
    let of = c.requires.traces.1 in (
      c.requires.traces.0,
      of.below c.a-item.result (c.loop-a.a-index, c.loop-a-test.true, sym c.a-item.is),
      λ t there. of.entries c.args.b.now t c.requires.there there,
    )

pub returns-then-not-agrees_between : goal.returns-then-not-agrees_between
returns-then-not-agrees_between c =
    let a = c.a-item.result in (
      λ no. absurd (false≢true no),
      λ all. c.if-not-agrees_between.ensures.1
          (all a (c.loop-a.a-index, c.loop-a-test.true, sym c.a-item.is) (λ same. c.if-node.true (c.node.ensures ∙ same ∙ sym c.node-in-loop-a.ensures))),
    )

pub loop-a-preserved : goal.loop-a-preserved
loop-a-preserved c =
    let b = c.args.b.now in
    let a = c.a-item.result in
    let P = λ (t : TraceRecord). t.node ≢ b.node → AgreesBetween t b in
    let here : a.node ≢ b.node → AgreesBetween a b =
    λ apart. elim c.else-node.branch [
      | else-node-via-then-node+else-not-agrees_between w ↦ w.if-not-agrees_between.ensures.0 refl
      | else-node-via-else-node w ↦ absurd (apart (sym c.node.ensures ∙ w.if-node.false ∙ c.node-in-loop-a.ensures))
    ] in
    each-more P c.args.traces.now c.loop-a.a-index a c.loop-a-test.true c.a-item.is c.loop-a.invariant here

pub returns : goal.returns
returns c =
    let P = λ (t : TraceRecord). t.node ≢ c.args.b.now.node → AgreesBetween t c.args.b.now in (
      λ yes a there apart. each-all P c.args.traces.now c.loop-a.a-index (omega arith) c.loop-a.invariant a there apart,
      λ all. refl,
    )
