use Rattle.std.proofs.Common.{arith, get_or, sym, ◌∙◌, ap}
use Rattle.lrc_why_chains.proofs.Holding.{held-none, held-same, held-acquire, held-release}
use Rattle.lrc_trace.specs.declared.act.Act.{Act}
use Rattle.lrc_trace.specs.declared.act.Deed.TheVariants.{Quiet, Acquire, Release}
use Rattle.lrc_trace.proofs.Positions.{Does-read}
use Rattle.lrc_why_chains.proofs.held.held_at.Goals as goal
use Rattle.lrc_why_chains.proofs.held.held_at.Goals.{then-acts-k+in-Acquire, then-acts-k+in-Release, then-acts-k+in_default, else-acts-k}

pub loop-k-init : goal.loop-k-init
loop-k-init c = held-none c.args.acts.now c.args.node _ (c.in_ok-held.ensures.items_if_clones_equal (λ y e. e))

pub loop-k-preserved : goal.loop-k-preserved
loop-k-preserved c =
    let run = c.args.acts.now in
    let n = c.loop-k.k in
    let quiet : Act = record { node = 0; deed = Quiet } in
    let other = (get_or run n quiet).node in
    let deed = (get_or run n quiet).deed in
    let here = Does-read run n quiet (omega (arith, c.loop-k-test.true, c.requires)) in
    let held = c.loop-k.held.items in
    let old = c.loop-k.invariant in
    elim c.if-acts-k.branch [
      | then-acts-k+in-Acquire w ↦
          let is = w.in-Acquire.is ∙ ap (λ l. Acquire l) (sym w.from.ensures) in
          rw w.held-is (held-acquire run n other deed here c.args.node held old w.from.result w.if-acts-k.true is (omega arith))
      | then-acts-k+in-Release w ↦
          let is = w.in-Release.is ∙ ap (λ l. Release l) (sym w.from-in-Release.ensures) in
          rw w.held-is (held-release run n other deed here c.args.node held old w.from-in-Release.result w.if-acts-k.true is (omega arith))
      | then-acts-k+in_default w ↦ rw w.held-is (held-same run n other deed here c.args.node held old (λ l e. w.in_default.not-Acquire l)
          (λ l e. w.in_default.not-Release l))
      | else-acts-k w ↦ rw w.held-is (held-same run n other deed here c.args.node held old (λ l e a. absurd (w.if-acts-k.false e))
          (λ l e a. absurd (w.if-acts-k.false e)))
    ]
