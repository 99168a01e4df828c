-- What each operation comes right before.
use Rattle.std.proofs.Common.{◌+◌, ◌∙◌, inl, inr, ap}
use Rattle.lrc_races_trace.specs.declared.event.Operation.TheVariants.{Release, Post, Fork, Arrive}
use Rattle.lrc_chains.specs.Table.{start_at}
use Rattle.lrc_races_why.specs.Cycles.{cycle_in}
use Rattle.lrc_races_why.proofs.Gating.{Best-gate, Best-ungated, ungated, locks-best, cycle-best}
use Rattle.lrc_races_why.proofs.onward.Onward.gated.Goals as goal

pub returns-in-Release : goal.returns-in-Release
returns-in-Release c = λ events to n e on.
    let l = c.in-Release.lock in
    let best = locks-best events to (n + 1) l c.args.self.now.locks.items c.start_at.result
    (c.start_at.ensures ∙ ap (λ row. start_at row l) c.as_slice.ensures.value) on.locks in
    elim c.in-Release.is [
      | inl released ↦ Best-gate events to n c.args.event.operation (Release l) c.start_at.result released best
      | inr posted ↦ Best-gate events to n c.args.event.operation (Post l) c.start_at.result posted best
    ]

pub returns-in-Fork : goal.returns-in-Fork
returns-in-Fork c = λ events to n e on.
    Best-gate events to n c.args.event.operation (Fork c.in-Fork.thread) c.of_thread.result c.in-Fork.is (c.of_thread.ensures events to (n + 1) on)

pub returns-in-Arrive : goal.returns-in-Arrive
returns-in-Arrive c = λ events to n e on.
    let x = c.in-Arrive.barrier in
    Best-gate events to n c.args.event.operation (Arrive x) c.of_cycle.result c.in-Arrive.is
    (cycle-best events to n x c.args.self.now.departs.items c.of_cycle.result
    (c.of_cycle.ensures _ (e ∙ ap (cycle_in events n c.args.event.thread) c.in-Arrive.is)) on.departs)

pub returns-in_default : goal.returns-in_default
returns-in_default c = λ events to n e on.
    Best-ungated events to n c.args.event.operation
    (ungated events n c.args.event.operation c.in_default.not-Release c.in_default.not-Post c.in_default.not-Fork c.in_default.not-Arrive)
