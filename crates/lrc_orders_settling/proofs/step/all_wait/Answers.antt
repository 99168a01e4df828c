use Rattle.std.proofs.Common.{◌≡◌, ◌<◌, ◌∙◌, true, false, length, sym, ap, arith, below_more}
use Rattle.std.specs.Prelude.{not, ◌&&◌}
use Rattle.std.proofs.lemmas.List.{length-map}
use Rattle.lrc_exec.specs.declared.spot.Spot.{Spot}
use Rattle.lrc_exec.specs.Plain.{thread_in}
use Rattle.lrc_exec.specs.Spots.{spot_thread}
use Rattle.lrc_exec.specs.States.{plain_at}
use Rattle.lrc_orders_laws.specs.Steps.{waits_in}
use Rattle.lrc_orders_settling.proofs.Parts.{waits_at}
use Rattle.lrc_orders_settling.proofs.step.all_wait.Goals as goal

pub returns-then-not-waits : goal.returns-then-not-waits
returns-then-not-waits c =
    let flat = c.args.flat.now in
    let state = c.args.state.now in
    let node = c.loop-node.node in
    let within : node < length state.spots.items =
    omega (arith, c.loop-node-test.true, c.loop-node.auto.node-end, c.len-node-end.ensures, state.spots.ok.0) in (
      λ e. let f : false ≡ true = e in cc,
      λ all.
          sym c.if-not-waits.true ∙ c.waits.ensures ∙ ap (λ (s : Spot). not s.stopped && s.arrived) c.index.ensures
          ∙ sym (waits_at flat state node c.index.result.now within)
          ∙ all.each node (omega (arith, within, length-map state.spots.items (spot_thread flat))),
    )

pub loop-node-preserved : goal.loop-node-preserved
loop-node-preserved c =
    let flat = c.args.flat.now in
    let state = c.args.state.now in
    let node = c.loop-node.node in
    let within : node < length state.spots.items =
    omega (arith, c.loop-node-test.true, c.loop-node.auto.node-end, c.len-node-end.ensures, state.spots.ok.0) in
    below_more (λ k. waits_in (thread_in (plain_at flat state) k) ≡ true) node c.loop-node.invariant
    (waits_at flat state node c.index.result.now within ∙ sym (ap (λ (s : Spot). not s.stopped && s.arrived) c.index.ensures) ∙ sym c.waits.ensures
    ∙ c.if-not-waits.false)
