-- One position further.
use Rattle.std.proofs.Common.{◌≡◌, ℕ, ◌+◌, ◌<◌, inl, inr, length, get_or, refl, sym, ◌∙◌, ap, arith, length-set}
use Rattle.std.specs.Prelude.{true, false, slice_index}
use Rattle.std.proofs.lemmas.List.{get_or-replicate}
use Rattle.std.proofs.lemmas.Result.{IfOk-from_err}
use Rattle.lrc_trace.specs.declared.act.Act.{Act}
use Rattle.lrc_trace.specs.declared.act.Deed.TheVariants.{Quiet}
use Rattle.lrc_trace.specs.Run.{Does}
use Rattle.lrc_trace.specs.Interval.{closes, interval_at}
use Rattle.lrc_trace.proofs.Positions.{Does-read, Does-node}
use Rattle.lrc_trace.proofs.Counts.{intervals_same, intervals_next, no_close}
use Rattle.lrc_judge.proofs.Representing.{intervals-more}
use Rattle.lrc_judge.proofs.firsts.intervals_of.Goals as goal
use Rattle.lrc_judge.proofs.firsts.intervals_of.Goals.{in-Acquire, in_default}

pub loop-position-preserved : goal.loop-position-preserved
loop-position-preserved c =
    let quiet : Act = record { node = 0; deed = Quiet } in
    let run = c.args.acts.now in
    let n = c.loop-position.position in
    let act = get_or run n quiet in
    let node = c.from-node.result in
    let here : Does run n node act.deed = Does-node (sym c.from-node.ensures) (Does-read run n quiet c.loop-position-test.true) in
    let reached = c.loop-position.reached in
    let below = c.requires n quiet c.loop-position-test.true in
    let full = c.loop-position.invariant.full in
    let within : node < length reached = omega (arith, below, full, c.from-node.ensures) in
    let interval = get_or reached node 0 in
    let is = c.loop-position.invariant.reached node within in
    let rest : (length c.match-acts-position.reached ≡ 16) × ((q : ℕ) → q < length c.match-acts-position.reached
    → slice_index c.match-acts-position.reached q ≡ interval_at run q (n + 1)) =
    elim c.match-acts-position.branch [
      | in-Acquire w ↦
          let passes : closes act.deed ≡ true = elim w.in-Acquire.is [
            | inl (l, e) ↦ ap closes e
            | inr (inl (l, e)) ↦ ap closes e
            | inr (inr e) ↦ ap closes e
          ] in
          rw w.reached-is (
            length-set reached node (interval + 1) ∙ full,
            intervals_next run n node act.deed here reached interval passes within is c.loop-position.invariant.reached,
          )
      | in_default w ↦
          let fails : closes act.deed ≡ false = no_close act.deed w.in_default.not-Acquire w.in_default.not-Release w.in_default.not-Arrive in
          rw w.reached-is (full, intervals_same run n node act.deed here reached fails c.loop-position.invariant.reached)
    ] in
    record {
      so_far = intervals-more run n node act.deed c.loop-position.intervals.items c.push.new.self.items interval here is
          c.in_ok-push.ensures.items c.loop-position.invariant.so_far;
      full = rest.0;
      reached = rest.1;
    }

pub bounds-acts-position : goal.bounds-acts-position
bounds-acts-position c = c.loop-position-test.true

pub bounds-reached-node : goal.bounds-reached-node
bounds-reached-node c = rw c.from-node.ensures (c.requires c.loop-position.position (record { node = 0; deed = Quiet }) c.loop-position-test.true)

pub bounds-reached-node-in-Acquire : goal.bounds-reached-node-in-Acquire
bounds-reached-node-in-Acquire c =
    rw c.from-node.ensures (c.requires c.loop-position.position (record { node = 0; deed = Quiet }) c.loop-position-test.true)

pub returns-in_err-push : goal.returns-in_err-push
returns-in_err-push c = IfOk-from_err c.from_residual.result _ c.from_residual.ensures.0

pub loop-position-init : goal.loop-position-init
loop-position-init c = record {
  so_far = record { long = ap length c.new-intervals.ensures.items; each = λ k node d before. absurd (omega (arith, before)) };
  full = refl;
  reached = λ q within. get_or-replicate 16 q 1 0 within;
}
