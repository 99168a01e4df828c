-- The thread settles by what was made, where the acts end.
use Rattle.std.proofs.Common.{◌≡◌, ◌+◌, ◌-◌, false, sym, ◌∙◌, subst, arith}
use Rattle.std.specs.Prelude.{◌||◌}
use Rattle.lrc_exec.specs.Spots.{thread_at, spot_thread}
use Rattle.lrc_orders_laws.specs.Free.{Turns}
use Rattle.lrc_orders_settling.proofs.SoFar.{SoFar, waits_out, waits_here, turns_here, open_here, known_no_turns, one_on, all_made, none_stops}
use Rattle.lrc_orders_settling.proofs.settling.make_free_acts.Goals.{then-not-stops+in-Stops, else-not-stops}
use Rattle.lrc_orders_settling.proofs.settling.make_free_acts.Goals as goal

pub returns-then-is_out-clause-ends : goal.returns-then-is_out-clause-ends
returns-then-is_out-clause-ends c =
    let l = c.loop-step in
    waits_out c.args.flat.now (spot_thread c.args.flat.now c.args.spot.now) l.spot l.deeds.items l.stops l.step l.invariant
    (sym c.is_out.ensures ∙ c.if-is_out.true)

pub returns-in-Turns-clause-ends : goal.returns-in-Turns-clause-ends
returns-in-Turns-clause-ends c =
    let l = c.loop-step in
    turns_here c.args.flat.now (spot_thread c.args.flat.now c.args.spot.now) l.spot l.deeds.items l.stops l.step l.invariant
    (sym c.is_out.ensures ∙ c.if-is_out.false) c.in-Turns.ensures

pub returns-in-Open-clause-ends : goal.returns-in-Open-clause-ends
returns-in-Open-clause-ends c =
    let l = c.loop-step in
    open_here c.args.flat.now (spot_thread c.args.flat.now c.args.spot.now) l.spot l.deeds.items l.stops l.step l.invariant
    (sym c.is_out.ensures ∙ c.if-is_out.false) c.args.most c.loop-step-test.true c.in-Open.ensures

pub returns-in_default-clause-ends : goal.returns-in_default-clause-ends
returns-in_default-clause-ends c =
    let l = c.loop-step in
    waits_here c.args.flat.now (spot_thread c.args.flat.now c.args.spot.now) l.spot l.deeds.items l.stops l.step l.invariant
    (sym c.is_out.ensures ∙ c.if-is_out.false) c.in_default.ensures.makes.0 c.make_free_act.new.spot c.in_default.ensures.makes.1

pub loop-step-preserved : goal.loop-step-preserved
loop-step-preserved c =
    let l = c.loop-step in
    let flat = c.args.flat.now in
    let start = spot_thread flat c.args.spot.now in
    let inside : (l.spot.stopped || l.spot.arrived) ≡ false = sym c.is_out.ensures ∙ c.if-is_out.false in
    let never : ¬ Turns (thread_at flat l.spot) =
    elim c.if-not-stops.branch [
      | then-not-stops+in-Stops w ↦ none_stops (c.args.most - l.step) (thread_at flat l.spot) w.in-Stops.ensures
      | else-not-stops w ↦ known_no_turns flat start l.spot l.deeds.items l.stops l.step l.invariant inside w.if-not-stops.false
    ] in
    subst (λ d. SoFar flat start c.make_free_act.new.spot d c.is_quiet_made-stops.result (l.step + 1)) (sym c.in_ok-push.ensures.items)
    (one_on flat start l.spot l.deeds.items l.stops l.step l.invariant inside c.make_free_act.new.spot c.in-Some.deed c.is_quiet_made-stops.result never
    c.in-Some.ensures.makes.0 c.in-Some.ensures.makes.1 c.is_quiet_made-stops.ensures c.make_free_act.ensures.within)

pub returns-clause-ends : goal.returns-clause-ends
returns-clause-ends c =
    let l = c.loop-step in
    all_made c.args.flat.now (spot_thread c.args.flat.now c.args.spot.now) l.spot l.deeds.items l.stops l.step l.invariant c.args.most
    (omega (arith, c.loop-step-test.false, l.auto.step-end))
