-- One event more, and all of them.
use Rattle.std.proofs.Common.{◌≡◌, ℕ, List, length, sym, subst, arith}
use Rattle.std.proofs.lemmas.Option.{slice_get-get_or}
use Rattle.lrc_races_trace.specs.declared.event.Pair.{Pair}
use Rattle.lrc_races_locations.specs.Located.{AreShown}
use Rattle.lrc_races_locations.specs.Taking.{HasLocated}
use Rattle.lrc_races_locations.proofs.Knowing.{taken_position}
use Rattle.lrc_races_locations.proofs.detector.locations_of.Goals as goal

pub loop-event-init : goal.loop-event-init
loop-event-init c = c.new-detector.ensures c.args.events.now

pub take-requires : goal.take-requires
take-requires c =
    let at = taken_position c.args.sought c.args.events.now c.loop-event.event-index c.loop-event.detector.detector c.loop-event.invariant.taken in
    omega (arith, at)

pub loop-event-preserved : goal.loop-event-preserved
loop-event-preserved c =
    let events = c.args.events.now in
    let n = c.loop-event.event-index in
    c.in_ok-take.ensures c.args.sought events n (record { is = slice_get-get_or events n _ c.loop-event-test.true }) c.loop-event.invariant

pub returns : goal.returns
returns c =
    let events = c.args.events.now in
    let done : c.loop-event.event-index ≡ length events = omega arith in
    let all = subst (λ (n : ℕ). HasLocated c.args.sought events n c.loop-event.detector) done c.loop-event.invariant in
    subst (λ (pairs : List Pair). AreShown c.args.sought events pairs) (sym c.in_ok-pairs.ensures.items)
    (c.pairs.ensures c.args.sought events all.shown)
