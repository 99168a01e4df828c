-- One event more is taken, and what is told of it is looked at.
use Rattle.std.proofs.Common.{◌≡◌, List, length, subst, sym, arith}
use Rattle.std.specs.Prelude.{AllPairs}
use Rattle.std.proofs.lemmas.Option.{slice_get-get_or}
use Rattle.lrc_races_trace.specs.declared.event.Pair.{Pair}
use Rattle.lrc_races_trace.specs.Races.{ComesFirst}
use Rattle.lrc_races_locations.proofs.Knowing.{taken_position}
use Rattle.lrc_races_missed.specs.Keyless.{AreLinesAdded}
use Rattle.lrc_races_missed.proofs.PairLemmas.{before_all, before_more, before_none, told_in_order}
use Rattle.lrc_races_missed.proofs.pairs.missed_pairs.Goals as goal

pub loop-event-init : goal.loop-event-init
loop-event-init c = record {
  taken = c.new-detector.ensures c.args.events.now;
  missed = before_none c.args.sought c.args.events.now c.args.keys.now.keys _ c.new-lines.ensures.items;
}

pub take-requires : goal.take-requires
take-requires c =
    let at = taken_position c.args.sought c.args.events.now c.loop-event.event-index c.loop-event.detector c.loop-event.invariant.taken in
    omega (arith, at)

pub loop-event-preserved : goal.loop-event-preserved
loop-event-preserved c =
    let events = c.args.events.now in
    let n = c.loop-event.event-index in
    let (taken, told) = c.in_ok-take.ensures c.args.sought events n (record { is = slice_get-get_or events n _ c.loop-event-test.true })
    c.loop-event.invariant.taken in
    let items = c.take.new.told.items in
    let ordered = told_in_order c.args.sought events n items told in
    record {
      taken = taken;
      missed = before_more c.args.sought events c.args.keys.now.keys n items c.loop-event.lines.items c.note_told.new.lines.items told
          (subst (λ (l : List Pair). AreLinesAdded c.args.keys.now.keys l c.loop-event.lines.items c.note_told.new.lines.items) c.as_slice.ensures.value
          (c.in_ok-note_told.ensures (subst (λ (l : List Pair). AllPairs ComesFirst l) (sym c.as_slice.ensures.value) ordered))) c.loop-event.invariant.missed;
    }

pub returns : goal.returns
returns c =
    let done : c.loop-event.event-index ≡ length c.args.events.now = omega arith in
    λ claims variables places are.
    before_all c.args.sought c.args.events.now claims variables places c.args.keys.now.keys c.loop-event.event-index c.loop-event.lines.items done are
    c.loop-event.invariant.missed
