-- One event more gives a variable that races, or none.
use Rattle.std.proofs.Common.{◌≡◌, ◌+◌, List, length, sym, subst, arith}
use Rattle.std.proofs.lemmas.Option.{slice_get-get_or}
use Rattle.lrc_races_missed.specs.declared.variables.Racing.{Racing}
use Rattle.lrc_races_missed.proofs.VariableLemmas.{GivenRacing, racing_are, racing_more, racing_none, racing_passed}
use Rattle.lrc_races_missed.proofs.variables.racing_of.Goals as goal

pub loop-event-init : goal.loop-event-init
loop-event-init c = λ by_line. racing_none c.args.events.now c.args.facts.now _ c.new-all.ensures.items

pub loop-event-preserved-in-None : goal.loop-event-preserved-in-None
loop-event-preserved-in-None c = λ by_line.
    let events = c.args.events.now in
    let n = c.loop-event.event-index in
    racing_passed events c.args.facts.now by_line n _ c.racing_at.result (slice_get-get_or events n _ c.loop-event-test.true) c.racing_at.ensures
    c.in-None.is c.loop-event.all.items (c.loop-event.invariant by_line)

pub loop-event-preserved : goal.loop-event-preserved
loop-event-preserved c = λ by_line.
    let events = c.args.events.now in
    let n = c.loop-event.event-index in
    subst (λ (all : List Racing). GivenRacing events c.args.facts.now (n + 1) all) (sym c.in_ok-push-in-Some.ensures.items)
    (racing_more events c.args.facts.now by_line n _ c.racing_at.result c.in-Some.racing (slice_get-get_or events n _ c.loop-event-test.true)
    c.racing_at.ensures c.in-Some.is c.loop-event.all.items (c.loop-event.invariant by_line))

pub returns : goal.returns
returns c =
    let done : c.loop-event.event-index ≡ length c.args.events.now = omega arith in
    λ sought by_line are.
    racing_are sought c.args.events.now c.args.facts.now c.loop-event.event-index c.loop-event.all.items done by_line are (c.loop-event.invariant by_line)
