-- What the finder has found, if anything.
use Rattle.std.proofs.Common.{◌≡◌, ℕ, List, length, subst, arith}
use Rattle.std.proofs.lemmas.Option.{slice_get-get_or}
use Rattle.std.specs.Prelude.{Option, Result, Ok, Err, IfOk}
use Rattle.lrc_races_trace.specs.declared.event.Event.{Event}
use Rattle.lrc_races_trace.specs.declared.fault.Fault.{Fault}
use Rattle.lrc_races_trace.specs.Formed.{IsFirstFault}
use Rattle.lrc_races_detector.specs.Finding.{HasLooked}
use Rattle.lrc_races_text.specs.declared.ill.Ill.{Ill}
use Rattle.lrc_races_text.specs.Ill.{IsFirstIllOf, IsIllIfAny}
use Rattle.lrc_races_text.specs.Naming.{Naming}
use Rattle.lrc_races_text.specs.Tables.{naming_of}
use Rattle.lrc_races_text.proofs.ill.first_ill.Goals as goal

first_of : {E : Type 0} (naming : Naming) (events : List Event) (fault : Option Fault) (result : Result (Option Ill) E)
    → IsFirstFault events (length events) fault → IfOk result (IsIllIfAny naming fault) → IfOk result (IsFirstIllOf naming events)
first_of naming events fault (Ok ill) first is = (fault, first, is)
first_of naming events fault (Err error) first is = tt

pub loop-event-init : goal.loop-event-init
loop-event-init c = c.new-finder.ensures c.args.events.now

pub loop-event-preserved : goal.loop-event-preserved
loop-event-preserved c =
    let events = c.args.events.now in
    let n = c.loop-event.event-index in
    c.in_ok-take.ensures events n (omega arith) (record { is = slice_get-get_or events n _ c.loop-event-test.true }) c.loop-event.invariant

pub returns : goal.returns
returns c =
    let all : c.loop-event.event-index ≡ length c.args.events.now = omega arith in
    let looked = subst (λ (n : ℕ). HasLooked c.args.events.now n c.loop-event.finder) all c.loop-event.invariant in
    first_of (naming_of c.args.names.now) c.args.events.now c.fault.result _ (c.fault.ensures c.args.events.now (length c.args.events.now) looked) c.ill_if_any.ensures
