use Rattle.std.proofs.Common.{◌≡◌, ◌∙◌, ℕ, [], ◌++◌, List, Some, Err, inr, length, ap, subst, sym, arith}
use Rattle.lrc_program.specs.declared.Program.{Program}
use Rattle.lrc_protocol.specs.declared.event.Event.{Event}
use Rattle.lrc_protocol.specs.Node.{OptionsRecord}
use Rattle.lrc_protocol.specs.Run.{fresh_world}
use Rattle.lrc_protocol.proofs.Worlds.{run-whole}
use Rattle.lrc_world.specs.declared.keep.Keep.{Keep}
use Rattle.lrc_world.specs.declared.report.TurnFault.{TurnFault}
use Rattle.lrc_world.specs.declared.report.TurnFault.TheVariants.{NoMemory, Worn}
use Rattle.lrc_world.specs.declared.rounds.Driver.{Driver}
use Rattle.lrc_world.specs.declared.turned.Turned.{Turned}
use Rattle.lrc_world.specs.declared.world.World.{World}
use Rattle.lrc_world.specs.Driven.{DriverStandsAt, IsDrivenBy, schedule_of}
use Rattle.lrc_world.specs.Led.{Schedule}
use Rattle.lrc_world.specs.Report.{IsWornFault}
use Rattle.lrc_world.specs.Runs.{AreFollowed, AreFollowedToEnd, ShowsRun, WearsOutBehind}
use Rattle.lrc_world.specs.Turned.{turned_from, turned_of, when_all}
use Rattle.lrc_world.specs.World.{starts_of}
use Rattle.lrc_world.proofs.Events.{fault_up}
use Rattle.lrc_world.proofs.Driven.{at_start, led_played}
use Rattle.lrc_world.proofs.Made.{turned_both}
use Rattle.lrc_world.proofs.Noted.{kept_both}
use Rattle.lrc_world.proofs.Runs.{as_they_are, led_unskipped}
use Rattle.lrc_world.proofs.Unskipped.{run_behind}
use Rattle.lrc_world.proofs.run.led_on.Goals as goal

module _ (s : Schedule) (program : Program) (nodes : ℕ) (options : OptionsRecord) (keep : Keep) (before : List Event) (world : World)
    (shown : ShowsRun keep program nodes options before world) where
  earlier : List Turned
  earlier = when_all keep (turned_of program nodes options before)

  -- the driver before any event that follows
  first : (d : Driver) → d.world ≡ world → d.events.items ≡ [] → DriverStandsAt s (starts_of program nodes options keep) shown.0 earlier s.first d
  unfolding earlier
  first d is none = at_start s (starts_of program nodes options keep) shown.0 earlier d world shown.2 shown.3 is none

  -- why it is not led on
  worn_out : (old new : Driver) (fault : TurnFault) → old.world ≡ world → old.events.items ≡ [] → IsDrivenBy s old new (Err fault)
      → IsWornFault (WearsOutBehind s before program nodes options) fault
  worn_out old new Worn is none goes =
      inr (shown.0, shown.1, goes.1 (starts_of program nodes options keep) shown.0 earlier (first old is none))
  worn_out old new NoMemory is none goes = tt

  -- its world shows the run of all events
  shows_all : (at : s.Standing) (d : Driver) → DriverStandsAt s (starts_of program nodes options keep) shown.0 earlier at d
      → ShowsRun keep program nodes options (before ++ d.events.items) d.world
  unfolding earlier
  shows_all at d r = (
    r.run,
    run_behind program nodes options before shown.0 shown.1 d.events.items r.run (led_played s shown.0 d.events.items r.run r.standing r.led),
    r.shows,
    r.turned ∙ sym (kept_both keep (turned_of program nodes options before) (turned_from (Some shown.0) d.events.items))
        ∙ ap (when_all keep) (ap (λ w. turned_of program nodes options before ++ turned_from w d.events.items) (sym shown.1)
        ∙ sym (turned_both (Some (fresh_world program nodes options)) before d.events.items)),
  )

-- why there is no run
abbrev IsWorn : Schedule → Keep → Program → ℕ → List Event → World → TurnFault → Type 0
IsWorn s keep program nodes before world fault = (options : OptionsRecord) → ShowsRun keep program nodes options before world
    → IsWornFault (WearsOutBehind s before program nodes options) fault

pub returns-in_err-lead-clause-fault : goal.returns-in_err-lead-clause-fault
returns-in_err-lead-clause-fault c =
    let s = schedule_of c.args.nodes c.args.lead in
    fault_up c.from_residual.result c.in_err-lead.field-0.0
    (IsWorn s c.args.keep c.args.program.now c.args.nodes c.args.before.now c.args.world) c.from_residual.ensures.1
    (λ options shown. worn_out s c.args.program.now c.args.nodes options c.args.keep c.args.before.now c.args.world shown c.new-driver.result
    c.lead.new.self c.in_err-lead.field-0.0 c.new-driver.ensures.world c.new-driver.ensures.events c.in_err-lead.ensures.goes)

pub run_shown-requires-clause-shown : goal.run_shown-requires-clause-shown
unfolding earlier
run_shown-requires-clause-shown c =
    let s = schedule_of c.args.nodes c.args.lead in
    let options = c.requires.shown.0 in
    let shown = c.requires.shown.1 in
    let d = first s c.args.program.now c.args.nodes options c.args.keep c.args.before.now c.args.world shown c.new-driver.result
    c.new-driver.ensures.world c.new-driver.ensures.events in
    let r = c.in_ok-lead.ensures.goes.1.drives (starts_of c.args.program.now c.args.nodes options c.args.keep) shown.0
    (when_all c.args.keep (turned_of c.args.program.now c.args.nodes options c.args.before.now)) d in (
      options,
      subst (λ events. ShowsRun c.args.keep c.args.program.now c.args.nodes options events c.lead.new.self.world)
          (sym c.in_ok-played.ensures)
          (shows_all s c.args.program.now c.args.nodes options c.args.keep c.args.before.now c.args.world shown
          c.in_ok-lead.ensures.goes.0 c.lead.new.self r),
    )

pub returns-clause-run : goal.returns-clause-run
unfolding earlier
returns-clause-run c = λ options shown.
    let s = schedule_of c.args.nodes c.args.lead in
    let starts = starts_of c.args.program.now c.args.nodes options c.args.keep in
    let more = c.lead.new.self.events.items in
    let d = first s c.args.program.now c.args.nodes options c.args.keep c.args.before.now c.args.world shown c.new-driver.result
    c.new-driver.ensures.world c.new-driver.ensures.events in
    let r = c.in_ok-lead.ensures.goes.1.drives starts shown.0
    (when_all c.args.keep (turned_of c.args.program.now c.args.nodes options c.args.before.now)) d in
    let all = run_behind c.args.program.now c.args.nodes options c.args.before.now shown.0 shown.1 more r.run
    (led_played s shown.0 more r.run r.standing r.led) in
    let none = ap length c.new-driver.ensures.events in
    let to_end : AreFollowedToEnd s c.args.program.now c.args.nodes options c.args.before.now more =
    record {
      start = shown.0;
      starts = shown.1;
      end = r.run;
      at = r.standing;
      led = r.led;
      unskipped = led_unskipped c.args.program.now c.args.nodes options c.args.before.now shown.0 shown.1 c.args.lead more r.run r.standing r.led;
      few = c.in_ok-lead.ensures.goes.1.few (omega (arith, none));
      over = λ below. (
        r.run,
        all,
        c.in_ok-lead.ensures.over below starts r.run r.shows
            (run-whole c.args.program.now c.args.nodes options (c.args.before.now ++ more) r.run all).count,
      );
    } in
    as_they_are (λ played. played ≡ c.in_ok-played.played.items) (AreFollowed s c.args.before.now c.args.program.now c.args.nodes options)
    c.args.program.now c.args.nodes options c.args.keep c.in_ok-run.run'
    (λ events same. (more, same ∙ c.in_ok-played.ensures, to_end))
    (c.in_ok-run.ensures options
    (subst (λ events. ShowsRun c.args.keep c.args.program.now c.args.nodes options events c.lead.new.self.world) (sym c.in_ok-played.ensures)
    (shows_all s c.args.program.now c.args.nodes options c.args.keep c.args.before.now c.args.world shown c.in_ok-lead.ensures.goes.0
    c.lead.new.self r)))
