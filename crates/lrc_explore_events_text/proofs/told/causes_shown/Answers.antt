use Rattle.std.proofs.Common.{◌<◌, ◌∙◌, ℕ, List, ap, subst, sym}
use Rattle.std.specs.Prelude.{All, Some}
use Rattle.std.proofs.lemmas.Result.{IfOk-weaker}
use Rattle.lrc_trace.specs.declared.act.Act.{Act}
use Rattle.lrc_trace.specs.Conflict.{Races}
use Rattle.lrc_judge.specs.declared.TheConstants.{NODES}
use Rattle.lrc_explore_causes.specs.Told.{TellsRace}
use Rattle.lrc_explore_text.proofs.Led.{race_there}
use Rattle.lrc_explore_events_text.specs.Shows.{ShowsEvents}
use Rattle.lrc_explore_events_text.proofs.told.causes_shown.Goals as goal

pub race_told-requires-clause-in_range : goal.race_told-requires-clause-in_range
race_told-requires-clause-in_range c =
    subst (λ (acts : List Act). All (λ (act : Act). act.node < NODES) acts) (sym c.deref.ensures.value) c.in_ok-run.ensures.in_range

pub race_told-requires-clause-made : goal.race_told-requires-clause-made
race_told-requires-clause-made c = (c.args.order.now, c.in_ok-run.ensures.acts ∙ ap Some (sym c.deref.ensures.value))

pub race_told-requires-clause-races : goal.race_told-requires-clause-races
race_told-requires-clause-races c =
    subst (λ (acts : List Act). (i : ℕ) × (j : ℕ) × Races acts i j) (sym c.deref.ensures.value)
    (race_there c.args.program.now c.args.nodes c.args.order.now c.in_ok-run.run'.items c.in_ok-run.ensures.acts c.requires.ends)

pub returns : goal.returns
returns c =
    let program = c.args.program.now in
    let nodes = c.args.nodes in
    let run = c.in_ok-run.run'.items in
    let told = c.in_ok-told.told.items in
    let tells = subst (λ (r : List Act). TellsRace program nodes r told) c.deref.ensures.value c.in_ok-told.ensures in
    IfOk-weaker c.events_shown.result _ _
    (λ text shows. record {
      order = c.args.order.now;
      run = run;
      led = c.in_ok-run.ensures.acts;
      told = told;
      tells = tells;
      shows = subst (λ (acts : List Act). ShowsEvents program nodes acts text.items) c.deref-2.ensures.value shows;
    }) c.events_shown.ensures
