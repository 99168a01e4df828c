use Rattle.std.proofs.Common.{◌<◌, ◌∙◌, ℕ, List, sym, subst, ap}
use Rattle.std.specs.Prelude.{All, Some}
use Rattle.lrc_trace.specs.declared.act.Act.{Act}
use Rattle.lrc_trace.specs.Conflict.{Races}
use Rattle.lrc_judge.specs.declared.TheConstants.{NODES}
use Rattle.lrc_explore_causes.specs.Told.{TellsRace}
use Rattle.lrc_explore_text.proofs.Led.{in_range, race_there}
use Rattle.lrc_exec.specs.Follows.{nodes_of_acts}
use Rattle.lrc_explore_text.proofs.orders.race_told.Goals as goal

pub race_told-requires-clause-in_range : goal.race_told-requires-clause-in_range
race_told-requires-clause-in_range c =
    subst (λ (acts : List Act). All (λ (act : Act). act.node < NODES) acts) (sym c.deref.ensures.value) c.in_ok-raced.ensures.in_range

pub race_told-requires-clause-made : goal.race_told-requires-clause-made
race_told-requires-clause-made c = (c.args.order.now, c.in_ok-raced.ensures.acts ∙ ap Some (sym c.deref.ensures.value))

pub race_told-requires-clause-races : goal.race_told-requires-clause-races
race_told-requires-clause-races c =
    subst (λ (acts : List Act). (i : ℕ) × (j : ℕ) × Races acts i j) (sym c.deref.ensures.value)
    (race_there c.args.program.now c.args.nodes c.args.order.now c.in_ok-raced.raced.items c.in_ok-raced.ensures.acts c.requires.ends)

pub last_race_told-requires-clause-in_range : goal.last_race_told-requires-clause-in_range
last_race_told-requires-clause-in_range c =
    let acts = c.in_ok-acts.acts.items in
    subst (λ (acts : List Act). All (λ (act : Act). act.node < NODES) acts) (sym c.deref-2.ensures.value)
    (in_range c.args.program.now c.args.nodes (nodes_of_acts acts) acts c.requires.nodes c.in_ok-acts.ensures.is)

pub last_race_told-requires-clause-tells : goal.last_race_told-requires-clause-tells
last_race_told-requires-clause-tells c =
    let run = c.in_ok-raced.raced.items in (
      c.args.order.now,
      run,
      c.in_ok-raced.ensures.acts,
      subst (λ (acts : List Act). TellsRace c.args.program.now c.args.nodes run acts) (sym c.deref-2.ensures.value)
          (subst (λ (r : List Act). TellsRace c.args.program.now c.args.nodes r c.in_ok-acts.acts.items) c.deref.ensures.value c.in_ok-acts.ensures),
    )
