use Rattle.std.proofs.Common.{◌∙◌, ◌<◌, ◌≤◌, ◌+◌, ◌++◌, ℕ, List, ap, ap₂, sym, subst, arith, get_or, length, take}
use Rattle.std.specs.Prelude.{slice_index}
use Rattle.std.specs.List.{flat_map}
use Rattle.std.proofs.lemmas.List.{take_all}
use Rattle.std.proofs.lemmas.List.Concat.{flat_map-append}
use Rattle.std.proofs.lemmas.Result.{IfOk-from_err}
use Rattle.lrc_trace.specs.declared.act.Act.{Act}
use Rattle.lrc_trace.specs.declared.act.Deed.TheVariants.{Quiet}
use Rattle.lrc_trace.specs.Run.{is_arrive, is_depart}
use Rattle.lrc_acts_text.specs.declared.rapid.Meeting.{Meeting}
use Rattle.lrc_text.specs.Each.{each}
use Rattle.lrc_acts_text.specs.Rapid.{RapidStep, meeting_at, rapid_steps, step_line}
use Rattle.lrc_acts_text.specs.Tally.{tallied}
use Rattle.lrc_text.proofs.Each.{each_more}
use Rattle.lrc_acts_text.proofs.StepLines.{steps_lines}
use Rattle.lrc_acts_text.proofs.Tallies.{Tallies, tallies_next, tallies_none, tally_is, tally_small}
use Rattle.lrc_acts_text.proofs.rapid.rapid_part.Goals as goal

abbrev no_act : Act
no_act = record { node = 0; deed = Quiet }

abbrev meeting_of : ℕ → ℕ → ℕ → ℕ → Meeting
meeting_of locks nodes arrived departed = record { locks = locks; nodes = nodes; arrived = arrived; departed = departed }

pub loop-position-init : goal.loop-position-init
loop-position-init c = record {
  lines = c.new-text.ensures.items;
  arrived = tallies_none is_arrive c.args.acts.now c.new-arrives.result.counts c.new-arrives.ensures;
  departed = tallies_none is_depart c.args.acts.now c.new-departs.result.counts c.new-departs.ensures;
}

pub note-requires : goal.note-requires
note-requires c =
    let small = tally_small is_arrive c.args.acts.now c.loop-position.position no_act c.loop-position-test.true c.loop-position.arrives.counts
    c.of-arrived.ensures.in_range c.loop-position.invariant.arrived in
    omega (arith, small)

pub note-requires-in-loop-position : goal.note-requires-in-loop-position
note-requires-in-loop-position c =
    let small = tally_small is_depart c.args.acts.now c.loop-position.position no_act c.loop-position-test.true c.loop-position.departs.counts
    c.of-departed.ensures.in_range c.loop-position.invariant.departed in
    omega (arith, small)

pub loop-position-preserved : goal.loop-position-preserved
loop-position-preserved c =
    let acts = c.args.acts.now in
    let lines = c.args.lines.now in
    let n = c.loop-position.position in
    let act = get_or acts n no_act in
    let within : n < length acts = c.loop-position-test.true in
    let arrives = c.loop-position.arrives.counts in
    let departs = c.loop-position.departs.counts in
    let own : RapidStep → List ℕ = λ s. step_line (slice_index lines s.position) s in
    let of : ℕ → Act → List RapidStep = λ position act. rapid_steps (meeting_at c.args.locks c.args.nodes acts act.node position) position act.node act.deed in
    let arrived = c.of-arrived.ensures.value
    ∙ tally_is is_arrive acts n no_act within arrives c.of-arrived.ensures.in_range c.loop-position.invariant.arrived in
    let departed = c.of-departed.ensures.value
    ∙ tally_is is_depart acts n no_act within departs c.of-departed.ensures.in_range c.loop-position.invariant.departed in
    let meeting = ap₂ (meeting_of c.args.locks c.args.nodes) arrived departed in
    let piece = ap (λ (m : Meeting). flat_map (step_line (slice_index lines n)) (rapid_steps m n act.node act.deed)) meeting
    ∙ sym (steps_lines lines (meeting_at c.args.locks c.args.nodes acts act.node n) n act.node act.deed) in
    record {
      lines = c.in_ok-push_steps.ensures ∙ ap₂ ◌++◌ c.loop-position.invariant.lines piece
          ∙ sym (flat_map-append own (each of (take n acts)) (of n act)) ∙ ap (flat_map own) (sym (each_more of acts n no_act within));
      arrived = subst (λ (l : List ℕ). Tallies is_arrive acts (n + 1) l) (sym (c.note.ensures ∙ ap (tallied arrives act.node) c.comes_to_barrier.ensures))
          (tallies_next is_arrive acts n no_act within arrives c.of-arrived.ensures.in_range c.loop-position.invariant.arrived);
      departed = subst (λ (l : List ℕ). Tallies is_depart acts (n + 1) l) (sym (c.note-in-loop-position.ensures ∙ ap (tallied departs act.node) c.leaves_barrier.ensures))
          (tallies_next is_depart acts n no_act within departs c.of-departed.ensures.in_range c.loop-position.invariant.departed);
    }

pub returns : goal.returns
returns c =
    let acts = c.args.acts.now in
    let n = c.loop-position.position in
    let all : length acts ≤ n = c.loop-position-test.false in
    let own : RapidStep → List ℕ = λ s. step_line (slice_index c.args.lines.now s.position) s in
    let of : ℕ → Act → List RapidStep = λ position act. rapid_steps (meeting_at c.args.locks c.args.nodes acts act.node position) position act.node act.deed in
    c.loop-position.invariant.lines ∙ ap (λ l. flat_map own (each of l)) (take_all n acts all)

pub returns-in_err-push_steps : goal.returns-in_err-push_steps
returns-in_err-push_steps c = IfOk-from_err c.from_residual.result _ c.from_residual.ensures.0
