-- What a node can do is the deed of what its thread asks for.
use Rattle.std.proofs.Common.{◌∙◌, ◌<◌, ◌≤◌, length, get_or, sym, ap, subst}
use Rattle.std.specs.Prelude.{option_map}
use Rattle.lrc_exec.specs.declared.state.Step.{Step}
use Rattle.lrc_exec.specs.States.{plain_at}
use Rattle.lrc_exec.proofs.PlainDeeds.{deed_of}
use Rattle.lrc_exec.proofs.States.{no_thread, placed_at, stopped_thread}
use Rattle.lrc_exec.proofs.state.State.next_step.Goals as goal

pub returns-in_err-spot-clause-deed : goal.returns-in_err-spot-clause-deed
returns-in_err-spot-clause-deed c =
    let past = subst (λ spots. length spots ≤ c.args.node) c.deref.ensures.value c.in_err-spot.ensures.lookup.3 in
    ap (option_map (λ (step : Step). step.deed)) c.from_residual.ensures
    ∙ ap (deed_of (plain_at c.args.flat.now c.args.self.now) c.args.node) (sym (no_thread c.args.flat.now c.args.self.now c.args.node past))

pub returns-then-spot-clause-deed : goal.returns-then-spot-clause-deed
returns-then-spot-clause-deed c =
    let flat = c.args.flat.now in
    let state = c.args.self.now in
    let spot = c.in_ok-spot.spot.now in
    let within = subst (λ spots. c.args.node < length spots) c.deref.ensures.value c.in_ok-spot.ensures.lookup.3.0 in
    let is = c.in_ok-spot.ensures.lookup.1 ∙ ap (λ spots. get_or spots c.args.node spot) c.deref.ensures.value in
    ap (deed_of (plain_at flat state) c.args.node) (sym (stopped_thread flat state c.args.node spot within is c.if-spot.true))

pub depart-requires-clause-within : goal.depart-requires-clause-within
depart-requires-clause-within c = subst (λ spots. c.args.node < length spots) c.deref.ensures.value c.in_ok-spot.ensures.lookup.3.0

pub wish-wish-requires-clause-within : goal.wish-wish-requires-clause-within
wish-wish-requires-clause-within c =
    let flat = c.args.flat.now in
    let state = c.args.self.now in
    let spot = c.in_ok-spot.spot.now in
    let within = subst (λ spots. c.args.node < length spots) c.deref.ensures.value c.in_ok-spot.ensures.lookup.3.0 in
    let is = c.in_ok-spot.ensures.lookup.1 ∙ ap (λ spots. get_or spots c.args.node spot) c.deref.ensures.value in
    placed_at flat state c.args.node spot within is c.requires.state
