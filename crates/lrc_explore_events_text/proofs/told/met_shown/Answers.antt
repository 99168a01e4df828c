use Rattle.std.proofs.Common.{List, ℕ, Option, None, Some, Vec, Global, IfOk, subst, sym}
use Rattle.std.specs.Prelude.{option_map}
use Rattle.lrc_explore.proofs.ManyStates.{stuck_order_met, trap_order_met}
use Rattle.lrc_explore_events_text.specs.Shows.{ShowsOrder}
use Rattle.lrc_explore_events_text.proofs.Chosen.{IsLed, chosen_led, led_there, stuck_met_led, trap_met_led}
use Rattle.lrc_explore_events_text.proofs.told.met_shown.Goals as goal

abbrev items_of : Option (Vec ℕ Global) → Option (List ℕ)
items_of order = option_map (λ (o : Vec ℕ Global). o.items) order

pub order_shown-requires-clause-led : goal.order_shown-requires-clause-led
order_shown-requires-clause-led c =
    let program = c.args.program.now in
    let nodes = c.args.nodes in
    let met = c.args.met.now in
    let (most, races, gave) = c.requires.gave in
    led_there program nodes (λ o. o.now) c.chosen-order.result
    (subst (IsLed program nodes) (sym c.chosen-order.ensures)
    (chosen_led program nodes c.args.line (items_of met.stuck) (items_of met.trap) None
    (stuck_met_led program nodes (items_of met.stuck) (stuck_order_met program nodes most races met gave))
    (trap_met_led program nodes (items_of met.trap) (trap_order_met program nodes most races met gave)) tt))

pub returns : goal.returns
returns c =
    subst (λ (o : Option (List ℕ)). IfOk c.order_shown.result (λ text. ShowsOrder c.args.program.now c.args.nodes o text.items)) c.chosen-order.ensures
    c.order_shown.ensures
