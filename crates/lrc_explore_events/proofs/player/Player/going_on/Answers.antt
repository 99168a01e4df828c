use Rattle.std.proofs.Common.{◌≡◌, ◌∙◌, ℕ, Bool, None, Some, ap, rules, sym}
use Rattle.std.specs.Prelude.{if◌then◌else◌}
use Rattle.lrc_protocol.specs.declared.event.Event.TheVariants.{Run}
use Rattle.lrc_along.specs.Due.{is_ready_at}
use Rattle.lrc_explore_events.proofs.player.Player.going_on.Goals as goal

pub returns-then-is_ready : goal.returns-then-is_ready
returns-then-is_ready c = λ program nodes world is.
    let place : c.from.result ≡ c.args.node = search rules in
    let named : c.from-then-is_ready.result ≡ c.args.node = search rules in
    let ready = sym c.if-is_ready.true ∙ c.is_ready.ensures program nodes world is ∙ ap (is_ready_at world) place in
    ap (λ (n : ℕ). Some (Run n)) named ∙ ap (λ (b : Bool). if b then Some (Run c.args.node) else None) ready

pub returns-else-is_ready : goal.returns-else-is_ready
returns-else-is_ready c = λ program nodes world is.
    let place : c.from.result ≡ c.args.node = search rules in
    let ready = sym c.if-is_ready.false ∙ c.is_ready.ensures program nodes world is ∙ ap (is_ready_at world) place in
    ap (λ (b : Bool). if b then Some (Run c.args.node) else None) ready
