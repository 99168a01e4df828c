use Rattle.std.proofs.Common.{◌∙◌, ◌<◌, ◌≤◌, ◌++◌, ap, arith, length, rules}
use Rattle.std.proofs.lemmas.List.{take_all}
use Rattle.lrc_text.specs.Each.{each}
use Rattle.lrc_states.specs.States.{first_state}
use Rattle.lrc_states.proofs.Showing.{as_many, states_next}
use Rattle.lrc_states.proofs.player.Player.push_states.Goals as goal

pub loop-place-preserved : goal.loop-place-preserved
loop-place-preserved c plan world turns is =
    let inside : c.loop-place.place < length c.args.self.now.replay.nodes.items = search rules in
    states_next (first_state plan world.acts) world.nodes c.loop-place.place c.args.line.now.items c.loop-place.line.items c.push_first.new.line.items
    (omega (arith, inside, as_many c.args.self.now.replay world is.replay)) (c.loop-place.invariant plan world turns is)
    (λ l there. c.in_ok-push_first.ensures plan world turns l is there)

pub returns : goal.returns
returns c plan world turns is =
    let past : length c.args.self.now.replay.nodes.items ≤ c.loop-place.place = search rules in
    c.loop-place.invariant plan world turns is
    ∙ ap (λ l. c.args.line.now.items ++ each (first_state plan world.acts) l)
    (take_all c.loop-place.place world.nodes (omega (arith, past, as_many c.args.self.now.replay world is.replay)))
