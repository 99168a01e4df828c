use Rattle.std.proofs.Common.{◌∙◌, ◌<◌, ◌≤◌, ◌++◌, ap, arith, length, rules}
use Rattle.std.proofs.lemmas.List.{take_all}
use Rattle.lrc_text.specs.Each.{each}
use Rattle.lrc_states.specs.Members.{listed_wait}
use Rattle.lrc_states.proofs.Showing.{as_many, states_next}
use Rattle.lrc_states.proofs.player.Player.push_waits.Goals as goal

pub loop-place-preserved : goal.loop-place-preserved
loop-place-preserved c world is =
    let inside : c.loop-place.place < length c.args.self.now.replay.nodes.items = search rules in
    states_next listed_wait world.nodes c.loop-place.place c.args.line.now.items c.loop-place.line.items c.push_listed_wait.new.line.items
    (omega (arith, inside, as_many c.args.self.now.replay world is)) (c.loop-place.invariant world is)
    (λ l there. c.in_ok-push_listed_wait.ensures world l is there)

pub returns : goal.returns
returns c world is =
    let past : length c.args.self.now.replay.nodes.items ≤ c.loop-place.place = search rules in
    c.loop-place.invariant world is
    ∙ ap (λ l. c.args.line.now.items ++ each listed_wait l)
    (take_all c.loop-place.place world.nodes (omega (arith, past, as_many c.args.self.now.replay world is)))
