use Rattle.std.proofs.Common.{◌≡◌, ◌∙◌, ◌<◌, ◌≤◌, ◌++◌, ap, get_or, length, rules}
use Rattle.std.specs.Prelude.{codes}
use Rattle.std.proofs.lemmas.List.{take_all}
use Rattle.lrc_messages.specs.Lists.{separated}
use Rattle.lrc_states.specs.Objects.{message_object}
use Rattle.lrc_states.proofs.Listing.{separated_at}
use Rattle.lrc_states.proofs.player.Player.push_flight.Goals as goal

pub loop-place-preserved : goal.loop-place-preserved
loop-place-preserved c =
    let items = c.args.self.now.replay.flight.items in
    let x = c.index.result.now in
    let inside : c.loop-place.place < length items = search rules in
    let at : x ≡ get_or items c.loop-place.place x = search rules in
    separated_at message_object items c.loop-place.place x c.args.line.now.items c.loop-place.line.items c.push_listed.new.text.items
    at inside c.loop-place.invariant c.in_ok-push_listed.ensures

pub returns : goal.returns
returns c plan world turns is =
    let items = c.args.self.now.replay.flight.items in
    let past : length items ≤ c.loop-place.place = search rules in
    c.loop-place.invariant
    ∙ ap (λ l. c.args.line.now.items ++ separated (codes ",") message_object l) (take_all c.loop-place.place items past ∙ is.replay.flight)
