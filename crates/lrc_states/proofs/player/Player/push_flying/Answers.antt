use Rattle.std.proofs.Common.{◌≡◌, ◌∙◌, ◌<◌, ◌≤◌, ◌++◌, ap, get_or, length, rules}
use Rattle.std.specs.Prelude.{codes}
use Rattle.std.proofs.lemmas.List.{take_all}
use Rattle.lrc_messages.specs.Lists.{separated}
use Rattle.lrc_states.specs.Members.{envelope_parts}
use Rattle.lrc_states.proofs.Listing.{separated_at}
use Rattle.lrc_states.proofs.player.Player.push_flying.Goals as goal

pub loop-place-preserved : goal.loop-place-preserved
loop-place-preserved c =
    let items = c.args.self.now.replay.flight.items in
    let x = c.index.result.now in
    let inside : c.loop-place.place < length items = search rules in
    let at : x ≡ get_or items c.loop-place.place x = search rules in
    separated_at envelope_parts items c.loop-place.place x c.args.line.now.items c.loop-place.line.items c.push_listed_parts.new.text.items
    at inside c.loop-place.invariant c.in_ok-push_listed_parts.ensures

pub returns : goal.returns
returns c world is =
    let items = c.args.self.now.replay.flight.items in
    let past : length items ≤ c.loop-place.place = search rules in
    c.loop-place.invariant
    ∙ ap (λ l. c.args.line.now.items ++ separated (codes ",") envelope_parts l) (take_all c.loop-place.place items past ∙ is.flight)
