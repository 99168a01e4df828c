use Rattle.std.proofs.Common.{◌≡◌, get_or, rules}
use Rattle.lrc_states.specs.Members.{envelope_parts}
use Rattle.lrc_states.proofs.Listing.{separated_at}
use Rattle.lrc_states.proofs.members.push_sent.Goals as goal

pub loop-place-preserved : goal.loop-place-preserved
loop-place-preserved c =
    let x = c.index-envelopes-place.result in
    let at : x ≡ get_or c.args.envelopes.now c.loop-place.place x = search rules in
    separated_at envelope_parts c.args.envelopes.now c.loop-place.place x c.args.text.now.items c.loop-place.text.items c.push_listed_parts.new.text.items
    at c.loop-place-test.true c.loop-place.invariant c.in_ok-push_listed_parts.ensures
