use Rattle.std.proofs.Common.{◌≡◌, get_or, rules}
use Rattle.lrc_states.specs.Objects.{message_object}
use Rattle.lrc_states.proofs.Listing.{separated_at}
use Rattle.lrc_states.proofs.objects.push_envelopes.Goals as goal

pub loop-place-preserved : goal.loop-place-preserved
loop-place-preserved c =
    let x = c.index-envelopes-place.result in
    let at : x ≡ get_or c.args.envelopes.now c.loop-place.place x = search rules in
    separated_at message_object c.args.envelopes.now c.loop-place.place x c.args.text.now.items c.loop-place.text.items c.push_listed.new.text.items
    at c.loop-place-test.true c.loop-place.invariant c.in_ok-push_listed.ensures
