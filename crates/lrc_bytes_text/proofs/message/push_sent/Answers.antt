use Rattle.std.proofs.Common.{length, refl}
use Rattle.std.specs.Prelude.{codes}
use Rattle.std.proofs.lemmas.Option.{slice_get_read}
use Rattle.lrc_messages.proofs.Joined.{joined_next}
use Rattle.lrc_bytes_text.specs.BytesText.{sent_object}
use Rattle.lrc_bytes_text.proofs.message.push_sent.Goals as goal

pub loop-place-preserved : goal.loop-place-preserved
loop-place-preserved c =
    let out = c.args.out.now in
    let x = c.index-out-place.result in
    joined_next (codes ",") sent_object out c.loop-place.place x c.args.text.now.items c.loop-place.text.items c.push_listed.new.text.items
    (slice_get_read out (length out) c.loop-place.place x refl c.loop-place-test.true c.index-out-place.is) c.loop-place.invariant
    c.in_ok-push_listed.ensures
