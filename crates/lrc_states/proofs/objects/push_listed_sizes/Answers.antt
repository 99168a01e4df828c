use Rattle.std.specs.Prelude.{decimal}
use Rattle.lrc_states.proofs.Listing.{separated_next}
use Rattle.lrc_states.proofs.objects.push_listed_sizes.Goals as goal

pub loop-place-preserved : goal.loop-place-preserved
loop-place-preserved c =
    separated_next decimal c.args.sizes.now c.loop-place.place _ c.args.text.now.items c.loop-place.text.items c.push_listed_size.new.text.items
    c.loop-place-test.true c.loop-place.invariant c.in_ok-push_listed_size.ensures
