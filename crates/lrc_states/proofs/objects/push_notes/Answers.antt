use Rattle.lrc_states.specs.Objects.{note_object}
use Rattle.lrc_states.proofs.Listing.{separated_next}
use Rattle.lrc_states.proofs.objects.push_notes.Goals as goal

pub loop-place-preserved : goal.loop-place-preserved
loop-place-preserved c =
    separated_next note_object c.args.notes.now c.loop-place.place _ c.args.text.now.items c.loop-place.text.items c.push_note.new.text.items
    c.loop-place-test.true c.loop-place.invariant c.in_ok-push_note.ensures
