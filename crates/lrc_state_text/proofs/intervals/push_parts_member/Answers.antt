use Rattle.lrc_text.proofs.Pushed.{and_then, slice_ok}
use Rattle.lrc_state_text.specs.Intervals.{parts_text}
use Rattle.lrc_state_text.proofs.intervals.push_parts_member.Goals as goal

pub returns : goal.returns
unfolding parts_text
returns c =
    let text = c.args.text.now.items in
    let e = and_then text _ _ _ c.in_ok-extend_from_slice.ensures.items _ c.in_ok-push_parts.ensures in
    slice_ok text _ _ _ e c.extend_from_slice-2.result _ c.extend_from_slice-2.ensures.items
