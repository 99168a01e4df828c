use Rattle.lrc_text.proofs.Pushed.{and_then, slice_ok}
use Rattle.lrc_state_text.specs.Intervals.{intervals_text}
use Rattle.lrc_state_text.proofs.intervals.push_intervals.Goals as goal

pub returns : goal.returns
unfolding intervals_text
returns c =
    let text = c.args.text.now.items in
    let e = and_then text _ _ _ c.in_ok-extend_from_slice.ensures.items _ c.in_ok-push_listed.ensures in
    slice_ok text _ _ _ e c.extend_from_slice-2.result _ c.extend_from_slice-2.ensures.items
