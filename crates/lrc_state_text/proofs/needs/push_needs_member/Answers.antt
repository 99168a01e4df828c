use Rattle.lrc_text.proofs.Pushed.{and_then, slice_ok}
use Rattle.lrc_state_text.specs.Waits.{needs_member}
use Rattle.lrc_state_text.proofs.needs.push_needs_member.Goals as goal

pub returns : goal.returns
unfolding needs_member
returns c =
    let text = c.args.text.now.items in
    let e = and_then text _ _ _ c.in_ok-extend_from_slice.ensures.items _ c.in_ok-push_needs.ensures in
    slice_ok text _ _ _ e c.extend_from_slice-2.result _ c.extend_from_slice-2.ensures.items
