use Rattle.std.proofs.Common.{◌∙◌}
use Rattle.lrc_text.proofs.Pushed.{and_then, number_is, then_ok}
use Rattle.lrc_state_text.proofs.manager.push_barrier.Goals as goal

pub returns : goal.returns
returns c =
    let text = c.args.text.now.items in
    let e1 = number_is text _ _ _ _ c.in_ok-push_number.ensures.ok (c.from.ensures ∙ c.episode.ensures) in
    let e2 = and_then text _ _ _ e1 _ c.in_ok-extend_from_slice.ensures.items in
    then_ok text _ _ _ e2 c.push_manager_or_null.result _ c.push_manager_or_null.ensures
