use Rattle.lrc_text.proofs.Pushed.{and_then, then_ok}
use Rattle.lrc_state_text.proofs.locks.push_token.Goals as goal

pub returns : goal.returns
returns c =
    let e = and_then c.args.text.now.items _ _ _ c.in_ok-push_token_name.ensures _ c.in_ok-extend_from_slice.ensures.items in
    then_ok c.args.text.now.items _ _ _ e c.push_released.result _ c.push_released.ensures
