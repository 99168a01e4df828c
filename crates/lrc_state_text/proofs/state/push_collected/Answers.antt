use Rattle.lrc_text.proofs.Pushed.{then_ok}
use Rattle.lrc_state_text.specs.State.{collected_member}
use Rattle.lrc_state_text.proofs.state.push_collected.Goals as goal

pub returns : goal.returns
unfolding collected_member
returns c = then_ok c.args.text.now.items _ _ _ c.in_ok-extend_from_slice.ensures.items c.push_time.result _ c.push_time.ensures
