use Rattle.lrc_exact_states.proofs.Capped.{key_capped}
use Rattle.lrc_exact_states.proofs.laws.keys_keep_no_more_than_the_cap.Goals as goal

pub returns : goal.returns
returns c = λ program shape cap base run states. key_capped program shape cap base run states
