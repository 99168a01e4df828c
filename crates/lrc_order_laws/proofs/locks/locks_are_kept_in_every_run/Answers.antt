use Rattle.lrc_order_laws.proofs.TokenWorlds.{all_tokens}
use Rattle.lrc_order_laws.proofs.locks.locks_are_kept_in_every_run.Goals as goal

pub returns : goal.returns
returns c = λ program nodes options events world e. (all_tokens program nodes options events world e).lines
