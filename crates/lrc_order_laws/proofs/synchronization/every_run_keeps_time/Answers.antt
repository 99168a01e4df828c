use Rattle.lrc_order_laws.proofs.Timed.{keeps}
use Rattle.lrc_order_laws.proofs.synchronization.every_run_keeps_time.Goals as goal

pub returns : goal.returns
returns c = λ program nodes options events world e. keeps program nodes options events world e
