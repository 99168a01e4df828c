use Rattle.lrc_exec.proofs.PlainLaws.{plain-append}
use Rattle.lrc_exec.proofs.laws.orders_follow_each_other.Goals as goal

pub returns : goal.returns
returns c = λ program nodes first second acts machine made. plain-append program nodes first second acts machine made
