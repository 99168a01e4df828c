-- What threads know, one event further.
use Rattle.lrc_races_sure_pass.proofs.Giving.{threads_kept, threads_forked}
use Rattle.lrc_races_sure_pass.proofs.detector.give_thread.Goals as goal

pub returns-in_ok-hand-in-Fork : goal.returns-in_ok-hand-in-Fork
returns-in_ok-hand-in-Fork c = λ events n here reached.
    threads_forked events n c.args.event here c.args.threads.now reached c.in-Fork.other c.in-Fork.is c.hand.new.self c.in_ok-hand-in-Fork.ensures

pub returns-in_default : goal.returns-in_default
returns-in_default c = λ events n here reached. threads_kept events n c.args.event here c.args.threads.now reached c.in_default.not-Fork
