use Rattle.std.proofs.Common.{refl}
use Rattle.lrc_threads.proofs.Traced.{same_trace}
use Rattle.lrc_threads.proofs.Turned.{unmoved}
use Rattle.lrc_threads.proofs.worker.go_on.Goals as goal

pub returns-then-rest-clause-goes : goal.returns-then-rest-clause-goes
returns-then-rest-clause-goes g c = λ l is.
    unmoved g.M.Mail.puts g.M.Mail.takes c.args.mail.now c.args.mail.now l c.args.node.now.logged refl is

pub returns-then-rest-clause-traced : goal.returns-then-rest-clause-traced
returns-then-rest-clause-traced g c = same_trace c.args.node.now
