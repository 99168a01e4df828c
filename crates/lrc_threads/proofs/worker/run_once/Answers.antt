use Rattle.std.proofs.Common.{◌≡◌, Ok, Err, true, false, refl, rules}
use Rattle.lrc_protocol.specs.Run as log
use Rattle.lrc_threads.specs.Worker.{made_of, nothing}
use Rattle.lrc_threads.proofs.Traced.{traces_any, traces_input}
use Rattle.lrc_threads.proofs.Turned.{turned, unturned, sent_run, failed, unmoved}
use Rattle.lrc_threads.proofs.worker.run_once.Goals as goal

pub returns-then-branch-clause-goes : goal.returns-then-branch-clause-goes
returns-then-branch-clause-goes g c = λ l is.
    let made : made_of c.run.result ≡ Ok true = search rules in
    let i = turned l log.run 0 c.args.node.now.logged c.run.new.self.logged c.run.result c.run.ensures.logs is made in
    sent_run g.M.Mail.puts g.M.Mail.takes c.args.mail.now c.send_last.new.mail l c.run.new.self.logged c.send_last.result i
    (c.send_last.ensures.sent i.entry i.last)

pub returns-in_err-is_made-clause-goes : goal.returns-in_err-is_made-clause-goes
returns-in_err-is_made-clause-goes g c = λ l is.
    let made : made_of c.run.result ≡ Err c.in_err-is_made.field-0.0 = search rules in
    failed g.M.Mail.puts g.M.Mail.takes c.args.mail.now c.args.mail.now l log.run 0 c.args.node.now.logged c.run.new.self.logged c.run.result
    c.in_err-is_made.field-0.0 c.from_residual.result c.run.ensures.logs c.run.ensures.kept is made c.from_residual.ensures.1 nothing

pub returns-else-branch-clause-goes : goal.returns-else-branch-clause-goes
returns-else-branch-clause-goes g c = λ l is.
    let made : made_of c.run.result ≡ Ok false = search rules in
    let u = unturned l log.run 0 c.args.node.now.logged c.run.new.self.logged c.run.result c.run.ensures.logs is made in
    unmoved g.M.Mail.puts g.M.Mail.takes c.args.mail.now c.args.mail.now l c.run.new.self.logged refl u.1

pub returns-then-branch-clause-traced : goal.returns-then-branch-clause-traced
returns-then-branch-clause-traced g c =
    let made : made_of c.run.result ≡ Ok true = search rules in
    traces_any c.args.node.now c.run.new.self c.send_last.result
    (traces_input c.args.node.now c.run.new.self log.run 0 c.run.result true c.run.ensures.logs c.run.ensures.notes made)

pub returns-else-branch-clause-traced : goal.returns-else-branch-clause-traced
returns-else-branch-clause-traced g c =
    let made : made_of c.run.result ≡ Ok false = search rules in
    traces_input c.args.node.now c.run.new.self log.run 0 c.run.result false c.run.ensures.logs c.run.ensures.notes made
