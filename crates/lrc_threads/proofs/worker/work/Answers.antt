use Rattle.std.proofs.Common.{◌≡◌, Ok, Err, false, rules}
use Rattle.lrc_threads.specs.Worker.{IsIdle, stays}
use Rattle.lrc_threads.proofs.Steps.{goes_further, gone}
use Rattle.lrc_threads.proofs.Traced.{same_trace, traces_further, traces_gone, traces_handed}
use Rattle.lrc_threads.proofs.Turned.{handed_on}
use Rattle.lrc_threads.proofs.worker.work.Goals as goal

pub loop-round-init : goal.loop-round-init
loop-round-init g c = record { goes = λ start is. (start, is, stays); traced = same_trace c.args.node.now }

pub returns-in_err-go_on-clause-goes : goal.returns-in_err-go_on-clause-goes
returns-in_err-go_on-clause-goes g c = λ l is.
    let before = c.loop-round.invariant.goes l is in
    let refused : c.go_on.result ≡ Err c.in_err-go_on.field-0.0 = search rules in
    handed_on g.M.Mail.puts g.M.Mail.takes c.args.mail.now c.go_on.new.mail l c.go_on.new.node.logged c.in_err-go_on.field-0.0 c.go_on.result
    c.from_residual.result refused c.from_residual.ensures.1
    (goes_further g.M.Mail.puts g.M.Mail.takes c.args.mail.now c.loop-round.mail c.go_on.new.mail l before.0 c.go_on.new.node.logged c.go_on.result
    before.2 (c.go_on.ensures.goes before.0 before.1))

pub returns-in_err-receive-clause-goes : goal.returns-in_err-receive-clause-goes
returns-in_err-receive-clause-goes g c = λ l is.
    let before = c.loop-round.invariant.goes l is in
    let done : c.go_on.result ≡ Ok c.in_ok-go_on.field-0 = search rules in
    let run = gone g.M.Mail.puts g.M.Mail.takes c.args.mail.now c.go_on.new.mail l c.go_on.new.node.logged c.in_ok-go_on.field-0 c.go_on.result done
    (goes_further g.M.Mail.puts g.M.Mail.takes c.args.mail.now c.loop-round.mail c.go_on.new.mail l before.0 c.go_on.new.node.logged c.go_on.result
    before.2 (c.go_on.ensures.goes before.0 before.1)) in
    let refused : c.receive.result ≡ Err c.in_err-receive.field-0.0 = search rules in
    handed_on g.M.Mail.puts g.M.Mail.takes c.args.mail.now c.receive.new.mail l c.receive.new.node.logged c.in_err-receive.field-0.0 c.receive.result
    c.from_residual-in_err-receive.result refused c.from_residual-in_err-receive.ensures.1
    (goes_further g.M.Mail.puts g.M.Mail.takes c.args.mail.now c.go_on.new.mail c.receive.new.mail l run.0 c.receive.new.node.logged c.receive.result
    run.2 (c.receive.ensures.goes run.0 run.1))

pub returns-then-not-branch-clause-goes : goal.returns-then-not-branch-clause-goes
returns-then-not-branch-clause-goes g c = λ l is.
    let before = c.loop-round.invariant.goes l is in
    let done : c.go_on.result ≡ Ok c.in_ok-go_on.field-0 = search rules in
    let run = gone g.M.Mail.puts g.M.Mail.takes c.args.mail.now c.go_on.new.mail l c.go_on.new.node.logged c.in_ok-go_on.field-0 c.go_on.result done
    (goes_further g.M.Mail.puts g.M.Mail.takes c.args.mail.now c.loop-round.mail c.go_on.new.mail l before.0 c.go_on.new.node.logged c.go_on.result
    before.2 (c.go_on.ensures.goes before.0 before.1)) in
    let received : c.receive.result ≡ Ok c.in_ok-receive.field-0 = search rules in
    gone g.M.Mail.puts g.M.Mail.takes c.args.mail.now c.receive.new.mail l c.receive.new.node.logged c.in_ok-receive.field-0 c.receive.result received
    (goes_further g.M.Mail.puts g.M.Mail.takes c.args.mail.now c.go_on.new.mail c.receive.new.mail l run.0 c.receive.new.node.logged c.receive.result
    run.2 (c.receive.ensures.goes run.0 run.1))

pub returns-then-not-branch-clause-over : goal.returns-then-not-branch-clause-over
returns-then-not-branch-clause-over g c = λ l is.
    let before = c.loop-round.invariant.goes l is in
    let done : c.go_on.result ≡ Ok c.in_ok-go_on.field-0 = search rules in
    let run = gone g.M.Mail.puts g.M.Mail.takes c.args.mail.now c.go_on.new.mail l c.go_on.new.node.logged c.in_ok-go_on.field-0 c.go_on.result done
    (goes_further g.M.Mail.puts g.M.Mail.takes c.args.mail.now c.loop-round.mail c.go_on.new.mail l before.0 c.go_on.new.node.logged c.go_on.result
    before.2 (c.go_on.ensures.goes before.0 before.1)) in
    let idle : c.in_ok-receive.field-0 ≡ false → IsIdle c.receive.new.node.logged = c.in_ok-receive.ensures.over run.0 run.1 in
    idle (search rules)

pub loop-round-preserved : goal.loop-round-preserved
loop-round-preserved g c =
    let done : c.go_on.result ≡ Ok c.in_ok-go_on.field-0 = search rules in
    let received : c.receive.result ≡ Ok c.in_ok-receive.field-0 = search rules in
    record {
      goes = λ l is.
          let before = c.loop-round.invariant.goes l is in
          let run = gone g.M.Mail.puts g.M.Mail.takes c.args.mail.now c.go_on.new.mail l c.go_on.new.node.logged c.in_ok-go_on.field-0 c.go_on.result done
          (goes_further g.M.Mail.puts g.M.Mail.takes c.args.mail.now c.loop-round.mail c.go_on.new.mail l before.0 c.go_on.new.node.logged c.go_on.result
          before.2 (c.go_on.ensures.goes before.0 before.1)) in
          gone g.M.Mail.puts g.M.Mail.takes c.args.mail.now c.receive.new.mail l c.receive.new.node.logged c.in_ok-receive.field-0 c.receive.result received
          (goes_further g.M.Mail.puts g.M.Mail.takes c.args.mail.now c.go_on.new.mail c.receive.new.mail l run.0 c.receive.new.node.logged c.receive.result
          run.2 (c.receive.ensures.goes run.0 run.1));
      traced = traces_gone c.args.node.now c.receive.new.node c.in_ok-receive.field-0 c.receive.result received
          (traces_further c.args.node.now c.go_on.new.node c.receive.new.node c.receive.result
          (traces_gone c.args.node.now c.go_on.new.node c.in_ok-go_on.field-0 c.go_on.result done
          (traces_further c.args.node.now c.loop-round.node c.go_on.new.node c.go_on.result c.loop-round.invariant.traced c.go_on.ensures.traced))
          c.receive.ensures.traced);
    }

pub returns-in_err-go_on-clause-traced : goal.returns-in_err-go_on-clause-traced
returns-in_err-go_on-clause-traced g c =
    let refused : c.go_on.result ≡ Err c.in_err-go_on.field-0.0 = search rules in
    traces_handed c.args.node.now c.go_on.new.node c.in_err-go_on.field-0.0 c.go_on.result c.from_residual.result refused c.from_residual.ensures.1
    (traces_further c.args.node.now c.loop-round.node c.go_on.new.node c.go_on.result c.loop-round.invariant.traced c.go_on.ensures.traced)

pub returns-in_err-receive-clause-traced : goal.returns-in_err-receive-clause-traced
returns-in_err-receive-clause-traced g c =
    let done : c.go_on.result ≡ Ok c.in_ok-go_on.field-0 = search rules in
    let refused : c.receive.result ≡ Err c.in_err-receive.field-0.0 = search rules in
    traces_handed c.args.node.now c.receive.new.node c.in_err-receive.field-0.0 c.receive.result c.from_residual-in_err-receive.result refused
    c.from_residual-in_err-receive.ensures.1
    (traces_further c.args.node.now c.go_on.new.node c.receive.new.node c.receive.result
    (traces_gone c.args.node.now c.go_on.new.node c.in_ok-go_on.field-0 c.go_on.result done
    (traces_further c.args.node.now c.loop-round.node c.go_on.new.node c.go_on.result c.loop-round.invariant.traced c.go_on.ensures.traced))
    c.receive.ensures.traced)

pub returns-then-not-branch-clause-traced : goal.returns-then-not-branch-clause-traced
returns-then-not-branch-clause-traced g c =
    let done : c.go_on.result ≡ Ok c.in_ok-go_on.field-0 = search rules in
    let received : c.receive.result ≡ Ok c.in_ok-receive.field-0 = search rules in
    traces_gone c.args.node.now c.receive.new.node c.in_ok-receive.field-0 c.receive.result received
    (traces_further c.args.node.now c.go_on.new.node c.receive.new.node c.receive.result
    (traces_gone c.args.node.now c.go_on.new.node c.in_ok-go_on.field-0 c.go_on.result done
    (traces_further c.args.node.now c.loop-round.node c.go_on.new.node c.go_on.result c.loop-round.invariant.traced c.go_on.ensures.traced))
    c.receive.ensures.traced)
