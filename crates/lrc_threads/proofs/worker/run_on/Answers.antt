use Rattle.std.proofs.Common.{◌≡◌, Ok, Err, rules}
use Rattle.lrc_threads.specs.Worker.{stays}
use Rattle.lrc_threads.proofs.Steps.{goes_further, gone}
use Rattle.lrc_threads.proofs.Traced.{same_trace, traces_further, traces_gone, traces_handed}
use Rattle.lrc_threads.proofs.Turned.{handed_on}
use Rattle.lrc_threads.proofs.worker.run_on.Goals as goal

pub loop-turn-init : goal.loop-turn-init
loop-turn-init g c = record { goes = λ start is. (start, is, stays); traced = same_trace c.args.node.now }

pub returns-in_err-run_once-clause-goes : goal.returns-in_err-run_once-clause-goes
returns-in_err-run_once-clause-goes g c = λ l is.
    let before = c.loop-turn.invariant.goes l is in
    let refused : c.run_once.result ≡ Err c.in_err-run_once.field-0.0 = search rules in
    handed_on g.M.Mail.puts g.M.Mail.takes c.args.mail.now c.run_once.new.mail l c.run_once.new.node.logged c.in_err-run_once.field-0.0 c.run_once.result
    c.from_residual.result refused c.from_residual.ensures.1
    (goes_further g.M.Mail.puts g.M.Mail.takes c.args.mail.now c.loop-turn.mail c.run_once.new.mail l before.0 c.run_once.new.node.logged c.run_once.result
    before.2 (c.run_once.ensures.goes before.0 before.1))

pub returns-in_err-run_once-clause-traced : goal.returns-in_err-run_once-clause-traced
returns-in_err-run_once-clause-traced g c =
    let refused : c.run_once.result ≡ Err c.in_err-run_once.field-0.0 = search rules in
    traces_handed c.args.node.now c.run_once.new.node c.in_err-run_once.field-0.0 c.run_once.result c.from_residual.result refused
    c.from_residual.ensures.1
    (traces_further c.args.node.now c.loop-turn.node c.run_once.new.node c.run_once.result c.loop-turn.invariant.traced c.run_once.ensures.traced)

pub loop-turn-preserved : goal.loop-turn-preserved
loop-turn-preserved g c =
    let done : c.run_once.result ≡ Ok c.in_ok-run_once.field-0 = search rules in
    record {
      goes = λ start is.
          let before = c.loop-turn.invariant.goes start is in
          gone g.M.Mail.puts g.M.Mail.takes c.args.mail.now c.run_once.new.mail start c.run_once.new.node.logged c.in_ok-run_once.field-0 c.run_once.result
          done
          (goes_further g.M.Mail.puts g.M.Mail.takes c.args.mail.now c.loop-turn.mail c.run_once.new.mail start before.0 c.run_once.new.node.logged
          c.run_once.result before.2 (c.run_once.ensures.goes before.0 before.1));
      traced = traces_gone c.args.node.now c.run_once.new.node c.in_ok-run_once.field-0 c.run_once.result done
          (traces_further c.args.node.now c.loop-turn.node c.run_once.new.node c.run_once.result c.loop-turn.invariant.traced c.run_once.ensures.traced);
    }

pub returns-then-note_turn-clause-goes : goal.returns-then-note_turn-clause-goes
returns-then-note_turn-clause-goes g c = λ start is.
    let before = c.loop-turn.invariant.goes start is in
    let done : c.run_once.result ≡ Ok c.in_ok-run_once.field-0 = search rules in
    gone g.M.Mail.puts g.M.Mail.takes c.args.mail.now c.run_once.new.mail start c.run_once.new.node.logged c.in_ok-run_once.field-0 c.run_once.result done
    (goes_further g.M.Mail.puts g.M.Mail.takes c.args.mail.now c.loop-turn.mail c.run_once.new.mail start before.0 c.run_once.new.node.logged c.run_once.result
    before.2 (c.run_once.ensures.goes before.0 before.1))

pub returns-then-note_turn-clause-traced : goal.returns-then-note_turn-clause-traced
returns-then-note_turn-clause-traced g c =
    let done : c.run_once.result ≡ Ok c.in_ok-run_once.field-0 = search rules in
    traces_gone c.args.node.now c.run_once.new.node c.in_ok-run_once.field-0 c.run_once.result done
    (traces_further c.args.node.now c.loop-turn.node c.run_once.new.node c.run_once.result c.loop-turn.invariant.traced c.run_once.ensures.traced)
