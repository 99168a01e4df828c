use Rattle.std.proofs.Common.{map, rules}
use Rattle.lrc_log.specs.Input.{seen_input}
use Rattle.lrc_weave.proofs.Further.{woven_with, woven_without}
use Rattle.lrc_weave.proofs.woven.events_with.Goals as goal

pub returns-in_err-run-clause-mismatch : goal.returns-in_err-run-clause-mismatch
returns-in_err-run-clause-mismatch c = λ is program nodes options are sources.
    absurd (c.run_of_logs.ensures.mismatch (search rules) program nodes options are sources)

pub returns-in_err-event-clause-mismatch : goal.returns-in_err-event-clause-mismatch
returns-in_err-event-clause-mismatch c = λ is program nodes options are sources.
    let run = c.in_ok-run.run' in
    woven_without (map (λ log. log.items) c.args.logs.now) run.events.items run.flight.items (seen_input c.args.input.now)
    (c.in_ok-run.ensures.woven program nodes options are sources) (c.event_of.ensures.unsent (search rules))

pub returns-clause-woven : goal.returns-clause-woven
returns-clause-woven c = λ program nodes options are sources.
    let run = c.in_ok-run.run' in
    woven_with (map (λ log. log.items) c.args.logs.now) run.events.items run.flight.items (seen_input c.args.input.now)
    (c.in_ok-run.ensures.woven program nodes options are sources) c.args.node c.event_of.new.flight.items c.in_ok-event.event
    c.push.new.self.items c.in_ok-event.ensures.made (search rules)
