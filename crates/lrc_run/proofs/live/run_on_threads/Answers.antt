use Rattle.std.proofs.Common.{ap, map}
use Rattle.lrc_node.specs.Options.{options_of}
use Rattle.lrc_run.proofs.Halting.{is_left}
use Rattle.lrc_run.proofs.live.run_on_threads.Goals as goal

pub returns-in-None-clause-halt : goal.returns-in-None-clause-halt
returns-in-None-clause-halt g c = c.finished.ensures.halt c.args.picker c.in_ok-parts.ensures.left

pub returns-in-Some-clause-halt : goal.returns-in-Some-clause-halt
returns-in-Some-clause-halt g c =
    let program = c.args.program.now in
    let nodes = c.args.setting.now.nodes.count in
    let options = options_of c.args.setting.now in
    let parts = c.in_ok-parts.parts in
    c.halt_at.ensures c.args.picker
    (is_left program nodes options c.args.picker c.left_of.result (map (λ log. log.items) parts.logs.items) parts.stops.items
    c.in_ok-parts.wires (ap (λ logs. map (λ log. log.items) logs.items) c.left_of.ensures.logs) (ap (λ stops. stops.items) c.left_of.ensures.stops)
    c.left_of.ensures.wires c.in_ok-parts.ensures.left)
