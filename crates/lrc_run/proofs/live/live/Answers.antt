use Rattle.std.proofs.Common.{map, rules}
use Rattle.lrc_threads.proofs.Pasts.{left_at, logs_of_nodes, ready_of_nodes, short_of_nodes, stops_count, traces_of_nodes}
use Rattle.lrc_node.specs.Options.{options_of}
use Rattle.lrc_run.specs.Halts.{StoppedWith}
use Rattle.lrc_run.proofs.Stopped.{stopped_with}
use Rattle.lrc_run.proofs.live.live.Goals as goal

pub returns-clause-left : goal.returns-clause-left
returns-clause-left g c =
    let program = c.args.program.now in
    let nodes = c.args.setting.now.nodes.count in
    let options = options_of c.args.setting.now in
    let pasts = c.in_ok-pasts.pasts.items in
    let parts = c.in_ok-parts.parts in
    let logs = map (λ log. log.items) parts.logs.items in
    record {
      turns = logs_of_nodes program nodes options pasts c.in_ok-pasts.ensures logs c.in_ok-parts.ensures.logs
          parts.stops.items c.in_ok-parts.ensures.stops;
      count = stops_count program nodes options pasts c.in_ok-pasts.ensures logs c.in_ok-parts.ensures.logs
          parts.stops.items c.in_ok-parts.ensures.stops;
      each = left_at program nodes options pasts c.in_ok-pasts.ensures logs c.in_ok-parts.ensures.logs
          parts.stops.items c.in_ok-parts.ensures.stops StoppedWith stopped_with;
      mailboxes = search rules;
      picked = search rules;
    }

pub returns-clause-whole : goal.returns-clause-whole
returns-clause-whole g c = λ none.
    let program = c.args.program.now in
    let nodes = c.args.setting.now.nodes.count in
    let options = options_of c.args.setting.now in
    let pasts = c.in_ok-pasts.pasts.items in
    let parts = c.in_ok-parts.parts in
    let logs = map (λ log. log.items) parts.logs.items in
    record {
      short = short_of_nodes program nodes options pasts c.in_ok-pasts.ensures logs c.in_ok-parts.ensures.logs
          parts.stops.items c.in_ok-parts.ensures.stops none;
      traces_are = traces_of_nodes program nodes options pasts c.in_ok-pasts.ensures logs c.in_ok-parts.ensures.logs
          parts.stops.items c.in_ok-parts.ensures.stops none parts.traces.items c.in_ok-parts.ensures.traces;
      ready_is = ready_of_nodes program nodes options pasts c.in_ok-pasts.ensures logs c.in_ok-parts.ensures.logs
          parts.stops.items c.in_ok-parts.ensures.stops none parts.is_any_ready c.in_ok-parts.ensures.ready;
    }
