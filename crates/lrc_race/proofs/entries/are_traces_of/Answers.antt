use Rattle.std.proofs.Common.{refl, sym, arith}
use Rattle.std.specs.Prelude.{Contains}
use Rattle.std.proofs.lemmas.Bool.{false≢true}
use Rattle.lrc_race.specs.Races.{IsTraceOf}
use Rattle.lrc_race.proofs.Found.{each-more, each-all}
use Rattle.lrc_race.proofs.entries.are_traces_of.Goals as goal

pub returns-then-not-is_trace_of : goal.returns-then-not-is_trace_of
returns-then-not-is_trace_of c =
    let a = c.trace-item.result in
    let there : Contains c.args.traces.now a = (c.loop-trace.trace-index, c.loop-trace-test.true, sym c.trace-item.is) in (
      λ no. absurd (false≢true no),
      λ are. c.if-not-is_trace_of.ensures.1 (are.below a there, λ s s_there. are.entries a s there s_there),
    )

pub loop-trace-preserved : goal.loop-trace-preserved
loop-trace-preserved c =
    each-more (IsTraceOf c.args.nodes) c.args.traces.now c.loop-trace.trace-index c.trace-item.result c.loop-trace-test.true
    c.trace-item.is c.loop-trace.invariant (c.if-not-is_trace_of.ensures.0 refl)

pub returns : goal.returns
returns c =
    let each = each-all (IsTraceOf c.args.nodes) c.args.traces.now c.loop-trace.trace-index (omega arith) c.loop-trace.invariant in (
      λ yes. record { below = λ a there. (each a there).0; entries = λ a s there s_there. (each a there).1 s s_there },
      λ are. refl,
    )
