-- The trace that a node keeps: the words that it reads and writes, each in the interval that is open then.
use Rattle.std.specs.Prelude.{ℕ, ◌+◌, Bool, true, false, Option, Some, None, List, [], fold, map}
use Rattle.std.specs.List.{enumerate_from}
use Rattle.lrc_program.specs.declared.Program.{Program}
use Rattle.lrc_trace.specs.declared.act.Act.{Act}
use Rattle.lrc_trace.specs.declared.act.Deed.{Deed}
use Rattle.lrc_trace.specs.declared.act.Deed.TheVariants.{Read, Write}
use Rattle.lrc_trace.specs.Trace.{TraceRecord, noted}
use Rattle.lrc_protocol.specs.Times.{next_time}
use Rattle.lrc_protocol.specs.Node.{Node, OptionsRecord, fresh_node, own_index}
use Rattle.lrc_protocol.specs.Turn.{Outcome, done, not_ready, unexpected, worn}
use Rattle.lrc_protocol.specs.Run.{Input, EntryRecord, outcome_of, World}
use Rattle.lrc_protocol.specs.Follows.{inputs_of}

-- the trace with an access more, which this node has just made: in the interval after its newest closed one, with the stamp
-- that this has or would have, and with as many departures as arrivals before it
abbrev pub with_access_by : Node → ℕ → Bool → TraceRecord → TraceRecord
with_access_by node word is_write trace =
    noted trace node.barrier.episode (own_index node + 1) (next_time node.setting.me node.locks.time) word is_write

-- the trace of a node after a deed that left it like this; of all deeds only reads and writes are noted
abbrev pub with_deed : Node → Deed → TraceRecord → TraceRecord
with_deed node (Read word value) trace = with_access_by node word false trace
with_deed node (Write word value) trace = with_access_by node word true trace
with_deed node _ trace = trace

-- the same after a turn, by its act if it made one
abbrev pub with_act : Node → Option Act → TraceRecord → TraceRecord
with_act node None trace = trace
with_act node (Some act) trace = with_deed node act.deed trace

-- a node with the trace that it keeps
pub record Traced : Type 0 where
  pub node : Node
  pub trace : TraceRecord

-- a node that has made no access
abbrev pub untraced : Node → Traced
untraced node = record {
  node = node;
  trace = record { node = node.setting.me; size = node.options.size; segments = [] };
}

-- the same after an outcome; one that is no turn changes nothing
abbrev pub traced_by : Traced → Outcome → Traced
traced_by t (done turn node) = record { node = node; trace = with_act node turn.act t.trace }
traced_by t not_ready = t
traced_by t unexpected = t
traced_by t worn = t

-- the same after an input
abbrev pub traced_step : Traced → Input → Traced
traced_step t input = traced_by t (outcome_of t.node input)

-- a node that starts like this, with its trace, after these inputs
abbrev pub traced : Node → List Input → Traced
traced start inputs = fold traced_step (untraced start) inputs

-- the trace of a node that started like this and has this log
abbrev pub trace_of : Node → List EntryRecord → TraceRecord
trace_of start log = (traced start (inputs_of log)).trace

-- the traces of all nodes of a program's run, from node 0 up
abbrev pub traces_of : Program → ℕ → OptionsRecord → World → List TraceRecord
traces_of program nodes options world =
    map (λ at. trace_of (fresh_node program nodes options at.0) at.1.log) (enumerate_from 0 world.nodes)
