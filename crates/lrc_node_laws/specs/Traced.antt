-- A node that is reached, with the trace that it keeps, and what has to be so of an access that is to be noted.
use Rattle.std.specs.Prelude.{◌≡◌, ℕ, ◌+◌, ◌<◌, ◌≤◌, Option, Some, None, List}
use Rattle.lrc_program.specs.declared.Program.{Program}
use Rattle.lrc_trace.specs.declared.act.Act.{Act}
use Rattle.lrc_trace.specs.declared.act.Deed.{Deed}
use Rattle.lrc_trace.specs.declared.act.Deed.TheVariants.{Read, Write}
use Rattle.lrc_trace.specs.Trace.{TraceRecord, MayNote}
use Rattle.lrc_protocol.specs.Times.{next_time}
use Rattle.lrc_protocol.specs.Node.{Node, OptionsRecord, fresh_node, own_index}
use Rattle.lrc_protocol.specs.Traced.{traced}
use Rattle.lrc_protocol.specs.Turn.{TurnRecord}
use Rattle.lrc_node_laws.specs.Reached.{LeadsTo}

-- some inputs lead to the node from a fresh one of a program, and the trace is what it keeps of them
pub record IsTraced (node : Node) (trace : TraceRecord) : Type 0 where
  pub program : Program
  pub nodes : ℕ
  pub options : OptionsRecord
  pub me : ℕ
  pub turns : List TurnRecord
  pub leads : LeadsTo program nodes options me (record { node = node; turns = turns })
  pub trace_is : trace ≡ (traced (fresh_node program nodes options me) leads.inputs).trace

-- An access to a word that the node has just made: it is a word of the memory; the index of the open interval is at most the
-- number of steps that the node may make; and the trace may be noted of it in that interval.
pub record CanNote (node : Node) (trace : TraceRecord) (word : ℕ) : Type 0 where
  pub within : word < node.setting.words
  pub room : own_index node + 1 ≤ node.options.steps
  pub later : MayNote trace.segments node.barrier.episode (own_index node + 1) (next_time node.setting.me node.locks.time)

-- the same of a deed, if it is an access, and of a turn's act
abbrev pub CanNoteDeed : Node → TraceRecord → Deed → Type 0
CanNoteDeed node trace (Read word value) = CanNote node trace word
CanNoteDeed node trace (Write word value) = CanNote node trace word
CanNoteDeed node trace _ = Unit {0}

abbrev pub CanNoteAct : Node → TraceRecord → Option Act → Type 0
CanNoteAct node trace None = Unit {0}
CanNoteAct node trace (Some act) = CanNoteDeed node trace act.deed
