-- A node with its log, as contracts see it.
use Rattle.std.specs.Prelude.{◌≡◌, ℕ, Bool, true, false, Option, Some, None, is_some, List, [], ◌∷◌, ◌++◌, filter_map, Result, Ok, Err}
use Rattle.std.specs.List.{last_or}
use Rattle.std.specs.Option.{option_to_list}
use Rattle.lrc_trace.specs.declared.act.Act.{Act}
use Rattle.lrc_trace.specs.declared.act.Deed.{Deed}
use Rattle.lrc_trace.specs.declared.act.Deed.TheVariants as deeds
use Rattle.lrc_trace.specs.Trace.{TraceRecord}
use Rattle.lrc_protocol.specs.Node.{Node}
use Rattle.lrc_protocol.specs.Run.{Input, EntryRecord, Logged, Logging, logged, refused, too_large, logs}
use Rattle.lrc_protocol.specs.Follows.{inputs_of}
use Rattle.lrc_protocol.specs.Traced.{traced, trace_of, with_act}
use Rattle.lrc_protocol.specs.Turn.{TurnRecord}
use Rattle.lrc_node.specs.Node.{TracedNode}
use Rattle.lrc_trace.specs.declared.end.End.{End}
use Rattle.lrc_trace.specs.declared.end.End.TheVariants.{Ended, Trapped, Unfinished}
use Rattle.lrc_node.specs.declared.fault.NodeFault.{NodeFault}
use Rattle.lrc_node.specs.declared.fault.NodeFault.TheVariants.{Failed, NotReady, Unexpected, Worn, NoMemory}

-- a node, none once it has failed, and its log
pub record LoggedNode : Type 0 where
  pub node : Option Node
  pub log : List EntryRecord

-- a node that has not failed, with its log
abbrev pub sound : Logged → LoggedNode
sound l = record { node = Some l.node; log = l.log }

-- the same, and the trace of the accesses that the node made
pub record TracedLog : Type 0 where
  pub logged : LoggedNode
  pub trace : TraceRecord

-- What comes of an input to a node that has not failed: the turn is logged; or it is refused and nothing changes; or a
-- number is too large, or no memory is left, and the node has failed.
abbrev pub Logs : Logged → Logging → LoggedNode → Result (Unit {0}) NodeFault → Type 0
Logs l outcome new (Ok done) = (entry : EntryRecord) × (after : Logged) × (outcome ≡ logged entry after) × (new ≡ sound after)
Logs l outcome new (Err NotReady) = (outcome ≡ refused) × (new ≡ sound l)
Logs l outcome new (Err Unexpected) = (outcome ≡ refused) × (new ≡ sound l)
Logs l outcome new (Err Worn) = outcome ≡ too_large
Logs l outcome new (Err NoMemory) = Unit {0}
Logs l outcome new (Err Failed) = ⊥

abbrev pub LogsTo : LoggedNode → Input → ℕ → LoggedNode → Result (Unit {0}) NodeFault → Type 0
LogsTo old input came new result = (l : Logged) → old ≡ sound l → Logs l (logs l input came) new result

-- the newest turn of a log alone, if there is one
abbrev pub newest : List EntryRecord → List EntryRecord
newest log = option_to_list (last_or None log)

-- the access of a turn that is logged is noted in the trace, which stays as it is where the input is refused
abbrev pub NotesIn : TracedLog → TracedLog → Result (Unit {0}) NodeFault → Type 0
NotesIn old new (Ok done) =
    (node : Node) (entry : EntryRecord) → new.logged.node ≡ Some node → new.logged.log ≡ old.logged.log ++ entry ∷ []
    → new.trace ≡ with_act node entry.turn.act old.trace
NotesIn old new (Err fault) = new.trace ≡ old.trace

-- the log leads the node on from how it started, and the trace is what it keeps of that
pub record LeadsFrom (start : Node) (l : Logged) (seen : TracedLog) : Type 0 where
  pub sound_so : seen.logged ≡ sound l
  pub replayed : (traced start (inputs_of l.log)).node ≡ l.node
  pub trace_is : seen.trace ≡ trace_of start l.log

-- ---- how a node ended, by its log

-- how a node ended whose last deed is this
abbrev pub end_after : Deed → End
end_after (deeds.Trap cause) = Trapped cause
end_after deeds.End = Ended
end_after _ = Unfinished

-- how a node ended whose last act is this, if it made any
abbrev pub end_by : Option Act → End
end_by None = Unfinished
end_by (Some act) = end_after act.deed

-- how a node ended with this log: as the last act of its turns says
abbrev pub ended_by : List EntryRecord → End
ended_by log = end_by (last_or None (filter_map (λ (e : EntryRecord). e.turn.act) log))

-- the same with the act of one turn more, if that makes one
abbrev pub end_next : End → Option Act → End
end_next before None = before
end_next before (Some act) = end_after act.deed

-- ---- the steps of a call

-- a node fails: its trace stays, and how it ended
abbrev pub failed_now : TracedNode → TracedNode
failed_now node = record { node = None; trace = node.trace; end = node.end }

-- room is made in the log; or the node has failed, or fails
abbrev pub MakesRoom : TracedNode → TracedNode → Result (Unit {0}) NodeFault → Type 0
MakesRoom old new (Ok done) = (is_some old.node ≡ true) × (new ≡ old)
MakesRoom old new (Err Failed) = (old.node ≡ None) × (new ≡ old)
MakesRoom old new (Err NoMemory) = (is_some old.node ≡ true) × (new ≡ failed_now old)
MakesRoom old new (Err fault) = ⊥

-- a message is in a box, or the node fails
abbrev pub MakesBox : {A : Type 0} → TracedNode → TracedNode → Result A NodeFault → Type 0
MakesBox old new (Ok boxed) = new ≡ old
MakesBox old new (Err NoMemory) = new ≡ failed_now old
MakesBox old new (Err fault) = ⊥

-- a node that has no stamp left fails, where what came is a turn; and else it refuses it
abbrev pub WearsOut : TracedNode → Bool → NodeFault → TracedNode → Result (Unit {0}) NodeFault → Type 0
WearsOut old true refusal new result = (result ≡ Err Worn) × (new ≡ failed_now old)
WearsOut old false refusal new result = (result ≡ Err refusal) × (new ≡ old)

-- a log with a turn more
abbrev pub entered_in : List EntryRecord → Input → ℕ → TurnRecord → List EntryRecord
entered_in log input stamp turn = log ++ record { input = input; stamp = stamp; turn = turn } ∷ []

-- a turn is added with its stamp, and a refusal handed on
abbrev pub Settles : List EntryRecord → Input → ℕ → Result TurnRecord NodeFault → List EntryRecord → Result (Unit {0}) NodeFault → Type 0
Settles log input stamp (Ok turn) new result = (result ≡ Ok tt) × (new ≡ entered_in log input stamp turn)
Settles log input stamp (Err fault) new result = (result ≡ Err fault) × (new ≡ log)
