-- A node's log as a whole: all that came to the node, from its first turn on.
use Rattle.std.specs.Prelude.{◌≡◌, ℕ, ◌++◌, ◌∷◌, [], List, Some}
use Rattle.lrc_program.specs.declared.Program.{Program}
use Rattle.lrc_protocol.specs.Node.{Node, OptionsRecord, fresh_node}
use Rattle.lrc_protocol.specs.Run.{Input, run, EntryRecord, next_stamp}
use Rattle.lrc_protocol.specs.Follows.{inputs_of, local, turns_of}
use Rattle.lrc_protocol.specs.Traced.{trace_of}
use Rattle.lrc_node.specs.Logged.{TracedLog}

-- Entries of a log, those before them given first, have the stamps that come of those of their messages: one more than the greater
-- of the last one and of that which came; with a run comes 0.
pub data AreStamped : List EntryRecord → List EntryRecord → Type 0 where
  stamped_none : {before : List EntryRecord} → AreStamped before []
  stamped_one : {before log : List EntryRecord} {entry : EntryRecord} (came : ℕ) → (entry.input ≡ run → came ≡ 0) → entry.stamp ≡ next_stamp before came
      → AreStamped (before ++ entry ∷ []) log → AreStamped before (entry ∷ log)

-- The log is all that came to this node of a program, from its first turn on: its turns are those that the node makes of these inputs
-- by itself, and they have their stamps; the node is the one that they lead to, unless it has failed; and the trace is that of
-- these turns.
pub record IsWholeLog (program : Program) (nodes : ℕ) (options : OptionsRecord) (me : ℕ) (seen : TracedLog) : Type 0 where
  pub node : Node
  pub made : local program nodes options me (inputs_of seen.logged.log) ≡ Some (record { node = node; turns = turns_of seen.logged.log })
  pub stamps : AreStamped [] seen.logged.log
  pub node_is : (there : Node) → seen.logged.node ≡ Some there → there ≡ node
  pub trace_is : seen.trace ≡ trace_of (fresh_node program nodes options me) seen.logged.log
