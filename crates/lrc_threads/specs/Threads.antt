-- What the threads of a run owe.
use Rattle.std.specs.Prelude.{◌≡◌, ◌<◌, ℕ, Bool, Option, None, Some, List, length, map, slice_get}
use Rattle.std.specs.List.{enumerate_from, list_any}
use Rattle.lrc_program.specs.declared.Program.{Program}
use Rattle.lrc_trace.specs.Trace.{TraceRecord}
use Rattle.lrc_protocol.specs.Node.{Node, OptionsRecord, fresh_node}
use Rattle.lrc_protocol.specs.Run.{EntryRecord}
use Rattle.lrc_protocol.specs.Traced.{trace_of}
use Rattle.lrc_threads.specs.declared.life.Failure.{Failure}
use Rattle.lrc_threads.specs.declared.life.Past.{Past}
use Rattle.lrc_threads.specs.declared.nodes.PastOf.{PastOf}
use Rattle.lrc_threads.specs.declared.stop.Stop.{Stop}
use Rattle.lrc_threads.specs.Worker.{Leaves, is_ready_after}

-- this is what is left of a node that started like this and lived on a thread
abbrev pub IsPast : Node → Past → Type 0
IsPast start past = Leaves start past.log.items past.trace past.is_ready past.stop

-- the node whose past a thread owes, before its first turn
abbrev pub node_of : PastOf → Node
node_of owed = fresh_node owed.program.now owed.member.nodes owed.member.options owed.member.me

-- these are the pasts that threads owe, in order
pub record ArePastsOwed (owed : List PastOf) (pasts : List Past) : Type 0 where
  pub count : length pasts ≡ length owed
  pub each : (n : ℕ) (one : PastOf) (past : Past) → slice_get owed n ≡ Some one → slice_get pasts n ≡ Some past → IsPast (node_of one) past

-- threads owe the pasts of the first nodes of a program, from node 0 up
abbrev pub AreOwed : Program → ℕ → OptionsRecord → List PastOf → Type 0
AreOwed program nodes options owed =
    (n : ℕ) (one : PastOf) → slice_get owed n ≡ Some one → node_of one ≡ fresh_node program nodes options n

-- pasts of the nodes of a program, as many as there are, from node 0 up
abbrev pub AreFirstPasts : Program → ℕ → OptionsRecord → List Past → Type 0
AreFirstPasts program nodes options pasts =
    (n : ℕ) (past : Past) → slice_get pasts n ≡ Some past → IsPast (fresh_node program nodes options n) past

-- there is one past for each node of a program, from node 0 up, and it is that of a fresh node
pub record ArePastsOf (program : Program) (nodes : ℕ) (options : OptionsRecord) (pasts : List Past) : Type 0 where
  pub count : length pasts ≡ nodes
  pub each : AreFirstPasts program nodes options pasts

-- no thread failed, and each could be started
abbrev pub HaveNoFailure : List (Option Stop) → Type 0
HaveNoFailure stops = (n : ℕ) → n < length stops → slice_get stops n ≡ Some None

-- the lowest node whose thread failed, or could not be started, and why
pub record IsFirstFailure (stops : List (Option Stop)) (failure : Failure) : Type 0 where
  pub here : slice_get stops failure.node ≡ Some (Some failure.stop)
  pub before : (n : ℕ) → n < failure.node → slice_get stops n ≡ Some None

-- the traces of a program's nodes that have these logs, from node 0 up
abbrev pub traces_of_logs : Program → ℕ → OptionsRecord → List (List EntryRecord) → List TraceRecord
traces_of_logs program nodes options logs = map (λ at. trace_of (fresh_node program nodes options at.0) at.1) (enumerate_from 0 logs)

-- whether one of them would go on
abbrev pub is_any_ready_after : Program → ℕ → OptionsRecord → List (List EntryRecord) → Bool
is_any_ready_after program nodes options logs =
    list_any (λ at. is_ready_after (fresh_node program nodes options at.0) at.1) (enumerate_from 0 logs)
