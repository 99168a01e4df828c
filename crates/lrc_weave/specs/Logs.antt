-- Logs of nodes, and the messages that they tell of.
use Rattle.std.specs.Prelude.{◌≡◌, ℕ, ◌==◌, Some, List, [], ◌∷◌, length, filter, flat_map, slice_get}
use Rattle.lrc_program.specs.declared.Program.{Program}
use Rattle.lrc_protocol.specs.Node.{OptionsRecord, fresh_node}
use Rattle.lrc_protocol.specs.Run.{Input, run, taken, EntryRecord, Logged, logged, logs, Flying, sent_by}

-- the stamp with which an input may come: a message comes with that of some turn, and a run with 0
abbrev pub MayCome : Input → ℕ → Type 0
MayCome run came = came ≡ 0
MayCome (taken envelope) came = Unit {0}

-- a node with its log goes on by these entries: each is what its input makes of the node as it is then
abbrev pub GoesOnBy : Logged → List EntryRecord → Type 0
GoesOnBy l [] = Unit {0}
GoesOnBy l (entry ∷ more) =
    (came : ℕ) × (after : Logged) × MayCome entry.input came × (logs l entry.input came ≡ logged entry after) × GoesOnBy after more

-- there is one log for each node of a program, from 0 up, and it is that of a fresh node
pub record AreLogs (program : Program) (nodes : ℕ) (options : OptionsRecord) (logs : List (List EntryRecord)) : Type 0 where
  pub count : length logs ≡ nodes
  pub each : (n : ℕ) (log : List EntryRecord) → slice_get logs n ≡ Some log
      → GoesOnBy (record { node = fresh_node program nodes options n; log = [] }) log

-- the messages that these entries send, in order
abbrev pub all_sent : List EntryRecord → List Flying
all_sent log = flat_map sent_by log

-- those of them that are for a node
abbrev pub sent_to : ℕ → List EntryRecord → List Flying
sent_to to log = filter (λ flying. flying.envelope.to == to) (all_sent log)
