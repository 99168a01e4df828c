-- A run in the trace form of the race detectors of the RAPID framework, which knows threads, accesses and locks, and no barrier.
use Rattle.std.specs.Prelude.{ℕ, ◌+◌, ◌*◌, List, [], ◌∷◌, ◌++◌, codes, decimal, slice_index}
use Rattle.std.specs.List.{flat_map, range_with_len}
use Rattle.lrc_trace.specs.declared.act.Act.{Act}
use Rattle.lrc_trace.specs.declared.act.Deed.{Deed}
use Rattle.lrc_trace.specs.declared.act.Deed.TheVariants.{Read, Write, Acquire, Release, Arrive, Depart}
use Rattle.lrc_trace.specs.Run.{arrives_before, departs_before}
use Rattle.lrc_acts_text.specs.declared.rapid.Meeting.{Meeting}
use Rattle.lrc_acts_text.specs.declared.rapid.Operation.{Operation}
use Rattle.lrc_acts_text.specs.declared.rapid.Operation.TheVariants.{Reads, Writes, Acquires, Releases}
use Rattle.lrc_text.specs.Each.{each}

-- an operation of a node, and the position of the act that it stands for
pub record RapidStep : Type 0 where
  pub node : ℕ
  pub operation : Operation
  pub position : ℕ

abbrev pub rapid_step : ℕ → ℕ → Operation → RapidStep
rapid_step node position operation = record { node = node; operation = operation; position = position }

-- the lock past those of the program that stands for a node's arrival at the barrier with so many before it
abbrev pub lock_of_arrival : Meeting → ℕ → ℕ → ℕ
lock_of_arrival meeting number node = meeting.locks + number * meeting.nodes + node

-- a lock is got and given back
abbrev pub passes : ℕ → ℕ → ℕ → List RapidStep
passes node position l = rapid_step node position (Acquires l) ∷ rapid_step node position (Releases l) ∷ []

-- What stands for a deed. An access and a lock's acquire and release stand for themselves, an arrive passes the lock of the
-- node's own arrival, and a depart those of every node's arrival at that barrier.
abbrev pub rapid_steps : Meeting → ℕ → ℕ → Deed → List RapidStep
rapid_steps meeting position node (Read w value) = rapid_step node position (Reads w) ∷ []
rapid_steps meeting position node (Write w value) = rapid_step node position (Writes w) ∷ []
rapid_steps meeting position node (Acquire l) = rapid_step node position (Acquires l) ∷ []
rapid_steps meeting position node (Release l) = rapid_step node position (Releases l) ∷ []
rapid_steps meeting position node Arrive = passes node position (lock_of_arrival meeting meeting.arrived node)
rapid_steps meeting position node Depart =
    flat_map (λ q. passes node position (lock_of_arrival meeting meeting.departed q)) (range_with_len 0 meeting.nodes)
rapid_steps meeting position node _ = []

-- the barriers that a node has come to and gone on from before a position
abbrev pub meeting_at : ℕ → ℕ → List Act → ℕ → ℕ → Meeting
meeting_at locks nodes acts node position = record {
  locks = locks;
  nodes = nodes;
  arrived = arrives_before acts node position;
  departed = departs_before acts node position;
}

-- what stands for the acts of a program with so many locks on so many nodes
abbrev pub rapid_of : ℕ → ℕ → List Act → List RapidStep
rapid_of locks nodes acts = each (λ position act. rapid_steps (meeting_at locks nodes acts act.node position) position act.node act.deed) acts

-- ---- its text

abbrev pub operation_text : Operation → List ℕ
operation_text (Reads w) = codes "r(V" ++ decimal w
operation_text (Writes w) = codes "w(V" ++ decimal w
operation_text (Acquires l) = codes "acq(L" ++ decimal l
operation_text (Releases l) = codes "rel(L" ++ decimal l

-- a line for each, with the line of the program's text that the act is of
abbrev pub step_line : ℕ → RapidStep → List ℕ
step_line line s = codes "T" ++ decimal s.node ++ codes "|" ++ operation_text s.operation ++ codes ")|" ++ decimal line ++ codes "\n"

abbrev pub rapid_text : ℕ → ℕ → List Act → List ℕ → List ℕ
rapid_text locks nodes acts lines = flat_map (λ s. step_line (slice_index lines s.position) s) (rapid_of locks nodes acts)
