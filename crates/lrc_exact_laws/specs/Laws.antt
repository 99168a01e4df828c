-- What decides the acts of runs that read exactly.
use Rattle.std.specs.Prelude.{ℕ, List}
use Rattle.lrc_program.specs.declared.Program.{Program}
use Rattle.lrc_trace.specs.declared.act.Act.{Act}
use Rattle.lrc_trace.specs.declared.act.Deed.TheVariants.{Acquire}
use Rattle.lrc_trace.specs.Run.{Does}
use Rattle.lrc_trace.specs.Synchronization.{IsWellSynchronized}
use Rattle.lrc_exec.specs.Follows.{FollowsText, deeds_of, nodes_of_acts}
use Rattle.lrc_exact.specs.Rule.{Shape, ReadsExactly}
use Rattle.lrc_exact_laws.specs.Order.{acquirers, Begins, OneBeginsOther}

-- a run of the program on these nodes that reads exactly
pub record IsExactRun (program : Program) (shape : Shape) (run : List Act) : Type 0 where
  pub follows : FollowsText program shape.nodes run
  pub synchronized : IsWellSynchronized shape.nodes run
  pub exact : ReadsExactly shape run

-- Of two runs that read exactly, let the nodes acquire each lock in the same order, as far as both go: of one lock the first run may go
-- further, and of another the second. Then each node makes the same acts in both, as far as both go.
abbrev pub OnlyLocksDecide : Type 0
OnlyLocksDecide = (program : Program) (shape : Shape) (run other : List Act) → IsExactRun program shape run → IsExactRun program shape other
    → ((l : ℕ) → OneBeginsOther (acquirers l run) (acquirers l other))
    → (node : ℕ) → OneBeginsOther (deeds_of node run) (deeds_of node other)

-- Where no node acquires a lock, nothing is left to decide.
abbrev pub HasNoAcquire : List Act → Type 0
HasNoAcquire run = (j node l : ℕ) → ¬ Does run j node (Acquire l)

abbrev pub WithoutLocksAllIsDecided : Type 0
WithoutLocksAllIsDecided = (program : Program) (shape : Shape) (run other : List Act) → IsExactRun program shape run → IsExactRun program shape other
    → HasNoAcquire run → HasNoAcquire other → (node : ℕ) → OneBeginsOther (deeds_of node run) (deeds_of node other)

-- Where the nodes of one run act in the order of the other, as far as that goes, it has the acts of the other. So the acts of a run that reads
-- exactly are a function of the program, the shape and the order of their nodes.
abbrev pub OrderDecides : Type 0
OrderDecides = (program : Program) (shape : Shape) (run other : List Act) → IsExactRun program shape run → IsExactRun program shape other
    → Begins (nodes_of_acts run) (nodes_of_acts other) → Begins run other
