-- What a read gives, and what the exact memory has for it, in the terms of the writes that happen before.
use Rattle.std.specs.Prelude.{◌≡◌, ℕ, ◌<◌, ◌≤◌, false, List, Some, length}
use Rattle.lrc_program.specs.declared.Program.{Program}
use Rattle.lrc_trace.specs.declared.act.Act.{Act}
use Rattle.lrc_trace.specs.declared.act.Deed.{Deed}
use Rattle.lrc_trace.specs.declared.act.Deed.TheVariants.{Read}
use Rattle.lrc_trace.specs.Run.{Does}
use Rattle.lrc_trace.specs.Conflict.{IsRaceFree}
use Rattle.lrc_trace.specs.Reading.{MayRead, ReadsLazily}
use Rattle.lrc_trace.specs.Synchronization.{IsWellSynchronized, WaitsAtBarriers}
use Rattle.lrc_exec.specs.Plain.{plain}
use Rattle.lrc_exec.specs.Follows.{nodes_of_acts}
use Rattle.lrc_consistency_laws.specs.InOrder.{last_value}
use Rattle.lrc_exact.specs.Rule.{Shape, State, exact_value, KeepsExact, ReadsExactly}
use Rattle.lrc_exact_laws.specs.Laws.{IsExactRun}
use Rattle.lrc_exact_reading.specs.Steady.{may_change, IsSteadyValue, ReadsSteadily}

-- for each read of a well-synchronized run in which no node acts between an arrive and its depart, whatever it gives, the value that the
-- exact memory has of its word
abbrev pub AtReads : (List Act → ℕ → ℕ → ℕ → Type 0) → Type 0
AtReads Holds = (shape : Shape) (run : List Act) (states : List State) → KeepsExact shape run states → IsWellSynchronized shape.nodes run
    → WaitsAtBarriers run → (j node word read : ℕ) → Does run j node (Read word read)
    → Holds run j word (exact_value shape run states node j word)

-- is one that may be read lazily,
abbrev pub ExactIsLazy : Type 0
ExactIsLazy = AtReads MayRead

-- is that of a write that is the last in its interval, or 0 where no write happens before,
abbrev pub ExactIsSteady : Type 0
ExactIsSteady = AtReads IsSteadyValue

-- and where no two acts race is that of the last write to the word before the read, 0 of none.
abbrev pub ExactIsLast : Type 0
ExactIsLast = AtReads (λ run j word value. IsRaceFree run → value ≡ last_value run j word)

-- Whatever the run, what the exact memory has of a word for a node stays until the node writes the word, acquires or departs.
abbrev pub ExactStays : Type 0
ExactStays = (shape : Shape) (run : List Act) (states : List State) → KeepsExact shape run states → (i j node word : ℕ) → i ≤ j
    → j ≤ length run → ((k : ℕ) (d : Deed) → i ≤ k → k < j → Does run k node d → may_change word d ≡ false)
    → exact_value shape run states node j word ≡ exact_value shape run states node i word

-- Acts that read exactly read lazily,
abbrev pub ReadsExactlyLazily : Type 0
ReadsExactlyLazily = (shape : Shape) (run : List Act) → IsWellSynchronized shape.nodes run → WaitsAtBarriers run → ReadsExactly shape run
    → ReadsLazily run

-- and steadily.
abbrev pub ReadsExactlySteadily : Type 0
ReadsExactlySteadily = (shape : Shape) (run : List Act) → IsWellSynchronized shape.nodes run → WaitsAtBarriers run → ReadsExactly shape run
    → ReadsSteadily run

-- Those that follow the text too and have no race are the plain machine's, in the order of their nodes.
abbrev pub ExactRunIsPlain : Type 0
ExactRunIsPlain = (program : Program) (shape : Shape) (run : List Act) → IsExactRun program shape run → IsRaceFree run
    → plain program shape.nodes (nodes_of_acts run) ≡ Some run
