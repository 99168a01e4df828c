-- What holds of a search that joins runs that stand alike.
use Rattle.std.specs.Prelude.{◌≡◌, ℕ, ◌≤◌, ◌↔◌, List}
use Rattle.lrc_program.specs.declared.Program.{Program}
use Rattle.lrc_trace.specs.declared.act.Act.{Act}
use Rattle.lrc_exec.specs.Plain.{Plain}
use Rattle.lrc_exact.specs.Rule.{Shape, State, KeepsExact}
use Rattle.lrc_exact_outcomes.specs.Outcome.{IsExactOutcome}
use Rattle.lrc_exact_states.specs.Runs.{Base}
use Rattle.lrc_exact_states.specs.Goes.{AreAlike}
use Rattle.lrc_exact_states.specs.Searched.{IsAmong, IsClosedSearch, IsFound, IsReached, Seen}
use Rattle.lrc_exact_states.specs.Key.{IsKeyUpTo, key_of}
use Rattle.lrc_exact_states.specs.Keyed.{IsKeyedSearch}
use Rattle.lrc_exact_states.specs.Machine.{HasPartOfKey, IsMadeBy}

-- Without collections, what it has looked at being these runs, it finds each exact outcome, and no other.
abbrev pub JoiningFindsAll : Type 0
JoiningFindsAll = (program : Program) (shape : Shape) (cap : ℕ) (looked : List Seen) → shape.collect ≡ 0 → 1 ≤ cap
    → IsClosedSearch program shape cap (IsAmong looked) → (notes : List Act)
    → IsExactOutcome program shape notes ↔ IsFound program shape (IsAmong looked) notes

-- Without collections, two runs that acts lead to, seen from where they may be, stand alike where their keys are equal.
abbrev pub EqualKeysStandAlike : Type 0
EqualKeysStandAlike = (program : Program) (shape : Shape) (cap : ℕ) (base base' : Base) (run run' : List Act) (states states' : List State)
    → shape.collect ≡ 0 → 1 ≤ cap → IsReached program shape run base → IsReached program shape run' base'
    → KeepsExact shape run states → KeepsExact shape run' states'
    → key_of program shape cap base run states ≡ key_of program shape cap base' run' states'
    → AreAlike program shape cap base base' run run' states states'

-- So a search that joins runs with equal keys finds each exact outcome, and no other.
abbrev pub JoiningByKeysFindsAll : Type 0
JoiningByKeysFindsAll = (program : Program) (shape : Shape) (cap : ℕ) (looked : List Seen) → shape.collect ≡ 0 → 1 ≤ cap
    → IsKeyedSearch program shape cap (IsAmong looked) → (notes : List Act)
    → IsExactOutcome program shape notes ↔ IsFound program shape (IsAmong looked) notes

-- Of weights, and of how many intervals are known above the base, a key keeps no number above the cap, however long the run is.
abbrev pub KeysKeepNoMore : Type 0
KeysKeepNoMore = (program : Program) (shape : Shape) (cap : ℕ) (base : Base) (run : List Act) (states : List State)
    → IsKeyUpTo cap (key_of program shape cap base run states)

-- What a key has of threads, locks and barriers is what the plain machine has after the acts.
abbrev pub MachineHasPartOfKey : Type 0
MachineHasPartOfKey = (program : Program) (shape : Shape) (cap : ℕ) (base : Base) (run : List Act) (states : List State) (machine : Plain)
    → IsMadeBy program shape.nodes run machine
    → HasPartOfKey shape.nodes program.locks base.first machine (key_of program shape cap base run states)
