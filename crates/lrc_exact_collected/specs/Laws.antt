-- What collections of runs are.
use Rattle.std.specs.Prelude.{◌≡◌, ℕ, Some, List}
use Rattle.lrc_program.specs.declared.Program.{Program}
use Rattle.lrc_protocol.specs.declared.event.Event.{Event}
use Rattle.lrc_protocol.specs.Node.{OptionsRecord}
use Rattle.lrc_protocol.specs.Run.{World, run_of}
use Rattle.lrc_exact.specs.Rule.{State}
use Rattle.lrc_exact_collected.specs.Collected.{AreCollected}

-- In every run, of any `collect`, barriers collect where the exact memory does, and drop what it drops.
abbrev pub CollectsExactly : Type 0
CollectsExactly = (program : Program) (nodes : ℕ) (options : OptionsRecord) (events : List Event) (world : World)
    → run_of program nodes options events ≡ Some world → (states : List State) × AreCollected nodes options world states
