-- The times of a run's acts are those that its nodes have.
use Rattle.std.proofs.Common.{◌≡◌, ◌<◌, ℕ, List, get_or}
use Rattle.std.specs.Prelude.{All, Some}
use Rattle.lrc_program.specs.declared.Program.{Program}
use Rattle.lrc_trace.proofs.Positions.{Does-read}
use Rattle.lrc_clock.specs.Keeping.{KeepsTime}
use Rattle.lrc_clock.proofs.Deciding.{one_list}
use Rattle.lrc_protocol.specs.declared.event.Event.{Event}
use Rattle.lrc_protocol.specs.Node.{OptionsRecord}
use Rattle.lrc_protocol.specs.Run.{World, run_of}
use Rattle.lrc_order_laws.proofs.Timed.{keeps}

pub acts_of_nodes : (program : Program) (nodes : ℕ) (options : OptionsRecord) (events : List Event) (world : World)
    → run_of program nodes options events ≡ Some world → All (λ act. act.node < nodes) world.acts
acts_of_nodes program nodes options events world e = λ position d lt.
    (keeps program nodes options events world e).in_range position (get_or world.acts position d).node (get_or world.acts position d).deed
    (Does-read world.acts position d lt)

pub times_of_nodes : (program : Program) (nodes : ℕ) (options : OptionsRecord) (events : List Event) (world : World) (times : List (List ℕ))
    → run_of program nodes options events ≡ Some world → KeepsTime nodes world.acts times → times ≡ world.times
times_of_nodes program nodes options events world times e kept =
    one_list nodes world.acts times world.times kept (keeps program nodes options events world e)
