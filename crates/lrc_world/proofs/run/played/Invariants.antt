use Rattle.std.proofs.Common.{ℕ, [], take}
use Rattle.lrc_program.specs.declared.Program.{Program}
use Rattle.lrc_protocol.specs.Node.{OptionsRecord}
use Rattle.lrc_world.specs.declared.keep.Keep.{Keep}
use Rattle.lrc_world.specs.Runs.{ShowsRun}
use Rattle.lrc_world.proofs.run.played.Given as goal

-- the world shows the run of the events so far, whatever the program is, if it showed the start of a run
abbrev pub invariant-loop-event : goal.invariant-loop-event
invariant-loop-event l = (keep : Keep) (program : Program) (nodes : ℕ) (options : OptionsRecord)
    → ShowsRun keep program nodes options [] l.fn.world → ShowsRun keep program nodes options (take l.event-index l.events) l.world
