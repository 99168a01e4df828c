use Rattle.std.proofs.Common.{◌≡◌, List, map}
use Rattle.std.specs.List.{range_with_len}
use Rattle.lrc_program.specs.declared.Program.{Program}
use Rattle.lrc_lines.specs.Statements.{numbers_of}
use Rattle.lrc_named_core.specs.View.{trap_of}
use Rattle.lrc_trace.specs.declared.act.Act.{Act}
use Rattle.lrc_explain_waits.specs.Followed.{AreFollowed}
use Rattle.lrc_explain_waits.specs.Traps.{trap_behind}
use Rattle.lrc_explain_waits.proofs.traps.found_at.Given as goal

-- what is said of the nodes so far
abbrev pub invariant-loop-node : goal.invariant-loop-node
invariant-loop-node l = (program : Program) (acts : List Act) → AreFollowed program l.nodes (numbers_of program) acts l.followed
    → map trap_of l.found.items ≡ map (trap_behind (map trap_of l.traps) program l.nodes acts) (range_with_len 0 l.node)
