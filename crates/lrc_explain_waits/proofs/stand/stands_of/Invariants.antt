use Rattle.std.proofs.Common.{◌≡◌, ℕ, List, map}
use Rattle.std.specs.List.{range_with_len}
use Rattle.lrc_program.specs.declared.Program.{Program}
use Rattle.lrc_explain_waits.specs.Followed.{AreFollowed}
use Rattle.lrc_explain_waits.specs.Stand.{stand_of}
use Rattle.lrc_explain_waits.proofs.stand.stands_of.Given as goal

-- where the nodes so far stand
abbrev pub invariant-loop-node : goal.invariant-loop-node
invariant-loop-node l = (program : Program) (lines : List ℕ) → AreFollowed program l.nodes lines l.acts l.followed
    → l.stands.items ≡ map (stand_of program l.nodes lines l.steps l.acts) (range_with_len 0 l.node)
