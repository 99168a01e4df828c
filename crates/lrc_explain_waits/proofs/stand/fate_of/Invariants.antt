use Rattle.std.proofs.Common.{◌≡◌, take}
use Rattle.lrc_explain_waits.specs.Stand.{fate_of}
use Rattle.lrc_explain_waits.proofs.stand.fate_of.Given as goal

-- how the node ended by the acts so far
abbrev pub invariant-loop-act : goal.invariant-loop-act
invariant-loop-act l = l.fate ≡ fate_of l.node (take l.act-index l.acts)
