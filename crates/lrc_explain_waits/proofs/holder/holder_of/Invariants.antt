use Rattle.std.proofs.Common.{◌≡◌, take}
use Rattle.lrc_explain_waits.specs.Holder.{holder_of}
use Rattle.lrc_explain_waits.proofs.holder.holder_of.Given as goal

-- the holder after the acts so far
abbrev pub invariant-loop-position : goal.invariant-loop-position
invariant-loop-position l = l.held ≡ holder_of l.lock (take l.position l.acts) l.lines
